use Rattle.std.proofs.Common.{length, sym, refl, ap, ◌∙◌, arith}
use Rattle.std.proofs.lemmas.List.{length-take-le}
use Rattle.pages.proofs.Places.{written_part}
use Rattle.reports.proofs.registers.Registers.store.Goals as goal

pub copy_from_slice-requires : goal.copy_from_slice-requires
copy_from_slice-requires c = length-take-le 44 c.args.memory.now (omega arith) ∙ sym (ap length c.from.ensures)

pub returns : goal.returns
returns c = written_part c.args.memory.now 0 44 (c.copy_from_slice.ensures.after ∙ c.from.ensures) refl
