use Rattle.std.proofs.Common.{sym, ap, ◌∙◌, arith}
use Rattle.std.specs.Int.{w64, to_be_bytes}
use Rattle.pages.proofs.Bytes.{length_eight}
use Rattle.pages.proofs.Places.{eight_is, written_part}
use Rattle.pages.proofs.numbers.put_number.Goals as goal

pub returns-clause-out : goal.returns-clause-out
returns-clause-out c =
    let n = c.args.n in
    written_part c.args.out.now c.args.at _ (c.copy_from_slice.ensures.after ∙ c.to_be_bytes.ensures ∙ ap (to_be_bytes w64) (omega arith) ∙ sym (eight_is n)) (omega (arith, length_eight n))
