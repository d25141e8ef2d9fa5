use Rattle.std.proofs.Common.{arith}
use Rattle.std.proofs.lemmas.List.{length-take-le}
use Rattle.reports.proofs.registers.Registers.load.Goals as goal

pub unwrap-numbers-requires : goal.unwrap-numbers-requires
unwrap-numbers-requires c = c.try_from.ensures.0 (length-take-le 44 c.args.memory.now (omega arith))
