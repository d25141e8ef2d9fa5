use Rattle.std.proofs.Common.{rules, arith}
use Rattle.console.proofs.Hex.{read_so}
use Rattle.console.proofs.digits.bytes_of_hex.Goals as goal

pub returns : goal.returns
returns c = read_so c.args.text.now _ c.in_default.ensures (omega arith) (search rules)
