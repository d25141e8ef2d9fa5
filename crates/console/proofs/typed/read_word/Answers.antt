use Rattle.std.proofs.Common.{rules}
use Rattle.console.proofs.Requests.{field_fits}
use Rattle.console.proofs.typed.read_word.Goals as goal

pub returns : goal.returns
returns c = rw (c.from.ensures, field_fits c.field_of-field.result.0) (search rules)
