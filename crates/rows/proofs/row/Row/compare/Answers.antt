use Rattle.std.proofs.Common.{rules}
use Rattle.rows.proofs.Ordered.{rows_compared_as}
use Rattle.rows.proofs.row.Row.compare.Goals as goal

pub returns : goal.returns
returns c = search (rows_compared_as, rules)
