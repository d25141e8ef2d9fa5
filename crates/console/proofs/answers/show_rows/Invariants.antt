use Rattle.std.proofs.Common.{◌≡◌, map, take, vec_items}
use Rattle.std.specs.Fn.{FnReturnsAt}
use Rattle.console.specs.Answered.{Kind, lines, Gives}
use Rattle.console.proofs.answers.show_rows.Given as goal

abbrev pub invariant-loop-row : goal.invariant-loop-row
invariant-loop-row g l =
    (k : Kind) → Gives (FnReturnsAt g.F.Fn l.line) k → vec_items l.text ≡ lines k (map vec_items (take l.row-index l.rows))
