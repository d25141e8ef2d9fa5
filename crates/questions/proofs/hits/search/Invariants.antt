use Rattle.std.proofs.Common.{◌-◌}
use Rattle.questions.specs.Rows.{as_hit}
use Rattle.questions.proofs.Halving.{Narrowed}
use Rattle.questions.proofs.hits.search.Given as goal

abbrev pub invariant-loop-low : goal.invariant-loop-low
invariant-loop-low l = Narrowed l.held (as_hit l.hit) l.low l.high l.compared

abbrev pub decreases-loop-low : goal.decreases-loop-low
decreases-loop-low l = l.high - l.low
