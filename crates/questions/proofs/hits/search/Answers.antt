use Rattle.std.proofs.Common.{◌≡◌, ◌+◌, ◌-◌, ◌/◌, [], get_or, sym, ap, ◌∙◌}
use Rattle.questions.specs.Order.{better}
use Rattle.questions.specs.Best.{hit_of}
use Rattle.questions.specs.Rows.{as_hit}
use Rattle.questions.proofs.Halving.{narrowed_down, narrowed_up}
use Rattle.questions.proofs.hits.search.Goals as goal
use Rattle.questions.proofs.hits.search.Goals.{then-is_better, else-is_better}

pub loop-low-preserved : goal.loop-low-preserved
loop-low-preserved c =
    let hit = as_hit c.args.hit in
    let held = c.args.held.now in
    let low = c.loop-low.low in
    let high = c.loop-low.high in
    let is : c.is_better.result ≡ better hit (hit_of (get_or held (low + (high - low) / 2) [])) = c.is_better.ensures ∙ ap (better hit) c.from.ensures in
    elim c.if-is_better.branch [
      | then-is_better w ↦
          rw (w.low-is, w.high-is) (narrowed_down held hit low high c.loop-low.compared c.loop-low.invariant c.loop-low-test.true (sym is ∙ w.if-is_better.true))
      | else-is_better w ↦
          rw (w.low-is, w.high-is) (narrowed_up held hit low high c.loop-low.compared c.loop-low.invariant c.loop-low-test.true (sym is ∙ w.if-is_better.false))
    ]
