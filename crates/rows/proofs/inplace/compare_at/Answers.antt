use Rattle.std.proofs.Common.{ap, ◌∙◌}
use Rattle.std.specs.Cmp.Lexicographic.{slice_cmp}
use Rattle.std.specs.Ordering.{nat_cmp, ordering_then}
use Rattle.rows.proofs.Lying.{first_decides, lying_compared}
use Rattle.rows.proofs.inplace.compare_at.Goals as goal

pub returns-in-Equal : goal.returns-in-Equal
returns-in-Equal c =
    let left = c.in_ok-key in
    let right = c.in_ok-other_key in
    let tails = slice_cmp nat_cmp left.tail.now right.other_tail.now in
    lying_compared c.args.a.now c.args.b.now c.args.at_a c.args.at_b left.key.now left.tail.now right.other_key.now right.other_tail.now left.ensures right.ensures _
    (c.cmp-in-Equal.ensures ∙ ap (λ k. ordering_then k tails) c.in-Equal.ensures)

pub returns-in_default : goal.returns-in_default
returns-in_default c =
    let left = c.in_ok-key in
    let right = c.in_ok-other_key in
    let tails = slice_cmp nat_cmp left.tail.now right.other_tail.now in
    lying_compared c.args.a.now c.args.b.now c.args.at_a c.args.at_b left.key.now left.tail.now right.other_key.now right.other_tail.now left.ensures right.ensures _
    (first_decides c.cmp.result tails c.in_default.not-Equal ∙ ap (λ k. ordering_then k tails) c.cmp.ensures)
