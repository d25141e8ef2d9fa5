use Rattle.std.proofs.Common.{◌≡◌, map, vec_items, Ok, ap, ◌∙◌, arith, take_all}
use Rattle.console.specs.Answered.{line_of, lines}
use Rattle.console.proofs.Texts.{line_step}
use Rattle.console.proofs.answers.show_rows.Goals as goal

pub loop-row-preserved : goal.loop-row-preserved
loop-row-preserved g c k gives =
    let row = c.row-item.result in
    let first = c.in_ok-extend_from_slice.ensures.items in
    let second = c.in_ok-push.ensures.items in
    let made : vec_items c.in_ok-made.made ≡ line_of k (vec_items row) =
    gives (vec_items row) (Ok c.in_ok-made.made) (record { shown = c.as_slice.result; shows = c.as_slice.ensures.value; says = record { met = c.in_ok-made.ensures } }) in
    line_step (line_of k) vec_items c.args.rows.now c.loop-row.row-index row _ _ _ _ (omega arith) (c.loop-row.invariant k gives) first second
    (c.as_slice-in-loop-row.ensures.value ∙ made ∙ ap (λ v. line_of k (vec_items v)) c.row-item.is)

pub returns : goal.returns
returns g c k gives = c.loop-row.invariant k gives ∙ ap (λ rs. lines k (map vec_items rs)) (take_all c.loop-row.row-index c.args.rows.now (omega arith))
