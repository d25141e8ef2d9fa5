use Rattle.std.proofs.Common.{◌+◌, length, take, ap, ◌∙◌, arith}
use Rattle.std.proofs.lemmas.List.{set-get_or}
use Rattle.places.specs.Tokens.{rows_of_tokens}
use Rattle.places.proofs.Merged.{merging_none, merging_more, merging_all, merging_full}
use Rattle.places.proofs.sort.merge.Goals as goal

pub loop-cell-init : goal.loop-cell-init
loop-cell-init c = merging_none c.args.texts.title.now c.args.texts.body.now c.args.left.now c.args.right.now c.args.out.now c.requires.left c.requires.right

pub loop-cell-preserved : goal.loop-cell-preserved
loop-cell-preserved c =
    merging_more c.args.texts.title.now c.args.texts.body.now c.args.left.now c.args.right.now c.loop-cell.cell-index c.loop-cell.lefts.now c.loop-cell.rights.now c.loop-cell.out
    c.loop-cell.invariant (omega arith) c.in-Some.next c.in-Some.from_left.now c.in-Some.from_right.now c.in-Some.ensures

pub returns-in_default : goal.returns-in_default
returns-in_default c doc =
    let title = c.args.texts.title.now in
    let body = c.args.texts.body.now in
    let left = c.args.left.now in
    let right = c.args.right.now in
    ap (λ ts. rows_of_tokens doc title body (take (length left + length right) ts)) (set-get_or c.loop-cell.out c.loop-cell.cell-index 0)
    ∙ merging_all title body left right c.loop-cell.cell-index c.loop-cell.lefts.now c.loop-cell.rights.now c.loop-cell.out c.loop-cell.invariant c.in_default.ensures.0 c.in_default.ensures.1 doc

pub returns : goal.returns
returns c =
    merging_full c.args.texts.title.now c.args.texts.body.now c.args.left.now c.args.right.now c.loop-cell.cell-index c.loop-cell.lefts.now c.loop-cell.rights.now c.loop-cell.out
    c.loop-cell.invariant (omega (arith, c.requires.room))
