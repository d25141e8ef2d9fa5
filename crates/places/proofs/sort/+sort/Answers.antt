use Rattle.std.proofs.Common.{◌≡◌, ◌+◌, length, take, ap, ◌∙◌, arith}
use Rattle.places.specs.Tokens.{token_row, rows_of_tokens}
use Rattle.places.proofs.Merged.{left_different, right_different, halves_rise, halves_merged, few_sorted}
use Rattle.places.proofs.sort.+sort.Goals as goal

pub returns-then-n-lt2 : goal.returns-then-n-lt2
returns-then-n-lt2 t c doc = few_sorted (token_row doc c.args.texts.title.now c.args.texts.body.now) c.args.tokens.now (omega arith)

pub sort-requires : goal.sort-requires
sort-requires t c = (
  omega arith,
  (
    omega arith,
    λ doc. left_different doc c.args.texts.title.now c.args.texts.body.now c.args.tokens.now c.split_at_mut-left.result.0.now c.split_at_mut-left.result.1.now
        c.split_at_mut-left.ensures.value (c.requires.different doc),
  ),
)

pub sort-requires-2 : goal.sort-requires-2
sort-requires-2 t c = (
  omega arith,
  (
    omega (arith, c.sort.auto.scratch),
    λ doc. right_different doc c.args.texts.title.now c.args.texts.body.now c.args.tokens.now c.split_at_mut-left.result.0.now c.split_at_mut-left.result.1.now
        c.split_at_mut-left.ensures.value (c.requires.different doc),
  ),
)

-- each half that was sorted rises, whichever of the two is asked for
pub merge-requires-clause-left : goal.merge-requires-clause-left
merge-requires-clause-left t c doc =
    let h = halves_rise doc c.args.texts.title.now c.args.texts.body.now c.args.tokens.now c.split_at_mut-left.result.0.now c.split_at_mut-left.result.1.now
    c.split_at_mut-left.ensures.value (c.requires.different doc) c.sort.new.tokens c.sort-2.new.tokens (c.sort.ensures doc) (c.sort-2.ensures doc) in
    search (h.0, h.1)

pub merge-requires-clause-right : goal.merge-requires-clause-right
merge-requires-clause-right t c doc =
    let h = halves_rise doc c.args.texts.title.now c.args.texts.body.now c.args.tokens.now c.split_at_mut-left.result.0.now c.split_at_mut-left.result.1.now
    c.split_at_mut-left.ensures.value (c.requires.different doc) c.sort.new.tokens c.sort-2.new.tokens (c.sort.ensures doc) (c.sort-2.ensures doc) in
    search (h.0, h.1)

pub returns : goal.returns
returns t c doc =
    let title = c.args.texts.title.now in
    let body = c.args.texts.body.now in
    let l = c.sort.new.tokens in
    let r = c.sort-2.new.tokens in
    let n : length c.args.tokens.now ≡ length l + length r = omega (arith, c.sort.auto.tokens, c.sort-2.auto.tokens) in
    ap (λ ts. rows_of_tokens doc title body ts) (c.copy_from_slice.ensures.after ∙ ap (λ k. take k c.merge.new.out) n)
    ∙ halves_merged doc title body c.args.tokens.now c.split_at_mut-left.result.0.now c.split_at_mut-left.result.1.now
    c.split_at_mut-left.ensures.value (c.requires.different doc) l r (take (length l + length r) c.merge.new.out) (c.sort.ensures doc) (c.sort-2.ensures doc) (c.merge.ensures doc)
