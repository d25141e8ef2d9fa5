use Rattle.std.proofs.Common.{◌≡◌, sym, ◌∙◌, subst}
use Rattle.std.specs.Ordering.{nat_cmp}
use Rattle.words.specs.Compared.{Compared}
use Rattle.rows.specs.Orders.{RowsCompared}
use Rattle.places.specs.Tokens.{token_key, token_place, token_row}
use Rattle.places.proofs.Sorted.{compared_then}
use Rattle.places.proofs.token.Token.compare.Goals as goal

pub returns : goal.returns
returns c doc =
    let title = c.args.texts.title.now in
    let body = c.args.texts.body.now in
    let a = c.args.self.0 in
    let b = c.args.other.0 in
    let keys : Compared c.compare_words.result (token_key title body a) (token_key title body b) = rw (← c.word.ensures, ← c.word-2.ensures) c.compare_words.ensures in
    let places : c.cmp.result ≡ nat_cmp (token_place a) (token_place b) = c.cmp.ensures ∙ (λ i. nat_cmp (c.place.ensures i) (c.place-2.ensures i)) in
    subst (λ o. RowsCompared o (token_row doc title body a) (token_row doc title body b)) (sym c.then.ensures) (compared_then doc title body a b _ _ keys places)
