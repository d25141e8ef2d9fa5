-- Laws for the comparing and sorting of tokens. Assumes nothing.
use Rattle.std.proofs.Common.{◌≡◌, ℕ, List, ◌∷◌, ◌++◌, length, take, drop, Ordering, Less, Equal, Greater, sym, refl, ap, ◌∙◌, subst}
use Rattle.std.specs.Ordering.{nat_cmp, ordering_then}
use Rattle.std.proofs.lemmas.Cmp.{ranked}
use Rattle.std.proofs.lemmas.List.{take_at, drop_at}
use Rattle.pages.proofs.Lists.{same_is}
use Rattle.pages.proofs.Sorted.{Different}
use Rattle.words.specs.Compared.{Compared}
use Rattle.rows.specs.Orders.{RowsCompared}
use Rattle.rows.proofs.Ordered.{rows_by_key, rows_by_place}
use Rattle.places.specs.Places.{name_row, word_rows, sorted_rows}
use Rattle.places.specs.Tokens.{token_key, token_place, token_row, rows_of_tokens, Indexed, Placed}
use Rattle.places.proofs.Numbered.{word_rows_different, name_first}

-- tokens compared by their keys, and at equal keys by their places
pub compared_then : (doc : ℕ) (title body : List ℕ) (a b : ℕ) (o p : Ordering) → Compared o (token_key title body a) (token_key title body b) → p ≡ nat_cmp (token_place a) (token_place b) →
    RowsCompared (ordering_then o p) (token_row doc title body a) (token_row doc title body b)
compared_then doc title body a b Less p c e = rows_by_key Less _ _ (λ l. absurd (cc)) c
compared_then doc title body a b Equal p c e = rows_by_place p _ _ (same_is _ _ (sym c.equal)) refl (ranked _ _ _ e)
compared_then doc title body a b Greater p c e = rows_by_key Greater _ _ (λ l. absurd (cc)) c

-- the index of a document sorted
pub index_different : (title body before mid : List ℕ) (n : ℕ) → Indexed title body before n mid → (doc : ℕ) → Different (rows_of_tokens doc title body (take n mid))
index_different title body before mid n x doc = subst Different (sym (x.rows doc)) (word_rows_different doc title body x.few)

pub index_sorted : (title body before mid out after : List ℕ) (n : ℕ) → Indexed title body before n mid → length out ≡ n →
    ((doc : ℕ) → rows_of_tokens doc title body out ≡ sorted_rows (rows_of_tokens doc title body (take n mid))) → after ≡ out ++ drop n mid → Placed title body before n after
index_sorted title body before mid out after n x l s e =
    let front : take n after ≡ out = ap (take n) e ∙ take_at out (drop n mid) n l in
    let rows : (doc : ℕ) → rows_of_tokens doc title body (take n after) ≡ sorted_rows (word_rows doc title body) =
    λ doc. ap (λ ts. rows_of_tokens doc title body ts) front ∙ s doc ∙ ap sorted_rows (x.rows doc) in
    record {
      counted = x.counted;
      within = x.within;
      rows = rows;
      all_rows = λ doc name. ap (λ rs. name_row doc name ∷ rs) (rows doc) ∙ sym (name_first doc (record { name = name; title = title; body = body }));
      rest = ap (drop n) e ∙ drop_at out (drop n mid) n l ∙ x.rest;
    }
