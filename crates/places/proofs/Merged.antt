-- Laws for the merging and sorting of tokens. Assumes nothing.
use Rattle.std.proofs.Common.{◌≡◌, ℕ, ◌+◌, ◌<◌, ◌≤◌, List, [], ◌∷◌, ◌++◌, length, take, set, Some, Option, sym, refl, ap, ◌∙◌, subst, ⊎_elim, append_assoc, append-nil, arith}
use Rattle.std.proofs.lemmas.List.{take_more_set, nil_from_length}
use Rattle.pages.specs.Lists.{pick, each}
use Rattle.pages.proofs.Folds.{each_append}
use Rattle.pages.proofs.Sorted.{Different}
use Rattle.rows.specs.Rows.{Row}
use Rattle.rows.specs.Merging.{Rising, Least, least, merged, merge_rows}
use Rattle.rows.proofs.Merged.{merge_steps}
use Rattle.places.specs.Places.{insert_row, sorted_rows}
use Rattle.places.specs.Tokens.{token_row, rows_of_tokens, NotAfter, Before, Chosen}
use Rattle.places.proofs.Ordered.{pairwise_front, pairwise_back, sorted_rises, sorted_merged}

-- the next row of a merge comes from the left or from the right
pub merge_left : (r : Row) (rs qs : List Row) → Rising (r ∷ rs) → Rising qs → NotAfter r qs → merge_rows (r ∷ rs) qs ≡ r ∷ merge_rows rs qs
unfolding least
merge_left r rs [] h k n = merge_steps ((r ∷ rs) ∷ [] ∷ []) (record { row = r; rest = rs ∷ [] ∷ [] }) refl (h, (k, tt))
merge_left r rs (q ∷ qs) h k n =
    merge_steps ((r ∷ rs) ∷ (q ∷ qs) ∷ []) (record { row = r; rest = rs ∷ (q ∷ qs) ∷ [] })
    (ap (λ b. pick {A = Option Least} b (Some (record { row = q; rest = (r ∷ rs) ∷ qs ∷ [] })) (Some (record { row = r; rest = rs ∷ (q ∷ qs) ∷ [] }))) n) (h, (k, tt))

pub merge_right : (q : Row) (rs qs : List Row) → Rising rs → Rising (q ∷ qs) → Before q rs → merge_rows rs (q ∷ qs) ≡ q ∷ merge_rows rs qs
unfolding least
merge_right q [] qs h k n = merge_steps ([] ∷ (q ∷ qs) ∷ []) (record { row = q; rest = [] ∷ qs ∷ [] }) refl (h, (k, tt))
merge_right q (r ∷ rs) qs h k n =
    merge_steps ((r ∷ rs) ∷ (q ∷ qs) ∷ []) (record { row = q; rest = (r ∷ rs) ∷ qs ∷ [] })
    (ap (λ b. pick {A = Option Least} b (Some (record { row = q; rest = (r ∷ rs) ∷ qs ∷ [] })) (Some (record { row = r; rest = rs ∷ (q ∷ qs) ∷ [] }))) n) (h, (k, tt))

pub merge_none : merge_rows [] [] ≡ []
unfolding merged
merge_none = refl

-- while two runs are merged: what is there and the merge of what is left are the merge
module _ (title body left right : List ℕ) where
  abbrev rows : ℕ → List ℕ → List Row
  rows doc ts = rows_of_tokens doc title body ts

  pub record Merging (k : ℕ) (lefts rights out : List ℕ) : Type 0 where
    pub counted : k + (length lefts + length rights) ≡ length left + length right
    pub left_rises : (doc : ℕ) → Rising (rows doc lefts)
    pub right_rises : (doc : ℕ) → Rising (rows doc rights)
    pub goes : (doc : ℕ) → rows doc (take k out) ++ merge_rows (rows doc lefts) (rows doc rights) ≡ merge_rows (rows doc left) (rows doc right)

  pub merging_none : (out : List ℕ) → ((doc : ℕ) → Rising (rows doc left)) → ((doc : ℕ) → Rising (rows doc right)) → Merging 0 left right out
  merging_none out h k = record { counted = omega arith; left_rises = h; right_rises = k; goes = λ doc. refl }

  module _ (k : ℕ) (lefts rights out : List ℕ) (inv : Merging k lefts rights out) (room : k < length out) (t : ℕ) where
    -- one more token that is the next row of the merge
    more : (doc : ℕ) (rs : List Row) → merge_rows (rows doc lefts) (rows doc rights) ≡ token_row doc title body t ∷ rs →
        rows doc (take (k + 1) (set out k t)) ++ rs ≡ merge_rows (rows doc left) (rows doc right)
    more doc rs e =
        let F = token_row doc title body in
        ap (λ ts. each F ts ++ rs) (take_more_set out k t room)
        ∙ ap (λ ys. ys ++ rs) (each_append F (take k out) (t ∷ []))
        ∙ append_assoc (rows doc (take k out)) (F t ∷ []) rs
        ∙ ap (λ ys. rows doc (take k out) ++ ys) (sym e)
        ∙ inv.goes doc

    pub merging_left : (rest : List ℕ) → lefts ≡ t ∷ rest → ((doc : ℕ) → NotAfter (token_row doc title body t) (rows doc rights)) → Merging (k + 1) rest rights (set out k t)
    merging_left rest e n =
        let counted = inv.counted in
        let one = ap length e in
        let rises : (doc : ℕ) → Rising (rows doc (t ∷ rest)) = λ doc. subst (λ (ts : List ℕ). Rising (rows doc ts)) e (inv.left_rises doc) in
        record {
          counted = omega arith;
          left_rises = λ doc. (rises doc).1;
          right_rises = inv.right_rises;
          goes = λ doc.
              more doc (merge_rows (rows doc rest) (rows doc rights))
              (ap (λ ts. merge_rows (rows doc ts) (rows doc rights)) e
              ∙ merge_left (token_row doc title body t) (rows doc rest) (rows doc rights) (rises doc) (inv.right_rises doc) (n doc));
        }

    pub merging_right : (rest : List ℕ) → rights ≡ t ∷ rest → ((doc : ℕ) → Before (token_row doc title body t) (rows doc lefts)) → Merging (k + 1) lefts rest (set out k t)
    merging_right rest e n =
        let counted = inv.counted in
        let one = ap length e in
        let rises : (doc : ℕ) → Rising (rows doc (t ∷ rest)) = λ doc. subst (λ (ts : List ℕ). Rising (rows doc ts)) e (inv.right_rises doc) in
        record {
          counted = omega arith;
          left_rises = inv.left_rises;
          right_rises = λ doc. (rises doc).1;
          goes = λ doc.
              more doc (merge_rows (rows doc lefts) (rows doc rest))
              (ap (λ ts. merge_rows (rows doc lefts) (rows doc ts)) e
              ∙ merge_right (token_row doc title body t) (rows doc lefts) (rows doc rest) (inv.left_rises doc) (rises doc) (n doc));
        }

    pub merging_more : (ls rs : List ℕ) → Chosen title body lefts rights t ls rs → Merging (k + 1) ls rs (set out k t)
    merging_more ls rs c =
        ⊎_elim
        (λ l. subst (λ (ys : List ℕ). Merging (k + 1) ls ys (set out k t)) (sym l.1) (merging_left ls l.0 l.2))
        (λ r. subst (λ (xs : List ℕ). Merging (k + 1) xs rs (set out k t)) (sym r.1) (merging_right rs r.0 r.2))
        c

  pub merging_all : (k : ℕ) (lefts rights out : List ℕ) → Merging k lefts rights out → lefts ≡ [] → rights ≡ [] →
      (doc : ℕ) → rows doc (take (length left + length right) out) ≡ merge_rows (rows doc left) (rows doc right)
  merging_all k lefts rights out inv no-left no-right doc =
      let counted = inv.counted in
      let a = ap length no-left in
      let b = ap length no-right in
      let e : k ≡ length left + length right = omega arith in
      ap (λ n. rows doc (take n out)) (sym e)
      ∙ sym (append-nil (rows doc (take k out)))
      ∙ ap (λ ys. rows doc (take k out) ++ ys) (sym merge_none)
      ∙ (λ j. rows doc (take k out) ++ merge_rows (rows doc (sym no-left j)) (rows doc (sym no-right j)))
      ∙ inv.goes doc

  -- where as many are there as were to be merged, none are left
  pub merging_full : (k : ℕ) (lefts rights out : List ℕ) → Merging k lefts rights out → length left + length right ≤ k →
      (doc : ℕ) → rows doc (take (length left + length right) out) ≡ merge_rows (rows doc left) (rows doc right)
  merging_full k lefts rights out inv h =
      let counted = inv.counted in
      merging_all k lefts rights out inv (nil_from_length lefts (omega arith)) (nil_from_length rights (omega arith))

-- rows in order rise
pub sorted_rising : (doc : ℕ) (title body ts us : List ℕ) → Different (rows_of_tokens doc title body ts) → rows_of_tokens doc title body us ≡ sorted_rows (rows_of_tokens doc title body ts) →
    Rising (rows_of_tokens doc title body us)
sorted_rising doc title body ts us d e = subst Rising (sym e) (sorted_rises _ d)

-- SORTING: halves in order, merged, are all of it in order
module _ (doc : ℕ) (title body all left right : List ℕ) (cut : all ≡ left ++ right) (d : Different (rows_of_tokens doc title body all)) where
  abbrev F : ℕ → Row
  F = token_row doc title body

  halves : Different (each F left ++ each F right)
  halves = subst Different (ap (each F) cut ∙ each_append F left right) d

  pub left_different : Different (rows_of_tokens doc title body left)
  left_different = pairwise_front _ (each F left) (each F right) halves

  pub right_different : Different (rows_of_tokens doc title body right)
  right_different = pairwise_back _ (each F left) (each F right) halves

  pub halves_rise : (l r : List ℕ) → each F l ≡ sorted_rows (each F left) → each F r ≡ sorted_rows (each F right) → Rising (each F l) × Rising (each F r)
  halves_rise l r p q = (sorted_rising doc title body left l left_different p, sorted_rising doc title body right r right_different q)

  pub halves_merged : (l r out : List ℕ) → each F l ≡ sorted_rows (each F left) → each F r ≡ sorted_rows (each F right) → each F out ≡ merge_rows (each F l) (each F r) →
      each F out ≡ sorted_rows (rows_of_tokens doc title body all)
  halves_merged l r out p q m =
      m ∙ (λ i. merge_rows (p i) (q i)) ∙ sorted_merged (each F left) (each F right) halves ∙ ap sorted_rows (sym (ap (each F) cut ∙ each_append F left right))

-- fewer than two are in order
pub few_sorted : (f : ℕ → Row) (ts : List ℕ) → length ts < 2 → each f ts ≡ sorted_rows (each f ts)
unfolding sorted_rows insert_row
few_sorted f [] h = refl
few_sorted f (t ∷ []) h = refl
few_sorted f (t ∷ u ∷ ts) h = absurd (omega arith)
