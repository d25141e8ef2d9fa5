-- Laws of the six bytes of document and place behind a row's key, which decide between rows of one key. Assumes nothing.
use Rattle.std.proofs.Common.{◌≡◌, ℕ, ◌+◌, ◌*◌, ◌<◌, true, ltb, ◌⊎◌, List, ◌++◌, length, Ordering, Less, Equal, Greater, sym, ap, ◌∙◌, subst, inl, inr, ⊎_elim, arith, length-append}
use Rattle.std.proofs.lemmas.Bool.{cases_order}
use Rattle.pages.specs.Lists.{earlier}
use Rattle.pages.specs.Bytes.{all_bytes, from_eight}
use Rattle.pages.proofs.ByteRows.{from_eight_append, from_two, earlier_lower}
use Rattle.pages.proofs.Lists.{same_is, every_join}
use Rattle.words.specs.Compared.{Compared}
use Rattle.rows.specs.Rows.{Row}
use Rattle.rows.specs.Orders.{RowsCompared}
use Rattle.rows.proofs.Ordered.{row_ext, less_from, rows_less, rows_more, rows_equal}
use Rattle.rows.proofs.Read.{bounded}

pub compared_as : (r : Ordering) (a b x y : List ℕ) → a ≡ x → b ≡ y → Compared r a b → Compared r x y
compared_as r a b x y p q h = subst (λ (z : List ℕ). Compared r z y) p (subst (λ (z : List ℕ). Compared r a z) q h)

-- DOCUMENT AND PLACE as one number
abbrev six : ℕ → ℕ → ℕ
six d p = 65536 * d + p

split : (d p e q : ℕ) → p < 65536 → q < 65536 → six d p < six e q → (d < e) ⊎ ((d ≡ e) × (p < q))
split d p e q h k l = ⊎_elim (λ s. inr (s, omega arith)) (λ o. ⊎_elim (λ m. inl m) (λ m. absurd (omega arith)) o) (cases_order d e)

six_is : (ds ps : List ℕ) → length ps ≡ 2 → from_eight 0 (ds ++ ps) ≡ six (from_eight 0 ds) (from_eight 0 ps)
six_is ds ps l = from_eight_append ds ps 0 ∙ from_two ps (from_eight 0 ds) l

below_two : (ps : List ℕ) → length ps ≡ 2 → all_bytes ps ≡ true → from_eight 0 ps < 65536
below_two ps l b = bounded ps 2 l b

-- of two lists of six bytes the earlier one has the lower document, or the same document and the lower place
lower : (ds ps es qs : List ℕ) → length ds ≡ 4 → length ps ≡ 2 → length es ≡ 4 → length qs ≡ 2 → all_bytes ds ≡ true → all_bytes ps ≡ true → all_bytes qs ≡ true →
    earlier (ds ++ ps) (es ++ qs) ≡ true → (from_eight 0 ds < from_eight 0 es) ⊎ ((from_eight 0 ds ≡ from_eight 0 es) × (from_eight 0 ps < from_eight 0 qs))
lower ds ps es qs a b c d f g h e =
    let l = length-append ds ps in
    let m = length-append es qs in
    let less = earlier_lower (ds ++ ps) (es ++ qs) 0 (omega arith) (every_join (λ x. ltb x 256) ds ps f g) e in
    let x = six_is ds ps b in
    let y = six_is es qs d in
    split (from_eight 0 ds) (from_eight 0 ps) (from_eight 0 es) (from_eight 0 qs) (below_two ps b g) (below_two qs d h) (omega arith)

module _ (a b : Row) (ds ps es qs : List ℕ) (four : length ds ≡ 4) (two : length ps ≡ 2) (four' : length es ≡ 4) (two' : length qs ≡ 2)
    (bd : all_bytes ds ≡ true) (bp : all_bytes ps ≡ true) (be : all_bytes es ≡ true) (bq : all_bytes qs ≡ true)
    (key : a.key ≡ b.key) (da : a.doc ≡ from_eight 0 ds) (pa : a.place ≡ from_eight 0 ps) (db : b.doc ≡ from_eight 0 es) (pb : b.place ≡ from_eight 0 qs) where
  pub tail_decides : (r : Ordering) → Compared r (ds ++ ps) (es ++ qs) → RowsCompared r a b
  tail_decides Less c =
      rows_less a b (less_from a b (inr (key, ⊎_elim (λ m. inl (omega arith)) (λ m. inr (omega arith, omega arith)) (lower ds ps es qs four two four' two' bd bp bq (sym c.less)))))
  tail_decides Equal c =
      let e = ap (from_eight 0) (same_is (ds ++ ps) (es ++ qs) (sym c.equal)) in
      let x = six_is ds ps two in
      let y = six_is es qs two' in
      let h = below_two ps two bp in
      let k = below_two qs two' bq in
      rows_equal a b (row_ext a b key (omega arith) (omega arith))
  tail_decides Greater c =
      rows_more a b (less_from b a (inr (sym key, ⊎_elim (λ m. inl (omega arith)) (λ m. inr (omega arith, omega arith)) (lower es qs ds ps four' two' four two be bq bp (sym c.greater)))))
