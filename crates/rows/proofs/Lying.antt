-- Laws of rows where they lie in the cells of a page, and of a comparison there. Assumes nothing.
use Rattle.std.proofs.Common.{◌≡◌, ℕ, ◌+◌, ◌-◌, ◌<◌, ◌≤◌, true, false, ◌&&◌, ltb, leb, List, ◌∷◌, length, take, drop, Some, None, Option, Ordering, Less, Equal, Greater, sym, refl, ap, ◌∙◌, subst, arith, length-drop, length-take}
use Rattle.std.specs.Cmp.Lexicographic.{slice_cmp}
use Rattle.std.specs.Ordering.{nat_cmp, ordering_then}
use Rattle.std.proofs.lemmas.Bool.{le-leb}
use Rattle.std.proofs.lemmas.List.{take-take, drop-take, drop-drop, take-append-drop, length-take-le}
use Rattle.pages.specs.Lists.{pick}
use Rattle.pages.specs.Bytes.{all_bytes, from_eight}
use Rattle.pages.specs.Device.{Page}
use Rattle.pages.proofs.Lists.{every_take, every_drop}
use Rattle.words.proofs.Compared.{compared_cmp}
use Rattle.rows.specs.Rows.{Row, rows_end, begins, row_in, stand, row_at}
use Rattle.rows.specs.Orders.{RowsCompared, StandsCompared, Lies, row_of_cells}
use Rattle.rows.proofs.Ordered.{keys_then}
use Rattle.rows.proofs.Read.{never, stands, row_in_few}
use Rattle.rows.proofs.Tails.{compared_as, tail_decides}

-- the row that a list of numbers begins with, by its cells
module _ (n : ℕ) (bs : List ℕ) where
  abbrev cells : List ℕ
  cells = take (n + 6) bs

  key_lies : take n cells ≡ take n bs
  key_lies = take-take n (n + 6) bs (omega arith)

  doc_lies : take 4 (drop n cells) ≡ take 4 (drop n bs)
  doc_lies = ap (take 4) (drop-take n 6 bs) ∙ take-take 4 6 (drop n bs) (omega arith)

  place_lies : drop 4 (drop n cells) ≡ take 2 (drop (n + 4) bs)
  place_lies = ap (drop 4) (drop-take n 6 bs) ∙ drop-take 4 2 (drop n bs) ∙ ap (take 2) (drop-drop 4 n bs)

  row_lies : n ≤ 64 → n + 6 ≤ length bs → all_bytes cells ≡ true → row_in (n ∷ bs) ≡ Some (row_of_cells (take n cells) (drop n cells))
  unfolding row_in
  row_lies s l b =
      let it : Option Row = Some (record { key = take n bs; doc = from_eight 0 (take 4 (drop n bs)); place = from_eight 0 (take 2 (drop (n + 4) bs)) }) in
      let e : begins n bs ≡ true = simp (le-leb _ _ s, le-leb _ _ l, b) in
      ap (λ t. pick t it None) e ∙ (λ i. Some (record { key = sym key_lies i; doc = from_eight 0 (sym doc_lies i); place = from_eight 0 (sym place_lies i) }))

  pub no_row_lies : all_bytes cells ≡ false → row_in (n ∷ bs) ≡ None
  unfolding row_in
  no_row_lies b =
      let it : Option Row = Some (record { key = take n bs; doc = from_eight 0 (take 4 (drop n bs)); place = from_eight 0 (take 2 (drop (n + 4) bs)) }) in
      ap (λ t. pick (leb n 64 && (leb (n + 6) (length bs) && t)) it None) b ∙ ap (λ t. pick t it None) (never (leb n 64) (leb (n + 6) (length bs)))

-- .. on a page, from an offset to the end of the rows
pub none_few : (p : Page) (at e : ℕ) (xs : List ℕ) → e ≡ rows_end p → xs ≡ take (e - at) (drop at p) → length xs < 7 → row_at p at ≡ None
none_few p at e xs is got l = stands p at e is ∙ ap (λ ys. stand at (row_in ys)) (sym got) ∙ ap (stand at) (row_in_few xs (omega arith))

module _ (p : Page) (at e n : ℕ) (xs bs : List ℕ) (is : e ≡ rows_end p) (got : xs ≡ take (e - at) (drop at p)) (cut : xs ≡ n ∷ bs) where
  here : row_at p at ≡ stand at (row_in (n ∷ bs))
  here = stands p at e is ∙ ap (λ ys. stand at (row_in ys)) (sym got ∙ cut)

  pub none_lies : row_in (n ∷ bs) ≡ None → row_at p at ≡ None
  none_lies h = here ∙ ap (stand at) h

  pub lies : (row key tail : List ℕ) → row ≡ take (n + 6) bs → key ≡ take n row → tail ≡ drop n row → n ≤ 64 → n + 6 ≤ length bs → all_bytes row ≡ true → Lies p at key tail
  lies row key tail r k t s l b =
      let ks : take n (take (n + 6) bs) ≡ key = sym (k ∙ ap (take n) r) in
      let ts : drop n (take (n + 6) bs) ≡ tail = sym (t ∙ ap (drop n) r) in
      let whole : all_bytes (take (n + 6) bs) ≡ true = sym (ap all_bytes r) ∙ b in
      let six : length (drop n (take (n + 6) bs)) ≡ 6 = simp (length-drop, length-take) (omega arith) in
      record {
        is = here ∙ ap (stand at) (row_lies n bs s l whole ∙ (λ i. Some (row_of_cells (ks i) (ts i))));
        six = sym (ap length ts) ∙ six;
        bytes = subst (λ (ys : List ℕ). all_bytes ys ≡ true) ts (every_drop (λ c. ltb c 256) n (take (n + 6) bs) whole);
      }

-- THE COMPARISON: the keys decide, and at equal keys the cells behind them
pub first_decides : (k t : Ordering) → (k ≡ Equal → ⊥) → k ≡ ordering_then k t
first_decides Less t h = refl
first_decides Equal t h = absurd (h refl)
first_decides Greater t h = refl

module _ (ks ts ls us : List ℕ) (s : length ts ≡ 6) (s' : length us ≡ 6) (b : all_bytes ts ≡ true) (b' : all_bytes us ≡ true) where
  cells_compared : (r : Ordering) → r ≡ ordering_then (slice_cmp nat_cmp ks ls) (slice_cmp nat_cmp ts us) → RowsCompared r (row_of_cells ks ts) (row_of_cells ls us)
  cells_compared r e =
      let t : Ordering = slice_cmp nat_cmp ts us in
      let tails = compared_as t ts us _ _ (sym (take-append-drop 4 ts)) (sym (take-append-drop 4 us)) (compared_cmp ts us t refl) in
      subst (λ (x : Ordering). RowsCompared x (row_of_cells ks ts) (row_of_cells ls us)) (sym e)
      (keys_then (row_of_cells ks ts) (row_of_cells ls us) (slice_cmp nat_cmp ks ls) t refl
      (λ same.
      tail_decides (row_of_cells ks ts) (row_of_cells ls us) (take 4 ts) (drop 4 ts) (take 4 us) (drop 4 us)
      (length-take-le 4 ts (omega arith)) (simp length-drop (omega arith)) (length-take-le 4 us (omega arith)) (simp length-drop (omega arith))
      (every_take (λ c. ltb c 256) 4 ts b) (every_drop (λ c. ltb c 256) 4 ts b) (every_take (λ c. ltb c 256) 4 us b') (every_drop (λ c. ltb c 256) 4 us b')
      same refl refl refl refl t tails))

pub lying_compared : (p q : Page) (at bt : ℕ) (ks ts ls us : List ℕ) → Lies p at ks ts → Lies q bt ls us → (r : Ordering) → r ≡ ordering_then (slice_cmp nat_cmp ks ls) (slice_cmp nat_cmp ts us) →
    StandsCompared (row_at p at) (row_at q bt) (Some r)
lying_compared p q at bt ks ts ls us x y r e = (_, _, x.is, y.is, cells_compared ks ts ls us x.six y.six x.bytes y.bytes r e)
