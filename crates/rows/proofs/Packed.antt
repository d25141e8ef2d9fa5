-- Laws of packing. Assumes nothing.
use Rattle.std.proofs.Common.{◌≡◌, ℕ, zero, suc, ◌+◌, ◌*◌, ◌/◌, ◌<◌, ◌≤◌, List, [], ◌∷◌, ◌++◌, length, get_or, sym, refl, ap, ◌∙◌, subst, ⊎_elim, append_assoc, arith}
use Rattle.std.specs.List.{AllByRecursion}
use Rattle.std.proofs.ByRecursion.{All-push}
use Rattle.std.proofs.lemmas.Bool.{cases_lt, le-leb, lt-leb}
use Rattle.pages.proofs.Folds.{added_up_append}
use Rattle.rows.specs.Rows.{Row, RowFits, row_size, rows_size}
use Rattle.rows.specs.Cursors.{PageRows, together}
use Rattle.rows.specs.Packing.{closed, pack_from, pack, Packing}
use Rattle.rows.specs.Laws.{PackingStands}
use Rattle.rows.proofs.Read.{size_push}

-- the two cases of a row to come
pub pack_takes : (begun : List Row) (r : Row) (rs : List Row) → rows_size begun + row_size r ≤ 502 → pack_from begun (r ∷ rs) ≡ pack_from (begun ++ r ∷ []) rs
unfolding pack_from
pack_takes begun r rs h = simp (le-leb (rows_size begun + row_size r) 502 h)

pub pack_closes : (begun : List Row) (r : Row) (rs : List Row) → 502 < rows_size begun + row_size r → pack_from begun (r ∷ rs) ≡ begun ∷ pack_from (r ∷ []) rs
unfolding pack_from
pack_closes begun r rs h = simp (lt-leb (rows_size begun + row_size r) 502 h)

-- by these cases a property of the pages holds of all
module _ (P : List Row → List Row → List (List Row) → Type 0) where
  by_rows : ((begun : List Row) → P begun [] (closed begun)) →
      ((begun : List Row) (r : Row) (rs : List Row) (ps : List (List Row)) → rows_size begun + row_size r ≤ 502 → P (begun ++ r ∷ []) rs ps → P begun (r ∷ rs) ps) →
      ((begun : List Row) (r : Row) (rs : List Row) (ps : List (List Row)) → 502 < rows_size begun + row_size r → P (r ∷ []) rs ps → P begun (r ∷ rs) (begun ∷ ps)) →
      (begun rs : List Row) → P begun rs (pack_from begun rs)
  unfolding pack_from
  by_rows none takes closes begun [] = none begun
  by_rows none takes closes begun (r ∷ rs) =
      ⊎_elim
      (λ more. subst (P begun (r ∷ rs)) (sym (pack_closes begun r rs more)) (closes begun r rs (pack_from (r ∷ []) rs) more (by_rows none takes closes (r ∷ []) rs)))
      (λ fits. subst (P begun (r ∷ rs)) (sym (pack_takes begun r rs fits)) (takes begun r rs (pack_from (begun ++ r ∷ []) rs) fits (by_rows none takes closes (begun ++ r ∷ []) rs)))
      (cases_lt 502 (rows_size begun + row_size r))

-- the rows in order
closed_rows : (begun : List Row) → together (closed begun) ≡ begun ++ []
closed_rows [] = refl
closed_rows (r ∷ rs) = refl

pack_in_order : (begun rs : List Row) → together (pack_from begun rs) ≡ begun ++ rs
pack_in_order =
    by_rows (λ begun rs ps. together ps ≡ begun ++ rs) closed_rows
    (λ begun r rs ps h e. e ∙ append_assoc begun (r ∷ []) rs)
    (λ begun r rs ps h e. ap (λ xs. begun ++ xs) e)

-- each page has rows, and they fit
closed_fits : (begun : List Row) → AllByRecursion RowFits begun → rows_size begun ≤ 502 → AllByRecursion PageRows (closed begun)
closed_fits [] f h = tt
closed_fits (r ∷ rs) f h = (record { some = refl; fit = f; room = h }, tt)

begun_page : (begun : List Row) (r : Row) → RowFits r → AllByRecursion RowFits begun → rows_size begun ≤ 502 → 502 < rows_size begun + row_size r → PageRows begun
begun_page [] r g f h m = let s = g.short in absurd (omega arith)
begun_page (q ∷ begun) r g f h m = record { some = refl; fit = f; room = h }

pack_fits : (begun rs : List Row) → AllByRecursion RowFits begun → AllByRecursion RowFits rs → rows_size begun ≤ 502 → AllByRecursion PageRows (pack_from begun rs)
pack_fits =
    by_rows (λ begun rs ps. AllByRecursion RowFits begun → AllByRecursion RowFits rs → rows_size begun ≤ 502 → AllByRecursion PageRows ps)
    (λ begun f g h. closed_fits begun f h)
    (λ begun r rs ps fits ih f g h. ih (All-push RowFits begun r f g.0) g.1 (let e = size_push begun r in omega arith))
    (λ begun r rs ps more ih f g h. (begun_page begun r g.0 f h more, ih (g.0, tt) g.1 (let s = g.0.short in omega arith)))

-- every page but the last is nearly full
abbrev Full : List (List Row) → Type 0
Full [] = Unit {0}
Full (p ∷ []) = Unit {0}
Full (p ∷ q ∷ ps) = (432 ≤ rows_size p) × Full (q ∷ ps)

full_more : (p : List Row) (ps : List (List Row)) → 432 ≤ rows_size p → Full ps → Full (p ∷ ps)
full_more p [] h f = tt
full_more p (q ∷ ps) h f = (h, f)

full_closed : (begun : List Row) → Full (closed begun)
full_closed [] = tt
full_closed (r ∷ rs) = tt

pack_full : (begun rs : List Row) → AllByRecursion RowFits rs → Full (pack_from begun rs)
pack_full =
    by_rows (λ begun rs ps. AllByRecursion RowFits rs → Full ps) (λ begun g. full_closed begun) (λ begun r rs ps fits ih g. ih g.1)
    (λ begun r rs ps more ih g. full_more begun ps (let s = g.0.short in omega arith) (ih g.1))

full_at : (ps : List (List Row)) → Full ps → (i : ℕ) → suc i < length ps → 432 ≤ rows_size (get_or ps i [])
full_at [] f i h = absurd (omega arith)
full_at (p ∷ []) f i h = absurd (omega arith)
full_at (p ∷ q ∷ ps) f zero h = f.0
full_at (p ∷ q ∷ ps) f (suc i) h = full_at (q ∷ ps) f.1 i (omega arith)

-- so there are few
full_size : (ps : List (List Row)) → Full ps → 432 * length ps ≤ rows_size (together ps) + 432
full_size [] f = omega arith
full_size (p ∷ []) f = omega arith
full_size (p ∷ q ∷ ps) f =
    let a = full_size (q ∷ ps) f.1 in
    let b = added_up_append row_size p (together (q ∷ ps)) in
    let d = f.0 in
    omega arith

pub pack_few : (rs : List Row) → AllByRecursion RowFits rs → length (pack rs) ≤ rows_size rs / 431 + 1
pack_few rs g =
    let a = full_size (pack rs) (pack_full [] rs g) in
    let b : rows_size (together (pack rs)) ≡ rows_size rs = ap rows_size (pack_in_order [] rs) in
    omega arith

-- page by page
pub packing_takes : (written : List (List Row)) (begun : List Row) (r : Row) (rest all : List Row) → Packing written begun (r ∷ rest) all → rows_size begun + row_size r ≤ 502 →
    Packing written (begun ++ r ∷ []) rest all
packing_takes written begun r rest all p h = ap (λ ps. written ++ ps) (sym (pack_takes begun r rest h)) ∙ p

pub packing_closes : (written : List (List Row)) (begun : List Row) (r : Row) (rest all : List Row) → Packing written begun (r ∷ rest) all → row_size r ≤ 502 → 502 < rows_size begun + row_size r →
    Packing (written ++ begun ∷ []) [] (r ∷ rest) all
packing_closes written begun r rest all p s h =
    append_assoc written (begun ∷ []) (pack_from [] (r ∷ rest))
    ∙ ap (λ ps. written ++ begun ∷ ps) (pack_takes [] r rest (omega arith))
    ∙ ap (λ ps. written ++ ps) (sym (pack_closes begun r rest h)) ∙ p

pub packing_ends : (written : List (List Row)) (begun : List Row) (all : List Row) → Packing written begun [] all → written ++ closed begun ≡ pack all
unfolding pack_from
packing_ends written begun all p = p

pub packing_laws : PackingStands
unfolding pack_from
packing_laws = record {
  in_order = pack_in_order [];
  they_fit = λ rs g. pack_fits [] rs tt g (omega arith);
  nearly_full = λ rs g. full_at (pack rs) (pack_full [] rs g);
  few = pack_few;
  none_for_none = refl;
  begins = λ all. refl;
  takes = packing_takes;
  closes = packing_closes;
  ends = packing_ends;
}
