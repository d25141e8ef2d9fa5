-- What a comparison of two rows answers. Assumes nothing: these are definitions.
use Rattle.std.specs.Prelude.{◌≡◌, ℕ, true, ◌⊎◌, List, length, take, drop, Some, None, Option}
use Rattle.std.specs.declared.cmp.Ordering.{Ordering}
use Rattle.std.specs.Ordering.{is_lt, is_eq, is_gt}
use Rattle.pages.specs.Bytes.{all_bytes, from_eight}
use Rattle.pages.specs.Device.{Page}
use Rattle.rows.specs.Rows.{Row, Stand, stand, row_less, row_same, row_at}

pub record RowsCompared (r : Ordering) (a b : Row) : Type 0 where
  pub less : is_lt r ≡ row_less a b
  pub equal : is_eq r ≡ row_same a b
  pub greater : is_gt r ≡ row_less b a

-- .. and of two rows where they stand: none where one of them does not
abbrev pub StandsCompared : Option Stand → Option Stand → Option Ordering → Type 0
StandsCompared a b None = (a ≡ None) ⊎ (b ≡ None)
StandsCompared a b (Some r) = (s : Stand) × (t : Stand) × (a ≡ Some s) × (b ≡ Some t) × RowsCompared r s.row t.row

-- a row where it lies on a page: the cells of its key, and the six of document and place
abbrev pub row_of_cells : List ℕ → List ℕ → Row
row_of_cells key tail = record { key = key; doc = from_eight 0 (take 4 tail); place = from_eight 0 (drop 4 tail) }

pub record Lies (p : Page) (at : ℕ) (key tail : List ℕ) : Type 0 where
  pub is : row_at p at ≡ stand at (Some (row_of_cells key tail))
  pub six : length tail ≡ 6
  pub bytes : all_bytes tail ≡ true
