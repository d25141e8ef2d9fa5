-- Rows cut into pages, and a cursor on them. Assumes nothing: these are definitions.
use Rattle.std.specs.Prelude.{◌≡◌, ℕ, suc, ◌+◌, ◌<◌, ◌≤◌, false, ◌⊎◌, List, [], ◌∷◌, ◌++◌, length, nat_lt, slice_index_or}
use Rattle.std.specs.List.{AllByRecursion}
use Rattle.pages.specs.Lists.{pick, flat, none_of}
use Rattle.pages.specs.Device.{Page}
use Rattle.rows.specs.declared.cursor.Cursor.{Cursor}
use Rattle.rows.specs.Rows.{Row, RowFits, rows_size, page_of, rows_end}

-- the rows of one page: at least one, and they fit
pub record PageRows (rs : List Row) : Type 0 where
  pub some : none_of rs ≡ false
  pub fit : AllByRecursion RowFits rs
  pub room : rows_size rs ≤ 502

-- pages that hold rows cut so, one page for each part
pub record CutOn (pages : ℕ → Page) (cut : List (List Row)) : Type 0 where
  pub stands : (i : ℕ) → i < length cut → pages i ≡ page_of (slice_index_or cut i [])
  pub whole : AllByRecursion PageRows cut

abbrev pub together : List (List Row) → List Row
together cut = flat (λ (rs : List Row). rs) cut

-- a cursor is a page, counted from the first one of the rows, and an offset on it
abbrev pub page_start : ℕ → Cursor
page_start k = record { page = k; at = 2 }

-- past a row: at the next offset, or at the next page where the rows of this one end
abbrev pub passed : Page → Cursor → ℕ → Cursor
passed p c next = pick (nat_lt next (rows_end p)) (record { page = c.page; at = next }) (page_start (suc c.page))

-- a cursor sees a list: the row under it, what is left on its page, and the pages after it
pub record On (cut : List (List Row)) (c : Cursor) (rs : List Row) : Type 0 where
  pub before : List (List Row)
  pub done : List Row
  pub row : Row
  pub left : List Row
  pub after : List (List Row)
  pub cut_is : cut ≡ before ++ (done ++ row ∷ left) ∷ after
  pub page_is : c.page ≡ length before
  pub at_is : c.at ≡ 2 + rows_size done
  pub rows_are : rs ≡ row ∷ left ++ together after

-- .. and nothing past the last page
pub record AtEnd (cut : List (List Row)) (c : Cursor) (rs : List Row) : Type 0 where
  pub page_is : c.page ≡ length cut
  pub at_is : c.at ≡ 2
  pub no_rows : rs ≡ []

abbrev pub Sees : List (List Row) → Cursor → List Row → Type 0
Sees cut c rs = On cut c rs ⊎ AtEnd cut c rs
