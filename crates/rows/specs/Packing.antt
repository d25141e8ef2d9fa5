-- Rows packed into pages: a page is closed when the next row does not fit. Assumes nothing: these are definitions.
use Rattle.std.specs.Prelude.{◌≡◌, ◌+◌, List, [], ◌∷◌, ◌++◌, nat_le}
use Rattle.pages.specs.Lists.{pick}
use Rattle.rows.specs.Rows.{Row, row_size, rows_size}

-- the last page, if there are rows for it
abbrev pub closed : List Row → List (List Row)
closed [] = []
closed (r ∷ rs) = (r ∷ rs) ∷ []

-- the pages of what is on the open page and of the rows to come
unfoldable pub pack_from : List Row → List Row → List (List Row)
pack_from begun [] = closed begun
pack_from begun (r ∷ rs) = pick (nat_le (rows_size begun + row_size r) 502) (pack_from (begun ++ r ∷ []) rs) (begun ∷ pack_from (r ∷ []) rs)

abbrev pub pack : List Row → List (List Row)
pack rs = pack_from [] rs

-- pages written so far, rows on the open page, and rows to come: together they give the pages of all rows
abbrev pub Packing : List (List Row) → List Row → List Row → List Row → Type 0
Packing written begun rest all = written ++ pack_from begun rest ≡ pack all
