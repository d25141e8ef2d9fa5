-- The first row whose key is not earlier than a key: halving the pages by their first rows, then along one page. Assumes nothing: these are definitions.
use Rattle.std.specs.Prelude.{◌≡◌, ℕ, suc, ◌+◌, ◌/◌, ◌<◌, ◌≤◌, Bool, true, false, List, [], ◌∷◌, length, Some, None, Option, nat_le, nat_lt, slice_index_or}
use Rattle.pages.specs.Lists.{pick, earlier}
use Rattle.pages.specs.Device.{Page}
use Rattle.rows.specs.declared.cursor.Cursor.{Cursor}
use Rattle.std.specs.declared.ops.ControlFlow.{ControlFlow}
use Rattle.std.specs.declared.ops.ControlFlow.TheVariants.{Continue, Break}
use Rattle.rows.specs.declared.search.Search.{Search}
use Rattle.rows.specs.Rows.{Row, Stand, rows_end, row_at}
use Rattle.rows.specs.Cursors.{passed}

-- the rows from the first one on whose key is not earlier
abbrev pub from_key : List ℕ → List Row → List Row
from_key k [] = []
from_key k (r ∷ rs) = pick (earlier r.key k) (from_key k rs) (r ∷ rs)

-- whether what stands there, or comes first in a list, has an earlier key
abbrev pub key_before : List ℕ → Option Stand → Bool
key_before k None = false
key_before k (Some s) = earlier s.row.key k

abbrev pub first_before : List ℕ → List Row → Bool
first_before k [] = false
first_before k (r ∷ rs) = earlier r.key k

-- one step over pages: the first row of the page in the middle decides which half is left
abbrev pub middle : Search → ℕ
middle s = (s.lo + s.hi) / 2

abbrev pub narrowed : List ℕ → Page → Search → Search
narrowed k p s =
    pick (nat_lt s.lo s.hi) (pick (key_before k (row_at p 2)) (record { lo = suc (middle s); hi = s.hi }) (record { lo = s.lo; hi = middle s })) s

-- what holds of the pages: before `lo` each first row has an earlier key, from `hi` on none has
pub record Between (cut : List (List Row)) (k : List ℕ) (s : Search) : Type 0 where
  pub ordered : s.lo ≤ s.hi
  pub inside : s.hi ≤ length cut
  pub below : (i : ℕ) → i < s.lo → first_before k (slice_index_or cut i []) ≡ true
  pub above : (i : ℕ) → s.hi ≤ i → i < length cut → first_before k (slice_index_or cut i []) ≡ false

-- where one step along a page came to: the search goes on there, or it ended there
abbrev pub Located : Type 0
Located = ControlFlow Cursor Cursor

abbrev pub ended : Located → Bool
ended (Continue c) = false
ended (Break c) = true

abbrev pub reached : Located → Cursor
reached (Continue c) = c
reached (Break c) = c

abbrev pub come_to : Bool → Cursor → Located
come_to end c = pick end (Break c) (Continue c)

-- one step along the page before `lo`: past a row with an earlier key; it ends at a row that has none, or with the page
abbrev pub located_at : List ℕ → Page → Cursor → Option Stand → Located
located_at k p c None = Break c
located_at k p c (Some s) = pick (earlier s.row.key k) (come_to (nat_le (rows_end p) s.next) (passed p c s.next)) (Break c)

abbrev pub located : List ℕ → Page → Cursor → Located
located k p c = located_at k p c (row_at p c.at)
