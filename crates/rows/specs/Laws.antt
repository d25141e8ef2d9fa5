-- The laws of rows as statements. Assumes nothing: these are definitions.
use Rattle.std.specs.Prelude.{◌≡◌, ℕ, suc, ◌+◌, ◌-◌, ◌/◌, ◌^◌, ◌<◌, ◌≤◌, true, false, ◌⊎◌, List, [], ◌∷◌, ◌++◌, length, Some, None, slice_index_or}
use Rattle.std.specs.List.{AllByRecursion}
use Rattle.pages.specs.Device.{Page, a_page}
use Rattle.pages.specs.Lists.{zeros}
use Rattle.rows.specs.declared.cursor.Cursor.{Cursor}
use Rattle.rows.specs.Cursors.{PageRows, CutOn, together, page_start, passed, Sees}
use Rattle.pages.specs.Lists.{earlier}
use Rattle.pages.proofs.Perm.{Perm}
use Rattle.rows.specs.declared.search.Search.{Search}
use Rattle.rows.specs.Searching.{from_key, middle, narrowed, Between, ended, reached, located}
use Rattle.rows.specs.Merging.{Rising, Least, least, merge_all}
use Rattle.rows.specs.Packing.{closed, pack, Packing}
use Rattle.rows.specs.Rows.{Row, RowFits, Stand, row_less, row_same, row_size, rows_size, page_of, rows_end, row_at, rows_of, room_for, with_row}

-- the order of rows is a strict total order
pub record OrderStands : Type 0 where
  pub never_before_itself : (a : Row) → row_less a a ≡ false
  pub transitive : (a b c : Row) → row_less a b ≡ true → row_less b c ≡ true → row_less a c ≡ true
  pub one_of_three : (a b : Row) → (row_less a b ≡ true) ⊎ ((a ≡ b) ⊎ (row_less b a ≡ true))
  pub same_is_equal : (a b : Row) → row_same a b ≡ true → a ≡ b
  pub equal_is_same : (a b : Row) → a ≡ b → row_same a b ≡ true

-- what was put on a page is read, and nothing else
pub record PagesStand : Type 0 where
  pub a_page_it_is : (rs : List Row) → AllByRecursion RowFits rs → rows_size rs ≤ 502 → a_page (page_of rs) ≡ true
  pub ends : (rs : List Row) → AllByRecursion RowFits rs → rows_size rs ≤ 502 → rows_end (page_of rs) ≡ 2 + rows_size rs
  pub each_stands : (before : List Row) (r : Row) (after : List Row) → AllByRecursion RowFits (before ++ r ∷ after) → rows_size (before ++ r ∷ after) ≤ 502 →
      row_at (page_of (before ++ r ∷ after)) (2 + rows_size before) ≡ Some (record { row = r; next = 2 + rows_size (before ++ r ∷ []) })
  pub none_past_the_end : (rs : List Row) → AllByRecursion RowFits rs → rows_size rs ≤ 502 → (at : ℕ) → 2 + rows_size rs ≤ at → row_at (page_of rs) at ≡ None
  pub read_back : (rs : List Row) → AllByRecursion RowFits rs → rows_size rs ≤ 502 → rows_of (page_of rs) ≡ rs
  pub row_added : (rs : List Row) (r : Row) → AllByRecursion RowFits rs → RowFits r → rows_size rs + row_size r ≤ 502 →
      (room_for (page_of rs) r ≡ true) × (with_row (page_of rs) r ≡ page_of (rs ++ r ∷ []))
  pub blank_has_none : page_of [] ≡ zeros 512
  pub row_refused : (rs : List Row) (r : Row) → AllByRecursion RowFits rs → rows_size rs ≤ 502 → 502 < rows_size rs + row_size r → room_for (page_of rs) r ≡ false
  pub what_is_read_fits : (p : Page) (at : ℕ) (s : Stand) → row_at p at ≡ Some s → RowFits s.row × (s.next ≡ at + row_size s.row) × (s.next ≤ rows_end p) × (rows_end p ≤ 504) × (rows_end p ≤ length p)

-- A CURSOR SEES A LIST: at the start of a page what is on it and after it; the row under it is the first, past it it sees the others, and at the end none
pub record CursorStands : Type 0 where
  pub starts : (before after : List (List Row)) → AllByRecursion PageRows (before ++ after) → Sees (before ++ after) (page_start (length before)) (together after)
  pub reads : (pages : ℕ → Page) (cut : List (List Row)) (c : Cursor) (r : Row) (rs : List Row) → CutOn pages cut → Sees cut c (r ∷ rs) →
      (c.page < length cut) × (row_at (pages c.page) c.at ≡ Some (record { row = r; next = c.at + row_size r }))
  pub goes_on : (pages : ℕ → Page) (cut : List (List Row)) (c : Cursor) (r : Row) (rs : List Row) → CutOn pages cut → Sees cut c (r ∷ rs) →
      Sees cut (passed (pages c.page) c (c.at + row_size r)) rs
  pub has_row : (cut : List (List Row)) (c : Cursor) (rs : List Row) → Sees cut c rs → c.page < length cut → (r : Row) × (left : List Row) × (rs ≡ r ∷ left)
  pub ends : (cut : List (List Row)) (c : Cursor) → Sees cut c [] → c.page ≡ length cut
  pub only_ends : (cut : List (List Row)) (c : Cursor) (rs : List Row) → Sees cut c rs → length cut ≤ c.page → rs ≡ []

-- PACKING: the rows in order, on pages that each have some and fit, each but the last nearly full, so that there are few
pub record PackingStands : Type 0 where
  pub in_order : (rs : List Row) → together (pack rs) ≡ rs
  pub they_fit : (rs : List Row) → AllByRecursion RowFits rs → AllByRecursion PageRows (pack rs)
  pub nearly_full : (rs : List Row) → AllByRecursion RowFits rs → (i : ℕ) → suc i < length (pack rs) → 432 ≤ rows_size (slice_index_or (pack rs) i [])
  pub few : (rs : List Row) → AllByRecursion RowFits rs → length (pack rs) ≤ rows_size rs / 431 + 1
  pub none_for_none : pack [] ≡ []
  -- page by page: a row that fits goes onto the open page; before one that does not, the open page is written; in the end the open page is written if it has rows
  pub begins : (all : List Row) → Packing [] [] all all
  pub takes : (written : List (List Row)) (begun : List Row) (r : Row) (rest all : List Row) → Packing written begun (r ∷ rest) all → rows_size begun + row_size r ≤ 502 →
      Packing written (begun ++ r ∷ []) rest all
  pub closes : (written : List (List Row)) (begun : List Row) (r : Row) (rest all : List Row) → Packing written begun (r ∷ rest) all → row_size r ≤ 502 → 502 < rows_size begun + row_size r →
      Packing (written ++ begun ∷ []) [] (r ∷ rest) all
  pub ends : (written : List (List Row)) (begun : List Row) (all : List Row) → Packing written begun [] all → written ++ closed begun ≡ pack all

-- SEARCH: half of the pages is left by each step; at the end a cursor sees the rows from the first one on whose key is not earlier
pub record SearchStands : Type 0 where
  pub meant : (k : List ℕ) (rs : List Row) → Rising rs →
      (before : List Row) × (rs ≡ before ++ from_key k rs) × AllByRecursion (λ r. earlier r.key k ≡ true) before × AllByRecursion (λ r. earlier r.key k ≡ false) (from_key k rs)
  pub begins : (cut : List (List Row)) (k : List ℕ) → Between cut k (record { lo = 0; hi = length cut })
  pub narrows : (pages : ℕ → Page) (cut : List (List Row)) (k : List ℕ) (s : Search) → CutOn pages cut → Rising (together cut) → Between cut k s → s.lo < s.hi →
      Between cut k (narrowed k (pages (middle s)) s)
  pub halves : (p : Page) (k : List ℕ) (s : Search) (n : ℕ) → s.lo < s.hi → s.hi - s.lo < 2 ^ suc n → (narrowed k p s).hi - (narrowed k p s).lo < 2 ^ n
  pub at_first : (cut : List (List Row)) (k : List ℕ) (s : Search) → AllByRecursion PageRows cut → Between cut k s → s.lo ≡ 0 → s.hi ≡ 0 → Sees cut (page_start 0) (from_key k (together cut))
  pub on_page_before : (cut : List (List Row)) (k : List ℕ) (s : Search) (m : ℕ) → AllByRecursion PageRows cut → Rising (together cut) → Between cut k s → s.lo ≡ suc m →
      (rest : List Row) × Sees cut (page_start m) rest × (from_key k (together cut) ≡ from_key k rest)
  pub goes_further : (pages : ℕ → Page) (cut : List (List Row)) (k : List ℕ) (c : Cursor) (r : Row) (rs : List Row) → CutOn pages cut → Sees cut c (r ∷ rs) →
      from_key k (together cut) ≡ from_key k (r ∷ rs) → ended (located k (pages c.page) c) ≡ false →
      ((reached (located k (pages c.page) c)).page ≡ c.page) × Sees cut (reached (located k (pages c.page) c)) rs × (from_key k (together cut) ≡ from_key k rs)
  pub finds : (pages : ℕ → Page) (cut : List (List Row)) (k : List ℕ) (s : Search) (c : Cursor) (r : Row) (rs : List Row) → CutOn pages cut → Between cut k s → s.lo ≡ s.hi →
      s.lo ≡ suc c.page → Sees cut c (r ∷ rs) → from_key k (together cut) ≡ from_key k (r ∷ rs) → ended (located k (pages c.page) c) ≡ true →
      Sees cut (reached (located k (pages c.page) c)) (from_key k (together cut))

-- MERGING: one step takes the least row; of sorted lists without a row in common the merge is the sorted list of all their rows
pub record MergingStands : Type 0 where
  pub steps : (ls : List (List Row)) (m : Least) → least ls ≡ Some m → AllByRecursion Rising ls → merge_all ls ≡ m.row ∷ merge_all m.rest
  pub rises : (ls : List (List Row)) (m : Least) → least ls ≡ Some m → AllByRecursion Rising ls → AllByRecursion Rising m.rest
  pub ends : (ls : List (List Row)) → least ls ≡ None → AllByRecursion Rising ls → (together ls ≡ []) × (merge_all ls ≡ [])
  pub keeps_all : (ls : List (List Row)) → AllByRecursion Rising ls → Perm (together ls) (merge_all ls)
  pub is_sorted : (ls : List (List Row)) (all : List Row) → AllByRecursion Rising ls → Rising all → Perm (together ls) all → merge_all ls ≡ all
