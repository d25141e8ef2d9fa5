-- Rows, their order, and rows on a page. Assumes nothing: these are definitions.
use Rattle.std.specs.Prelude.{◌≡◌, ℕ, zero, suc, ◌+◌, ◌-◌, ◌<◌, ◌≤◌, Bool, true, ◌&&◌, List, [], ◌∷◌, ◌++◌, length, take, drop, Some, None, Option, ◌==◌, nat_le, nat_lt}
use Rattle.pages.specs.Lists.{pick, flat, added_up, same, earlier, zeros}
use Rattle.pages.specs.Bytes.{in_bytes, all_bytes, from_eight}
use Rattle.pages.specs.Device.{Page}

-- a key, the document that has it (its first page, counted from the segment's first document page), and the place in it
pub record Row : Type 0 where
  pub key : List ℕ
  pub doc : ℕ
  pub place : ℕ

-- what stands at an offset: a row, and where the next one begins
pub record Stand : Type 0 where
  pub row : Row
  pub next : ℕ

-- the order: key by bytes, then document, then place
unfoldable pub row_less : Row → Row → Bool
row_less a b =
    pick (earlier a.key b.key) true
    (same a.key b.key && pick (nat_lt a.doc b.doc) true (a.doc == b.doc && nat_lt a.place b.place))

unfoldable pub row_same : Row → Row → Bool
row_same a b = same a.key b.key && (a.doc == b.doc && a.place == b.place)

-- a row that fits its bytes
pub record RowFits (r : Row) : Type 0 where
  pub short : length r.key ≤ 64
  pub bytes : all_bytes r.key ≡ true
  pub doc_fits : r.doc < 4294967296
  pub place_fits : r.place < 65536

-- one byte for the length of the key, the key, four bytes document, two bytes place
unfoldable pub row_bytes : Row → List ℕ
row_bytes r = length r.key ∷ r.key ++ in_bytes 4 r.doc (in_bytes 2 r.place [])

abbrev pub row_size : Row → ℕ
row_size r = 7 + length r.key

abbrev pub rows_size : List Row → ℕ
rows_size rs = added_up row_size rs

-- a page of rows: two bytes for how many bytes of rows follow, the rows, and zeros
unfoldable pub page_of : List Row → Page
page_of rs = in_bytes 2 (rows_size rs) (flat row_bytes rs ++ zeros (510 - rows_size rs))

-- where the rows of a page end; 0 where the first two numbers are no count of bytes that a page has room for
abbrev pub used : Page → ℕ
used p = from_eight 0 (take 2 p)

unfoldable pub rows_end : Page → ℕ
rows_end p = pick (nat_le 2 (length p) && (all_bytes (take 2 p) && (nat_le (used p) 502 && nat_le (2 + used p) (length p)))) (2 + used p) 0

-- the row that a list of numbers begins with: none where it is cut short, its key is longer than 64, or a number is no byte
abbrev pub begins : ℕ → List ℕ → Bool
begins n bs = nat_le n 64 && (nat_le (n + 6) (length bs) && all_bytes (take (n + 6) bs))

unfoldable pub row_in : List ℕ → Option Row
row_in [] = None
row_in (n ∷ bs) = pick (begins n bs) (Some (record { key = take n bs; doc = from_eight 0 (take 4 (drop n bs)); place = from_eight 0 (take 2 (drop (n + 4) bs)) })) None

abbrev pub stand : ℕ → Option Row → Option Stand
stand at None = None
stand at (Some r) = Some (record { row = r; next = at + row_size r })

unfoldable pub row_at : Page → ℕ → Option Stand
row_at p at = stand at (row_in (drop at (take (rows_end p) p)))

-- the rows of a page: one after the other, as long as there are any; a row has seven bytes at least, so 512 are more than enough
abbrev pub and_then : Option Row → (Row → List Row) → List Row
and_then None f = []
and_then (Some r) f = r ∷ f r

unfoldable pub rows_in : ℕ → List ℕ → List Row
rows_in zero bs = []
rows_in (suc n) bs = and_then (row_in bs) (λ r. rows_in n (drop (row_size r) bs))

unfoldable pub rows_of : Page → List Row
rows_of p = rows_in 512 (drop 2 (take (rows_end p) p))

-- one more row at the end of a page, and the count of bytes in its first two; where it does not fit, the page as it is
unfoldable pub room_for : Page → Row → Bool
room_for p r = nat_le 2 (rows_end p) && (nat_le (rows_end p + row_size r) 504 && nat_le (rows_end p + row_size r) (length p))

unfoldable pub with_row : Page → Row → Page
with_row p r = in_bytes 2 (rows_end p - 2 + row_size r) (drop 2 (take (rows_end p) p) ++ (row_bytes r ++ drop (rows_end p + row_size r) p))
