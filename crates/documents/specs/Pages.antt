-- A document on pages. Assumes nothing: these are definitions.
-- A document begins on a page of its own. Each of its pages has 504 bytes of its content and then 8 bytes that stay 0, kept for a checksum; the last page is
-- filled up with zeros. The content is the header, 14 bytes, and then the title and the body. The header is the name in 8 bytes, the length of the title in 1,
-- the length of the body in 2, and how many words title and body have together in 3, each number with its highest byte first.
use Rattle.std.specs.Prelude.{◌≡◌, ℕ, zero, suc, ◌+◌, ◌-◌, ◌*◌, ◌/◌, ◌%◌, ◌<◌, ◌≤◌, Bool, true, ◌&&◌, List, [], ◌∷◌, ◌++◌, length, take, drop, Some, None, Option, nat_le, nat_lt, codes}
use Rattle.std.specs.Option.{option_or}
use Rattle.pages.specs.Lists.{pick, every, each, flat, zeros}
use Rattle.pages.specs.Bytes.{in_bytes, all_bytes, from_eight}
use Rattle.pages.specs.Device.{Page, page_at, a_page}
use Rattle.pages.specs.Places.{written}
use Rattle.documents.specs.Document.{Doc, long}
use Rattle.documents.specs.declared.layout.Header.{Header}
use Rattle.documents.specs.declared.layout.Unfit.{Unfit}
use Rattle.documents.specs.declared.layout.Unfit.TheVariants as case

-- how many pages a title and a body of such lengths take
abbrev pub page_count : ℕ → ℕ → ℕ
page_count t b = (14 + t + b + 503) / 504

unfoldable pub header_bytes : Header → List ℕ
header_bytes h = in_bytes 8 h.name [] ++ (in_bytes 1 h.title_len [] ++ (in_bytes 2 h.body_len [] ++ in_bytes 3 h.words []))

-- the header of a title and a body
abbrev pub header_for : ℕ → List ℕ → List ℕ → ℕ → Header
header_for n t b w = record { name = n; title_len = length t; body_len = length b; words = w }

abbrev pub content_of : ℕ → List ℕ → List ℕ → ℕ → List ℕ
content_of n t b w = header_bytes (header_for n t b w) ++ (t ++ b)

-- bytes, and zeros after them up to so many
abbrev pub filled : ℕ → List ℕ → List ℕ
filled n bs = bs ++ zeros (n - length bs)

-- page q of some content
unfoldable pub page_of : List ℕ → ℕ → Page
page_of bs q = filled 512 (take 504 (drop (504 * q) bs))

-- so many pages of some content
unfoldable pub cut : ℕ → List ℕ → List Page
cut zero bs = []
cut (suc n) bs = page_of bs 0 ∷ cut n (drop 504 bs)

abbrev pub header_of : Doc → Header
header_of d = header_for d.name d.title d.body (long d)

abbrev pub content : Doc → List ℕ
content d = content_of d.name d.title d.body (long d)

abbrev pub pages_of : Doc → ℕ
pages_of d = page_count (length d.title) (length d.body)

abbrev pub doc_page : Doc → ℕ → Page
doc_page d q = page_of (content d) q

abbrev pub doc_pages : Doc → List Page
doc_pages d = cut (pages_of d) (content d)

-- the content, and zeros up to the end of its last page
abbrev pub padded : Doc → List ℕ
padded d = filled (504 * pages_of d) (content d)

-- the number in so many cells from a place on, one byte to a cell
abbrev pub cells_number : List ℕ → ℕ → ℕ → ℕ
cells_number p at n = from_eight 0 (take n (drop at p))

-- the header that the first 14 cells spell
abbrev pub header_at : Page → Header
header_at p = record { name = cells_number p 0 8; title_len = cells_number p 8 1; body_len = cells_number p 9 2; words = cells_number p 11 3 }

-- the header at the front of a page; of too few cells, or where one of the first 14 is no byte, none
unfoldable pub read_header : Page → Option Header
read_header p = pick (nat_le 14 (length p) && all_bytes (take 14 p)) (Some (header_at p)) None

-- the lowest byte of what stands in each cell
abbrev pub low_bytes : List ℕ → List ℕ
low_bytes cs = each (λ c. c % 256) cs

-- whether a page of a title and a body can be written into a row: the row has 512 bytes, the lengths fit the header, and there is such a page
abbrev pub can_write : List ℕ → List ℕ → ℕ → List ℕ → Bool
can_write t b q out = (nat_le 512 (length out) && (nat_le (length t) 255 && nat_le (length b) 65535)) && nat_lt q (page_count (length t) (length b))

-- what of a document is too long for a header, if anything is: the title first
abbrev pub too_long : List ℕ → List ℕ → Option Unfit
too_long t b = pick (nat_lt 255 (length t)) (Some case.TitleTooLong) (pick (nat_lt 65535 (length b)) (Some case.BodyTooLong) None)

-- why a page is not written, where it is not: the row is too short, or else something is too long for a header, or else there is no such page
abbrev pub unfit : List ℕ → List ℕ → ℕ → List ℕ → Option Unfit
unfit t b q out =
    pick (nat_lt (length out) 512) (Some case.RowTooShort)
    (option_or (too_long t b) (pick (nat_le (page_count (length t) (length b)) q) (Some case.NoSuchPage) None))

-- what is said of each
abbrev pub unfit_text : Unfit → List ℕ
unfit_text case.RowTooShort = codes "the row is too short"
unfit_text case.TitleTooLong = codes "the title is too long"
unfit_text case.BodyTooLong = codes "the body is too long"
unfit_text case.NoSuchPage = codes "there is no such page"

-- the page that is written of what stands in cells
abbrev pub page_from_cells : ℕ → List ℕ → List ℕ → ℕ → ℕ → Page
page_from_cells n t b w q = page_of (content_of n (low_bytes t) (low_bytes b) w) q

-- what can be kept: its name and lengths fit the header, and title and body are bytes
pub record Storable (d : Doc) : Type 0 where
  pub name_fits : d.name < 18446744073709551616
  pub title_fits : length d.title < 256
  pub body_fits : length d.body < 65536
  pub title_bytes : all_bytes d.title ≡ true
  pub body_bytes : all_bytes d.body ≡ true

-- what holds of the pages of every document
pub record PagesStand : Type 0 where
  pub count : (d : Doc) → length (doc_pages d) ≡ pages_of d
  pub some : (t b : ℕ) → 1 ≤ page_count t b
  pub few : (t b : ℕ) → t < 256 → b < 65536 → page_count t b ≤ 131
  pub each_page : (d : Doc) (q : ℕ) → q < pages_of d → page_at (doc_pages d) q ≡ doc_page d q
  pub are_pages : (d : Doc) → Storable d → every a_page (doc_pages d) ≡ true
  -- a document that lies in cells is written as it is
  pub writes : (d : Doc) (q : ℕ) (out : List ℕ) → Storable d → q < pages_of d → 512 ≤ length out → can_write d.title d.body q out ≡ true
  pub writes_page : (d : Doc) (q : ℕ) → Storable d → page_from_cells d.name d.title d.body (long d) q ≡ doc_page d q
  pub header : (d : Doc) → Storable d → read_header (doc_page d 0) ≡ Some (header_of d)
  pub small : (p : Page) (h : Header) → read_header p ≡ Some h →
      (h.name < 18446744073709551616) × (h.title_len < 256) × (h.body_len < 65536) × (h.words < 16777216)
  -- the first 504 bytes of each page, put together, are the content and zeros after it
  pub whole : (d : Doc) → flat (take 504) (doc_pages d) ≡ padded d
  pub title : (d : Doc) → take (length d.title) (drop 14 (padded d)) ≡ d.title
  pub body : (d : Doc) → take (length d.body) (drop (14 + length d.title) (padded d)) ≡ d.body
  -- reading page by page: if the first q pages are in a row of cells, and 504 bytes of the next one are copied behind them, one page more is in it
  pub read_on : (d : Doc) (q : ℕ) (cells : List ℕ) → q < pages_of d → 504 * (q + 1) ≤ length cells → take (504 * q) cells ≡ take (504 * q) (padded d) →
      take (504 * (q + 1)) (written cells (504 * q) (take 504 (doc_page d q))) ≡ take (504 * (q + 1)) (padded d)
  -- when all are in it, title and body stand in it
  pub read_title : (d : Doc) (cells : List ℕ) → take (504 * pages_of d) cells ≡ take (504 * pages_of d) (padded d) →
      take (length d.title) (drop 14 cells) ≡ d.title
  pub read_body : (d : Doc) (cells : List ℕ) → take (504 * pages_of d) cells ≡ take (504 * pages_of d) (padded d) →
      take (length d.body) (drop (14 + length d.title) cells) ≡ d.body
