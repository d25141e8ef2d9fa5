-- How many pages documents take, rows and all, and how many there are for them. Assumes nothing: these are definitions and statements.
-- A document has one row of 16 bytes for its name, and for each word of title and body one of 7 bytes and the word. A page of rows that is not the last one
-- of its segment has more than 430 bytes of them.
use Rattle.std.specs.Prelude.{ℕ, ◌+◌, ◌-◌, ◌*◌, ◌/◌, ◌≤◌, List, [], ◌∷◌, length}
use Rattle.pages.specs.Lists.{added_up}
use Rattle.documents.specs.Document.{Doc, all_words}
use Rattle.documents.specs.Pages.{pages_of}

abbrev pub text_length : Doc → ℕ
text_length d = length d.title + length d.body

unfoldable pub row_bytes : Doc → ℕ
row_bytes d = 16 + added_up (λ w. 7 + length w) (all_words d)

-- what a document weighs
abbrev pub doc_weight : Doc → ℕ
doc_weight d = 256 + length d.title + length d.body

-- so many pages at most are written for a segment of these documents: for so many bytes of rows, and for the documents themselves
abbrev pub segment_pages : List Doc → ℕ
segment_pages [] = 0
segment_pages (d ∷ ds) = added_up row_bytes (d ∷ ds) / 431 + 1 + added_up pages_of (d ∷ ds)

pub record RoomSuffices : Type 0 where
  pub rows : (d : Doc) → row_bytes d ≤ 16 + 4 * (text_length d + 2)
  -- one document, and documents: less than eight times their weight, with a page or two to spare
  pub one : (d : Doc) → row_bytes d / 431 + pages_of d + 1 + 2 ≤ 8 * doc_weight d / 512
  pub many : (d : Doc) (ds : List Doc) → segment_pages (d ∷ ds) + 1 ≤ 8 * added_up doc_weight (d ∷ ds) / 512
  -- six times their weight does, too
  pub closer : (ds : List Doc) → segment_pages ds ≤ 6 * added_up doc_weight ds / 512
  -- two segments that weigh at most a sixteenth of all bytes of a device of so many pages fit one half, with an eighth of all pages but one to spare
  pub both : (pages : ℕ) (asked coming : List Doc) → 8 ≤ pages → added_up doc_weight asked + added_up doc_weight coming ≤ 32 * pages →
      segment_pages asked + segment_pages coming + (pages / 8 - 1) ≤ (pages - 2) / 2
