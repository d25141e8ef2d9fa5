-- What holds of the rows of every document and of rows in order. Assumes nothing: these are statements.
use Rattle.std.specs.Prelude.{◌≡◌, ℕ, ◌+◌, ◌≤◌, List, ◌∷◌, ◌++◌, length}
use Rattle.pages.proofs.Perm.{Perm, In}
use Rattle.pages.proofs.Sorted.{Different}
use Rattle.words.specs.Words.{words}
use Rattle.rows.specs.declared.Row.{Row}
use Rattle.rows.specs.Rows.{rows_size}
use Rattle.rows.specs.Merging.{Rising, merge_rows}
use Rattle.documents.specs.Document.{Doc, long}
use Rattle.documents.specs.Room.{row_bytes}
use Rattle.places.specs.Places.{name_row, word_rows, doc_rows, sorted_rows}

pub record PlacesStand : Type 0 where
  -- rows in order are the same rows, and rise where no row stands twice; no other list does
  pub all_there : (rs : List Row) → Perm rs (sorted_rows rs)
  pub rise : (rs : List Row) → Different rs → Rising (sorted_rows rs)
  pub only : (rs qs : List Row) → Rising qs → Perm rs qs → qs ≡ sorted_rows rs
  pub only_members : (rs qs : List Row) → Different rs → Rising qs → ((z : Row) → In z rs → In z qs) → ((z : Row) → In z qs → In z rs) → qs ≡ sorted_rows rs
  pub merged : (rs qs : List Row) → Different (rs ++ qs) → merge_rows (sorted_rows rs) (sorted_rows qs) ≡ sorted_rows (rs ++ qs)
  -- a document's rows: no two are the same, the name's comes first, one for each word, and so many bytes
  pub different : (doc : ℕ) (d : Doc) → length (words d.title) ≤ 32768 → Different (doc_rows doc d)
  pub name_first : (doc : ℕ) (d : Doc) → sorted_rows (doc_rows doc d) ≡ name_row doc d.name ∷ sorted_rows (word_rows doc d.title d.body)
  pub how_many : (doc : ℕ) (d : Doc) → length (doc_rows doc d) ≡ 1 + long d
  pub bytes : (doc : ℕ) (d : Doc) → rows_size (doc_rows doc d) ≡ row_bytes d
