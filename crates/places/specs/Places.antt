-- The rows of a document: one for its name, and one for each word where it stands; and rows in order. Assumes nothing: these are definitions.
use Rattle.std.specs.Prelude.{ℕ, ◌+◌, List, [], ◌∷◌, ◌++◌}
use Rattle.pages.specs.Lists.{pick}
use Rattle.pages.specs.Bytes.{eight}
use Rattle.words.specs.Words.{words}
use Rattle.rows.specs.declared.Row.{Row}
use Rattle.rows.specs.Rows.{row_less}
use Rattle.documents.specs.Document.{Doc}

-- the key of a name: a byte that begins no word, and the name in eight bytes
abbrev pub name_key : ℕ → List ℕ
name_key n = 1 ∷ eight n

abbrev pub name_row : ℕ → ℕ → Row
name_row doc n = record { key = name_key n; doc = doc; place = 0 }

-- one row for each word, with places from a number on
unfoldable pub placed : ℕ → ℕ → List (List ℕ) → List Row
placed doc p [] = []
placed doc p (w ∷ ws) = record { key = w; doc = doc; place = p } ∷ placed doc (p + 1) ws

-- the words of a title have places from 0 on, those of a body from 32768 on
abbrev pub word_rows : ℕ → List ℕ → List ℕ → List Row
word_rows doc title body = placed doc 0 (words title) ++ placed doc 32768 (words body)

abbrev pub doc_rows : ℕ → Doc → List Row
doc_rows doc d = name_row doc d.name ∷ word_rows doc d.title d.body

-- rows in order
unfoldable pub insert_row : Row → List Row → List Row
insert_row r [] = r ∷ []
insert_row r (q ∷ qs) = pick (row_less q r) (q ∷ insert_row r qs) (r ∷ q ∷ qs)

unfoldable pub sorted_rows : List Row → List Row
sorted_rows [] = []
sorted_rows (r ∷ rs) = insert_row r (sorted_rows rs)
