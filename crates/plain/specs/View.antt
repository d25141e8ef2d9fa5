-- How the values of the plain engine are read as its statements have them. Assumes nothing: these are definitions.
use Rattle.std.specs.Prelude.{◌≡◌, ℕ, List, [], ◌++◌}
use Rattle.std.specs.List.{insert}
use Rattle.documents.specs.Document.{Doc}
use Rattle.reports.specs.Plain.{put_doc}
use Rattle.reports.specs.Plain as said

-- a document of this name, title and body
abbrev pub a_doc : ℕ → List ℕ → List ℕ → Doc
a_doc n t b = record { name = n; title = t; body = b }

-- the plain engine with these documents asked, coming and gone
abbrev pub a_plain : List Doc → List Doc → List Doc → said.Plain
a_plain a c g = record { asked = a; coming = c; gone = g }

-- no documents
abbrev pub empty_plain : said.Plain
empty_plain = a_plain [] [] []

-- a document of this name is put before the one at this place
abbrev pub GoesAt : ℕ → List Doc → ℕ → Type 0
GoesAt n ds i = (d : Doc) → d.name ≡ n → put_doc d ds ≡ insert ds i d

-- other documents are coming, and those that leave are gone
abbrev pub changed : said.Plain → List Doc → List Doc → said.Plain
changed w leaving ds = a_plain w.asked ds (w.gone ++ leaving)
