-- How questions are read as the statements have them. Assumes nothing: these are definitions.
use Rattle.std.specs.Prelude.{◌≡◌, ℕ, Bool, List, map, vec_items}
use Rattle.pages.specs.Lists.{or}
use Rattle.documents.specs.Document.{Doc}
use Rattle.questions.specs.Query as asked
use Rattle.questions.specs.Fields.{field_number}
use Rattle.questions.specs.declared.field.Field.{Field}
use Rattle.questions.specs.declared.field.Field.TheVariants as field
use Rattle.matching.specs.declared.query.Query.{Query}
use Rattle.matching.specs.declared.query.Query.TheVariants as query

-- whether it is so in the field, from whether it is so in the title and in the body
abbrev pub in_field : Field → Bool → Bool → Bool
in_field field.Either t b = or t b
in_field field.Title t b = t
in_field field.Body t b = b

-- whether it is so in the field, whatever it is that is asked of a text
abbrev pub AskedSo : (List ℕ → Bool → Type 0) → Field → List ℕ → List ℕ → Bool → Type 0
AskedSo Answers f t b r = (p : List ℕ → Bool) → ((text : List ℕ) (answer : Bool) → Answers text answer → answer ≡ p text) → r ≡ in_field f (p t) (p b)

-- the question that is asked; a box has two parts in a pattern, and the first one does not matter
abbrev pub query_of : Query → asked.Query
query_of (query.Word f w) = asked.word (field_number f) (vec_items w)
query_of (query.Phrase f ws) = asked.phrase (field_number f) (map vec_items (vec_items ws))
query_of (query.Begins f p) = asked.begins (field_number f) (vec_items p)
query_of (query.Near n a b) = asked.near n (vec_items a) (vec_items b)
query_of (query.Both' p a q b) = asked.both (query_of a) (query_of b)
query_of (query.Either' p a q b) = asked.either (query_of a) (query_of b)
query_of (query.But' p a q b) = asked.but (query_of a) (query_of b)

-- it matches every document of this title and this body, or none of them
abbrev pub MatchesSo : Query → List ℕ → List ℕ → Bool → Type 0
MatchesSo q t b r = (d : Doc) → t ≡ d.title → b ≡ d.body → r ≡ asked.matches d (query_of q)
