-- Each question by its parts: how many it has, and what it asks in the title and in the body. Assumes nothing.
use Rattle.std.proofs.Common.{◌≡◌, ℕ, ◌+◌, Bool, true, false, not, ◌&&◌, List, sym, refl, ap, ◌∙◌}
use Rattle.pages.specs.Lists.{or, any, same, starts_with}
use Rattle.words.specs.Words.{words}
use Rattle.documents.specs.Document.{Doc}
use Rattle.questions.specs.Query.{word, phrase, begins, near, both, either, but, fields, matches, words_somewhere, near_in}
use Rattle.questions.specs.Fields.{field_number}
use Rattle.matching.specs.View.{in_field, query_of}
use Rattle.questions.specs.declared.field.Field.{Field}
use Rattle.questions.specs.declared.field.Field.TheVariants as field
use Rattle.matching.specs.declared.query.Query.{Query}
use Rattle.matching.specs.declared.query.Query.TheVariants as query

-- how many parts a question has
abbrev pub parts : Query → ℕ
parts (query.Word f w) = 0
parts (query.Phrase f ws) = 0
parts (query.Begins f p) = 0
parts (query.Near n a b) = 0
parts (query.Both' p a q b) = parts a + parts b + 1
parts (query.Either' p a q b) = parts a + parts b + 1
parts (query.But' p a q b) = parts a + parts b + 1

-- what is so in one of the fields
or_none : (b : Bool) → or b false ≡ b
or_none true = refl
or_none false = refl

pub in_fields : (p : List (List ℕ) → Bool) (f : Field) (d : Doc) → any p (fields (field_number f) d) ≡ in_field f (p (words d.title)) (p (words d.body))
in_fields p field.Either d = ap (or (p (words d.title))) (or_none (p (words d.body)))
in_fields p field.Title d = or_none (p (words d.title))
in_fields p field.Body d = or_none (p (words d.body))

pub field_asked : (p : List (List ℕ) → Bool) (f : Field) (d : Doc) (r x y : Bool) → r ≡ in_field f x y → x ≡ p (words d.title) → y ≡ p (words d.body) →
    r ≡ any p (fields (field_number f) d)
field_asked p f d r x y e h k = e ∙ ap (λ u. in_field f u y) h ∙ ap (in_field f (p (words d.title))) k ∙ sym (in_fields p f d)

pub word_asked : (d : Doc) (q : Query) (f : ℕ) (w : List ℕ) (r : Bool) → query_of q ≡ word f w → r ≡ any (any (same w)) (fields f d) → r ≡ matches d (query_of q)
unfolding matches
word_asked d q f w r e h = h ∙ sym (ap (matches d) e)

pub phrase_asked : (d : Doc) (q : Query) (f : ℕ) (ws : List (List ℕ)) (r : Bool) → query_of q ≡ phrase f ws → r ≡ any (words_somewhere ws) (fields f d) →
    r ≡ matches d (query_of q)
unfolding matches
phrase_asked d q f ws r e h = h ∙ sym (ap (matches d) e)

pub beginning_asked : (d : Doc) (q : Query) (f : ℕ) (p : List ℕ) (r : Bool) → query_of q ≡ begins f p → r ≡ any (any (starts_with p)) (fields f d) → r ≡ matches d (query_of q)
unfolding matches
beginning_asked d q f p r e h = h ∙ sym (ap (matches d) e)

pub near_asked : (d : Doc) (q : Query) (n : ℕ) (a b : List ℕ) (r : Bool) → query_of q ≡ near n a b → r ≡ near_in n a b (words d.body) → r ≡ matches d (query_of q)
unfolding matches
near_asked d q n a b r e h = h ∙ sym (ap (matches d) e)

-- of two parts, the second is asked where the first does not tell
pub both_then : (d : Doc) (q a b : Query) (r : Bool) → query_of q ≡ both (query_of a) (query_of b) → true ≡ matches d (query_of a) → r ≡ matches d (query_of b) →
    r ≡ matches d (query_of q)
unfolding matches
both_then d q a b r e h k = k ∙ ap (λ x. x && matches d (query_of b)) h ∙ sym (ap (matches d) e)

pub both_else : (d : Doc) (q a b : Query) (r : Bool) → query_of q ≡ both (query_of a) (query_of b) → false ≡ matches d (query_of a) → r ≡ false → r ≡ matches d (query_of q)
unfolding matches
both_else d q a b r e h k = k ∙ ap (λ x. x && matches d (query_of b)) h ∙ sym (ap (matches d) e)

pub either_then : (d : Doc) (q a b : Query) (r : Bool) → query_of q ≡ either (query_of a) (query_of b) → true ≡ matches d (query_of a) → r ≡ true → r ≡ matches d (query_of q)
unfolding matches
either_then d q a b r e h k = k ∙ ap (λ x. or x (matches d (query_of b))) h ∙ sym (ap (matches d) e)

pub either_else : (d : Doc) (q a b : Query) (r : Bool) → query_of q ≡ either (query_of a) (query_of b) → false ≡ matches d (query_of a) → r ≡ matches d (query_of b) →
    r ≡ matches d (query_of q)
unfolding matches
either_else d q a b r e h k = k ∙ ap (λ x. or x (matches d (query_of b))) h ∙ sym (ap (matches d) e)

pub but_then : (d : Doc) (q a b : Query) (r : Bool) → query_of q ≡ but (query_of a) (query_of b) → true ≡ matches d (query_of a) → r ≡ matches d (query_of b) →
    not r ≡ matches d (query_of q)
unfolding matches
but_then d q a b r e h k = ap not k ∙ ap (λ x. x && not (matches d (query_of b))) h ∙ sym (ap (matches d) e)

pub but_else : (d : Doc) (q a b : Query) (r : Bool) → query_of q ≡ but (query_of a) (query_of b) → false ≡ matches d (query_of a) → r ≡ false → r ≡ matches d (query_of q)
unfolding matches
but_else d q a b r e h k = k ∙ ap (λ x. x && not (matches d (query_of b))) h ∙ sym (ap (matches d) e)
