-- What an asking has to do with: the places of its words, in such documents. Assumes nothing: these are definitions.
use Rattle.std.specs.Prelude.{ℕ, ◌+◌, List, [], ◌∷◌, ◌++◌, length}
use Rattle.pages.specs.Lists.{each, those, added_up, starts_with}
use Rattle.documents.specs.Document.{Doc, all_words}
use Rattle.questions.specs.Query.{Query, word, phrase, begins, near, both, either, but}
use Rattle.questions.specs.Points.{Sought, times_in}

-- the words of a question, each with where it is looked for, as often as they stand in it
unfoldable pub asked_words : Query → List Sought
asked_words (word f w) = record { field = f; sought = w } ∷ []
asked_words (phrase f ws) = each (λ w. record { field = f; sought = w }) ws
asked_words (begins f p) = []
asked_words (near n a b) = record { field = 0; sought = a } ∷ record { field = 0; sought = b } ∷ []
asked_words (both q r) = asked_words q ++ asked_words r
asked_words (either q r) = asked_words q ++ asked_words r
asked_words (but q r) = asked_words q ++ asked_words r

unfoldable pub beginnings : Query → List (List ℕ)
beginnings (word f w) = []
beginnings (phrase f ws) = []
beginnings (begins f p) = p ∷ []
beginnings (near n a b) = []
beginnings (both q r) = beginnings q ++ beginnings r
beginnings (either q r) = beginnings q ++ beginnings r
beginnings (but q r) = beginnings q ++ beginnings r

unfoldable pub places : List Doc → Query → ℕ
places ds q =
    added_up (λ s. added_up (λ d. times_in s.sought (all_words d)) ds) (asked_words q)
    + added_up (λ p. added_up (λ d. length (those (starts_with p) (all_words d))) ds) (beginnings q)

abbrev pub parts : Query → ℕ
parts q = length (asked_words q) + length (beginnings q)
