-- What a question asks, and which documents match. Assumes nothing: these are definitions.
use Rattle.std.specs.Prelude.{ℕ, Bool, true, false, not, ◌&&◌, List, [], ◌∷◌, take, ◌==◌}
use Rattle.pages.specs.Lists.{pick, or, any, same, starts_with}
use Rattle.words.specs.Words.{words}
use Rattle.documents.specs.Document.{Doc}

-- where one looks: 0 in both, 1 in the title, 2 in the body
pub data Query : Type 0 where
  word : ℕ → List ℕ → Query
  phrase : ℕ → List (List ℕ) → Query  -- these words one after the other
  begins : ℕ → List ℕ → Query  -- a word that begins so
  near : ℕ → List ℕ → List ℕ → Query  -- both words in the body, at most so many places apart
  both : Query → Query → Query
  either : Query → Query → Query
  but : Query → Query → Query  -- the first and not the second

abbrev pub fields : ℕ → Doc → List (List (List ℕ))
fields f d = pick (f == 1) (words d.title ∷ []) (pick (f == 2) (words d.body ∷ []) (words d.title ∷ words d.body ∷ []))

unfoldable pub words_here : List (List ℕ) → List (List ℕ) → Bool
words_here [] ws = true
words_here (p ∷ ps) [] = false
words_here (p ∷ ps) (w ∷ ws) = same p w && words_here ps ws

unfoldable pub words_somewhere : List (List ℕ) → List (List ℕ) → Bool
words_somewhere ps [] = words_here ps []
words_somewhere ps (w ∷ ws) = or (words_here ps (w ∷ ws)) (words_somewhere ps ws)

abbrev pub within : ℕ → List ℕ → List (List ℕ) → Bool
within n w ws = any (same w) (take n ws)

unfoldable pub near_in : ℕ → List ℕ → List ℕ → List (List ℕ) → Bool
near_in n a b [] = false
near_in n a b (w ∷ ws) = or (or (same w a && within n b ws) (same w b && within n a ws)) (near_in n a b ws)

unfoldable pub matches : Doc → Query → Bool
matches d (word f w) = any (any (same w)) (fields f d)
matches d (phrase f ws) = any (words_somewhere ws) (fields f d)
matches d (begins f p) = any (any (starts_with p)) (fields f d)
matches d (near n a b) = near_in n a b (words d.body)
matches d (both q r) = matches d q && matches d r
matches d (either q r) = or (matches d q) (matches d r)
matches d (but q r) = matches d q && not (matches d r)
