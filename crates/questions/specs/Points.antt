-- How well a document matches, by whole numbers. Assumes nothing: these are definitions.
use Rattle.std.specs.Prelude.{ℕ, zero, suc, ◌+◌, ◌*◌, ◌/◌, Bool, not, ◌&&◌, List, [], ◌∷◌, ◌++◌, length, ◌==◌, nat_lt}
use Rattle.pages.specs.Lists.{pick, each, those, added_up, same}
use Rattle.words.specs.Words.{words}
use Rattle.documents.specs.Document.{Doc, long}
use Rattle.questions.specs.Query.{Query, word, phrase, begins, near, both, either, but}

-- the words for which a document counts, each with where it is looked for, each once
pub record Sought : Type 0 where
  pub field : ℕ
  pub sought : List ℕ

abbrev pub same_sought : Sought → Sought → Bool
same_sought a b = a.field == b.field && same a.sought b.sought

unfoldable pub good : Query → List Sought
good (word f w) = record { field = f; sought = w } ∷ []
good (phrase f ws) = each (λ w. record { field = f; sought = w }) ws
good (begins f p) = []
good (near n a b) = record { field = 2; sought = a } ∷ record { field = 2; sought = b } ∷ []
good (both q r) = good q ++ good r
good (either q r) = good q ++ good r
good (but q r) = good q

unfoldable pub once : List Sought → List Sought
once [] = []
once (a ∷ bs) = a ∷ those (λ b. not (same_sought a b)) (once bs)

abbrev pub times_in : List ℕ → List (List ℕ) → ℕ
times_in w ws = length (those (same w) ws)

-- in the title a word counts three times
unfoldable pub how_often : Doc → Sought → ℕ
how_often d s =
    pick (s.field == 1) (3 * times_in s.sought (words d.title))
    (pick (s.field == 2) (times_in s.sought (words d.body))
    (3 * times_in s.sought (words d.title) + times_in s.sought (words d.body)))

-- how many of the documents have it
abbrev pub having : List Doc → Sought → ℕ
having ds s = length (those (λ d. nat_lt 0 (how_often d s)) ds)

-- how often one can be halved before it is 0
unfoldable pub halvings : ℕ → ℕ → ℕ
halvings zero n = 0
halvings (suc k) n = pick (n == 0) 0 (suc (halvings k (n / 2)))

unfoldable pub rarity : ℕ → ℕ → ℕ
rarity all n = pick (n == 0) 0 (halvings 64 (all / n))

unfoldable pub worth : List Doc → Doc → Sought → ℕ
worth ds d s = rarity (length ds) (having ds s) * (1000 * how_often d s) / (how_often d s + 1 + long d / 64)

abbrev pub score : List Doc → Query → Doc → ℕ
score ds q d = added_up (worth ds d) (once (good q))
