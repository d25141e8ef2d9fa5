-- Which of two hits is better, and what is found: all that match, the best first. Assumes nothing: these are definitions.
use Rattle.std.specs.Prelude.{ℕ, Bool, true, ◌&&◌, List, [], ◌∷◌, ◌==◌, nat_lt}
use Rattle.pages.specs.Lists.{pick, each, those}
use Rattle.documents.specs.Document.{Doc}
use Rattle.questions.specs.Query.{Query, matches}
use Rattle.questions.specs.Points.{score}

-- the best first: by score, then by name
pub record Hit : Type 0 where
  pub doc : ℕ
  pub points : ℕ

abbrev pub better : Hit → Hit → Bool
better a b = pick (nat_lt b.points a.points) true (a.points == b.points && nat_lt a.doc b.doc)

unfoldable pub put_in : Hit → List Hit → List Hit
put_in h [] = h ∷ []
put_in h (g ∷ gs) = pick (better h g) (h ∷ g ∷ gs) (g ∷ put_in h gs)

unfoldable pub in_order : List Hit → List Hit
in_order [] = []
in_order (h ∷ hs) = put_in h (in_order hs)

unfoldable pub found : List Doc → Query → List Hit
found ds q = in_order (each (λ d. record { doc = d.name; points = score ds q d }) (those (λ d. matches d q) ds))
