-- Four reports, and what is found in them: one table of questions and hits. Assumes nothing: these are definitions.
use Rattle.std.specs.Prelude.{◌≡◌, ℕ, List, [], ◌∷◌, codes}
use Prim.Native.String.{String}
use Rattle.std.specs.List.{AllByRecursion}
use Rattle.documents.specs.Document.{Doc}
use Rattle.questions.specs.Query.{Query, word, phrase, near, both, but}
use Rattle.questions.specs.Order.{Hit, found}

abbrev pub a_report : ℕ → String → String → Doc
a_report n title body = record { name = n; title = codes title; body = codes body }

unfoldable pub four_reports : List Doc
four_reports =
    a_report 1 "Fore bearing" "Smoke from the fore bearing at full ahead"
    ∷ a_report 2 "Coolant" "Smell of coolant near the aft bearing, no smoke"
    ∷ a_report 3 "Drill" "Smoke drill. Bearing taken, smoke seen"
    ∷ a_report 4 "Aft pump" "Coolant pump changed; smell gone"
    ∷ []

-- a question, and what it finds, the best first
pub record Example : Type 0 where
  pub question : Query
  pub hits : List Hit

abbrev pub asks : String → Query
asks w = word 0 (codes w)

abbrev pub hit : ℕ → ℕ → Hit
hit name points = record { doc = name; points = points }

unfoldable pub examples : List Example
examples =
    record { question = asks "smoke"; hits = hit 3 666 ∷ hit 1 500 ∷ hit 2 500 ∷ [] }
    ∷ record { question = both (asks "bearing") (asks "smoke"); hits = hit 1 1300 ∷ hit 3 1166 ∷ hit 2 1000 ∷ [] }
    ∷ record { question = but (both (asks "bearing") (asks "smoke")) (asks "drill"); hits = hit 1 1300 ∷ hit 2 1000 ∷ [] }
    ∷ record { question = phrase 0 (codes "smell" ∷ codes "of" ∷ codes "coolant" ∷ []); hits = hit 2 4100 ∷ [] }
    ∷ record { question = near 2 (codes "smell") (codes "coolant"); hits = hit 2 2000 ∷ [] }
    ∷ []

unfoldable pub ExamplesHold : Type 0
ExamplesHold = AllByRecursion (λ e. found four_reports e.question ≡ e.hits) examples
