-- The plain engine: all documents in a list. Assumes nothing: these are definitions.
use Rattle.std.specs.Prelude.{ℕ, ◌+◌, not, List, [], ◌∷◌, ◌++◌, length, take, ◌==◌, nat_eq, nat_lt}
use Rattle.pages.specs.Lists.{pick, any, each, those, flat, added_up, none_of, same, earlier, starts_with}
use Rattle.pages.specs.Bytes.{eight, with_length}
use Rattle.documents.specs.Document.{Doc, all_words}
use Rattle.questions.specs.Query.{matches}
use Rattle.questions.specs.Order.{Hit, found}
use Rattle.reports.specs.Command.{Command, put, remove, note, ask, how_many, fetch, list_words, sweep}

-- the plain engine: the documents that are asked, those that will be from the next note on, and versions that are neither any more but were since the
-- last sweep
pub record Plain : Type 0 where
  pub asked : List Doc
  pub coming : List Doc
  pub gone : List Doc

pub record Turn : Type 0 where
  pub reply : ℕ
  pub shows : List (List ℕ)
  pub next : Plain

abbrev pub others : ℕ → List Doc → List Doc
others n ds = those (λ d. not (d.name == n)) ds

abbrev pub named : ℕ → List Doc → List Doc
named n ds = those (λ d. nat_eq d.name n) ds

unfoldable pub put_doc : Doc → List Doc → List Doc
put_doc d [] = d ∷ []
put_doc d (c ∷ cs) = pick (nat_lt d.name c.name) (d ∷ c ∷ cs) (c ∷ put_doc d cs)

abbrev pub first_hits : ℕ → List Hit → List Hit
first_hits k hs = take k hs

abbrev pub hit_row : Hit → List ℕ
hit_row h = eight h.doc ++ eight h.points

unfoldable pub put_word : List ℕ → List (List ℕ) → List (List ℕ)
put_word w [] = w ∷ []
put_word w (v ∷ vs) = pick (same w v) (v ∷ vs) (pick (earlier w v) (w ∷ v ∷ vs) (v ∷ put_word w vs))

unfoldable pub put_words : List (List ℕ) → List (List ℕ) → List (List ℕ)
put_words [] vs = vs
put_words (w ∷ ws) vs = put_words ws (put_word w vs)

abbrev pub vocabulary : List Doc → List ℕ → List (List ℕ)
vocabulary ds p = put_words (those (starts_with p) (flat all_words ds)) []

abbrev pub word_row : List Doc → List ℕ → List ℕ
word_row ds w = with_length w ++ eight (length (those (λ d. any (same w) (all_words d)) ds))

abbrev pub shown_doc : Doc → List (List ℕ)
shown_doc d = d.title ∷ d.body ∷ []

unfoldable pub turn : Plain → Command → Turn
turn w (put n t b) =
    record { reply = 0; shows = []; next = record { asked = w.asked; coming = put_doc (record { name = n; title = t; body = b }) (others n w.coming); gone = w.gone ++ named n w.coming } }
turn w (remove n) =
    pick (none_of (named n w.coming)) (record { reply = 3; shows = []; next = w })
    (record { reply = 0; shows = []; next = record { asked = w.asked; coming = others n w.coming; gone = w.gone ++ named n w.coming } })
turn w note = record { reply = 0; shows = []; next = record { asked = w.coming; coming = w.coming; gone = w.gone } }
turn w (ask k q) = record { reply = 0; shows = each hit_row (first_hits k (found w.asked q)); next = w }
turn w (how_many q) = record { reply = 0; shows = eight (length (those (λ d. matches d q) w.asked)) ∷ []; next = w }
turn w (fetch n) = pick (none_of (named n w.asked)) (record { reply = 3; shows = []; next = w }) (record { reply = 0; shows = flat shown_doc (named n w.asked); next = w })
turn w (list_words p k) = record { reply = 0; shows = each (word_row w.asked) (take k (vocabulary w.asked p)); next = w }
turn w sweep = record { reply = 0; shows = []; next = record { asked = w.coming; coming = w.coming; gone = [] } }

-- a stop: what was not noted is gone
unfoldable pub after_stop : Plain → Plain
after_stop w = record { asked = w.asked; coming = w.asked; gone = w.gone ++ w.coming }

-- what there is to keep, in bytes
abbrev pub weight_of : List Doc → ℕ
weight_of ds = added_up (λ d. 256 + length d.title + length d.body) ds

abbrev pub weight : Plain → ℕ
weight w = weight_of w.asked + weight_of w.coming
