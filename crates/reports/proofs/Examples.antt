-- The table of examples, by one test that antt computes. Assumes nothing.
use Rattle.std.proofs.Common.{◌≡◌, Bool, true, false, ◌&&◌, eqb, List, [], ◌∷◌, refl, ap, ◌∙◌, eqb-true}
use Rattle.std.proofs.ByRecursion.{All-weaker}
use Rattle.std.proofs.lemmas.Bool.{and_parts, false≢true}
use Rattle.pages.specs.Lists.{every, same}
use Rattle.pages.proofs.Folds.{all_from_every}
use Rattle.words.specs.Words.{words_from}
use Rattle.questions.specs.Query.{words_here, words_somewhere, near_in, matches}
use Rattle.questions.specs.Points.{good, once, how_often, halvings, rarity, worth}
use Rattle.questions.specs.Order.{Hit, put_in, in_order, found}
use Rattle.questions.proofs.Order.{same_hit}
use Rattle.reports.specs.Examples.{Example, four_reports, examples, ExamplesHold}

-- equal lists of hits, as a test
abbrev same_hits : List Hit → List Hit → Bool
same_hits [] [] = true
same_hits [] (k ∷ ks) = false
same_hits (h ∷ hs) [] = false
same_hits (h ∷ hs) (k ∷ ks) = (eqb h.doc k.doc && eqb h.points k.points) && same_hits hs ks

same_hits_true : (hs ks : List Hit) → same_hits hs ks ≡ true → hs ≡ ks
same_hits_true [] [] t = refl
same_hits_true [] (k ∷ ks) t = absurd (false≢true t)
same_hits_true (h ∷ hs) [] t = absurd (false≢true t)
same_hits_true (h ∷ hs) (k ∷ ks) t =
    let e = and_parts (eqb h.doc k.doc && eqb h.points k.points) (same_hits hs ks) t in
    let f = and_parts (eqb h.doc k.doc) (eqb h.points k.points) e.0 in
    ap (λ g. g ∷ hs) (same_hit h k (eqb-true h.doc k.doc f.0) (eqb-true h.points k.points f.1))
    ∙ ap (λ gs. k ∷ gs) (same_hits_true hs ks e.1)

holds : Example → Bool
holds e = same_hits (found four_reports e.question) e.hits

-- the whole table at once
computed : every holds examples ≡ true
unfolding holds examples four_reports same words_from words_here words_somewhere near_in matches good once how_often halvings rarity worth put_in in_order found
computed = refl

pub examples_hold : ExamplesHold
unfolding ExamplesHold holds
examples_hold = All-weaker (λ e. holds e ≡ true) (λ e. found four_reports e.question ≡ e.hits) (λ e t. same_hits_true _ e.hits t) examples (all_from_every holds examples computed)
