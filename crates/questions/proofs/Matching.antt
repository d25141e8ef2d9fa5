-- What matches: by and, or and not, and by phrases. Assumes nothing.
use Rattle.std.proofs.Common.{◌≡◌, ℕ, Bool, true, false, not, ◌&&◌, List, [], ◌∷◌, refl, ap, ◌∙◌, ⊎_elim}
use Rattle.pages.specs.Lists.{or, every, any, same}
use Rattle.pages.proofs.Folds.{or_cases, or_left, or_right, any_same, every_weaker}
use Rattle.documents.specs.Document.{Doc}
use Rattle.questions.specs.Query.{Query, word, phrase, both, either, but, fields, words_here, words_somewhere, matches}
use Rattle.std.proofs.lemmas.Bool.{and_parts, and_from}

-- AND, OR AND NOT
and_swapped : (a b : Bool) → (a && b) ≡ (b && a)
and_swapped true true = refl
and_swapped true false = refl
and_swapped false true = refl
and_swapped false false = refl

and_over_or : (a b c : Bool) → (a && or b c) ≡ or (a && b) (a && c)
and_over_or true b c = refl
and_over_or false b c = refl

and_neither : (a b c : Bool) → (a && not (or b c)) ≡ ((a && not b) && not c)
and_neither true true c = refl
and_neither true false c = refl
and_neither false b c = refl

pub both_swapped : (d : Doc) (q r : Query) → matches d (both q r) ≡ matches d (both r q)
unfolding matches
both_swapped d q r = and_swapped (matches d q) (matches d r)

pub both_over_either : (d : Doc) (q r s : Query) → matches d (both q (either r s)) ≡ matches d (either (both q r) (both q s))
unfolding matches
both_over_either d q r s = and_over_or (matches d q) (matches d r) (matches d s)

pub but_either : (d : Doc) (q r s : Query) → matches d (but q (either r s)) ≡ matches d (but (but q r) s)
unfolding matches
but_either d q r s = and_neither (matches d q) (matches d r) (matches d s)

-- PHRASES: the words of a phrase stand where the phrase does
pub words_here_each : (ps ws : List (List ℕ)) → words_here ps ws ≡ true → every (λ p. any (same p) ws) ps ≡ true
unfolding words_here
words_here_each [] ws h = refl
words_here_each (p ∷ ps) [] h = h
words_here_each (p ∷ ps) (w ∷ ws) h =
    let a = and_parts (same p w) (words_here ps ws) h in
    and_from _ _ (or_left (same p w) (any (same p) ws) a.0)
    (every_weaker (λ r. any (same r) ws) _ (λ r. or_right (same r w) (any (same r) ws)) ps (words_here_each ps ws a.1))

pub words_somewhere_each : (ps ws : List (List ℕ)) → words_somewhere ps ws ≡ true → every (λ p. any (same p) ws) ps ≡ true
unfolding words_somewhere
words_somewhere_each ps [] h = words_here_each ps [] h
words_somewhere_each ps (w ∷ ws) h =
    ⊎_elim (words_here_each ps (w ∷ ws))
    (λ k. every_weaker (λ r. any (same r) ws) _ (λ r. or_right (same r w) (any (same r) ws)) ps (words_somewhere_each ps ws k))
    (or_cases (words_here ps (w ∷ ws)) (words_somewhere ps ws) h)

-- in one of several texts
somewhere_in : (ps : List (List ℕ)) (fs : List (List (List ℕ))) → any (words_somewhere ps) fs ≡ true → every (λ p. any (any (same p)) fs) ps ≡ true
somewhere_in [] [] h = refl
somewhere_in (p ∷ ps) [] h = h
somewhere_in ps (f ∷ fs) h =
    ⊎_elim (λ k. every_weaker (λ r. any (same r) f) _ (λ r. or_left (any (same r) f) (any (any (same r)) fs)) ps (words_somewhere_each ps f k))
    (λ k. every_weaker (λ r. any (any (same r)) fs) _ (λ r. or_right (any (same r) f) (any (any (same r)) fs)) ps (somewhere_in ps fs k))
    (or_cases (words_somewhere ps f) (any (words_somewhere ps) fs) h)

pub phrase_has_words : (d : Doc) (f : ℕ) (ws : List (List ℕ)) → matches d (phrase f ws) ≡ true → every (λ w. matches d (word f w)) ws ≡ true
unfolding matches
phrase_has_words d f ws h = somewhere_in ws (fields f d) h

-- a phrase of one word is the word
pub one_word_here : (w v : List ℕ) (vs : List (List ℕ)) → words_here (w ∷ []) (v ∷ vs) ≡ same w v
unfolding words_here
one_word_here w v vs = elim (same w v) as (λ b. (b && true) ≡ b) [ true ↦ refl | false ↦ refl ]

pub one_word_somewhere : (w : List ℕ) (vs : List (List ℕ)) → words_somewhere (w ∷ []) vs ≡ any (same w) vs
unfolding words_somewhere words_here
one_word_somewhere w [] = refl
one_word_somewhere w (v ∷ vs) = ap (λ b. or b (words_somewhere (w ∷ []) vs)) (one_word_here w v vs) ∙ ap (or (same w v)) (one_word_somewhere w vs)

pub phrase_of_one : (d : Doc) (f : ℕ) (w : List ℕ) → matches d (phrase f (w ∷ [])) ≡ matches d (word f w)
unfolding matches
phrase_of_one d f w = any_same (words_somewhere (w ∷ [])) (any (same w)) (one_word_somewhere w) (fields f d)
