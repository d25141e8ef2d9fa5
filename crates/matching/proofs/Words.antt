-- What is asked of the words of a text, one word at a time. Assumes nothing.
use Rattle.std.proofs.Common.{◌≡◌, ℕ, zero, suc, ◌+◌, ◌<◌, ◌≤◌, Bool, true, false, cond, ◌&&◌, eqb, List, [], ◌∷◌, Option, map, length, take, sym, refl, ap, ◌∙◌, ⊎_elim, arith}
use Rattle.std.specs.Option.{MatchOption}
use Rattle.std.specs.Iterator.{YieldsFirst, YieldsThen}
use Rattle.std.specs.List.{FoldsTo, prefix_len, zip}
use Rattle.std.proofs.Math.Dec.{eqb-zero-suc, eqb-suc-suc}
use Rattle.std.proofs.lemmas.Bool.{cases_Bool, cases_lt, both_ways}
use Rattle.std.proofs.lemmas.Iterator.Consumers.{YieldsList-from_first}
use Rattle.std.proofs.lemmas.Iterator.Search.{any_from_yields_List}
use denote.Param.Members.{Mut, Called}
use Rattle.std.proofs.lemmas.List.{nil_from_length}
use Rattle.pages.specs.Lists.{or, any, same, starts_with}
use Rattle.pages.proofs.Lists.{same_is, same_from}
use Rattle.words.specs.Stretches.{to_come, Found}
use Rattle.words.specs.Standing.{word_of, standing, words_left}
use Rattle.words.specs.declared.Word.{Word}
use Rattle.words.specs.declared.Words.{Words}
use Rattle.words.proofs.Laws.{come_from_start}
use Rattle.words.proofs.Standing.{standing_none, standing_next, found_next}
use Rattle.questions.specs.Query.{words_here, words_somewhere, within, near_in}

-- `same` either way round
pub same_turned : (a b : List ℕ) → same a b ≡ same b a
same_turned a b =
    ⊎_elim
    (λ t. t ∙ sym (same_from b a (sym (same_is a b t))))
    (λ f. f ∙ sym (⊎_elim (λ t. absurd (both_ways (same a b) f (same_from a b (sym (same_is b a t))))) (λ g. g) (cases_Bool (same b a))))
    (cases_Bool (same a b))

-- whether any word of a text passes a test of where it stands
pub any_standing : {F : Type 0} {g : Mut F (Word × Unit {0}) Bool} (p : Word → Bool) (text : List ℕ) (at : ℕ) (s u : Words) (f : F) (r : Bool) →
    (xs : List Word) × (o : Option Word) × (j : F) × YieldsThen (YieldsFirst words_left) s xs o u × FoldsTo (λ q x n. Called g q (x, tt) false n) f xs j
    × MatchOption o (r ≡ false) (λ x. (r ≡ true) × ((h : F) × Called g j (x, tt) true h)) →
    s.text.now ≡ text → s.at ≡ at → ((x : Word) (b : Bool) (q : F) → Called g f (x, tt) b q → (q ≡ f) × (b ≡ p x)) → r ≡ any p (standing text at)
any_standing p text at s u f r ran e k calls =
    any_from_yields_List p u f r ran (YieldsList-from_first (λ w. w) words_left (standing text at) (λ i. standing (e i) (k i))) calls

-- what is asked of the words to come is asked of each where it stands, if it is asked of the first one and of those after it
module _ (bs : List ℕ) (p : Word → Bool) (asked : List (List ℕ) → Bool) (none : asked [] ≡ false)
    (next : (at : ℕ) (w : Word) → Found bs at w → asked (to_come bs at) ≡ or (p w) (asked (to_come bs w.end))) where
  asked_of_none : (at : ℕ) → to_come bs at ≡ [] → any p (standing bs at) ≡ asked (to_come bs at)
  asked_of_none at e = ap (any p) (standing_none bs at e) ∙ sym none ∙ ap asked (sym e)

  asked_of_few : (n at : ℕ) → length (to_come bs at) ≤ n → any p (standing bs at) ≡ asked (to_come bs at)
  asked_of_few zero at h = asked_of_none at (nil_from_length (to_come bs at) (omega arith))
  asked_of_few (suc n) at h =
      ⊎_elim
      (λ some. let f = found_next bs at some in
      let w = f.0 in
      let e = ap length f.1.comes in
      ap (any p) (standing_next bs at w f.1) ∙ ap (or (p w)) (asked_of_few n w.end (omega arith)) ∙ sym (next at w f.1))
      (λ few. asked_of_none at (nil_from_length (to_come bs at) (omega arith)))
      (cases_lt 0 (length (to_come bs at)))

  pub asked_of_each : (at : ℕ) → any p (standing bs at) ≡ asked (to_come bs at)
  asked_of_each at = asked_of_few (length (to_come bs at)) at (omega arith)

-- no words stand everywhere, and some words somewhere if they stand from one of the words on
pub no_words : (ws : List (List ℕ)) → words_somewhere [] ws ≡ true
unfolding words_somewhere words_here
no_words [] = refl
no_words (w ∷ ws) = refl

some_words : (ps : List (List ℕ)) → 1 ≤ length ps → words_here ps [] ≡ false
unfolding words_here
some_words [] h = absurd (omega arith)
some_words (p ∷ ps) h = refl

pub somewhere_stands : (bs : List ℕ) (ps : List (List ℕ)) (at : ℕ) → 1 ≤ length ps → any (λ w. words_here ps (to_come bs w.start)) (standing bs at) ≡ words_somewhere ps (to_come bs at)
unfolding words_somewhere
somewhere_stands bs ps at h =
    let here : Word → Bool = λ w. words_here ps (to_come bs w.start) in
    asked_of_each bs here (words_somewhere ps) (some_words ps h)
    (λ at w f. ap (words_somewhere ps) f.comes ∙ ap (λ b. or b (words_somewhere ps (to_come bs w.end))) (ap (words_here ps) (sym f.comes ∙ come_from_start bs at w.start f.starts)))
    at

-- a beginning: what is too short for it does not begin so, and the front of anything else is compared with it
pub starts_short : (p w : List ℕ) → length w < length p → starts_with p w ≡ false
unfolding starts_with
starts_short [] w h = absurd (omega arith)
starts_short (x ∷ p) [] h = refl
starts_short (x ∷ p) (y ∷ w) h =
    let rest = starts_short p w (omega arith) in
    ap (λ b. eqb x y && b) rest ∙ (elim (eqb x y) as (λ b. (b && false) ≡ false) [ true ↦ refl | false ↦ refl ])

pub starts_long : (p w : List ℕ) → length p ≤ length w → starts_with p w ≡ same p (take (length p) w)
unfolding starts_with same
starts_long [] w h = refl
starts_long (x ∷ p) [] h = absurd (omega arith)
starts_long (x ∷ p) (y ∷ w) h = ap (λ b. eqb x y && b) (starts_long p w (omega arith))

-- words stand one after the other where as many match from the front on as there are of them
pub here_counted : {X : Type 0} (f : X → List ℕ) (xs : List X) (ws : List (List ℕ)) →
    eqb (length (take (prefix_len (λ p. same (f p.0) p.1) (zip xs ws)) (zip xs ws))) (length xs) ≡ words_here (map f xs) ws
unfolding words_here
here_counted f [] ws = refl
here_counted f (x ∷ xs) [] = eqb-zero-suc (length xs)
here_counted {X} f (x ∷ xs) (w ∷ ws) =
    let rest : List (X × List ℕ) = zip xs ws in
    let n : ℕ = prefix_len (λ p. same (f p.0) p.1) rest in
    let more : 1 + n ≡ suc n = omega arith in
    elim (same (f x) w) as (λ b. eqb (length (take (cond b (1 + n) 0) ((x, w) ∷ rest))) (suc (length xs)) ≡ (b && words_here (map f xs) ws)) [
      | true ↦ ap (λ k. eqb (length (take k ((x, w) ∷ rest))) (suc (length xs))) more ∙ eqb-suc-suc (length (take n rest)) (length xs) ∙ here_counted f xs ws
      | false ↦ eqb-zero-suc (length xs)
    ]

-- two words near each other
abbrev pub near_here : ℕ → List ℕ → List ℕ → List ℕ → List (List ℕ) → Bool
near_here n a b w rest = same w a && within n b rest

pub near_stands : (bs : List ℕ) (n : ℕ) (a b : List ℕ) (at : ℕ) →
    any (λ w. or (near_here n a b (word_of bs w) (to_come bs w.end)) (near_here n b a (word_of bs w) (to_come bs w.end))) (standing bs at) ≡ near_in n a b (to_come bs at)
unfolding near_in
near_stands bs n a b at =
    let here : Word → Bool = λ w. or (near_here n a b (word_of bs w) (to_come bs w.end)) (near_here n b a (word_of bs w) (to_come bs w.end)) in
    asked_of_each bs here (near_in n a b) refl (λ at w f. ap (near_in n a b) f.comes) at
