-- Laws for chains that go over the words of a text: what they give is the words that are to come, byte by byte.
use Rattle.std.proofs.Common.{◌≡◌, ℕ, ◌+◌, ◌<◌, Bool, true, false, List, [], ◌∷◌, length, get_or, Option, Some, None, sym, ap, ◌∙◌, subst, zero-add, arith}
use Rattle.std.specs.Option.{MatchOption}
use Rattle.std.specs.Iterator.{AlwaysYields, Yields, YieldsFirst, YieldsThen}
use Rattle.std.specs.Iterator.Adapters.{enumerate_source, enumerate_count, enumerate_steps}
use Rattle.std.specs.declared.iter.Enumerate.{Enumerate}
use Rattle.std.specs.List.{FoldsTo, enumerate_from}
use Rattle.std.proofs.lemmas.Iterator.{YieldsList}
use Rattle.std.proofs.lemmas.Iterator.Consumers.{YieldsList-from_first, YieldsList-from_enumerate, YieldsList-turn, YieldsList-end}
use Rattle.std.proofs.lemmas.List.FromFn.{length-enumerate_from, get_or-enumerate_from}
use Rattle.std.proofs.lemmas.Iterator.Search.{any_from_yields_List}
use denote.Param.Members.{Mut, Called}
use Rattle.pages.specs.Lists.{any, each}
use Rattle.words.specs.Words.{words}
use Rattle.words.specs.Stretches.{to_come}
use Rattle.words.specs.Standing.{word_of, standing, words_left}
use Rattle.words.specs.declared.Word.{Word}
use Rattle.words.specs.declared.Words.{Words}
use Rattle.words.proofs.Standing.{length_standing, standing_bytes}

-- what a chain gives, read by a function
module _ {S A B C : Type 0} (steps : S → Option A → S → Type 0) (v : A → B) (f : B → C) where
  always_each : (s : S) (ys : List B) → AlwaysYields steps v s ys → AlwaysYields steps (λ x. f (v x)) s (each f ys)
  always_each s [] h = h
  always_each s (y ∷ ys) h = (h.0, λ x j k. let n = h.1 x j k in (ap f n.0, always_each j ys n.1))

  pub yields_each : {s : S} {ys : List B} → YieldsList steps v s ys → YieldsList steps (λ x. f (v x)) s (each f ys)
  yields_each {s} {ys} h = record { runs = always_each s ys h.runs }

-- an iterator over a text gives the words that are to come from its place on
pub yields_words : (text : List ℕ) (at : ℕ) (s : Words) → s.text.now ≡ text → s.at ≡ at → YieldsList (YieldsFirst words_left) (word_of text) s (to_come text at)
yields_words text at s e f =
    let Y : List (List ℕ) → Type 0 = λ ws. YieldsList (YieldsFirst words_left) (word_of text) s ws in
    subst Y (standing_bytes text at) (yields_each (YieldsFirst words_left) (λ w. w) (word_of text) (YieldsList-from_first (λ w. w) words_left (standing text at) (λ i. standing (e i) (f i))))

-- whether any of them has what a closure asks of its bytes
pub any_word : {F : Type 0} {g : Mut F (Word × Unit {0}) Bool} (p : List ℕ → Bool) (text : List ℕ) (at : ℕ) (s u : Words) (f : F) (r : Bool) →
    (xs : List Word) × (o : Option Word) × (j : F) × YieldsThen (YieldsFirst words_left) s xs o u × FoldsTo (λ q x n. Called g q (x, tt) false n) f xs j
    × MatchOption o (r ≡ false) (λ x. (r ≡ true) × ((h : F) × Called g j (x, tt) true h)) →
    s.text.now ≡ text → s.at ≡ at → ((x : Word) (b : Bool) (q : F) → Called g f (x, tt) b q → (q ≡ f) × (b ≡ p (word_of text x))) → r ≡ any p (to_come text at)
any_word p text at s u f r ran e k calls = any_from_yields_List p u f r ran (yields_words text at s e k) calls

-- a loop over the words of a text and their numbers: where the word of this turn stands
module _ (text : List ℕ) (it : Enumerate Words) (e : (enumerate_source it).text.now ≡ text) (f : (enumerate_source it).at ≡ 0) (none : enumerate_count it ≡ 0) where
  numbered : YieldsList {B = ℕ × Word} (enumerate_steps (YieldsFirst words_left)) (λ p. (p.0, p.1)) it (enumerate_from 0 (standing text 0))
  numbered = YieldsList-from_enumerate (YieldsList-from_first (λ w. w) words_left (standing text 0) (λ i. standing (e i) (f i))) none

  pub numbered_turn : (xs : List (ℕ × Word)) (t : Enumerate Words) → Yields (enumerate_steps (YieldsFirst words_left)) it xs t → (r : Option (ℕ × Word)) (u : Enumerate Words) (i : ℕ) (w : Word) →
      r ≡ Some (i, w) → enumerate_steps (YieldsFirst words_left) t r u → (i ≡ length xs) × (i < length (words text)) × (w ≡ get_or (standing text 0) i w)
  numbered_turn xs t y r u i w is step =
      let turn = YieldsList-turn numbered xs t y r u (i, w) is step in
      let k : length xs < length (standing text 0) = omega (arith, turn.0, length-enumerate_from 0 (standing text 0)) in
      let at : (i, w) ≡ (0 + length xs, get_or (standing text 0) (length xs) w) = turn.1 ∙ get_or-enumerate_from 0 (standing text 0) (length xs) (i, w) k in
      let here : i ≡ length xs = (λ j. (at j).0) ∙ zero-add (length xs) in
      (here, omega (arith, length_standing text 0), (λ j. (at j).1) ∙ ap (λ n. get_or (standing text 0) n w) (sym here))

  pub numbered_end : (xs : List (ℕ × Word)) (t : Enumerate Words) → Yields (enumerate_steps (YieldsFirst words_left)) it xs t → (r : Option (ℕ × Word)) (u : Enumerate Words) →
      r ≡ None → enumerate_steps (YieldsFirst words_left) t r u → length xs ≡ length (words text)
  numbered_end xs t y r u is step = (YieldsList-end numbered xs t y r u is step).1 ∙ length-enumerate_from 0 (standing text 0) ∙ length_standing text 0
