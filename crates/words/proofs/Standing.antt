-- Laws of the words of a text where they stand: each of them is found, and their bytes are the words.
use Rattle.std.proofs.Common.{◌≡◌, ℕ, zero, suc, ◌+◌, ◌<◌, ◌≤◌, ◌-◌, min, List, [], ◌∷◌, length, get_or, drop, sym, refl, ap, ◌∙◌, subst, ⊎_elim, arith}
use Rattle.std.proofs.lemmas.Bool.{cases_lt}
use Rattle.std.proofs.lemmas.List.{nil_from_length}
use Rattle.pages.specs.Lists.{each}
use Rattle.words.specs.Stretches.{stretch, to_come, word_at, Found}
use Rattle.words.specs.Standing.{word_of, next_start, next_end, standing_from, standing}
use Rattle.words.specs.declared.Word.{Word}
use Rattle.words.proofs.Laws.{found_bounds, length_word_at, none_to_come, next_found}

length_standing_from : (bs : List ℕ) (ws : List (List ℕ)) (at : ℕ) → length (standing_from ws bs at) ≡ length ws
unfolding standing_from
length_standing_from bs [] at = refl
length_standing_from bs (w ∷ ws) at = ap suc (length_standing_from bs ws (next_end bs at))

module _ (bs : List ℕ) where
  -- as many words stand there as are to come
  pub length_standing : (at : ℕ) → length (standing bs at) ≡ length (to_come bs at)
  unfolding standing
  length_standing at = length_standing_from bs (to_come bs at) at

  -- nothing stands where nothing is to come
  pub standing_none : (at : ℕ) → to_come bs at ≡ [] → standing bs at ≡ []
  unfolding standing standing_from
  standing_none at e = ap (λ ws. standing_from ws bs at) e

  -- the word that is found next is the first that stands there
  pub standing_next : (at : ℕ) (w : Word) → Found bs at w → standing bs at ≡ w ∷ standing bs w.end
  unfolding standing standing_from
  standing_next at w f =
      let bounds = found_bounds bs at w f in
      let starts : w.start ≡ next_start bs at = f.starts in
      let ends : w.end ≡ next_end bs at = f.ends ∙ ap (λ s. s + stretch (drop s bs)) starts in
      let long : length (word_at bs w.start w.len) ≡ w.len = length_word_at bs w.start w.len (omega arith) in
      ap (λ ws. standing_from ws bs at) f.comes
      ∙ (λ i. record { start = sym starts i; len = long i; end = sym ends i } ∷ standing_from (to_come bs w.end) bs (sym ends i))

  -- where words are to come, the next one is found
  pub found_next : (at : ℕ) → 1 ≤ length (to_come bs at) → (w : Word) × Found bs at w
  found_next at h =
      let s = next_start bs at in
      let e = s + 1 + stretch (drop (s + 1) bs) in
      ⊎_elim
      (λ l. (record { start = s; len = min 64 (e - s); end = e }, next_found bs at s refl e _ l refl refl))
      (λ g. let none = ap length (none_to_come bs at s refl g) in absurd (omega arith))
      (cases_lt s (length bs))

  bytes_none : (at : ℕ) → length (to_come bs at) ≤ 0 → each (word_of bs) (standing bs at) ≡ to_come bs at
  bytes_none at h = let e = nil_from_length (to_come bs at) (omega arith) in ap (each (word_of bs)) (standing_none at e) ∙ sym e

  bytes_stand : (n at : ℕ) → length (to_come bs at) ≤ n → each (word_of bs) (standing bs at) ≡ to_come bs at
  bytes_stand zero at h = bytes_none at h
  bytes_stand (suc n) at h =
      ⊎_elim
      (λ some. let f = found_next at some in
      let w = f.0 in
      let e = ap length f.1.comes in
      ap (each (word_of bs)) (standing_next at w f.1) ∙ ap (λ ws. word_of bs w ∷ ws) (bytes_stand n w.end (omega arith)) ∙ sym f.1.comes)
      (λ none. bytes_none at (omega arith))
      (cases_lt 0 (length (to_come bs at)))

  -- the bytes of the words that stand there are the words that are to come
  pub standing_bytes : (at : ℕ) → each (word_of bs) (standing bs at) ≡ to_come bs at
  standing_bytes at = bytes_stand (length (to_come bs at)) at (omega arith)

  -- each word that stands there is the next one from some place on
  pub standing_found : (at i : ℕ) (d : Word) → i < length (standing bs at) → (p : ℕ) × Found bs p (get_or (standing bs at) i d)
  standing_found at zero d h =
      let f = found_next at (omega (arith, length_standing at)) in
      let P : List Word → Type 0 = λ ws. Found bs at (get_or ws 0 d) in
      (at, subst P (sym (standing_next at f.0 f.1)) f.1)
  standing_found at (suc i) d h =
      let f = found_next at (omega (arith, length_standing at)) in
      let e = standing_next at f.0 f.1 in
      let n = ap length e in
      let P : List Word → Type 0 = λ ws. (p : ℕ) × Found bs p (get_or ws (suc i) d) in
      subst P (sym e) (standing_found f.0.end i d (omega arith))
