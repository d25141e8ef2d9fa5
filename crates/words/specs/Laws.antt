-- What holds of the words of every text and of their order. Assumes nothing: these are statements.
use Rattle.std.specs.Prelude.{◌≡◌, ℕ, ◌+◌, ◌*◌, ◌≤◌, Bool, true, false, not, ◌&&◌, ◌⊎◌, List, ◌∷◌, ◌++◌, length, ◌≢◌, nat_le, nat_lt}
use Rattle.pages.specs.Lists.{every, added_up, same, earlier}
use Rattle.words.specs.Words.{in_word, words}

-- 1 to 64 bytes, all of them in words, no capitals
abbrev pub well_formed : List ℕ → Bool
well_formed w = (nat_le 1 (length w) && nat_le (length w) 64) && every (λ c. (in_word c && nat_lt c 256) && not (nat_le 65 c && nat_le c 90)) w

pub record WordsStand : Type 0 where
  -- a byte that makes no word cuts a text: the words before it and the words after it
  pub cut : (a b : List ℕ) (c : ℕ) → in_word c ≡ false → words (a ++ c ∷ b) ≡ words a ++ words b
  pub formed : (bs : List ℕ) → every (λ b. nat_lt b 256) bs ≡ true → every well_formed (words bs) ≡ true
  -- words are at least one byte long, and a byte stands between any two
  pub few : (bs : List ℕ) → 2 * length (words bs) ≤ length bs + 1
  pub fit : (bs : List ℕ) → added_up (λ w. length w + 1) (words bs) ≤ length bs + 1

-- `same` is equality, and of two lists exactly one is earlier, or they are equal
pub record OrderStands : Type 0 where
  pub equal : (a b : List ℕ) → (same a b ≡ true → a ≡ b) × (a ≡ b → same a b ≡ true)
  pub irreflexive : (a : List ℕ) → earlier a a ≡ false
  pub transitive : (a b c : List ℕ) → earlier a b ≡ true → earlier b c ≡ true → earlier a c ≡ true
  pub total : (a b : List ℕ) → (earlier a b ≡ true) ⊎ ((a ≡ b) ⊎ (earlier b a ≡ true))
  pub apart : (a b : List ℕ) → earlier a b ≡ true → (a ≢ b) × (earlier b a ≡ false)
