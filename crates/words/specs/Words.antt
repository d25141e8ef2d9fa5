-- The words of a text. Assumes nothing: these are definitions.
use Rattle.std.specs.Prelude.{ℕ, ◌+◌, Bool, ◌&&◌, List, [], ◌∷◌, ◌++◌, take, nat_le}
use Rattle.pages.specs.Lists.{pick, or}

-- letters, digits and bytes from 128 up make words; capital letters are made small; of a longer word the first 64 bytes count
abbrev pub between : ℕ → ℕ → ℕ → Bool
between a b c = nat_le a c && nat_le c b

abbrev pub in_word : ℕ → Bool
in_word c = or (between 97 122 c) (or (between 65 90 c) (or (between 48 57 c) (nat_le 128 c)))

abbrev pub small : ℕ → ℕ
small c = pick (between 65 90 c) (c + 32) c

abbrev pub ended : List ℕ → List (List ℕ) → List (List ℕ)
ended [] ws = ws
ended (c ∷ cs) ws = take 64 (c ∷ cs) ∷ ws

unfoldable pub words_from : List ℕ → List ℕ → List (List ℕ)
words_from w [] = ended w []
words_from w (c ∷ cs) = pick (in_word c) (words_from (w ++ small c ∷ []) cs) (ended w (words_from [] cs))

abbrev pub words : List ℕ → List (List ℕ)
words bs = words_from [] bs
