-- Numbers as bytes, the highest first, and bytes with their count before them. Assumes nothing: these are definitions.
use Rattle.std.specs.Prelude.{ℕ, zero, suc, ◌+◌, ◌*◌, ◌/◌, ◌%◌, Bool, List, [], ◌∷◌, ◌++◌, length, nat_lt}
use Rattle.pages.specs.Lists.{every}

-- eight bytes, the highest first; and bytes with their count before them
unfoldable pub in_bytes : ℕ → ℕ → List ℕ → List ℕ
in_bytes zero n bs = bs
in_bytes (suc k) n bs = in_bytes k (n / 256) (n % 256 ∷ bs)

abbrev pub eight : ℕ → List ℕ
eight n = in_bytes 8 n []

abbrev pub with_length : List ℕ → List ℕ
with_length bs = eight (length bs) ++ bs

abbrev pub all_bytes : List ℕ → Bool
all_bytes bs = every (λ b. nat_lt b 256) bs

-- what the world tells is a kind and some bytes: 0 power, with a number of eight bytes, the highest first, 1 a command, 2 a page, 3 go on
unfoldable pub from_eight : ℕ → List ℕ → ℕ
from_eight n [] = n
from_eight n (b ∷ bs) = from_eight (256 * n + b) bs
