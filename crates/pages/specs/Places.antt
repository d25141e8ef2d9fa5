-- Bytes at a place among others: the number that stands there, and what a write from there on leaves. Assumes nothing: these are definitions.
use Rattle.std.specs.Prelude.{ℕ, ◌+◌, List, ◌++◌, length, take, drop}
use Rattle.pages.specs.Lists.{flat}
use Rattle.pages.specs.Bytes.{eight, from_eight}

-- the number that the eight bytes at a place spell; where there are fewer, the number that these spell
abbrev pub number_at : List ℕ → ℕ → ℕ
number_at bs at = from_eight 0 (take 8 (drop at bs))

-- some bytes over those that stood there
unfoldable pub written : List ℕ → ℕ → List ℕ → List ℕ
written out at bs = take at out ++ (bs ++ drop (at + length bs) out)

-- some numbers, each in eight bytes
abbrev pub in_eights : List ℕ → List ℕ
in_eights ns = flat eight ns
