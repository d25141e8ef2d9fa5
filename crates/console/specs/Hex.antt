-- Bytes in hexadecimal digits. Assumes nothing: these are definitions.
use Rattle.std.specs.Prelude.{◌≡◌, ℕ, ◌+◌, ◌-◌, ◌*◌, ◌/◌, ◌%◌, ◌<◌, Bool, true, false, List, [], ◌∷◌, length, take, Ok, Err, vec_items, Result, Vec, nat_lt, slice_index}
use Rattle.std.specs.declared.alloc.Global.{Global}
use Rattle.pages.specs.Lists.{pick, every}
use Rattle.words.specs.Words.{between}
use Rattle.console.specs.declared.digits.BadHex.{BadHex}
use Rattle.console.specs.declared.digits.BadHex.TheVariants.{NotADigit, Odd, NoMemory}

-- 0 to 9 and a to f
abbrev pub digit : ℕ → ℕ
digit n = pick (nat_lt n 10) (48 + n) (87 + n)

-- two digits for each byte, the higher first
abbrev pub in_hex : List ℕ → List ℕ
in_hex [] = []
in_hex (b ∷ bs) = digit (b / 16) ∷ digit (b % 16) ∷ in_hex bs

-- what a digit is worth, small or capital; 16 for what is none
abbrev pub worth : ℕ → ℕ
worth c = pick (between 48 57 c) (c - 48) (pick (between 97 102 c) (c - 87) (pick (between 65 70 c) (c - 55) 16))

abbrev pub is_digit : ℕ → Bool
is_digit c = nat_lt (worth c) 16

abbrev pub from_hex : List ℕ → List ℕ
from_hex [] = []
from_hex (c ∷ []) = []
from_hex (c ∷ d ∷ cs) = (16 * worth c + worth d) ∷ from_hex cs

-- the first that is no digit stands at this place
abbrev pub BadAt : List ℕ → ℕ → Type 0
BadAt text place = (place < length text) × (is_digit (slice_index text place) ≡ false) × (every is_digit (take place text) ≡ true)

-- what a text of digits is read as, or what is wrong with it
abbrev pub HexRead : List ℕ → Result (Vec ℕ Global) BadHex → Type 0
HexRead text (Ok v) = (every is_digit text ≡ true) × (length text % 2 ≡ 0) × (vec_items v ≡ from_hex text)
HexRead text (Err (NotADigit place)) = BadAt text place
HexRead text (Err (Odd count)) = (every is_digit text ≡ true) × (length text % 2 ≡ 1) × (count ≡ length text)
HexRead text (Err NoMemory) = Unit {0}
