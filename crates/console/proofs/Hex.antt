-- Hexadecimal digits as the library reads and writes them. Assumes nothing.
use Rattle.std.proofs.Common.{◌≡◌, ℕ, zero, suc, ◌+◌, ◌*◌, ◌/◌, ◌%◌, ◌<◌, Bool, true, false, ◌&&◌, eqb, List, [], ◌∷◌, length, get_or, take, Option, Some, None, Result, Ok, Err, Vec, vec_items, sym, refl, ap, ◌∙◌, inl, inr, arith, length-take}
use Rattle.std.proofs.lemmas.Bool.{and_parts, eqb-true, cases_lt}
use Rattle.std.proofs.lemmas.List.{get_or-take}
use Rattle.std.proofs.lemmas.List.Recursion.{and_from_places}
use Rattle.std.specs.Char.{is_ascii_hexdigit}
use Rattle.std.specs.List.{AllWithin, HoldsAt}
use Rattle.std.specs.Option.{MatchOption}
use Rattle.std.specs.Result.{IfOk, MatchResult}
use Rattle.std.specs.declared.alloc.Global.{Global}
use Rattle.pages.specs.Lists.{every}
use Rattle.hex.specs.Hex.{encode_with, lower_digits, hex_digit_value, value_at, digit_or_error, decode_pairs, decode_of}
use Rattle.hex.proofs.HexLemmas.{decode_of-even}
use Rattle.hex.specs.declared.error.FromHexError.{FromHexError}
use Rattle.console.specs.declared.digits.BadHex.{BadHex}
use Rattle.console.specs.declared.digits.BadHex.TheVariants.{NoMemory}
use Rattle.console.specs.Hex.{digit, in_hex, worth, is_digit, from_hex, BadAt, HexRead}

-- the first n digits are those of the library's table, which computes
same_below : ℕ → Bool
same_below zero = true
same_below (suc n) = eqb (get_or lower_digits n 0) (digit n) && same_below n

digit_below : (n k : ℕ) → same_below n ≡ true → k < n → get_or lower_digits k 0 ≡ digit k
unfolding same_below
digit_below zero k same less = absurd (omega arith)
digit_below (suc n) k same less =
    let parts = and_parts (eqb (get_or lower_digits n 0) (digit n)) (same_below n) same in
    elim (cases_lt k n) [
      | inl below ↦ digit_below n k parts.1 below
      | inr top ↦
          let e : k ≡ n = omega arith in
          rw e (eqb-true _ _ parts.0)
    ]

digit_at : (k : ℕ) → k < 16 → get_or lower_digits k 0 ≡ digit k
unfolding same_below
digit_at k less = digit_below 16 k refl less

-- bytes in digits
pub encoded : (bs : List ℕ) → ((i : ℕ) → get_or bs i 0 < 256) → encode_with lower_digits bs ≡ in_hex bs
unfolding encode_with
encoded [] small = refl
encoded (b ∷ bs) small =
    let here : b < 256 = small 0 in
    let high = digit_at (b / 16) (omega arith) in
    let low = digit_at (b % 16) (omega arith) in
    let rest = encoded bs (λ i. small (suc i)) in
    rw (high, low, rest)

-- a digit
pub digit_so : (c : ℕ) → is_ascii_hexdigit c ≡ is_digit c
digit_so c = grind (arith)

-- what is found where the library looks for the first byte that is no digit
abbrev pub Digit : ℕ → Type 0
Digit c = is_ascii_hexdigit c ≡ true

abbrev pub NoDigit : ℕ → Type 0
NoDigit c = is_ascii_hexdigit c ≡ false

pub found_bad : (text : List ℕ) (r : Option ℕ) → MatchOption r (AllWithin Digit text 0 (length text)) (λ i. (i < length text) × HoldsAt NoDigit text i × AllWithin Digit text 0 i) →
    MatchOption r (every is_digit text ≡ true) (BadAt text)
found_bad text None all = and_from_places (every is_digit) is_digit refl (λ _ _. refl) text 0 (λ k less. sym (digit_so (get_or text k 0)) ∙ all k 0 (omega arith) less)
found_bad text (Some i) found = (
  found.0,
  sym (digit_so (get_or text i 0)) ∙ found.1 0,
  and_from_places (every is_digit) is_digit refl (λ _ _. refl) (take i text) 0
      (λ k less.
      let here : k < i = omega (arith, length-take i text) in
      ap is_digit (get_or-take i text k 0 here) ∙ sym (digit_so (get_or text k 0)) ∙ found.2 k 0 (omega arith) here),
)

some_worth : (c : ℕ) → is_digit c ≡ true → hex_digit_value c ≡ Some (worth c)
some_worth c is = grind (arith)

value_so : (c i : ℕ) → is_digit c ≡ true → value_at c i ≡ Ok (worth c)
value_so c i is = ap (digit_or_error c i) (some_worth c is)

-- digits as bytes
pub decoded : (i : ℕ) (cs : List ℕ) → every is_digit cs ≡ true → length cs % 2 ≡ 0 → decode_pairs i cs ≡ Ok (from_hex cs)
unfolding decode_pairs
decoded i [] all even = refl
decoded i (c ∷ []) all even = absurd (omega arith)
decoded i (c ∷ d ∷ cs) all even =
    let first = and_parts (is_digit c) (every is_digit (d ∷ cs)) all in
    let second = and_parts (is_digit d) (every is_digit cs) first.1 in
    let rest = decoded (i + 2) cs second.1 (omega arith) in
    let order : worth c * 16 + worth d ≡ 16 * worth c + worth d = omega arith in
    rw (value_so c i first.0, value_so d (i + 1) second.0, rest, order)

-- of digits, and an even number of them, what is read as the library reads it
pub read_so : (text : List ℕ) (r : Result (Vec ℕ Global) BadHex) → every is_digit text ≡ true → length text % 2 ≡ 0 → MatchResult r (λ v. decode_of text ≡ Ok (vec_items v)) (λ e. e ≡ NoMemory) → HexRead text r
read_so text (Ok v) all even read =
    let whole : Ok (from_hex text) ≡ Ok (vec_items v) = sym (decode_of-even text even ∙ decoded 0 text all even) ∙ read in
    (all, even, cc)
read_so text (Err e) all even same = rw same tt

-- of digits, and an even number of them, what the library reads
pub all_read : (text : List ℕ) (d : Result (Vec ℕ Global) FromHexError) (r : Result (Vec ℕ Global) BadHex) → every is_digit text ≡ true → length text % 2 ≡ 0 → IfOk d (λ v. decode_of text ≡ Ok (vec_items v)) →
    MatchResult d (λ v. r ≡ Ok v) (λ e. r ≡ Err NoMemory) → HexRead text r
all_read text (Ok v) r all even read same = read_so text r all even (rw same read)
all_read text (Err e) r all even read same = read_so text r all even (rw same refl)
