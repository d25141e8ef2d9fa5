-- A key as the code keeps it: the first `len` bytes of an array are the key, and those after it are 0. Assumes nothing: these are definitions, and
-- one law of them that the model of `Key` asks for: a key is laid out again as it was.
use Rattle.std.specs.Prelude.{◌≡◌, ℕ, ◌-◌, ◌≤◌, List, ◌++◌, length, take, replicate}
use Rattle.std.proofs.Common.{sym, ap, ◌∙◌, arith}
use Rattle.std.proofs.lemmas.List.{length-take-le}
use Rattle.rows.specs.declared.key.Key.TheInside.{Inside}

abbrev pub key_of : Inside → List ℕ
key_of k = take k.len k.bytes

pub record Padded (k : Inside) : Type 0 where
  pub short : k.len ≤ 64
  pub long : length k.bytes ≡ 64
  pub padded : k.bytes ≡ take k.len k.bytes ++ replicate (64 - k.len) 0

-- the array and the length of a key
abbrev pub laid_out : List ℕ → Inside
laid_out bs = record { bytes = bs ++ replicate (64 - length bs) 0; len = length bs }

pub laid_out_again : (k : Inside) → Padded k → laid_out (key_of k) ≡ k
laid_out_again k p =
    let short = p.short in
    let long = p.long in
    let n : length (take k.len k.bytes) ≡ k.len = length-take-le k.len k.bytes (omega arith) in
    λ i. record { bytes = (ap (λ m. take k.len k.bytes ++ replicate (64 - m) 0) n ∙ sym p.padded) i; len = n i }
