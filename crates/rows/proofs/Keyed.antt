-- A key before zeros. Assumes nothing.
use Rattle.std.proofs.Common.{◌≡◌, ℕ, ◌-◌, ◌≤◌, List, ◌++◌, length, map, take, drop, replicate, sym, refl, ap, ◌∙◌, subst, arith, length-append}
use Rattle.std.specs.Char.{to_ascii_lowercase}
use Rattle.std.proofs.lemmas.List.{take_at, drop_at, length-replicate, length-map, length-take-le}
use Rattle.std.proofs.lemmas.Grind.{common_steps}
use Rattle.words.specs.Words.{small}
use Rattle.rows.specs.declared.key.Key.TheInside.{Inside}
use Rattle.rows.specs.Keys.{Padded}

padded_zeros : (xs : List ℕ) (n : ℕ) → length xs ≡ n → n ≤ 64 → Padded (record { bytes = xs ++ replicate (64 - n) 0; len = n })
padded_zeros xs n l h = record {
  short = h;
  long = simp (length-append, length-replicate) (omega arith);
  padded = ap (λ ys. ys ++ replicate (64 - n) 0) (sym (take_at xs (replicate (64 - n) 0) n l));
}

pub padded_by : (xs bs : List ℕ) → xs ≡ bs ++ replicate (64 - length bs) 0 → length bs ≤ 64 → Padded (record { bytes = xs; len = length bs })
padded_by xs bs e h = subst (λ (zs : List ℕ). Padded (record { bytes = zs; len = length bs })) (sym e) (padded_zeros bs (length bs) refl h)

-- the key of what was laid out so
pub key_before : (xs bs : List ℕ) → xs ≡ bs ++ replicate (64 - length bs) 0 → take (length bs) xs ≡ bs
key_before xs bs e = ap (take (length bs)) e ∙ take_at bs (replicate (64 - length bs) 0) (length bs) refl

-- a key with its capitals made small, and the zeros as they are
lower_is : (c : ℕ) → to_ascii_lowercase c ≡ small c
lower_is c = grind (arith, common_steps)

module _ (k : Inside) (p : Padded k) (low : List ℕ) (is : low ≡ map to_ascii_lowercase (take k.len k.bytes)) where
  front : length (take k.len k.bytes) ≡ k.len
  front = length-take-le k.len k.bytes (omega (arith, p.short, p.long))

  as_long : length low ≡ k.len
  as_long = ap length is ∙ length-map (take k.len k.bytes) to_ascii_lowercase ∙ front

  zeros_behind : drop k.len k.bytes ≡ replicate (64 - k.len) 0
  zeros_behind = ap (drop k.len) p.padded ∙ drop_at (take k.len k.bytes) (replicate (64 - k.len) 0) k.len front

  pub padded_small : Padded (record { bytes = low ++ drop k.len k.bytes; len = k.len })
  padded_small = subst (λ (zs : List ℕ). Padded (record { bytes = low ++ zs; len = k.len })) (sym zeros_behind) (padded_zeros low k.len as_long p.short)

  pub small_front : take k.len (low ++ drop k.len k.bytes) ≡ map small (take k.len k.bytes)
  small_front = take_at low (drop k.len k.bytes) k.len as_long ∙ is ∙ (λ i. map (λ c. lower_is c i) (take k.len k.bytes))
