use Rattle.std.proofs.Common.{◌≡◌, ℕ, ◌+◌, ◌*◌, ◌^◌, ◌<◌, ◌≤◌, get_or, take, refl, ap, ◌∙◌, arith, length-take}
use native.Mathlib.Nat.{pow-le-pow_right}
use Rattle.std.proofs.lemmas.List.{take_more}
use Rattle.pages.specs.Bytes.{from_eight}
use Rattle.pages.proofs.Bytes.{from_eight_push, from_eight_less}
use Rattle.pages.proofs.numbers.number.Goals as goal

-- before the last of eight bytes there is room for one more
room : (i n b : ℕ) → i < 8 → n < 256 ^ i → b < 256 → 256 * n + b < 18446744073709551616
room i n b h l s =
    let some : 0 < 256 = omega arith in
    let few : i ≤ 7 = omega arith in
    let p : 256 ^ i ≤ 256 ^ 7 = pow-le-pow_right some few in
    omega arith

pub loop-byte-init : goal.loop-byte-init
unfolding from_eight
loop-byte-init c = (refl, omega arith, simp length-take (omega (arith, c.min.ensures)))

pub overflow_mul-n : goal.overflow_mul-n
overflow_mul-n c = let h = room c.loop-byte.byte-index c.loop-byte.n 0 (omega arith) c.loop-byte.invariant.1 (omega arith) in record { fits = omega arith }

pub overflow_add-n : goal.overflow_add-n
overflow_add-n c =
    let h = room c.loop-byte.byte-index c.loop-byte.n c.from.result (omega arith) c.loop-byte.invariant.1 (omega (arith, c.from.ensures)) in
    record { fits = omega (arith, h, c.from.ensures) }

pub loop-byte-preserved : goal.loop-byte-preserved
loop-byte-preserved c =
    let xs = take c.min.result c.args.bytes.now in
    let i = c.loop-byte.byte-index in
    let b = get_or xs i 0 in
    let s : c.from.result < 256 = omega (arith, c.from.ensures) in
    let read : from_eight 0 (take (i + 1) xs) ≡ 256 * from_eight 0 (take i xs) + b = ap (from_eight 0) (take_more xs i 0 c.loop-byte-test.true) ∙ from_eight_push (take i xs) 0 b in
    let less = from_eight_less i c.loop-byte.n c.from.result c.loop-byte.invariant.1 s in (
      omega (arith, read, c.from.ensures, c.loop-byte.invariant.0),
      omega (arith, less),
      c.loop-byte.invariant.2,
    )
