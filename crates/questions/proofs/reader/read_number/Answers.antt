use Rattle.std.proofs.Common.{◌≡◌, List, ℕ, [], ◌∷◌, ◌≤◌, None, take, drop, length, sym, ap, ◌∙◌, arith, rules, tests}
use Rattle.std.specs.Int.{w64, from_be_bytes}
use Rattle.std.proofs.lemmas.List.{length-take-le, take_rest}
use Rattle.pages.specs.Bytes.{from_eight}
use Rattle.questions.specs.Reading.{got, read_part, read_number}
use Rattle.questions.proofs.Reading.{part_told, part_here, then_on, then_none}
use Rattle.questions.proofs.reader.read_number.Goals as goal

-- what eight bytes spell, as the library reads them
eight_spell : (xs : List ℕ) → length xs ≡ 8 → from_be_bytes w64 xs ≡ from_eight 0 xs
unfolding from_eight
eight_spell [] l = absurd (omega arith)
eight_spell (a ∷ []) l = absurd (omega arith)
eight_spell (a ∷ b ∷ []) l = absurd (omega arith)
eight_spell (a ∷ b ∷ c ∷ []) l = absurd (omega arith)
eight_spell (a ∷ b ∷ c ∷ d ∷ []) l = absurd (omega arith)
eight_spell (a ∷ b ∷ c ∷ d ∷ e ∷ []) l = absurd (omega arith)
eight_spell (a ∷ b ∷ c ∷ d ∷ e ∷ f ∷ []) l = absurd (omega arith)
eight_spell (a ∷ b ∷ c ∷ d ∷ e ∷ f ∷ g ∷ []) l = absurd (omega arith)
eight_spell (a ∷ b ∷ c ∷ d ∷ e ∷ f ∷ g ∷ h ∷ []) l = omega arith
eight_spell (a ∷ b ∷ c ∷ d ∷ e ∷ f ∷ g ∷ h ∷ i ∷ xs) l = absurd (omega arith)

pub returns-in_err-eight : goal.returns-in_err-eight
unfolding read_number
returns-in_err-eight c = rw c.from_residual.ensures (then_none _ (part_told 8 c.args.bytes.now None c.in_err-eight.ensures.cases))

-- `take_rest` is for a body that cuts off the first eight bytes itself: it is proved, and one that cuts elsewhere is refused for that.
pub returns : goal.returns
unfolding read_number
returns c =
    let bs = c.args.bytes.now in
    let eight = c.in_ok-eight.eight.now in
    let first : eight ≡ take 8 bs = c.in_ok-eight.ensures.cases.0 in
    let rest : c.in_ok-eight.rest.now ≡ drop 8 bs = c.in_ok-eight.ensures.cases.1 in
    let long : 8 ≤ length bs = omega (arith, c.in_ok-eight.ensures.cases.2) in
    let part : read_part 8 bs ≡ got eight c.in_ok-eight.rest.now = part_here 8 bs long ∙ ap (λ xs. got xs (drop 8 bs)) (sym first) ∙ ap (got eight) (sym rest) in
    let spelt = c.from_be_bytes.ensures ∙ eight_spell eight (ap length first ∙ length-take-le 8 bs long) in
    then_on _ part ∙ ap (λ n. got n c.in_ok-eight.rest.now) (sym spelt) ∙ ap (got c.from_be_bytes.result) (search (rules, tests, rest, take_rest))
