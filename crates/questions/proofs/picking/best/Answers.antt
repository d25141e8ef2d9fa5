use Rattle.std.proofs.Common.{◌≡◌, ℕ, zero, suc, ◌*◌, ◌<◌, min, List, ◌++◌, length, get_or, take, drop, Ok, Err, sym, refl, ap, ◌∙◌, subst, inl, inr, ⊎_elim, lit<, arith}
use Rattle.std.proofs.lemmas.Bool.{cases_lt}
use Rattle.std.proofs.lemmas.List.{length-map}
use Rattle.std.proofs.lemmas.Result.{err_from_is_err_and}
use Rattle.questions.specs.Order.{Hit, in_order}
use Rattle.questions.specs.Best.{smaller, hit_of, hits_of, all_hits, hits_out, refusal_number, refusal, BestSays}
use Rattle.questions.specs.declared.refusal.Refusal.{Refusal}
use Rattle.questions.specs.declared.refusal.Refusal.TheVariants.{CutShort, NotRising, NoRoom}
use Rattle.questions.proofs.Order.{length_in_order}
use Rattle.questions.proofs.Rows.{smaller_is, take_most}
use Rattle.questions.proofs.picking.best.Goals as goal

-- a refusal has a number
numbered : (why : Refusal) → 0 < refusal_number why
numbered CutShort = lit< tt
numbered NotRising = lit< tt
numbered NoRoom = lit< tt

says-refused : (hits out : List ℕ) (k n : ℕ) (why : Refusal) → n ≡ refusal_number why → BestSays hits out k n (Err why) out
unfolding BestSays
says-refused hits out k zero why e = absurd (omega (arith, numbered why))
says-refused hits out k (suc n) why e = ((why, refl, sym e), refl)

pub returns-in_err-counted : goal.returns-in_err-counted
returns-in_err-counted c =
    let p = err_from_is_err_and c.from_residual.result c.from_residual.ensures.1 in
    rw (p.1, p.2) (says-refused c.args.hits.now c.args.out.now c.args.k (refusal c.args.hits.now c.args.out.now c.args.k) c.in_err-counted.field-0.0 c.in_err-counted.ensures)

says-best : (hits out : List ℕ) (k most : ℕ) (pairs : List (List ℕ)) (out₁ : List ℕ) → refusal hits out k ≡ 0 → hits_of pairs ≡ all_hits hits → length pairs ≡ get_or hits 0 0 → most ≡ min k (length pairs) →
    out₁ ≡ hits_out (take most (in_order (hits_of pairs))) ++ drop (2 * smaller most (length pairs)) out → BestSays hits out k (refusal hits out k) (Ok most) out₁
unfolding BestSays
says-best hits out k most pairs out₁ none same is a e =
    let hs : List Hit = hits_of pairs in
    let n : ℕ = length pairs in
    let b : smaller most n ≡ smaller k n = omega (arith, smaller_is most n, smaller_is k n) in
    let len : length (in_order hs) ≡ n = length_in_order hs ∙ length-map pairs hit_of in
    let t : take most (in_order hs) ≡ take k (in_order hs) = take_most most k (in_order hs) (⊎_elim (λ l. inl (omega arith)) (λ l. inr (omega arith, omega arith)) (cases_lt k n)) in
    let f : out₁ ≡ hits_out (take k (in_order hs)) ++ drop (2 * smaller k n) out = e ∙ rw (t, b) in
    subst (λ (x : ℕ). BestSays hits out k x (Ok most) out₁) (sym none) (ap Ok (a ∙ sym (smaller_is k n) ∙ ap (smaller k) is), f ∙ rw (is, same))

pub returns : goal.returns
returns c =
    let f = c.in_ok-counted.ensures in
    says-best c.args.hits.now c.args.out.now c.args.k _ c.in_ok-counted.counted.now c.keep_best.new.out f.0 f.1 f.2 (omega arith) c.keep_best.ensures
