use Rattle.std.proofs.Common.{◌≡◌, ℕ, ◌+◌, ◌-◌, ◌<◌, Bool, true, false, List, Option, length, min, take, drop, refl, ap, sym, ◌∙◌, ⊎_elim, rules, tests, arith, length-drop}
use Rattle.std.specs.Option.{MatchOption, unwrap_or}
use Rattle.std.specs.List.{AllWithin, HoldsAt}
use Rattle.std.proofs.lemmas.Bool.{cases_lt}
use Rattle.std.proofs.lemmas.List.{drop_all, take_all}
use Rattle.std.proofs.lemmas.Iterator.{IsFirst-from_position, YieldsList-from_slice, index_from_first}
use mathlib.Core.Bool.{beq}
use Rattle.words.specs.Words.{in_word}
use Rattle.words.specs.Stretches.{run}
use Rattle.words.proofs.Laws.{run_in, run_out, none_to_come, next_found}
use Rattle.words.proofs.word_from.Goals as goal

-- a byte that goes on with a run, or that ends it
abbrev Goes : Bool → ℕ → Type 0
Goes of b = beq (in_word b) of ≡ true

abbrev Stops : Bool → ℕ → Type 0
Stops of b = beq (in_word b) of ≡ false

-- what is read from a place on, held within the list, is what stands from there on
rest_from : (at m : ℕ) (bs : List ℕ) → m ≡ min at (length bs) → take (length bs - m) (drop m bs) ≡ drop at bs
rest_from at m bs e =
    take_all (length bs - m) (drop m bs) (omega (arith, length-drop m bs))
    ∙ ⊎_elim (λ l. ap (λ n. drop n bs) (omega arith)) (λ g. drop_all m bs (omega arith) ∙ sym (drop_all at bs g)) (cases_lt at (length bs))

-- the first byte that ends a run says how long it is
run_first : (of : Bool) (at m : ℕ) (bs : List ℕ) (r : Option ℕ) (n : ℕ) → m ≡ min at (length bs) →
    (let rest = take (length bs - m) (drop m bs) in
    MatchOption r (AllWithin (Goes of) rest 0 (length rest)) (λ i. (i < length rest) × HoldsAt (Stops of) rest i × AllWithin (Goes of) rest 0 i) →
    n ≡ unwrap_or r (length rest) → n ≡ run of (drop at bs))
unfolding run
run_first of at m bs r n e first is =
    is
    ∙ sym (index_from_first (run of) (Stops of) (Goes of) refl (λ b bs h. run_out of b bs h) (λ b bs h. let e = run_in of b bs h in omega arith) _ r first)
    ∙ ap (run of) (rest_from at m bs e)

pub returns-then-start-text : goal.returns-then-start-text
returns-then-start-text c =
    let first = IsFirst-from_position _ _ _ (Stops false) (Goes false) c.position.ensures.ran (YieldsList-from_slice _ c.iter.ensures.rest) (λ x q k. search (rules, tests)) (λ x q k. search (rules, tests)) in
    let gap = run_first false c.args.at c.min.result c.args.text.now _ _ (omega arith) first c.unwrap_or.ensures in
    none_to_come c.args.text.now c.args.at _ (ap (λ n. c.args.at + n) gap) (omega arith)

pub returns : goal.returns
returns c =
    let first = IsFirst-from_position _ _ _ (Stops false) (Goes false) c.position.ensures.ran (YieldsList-from_slice _ c.iter.ensures.rest) (λ x q k. search (rules, tests)) (λ x q k. search (rules, tests)) in
    let gap = run_first false c.args.at c.min.result c.args.text.now _ _ (omega arith) first c.unwrap_or.ensures in
    let start = c.args.at + c.unwrap_or.result in
    let last = IsFirst-from_position _ _ _ (Stops true) (Goes true) c.position-2.ensures.ran (YieldsList-from_slice _ c.iter-2.ensures.rest) (λ x q k. search (rules, tests)) (λ x q k. search (rules, tests)) in
    let more = run_first true (start + 1) (start + 1) c.args.text.now _ _ (omega arith) last c.unwrap_or-2.ensures in
    next_found c.args.text.now c.args.at start (ap (λ n. c.args.at + n) gap) _ _ (omega arith) (ap (λ n. start + 1 + n) more) (omega arith)
