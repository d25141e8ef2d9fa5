-- Laws of where a text ends: no run goes on past it, a word that was found was to come, and a part whose bounds are held within it.
use Rattle.std.proofs.Common.{◌≡◌, ℕ, ◌+◌, ◌-◌, ◌≤◌, min, Bool, List, length, take, drop, sym, ap, ◌∙◌, ⊎_elim, arith, length-drop}
use lib.Seq.{take-nil}
use Rattle.std.proofs.lemmas.List.{at_drop_all, drop_all, take_all}
use Rattle.std.proofs.lemmas.Bool.{cases_lt}
use Rattle.words.specs.Stretches.{run, to_come, Found}
use Rattle.words.specs.declared.Word.{Word}

pub run_ends : (of : Bool) (bs : List ℕ) (i : ℕ) → length bs ≤ i → run of (drop i bs) ≡ 0
unfolding run
run_ends of bs i h = at_drop_all (run of) bs i h

pub some_to_come : (bs : List ℕ) (at : ℕ) (w : Word) → Found bs at w → 1 ≤ length (to_come bs at)
some_to_come bs at w f = let e = ap length f.comes in omega arith

-- a part of a list whose bounds are held within the list
pub clamped : (bs : List ℕ) (start n s m : ℕ) → s ≡ min start (length bs) → m ≡ min n (length bs - s) → take (s + m - s) (drop s bs) ≡ take n (drop start bs)
clamped bs start n s m e f =
    ⊎_elim
    (λ l. let g : s ≡ start = omega arith in
    let h : s + m - s ≡ m = omega arith in
    ⊎_elim
    (λ k. let i : m ≡ n = omega arith in (λ j. take ((h ∙ i) j) (drop (g j) bs)))
    (λ k. take_all _ (drop s bs) (omega (arith, length-drop s bs)) ∙ sym (take_all n (drop s bs) (omega (arith, length-drop s bs))) ∙ ap (λ t. take n (drop t bs)) g)
    (cases_lt n (length bs - s)))
    (λ l. ap (take (s + m - s)) (drop_all s bs (omega arith)) ∙ take-nil (s + m - s) ∙ sym (ap (take n) (drop_all start bs l) ∙ take-nil n))
    (cases_lt start (length bs))
