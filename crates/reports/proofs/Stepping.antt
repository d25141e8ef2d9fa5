-- Laws of the parts of a step, for the proofs of the functions that make it. Assumes nothing.
use Rattle.std.proofs.Common.{◌≡◌, ℕ, suc, ◌+◌, ◌-◌, ◌<◌, ◌≤◌, true, false, eqb, ◌⊎◌, List, [], length, drop, Some, None, sym, refl, ap, ◌∙◌, subst, inl, inr, arith, eq-eqb, ne_eqb, le-leb}
use mathlib.Core.Bool.{and-false}
use borrow.Author.Tests.{lt-leb}
use Rattle.pages.proofs.Device.{length_zeros}
use Rattle.reports.specs.Run.{Event, Step}
use Rattle.reports.specs.Moves.{Moved, goes, acts, after_move, moves}
use Rattle.pages.specs.Places.{written}
use Rattle.reports.specs.Registers.{register_numbers, register_count, registers_in}
use Rattle.reports.specs.Machine.{St, move, move_at, with_rest, store, load, told, most_moves, cells, after_event, own, own_step}
use Rattle.reports.specs.Entry.{tell_fits, step_fits, ActTold}
use Rattle.reports.specs.Stepping.{state, MovedSo, MoveSays, StepIs, MovesSay}
use Rattle.reports.specs.declared.registers.Registers.{Registers}
use Rattle.reports.specs.declared.Told.{Told}
use Rattle.reports.specs.declared.Told.TheVariants.{Flush}

-- a move, by what the machine is at
pub move_is : (r : Registers) (rest : List ℕ) → move (state r rest) ≡ with_rest rest (move_at r.phase r)
unfolding move
move_is r rest = refl

-- a move without an act: the moves that are left go on from where it led, and the lent row is as it was
pub moved_on : (m : Moved St) (rest out out₁ : List ℕ) (r : Registers) (f : ℕ) → MovedSo m rest out None r out₁ → (after_move store (moves store move f) m ≡ moves store move f (state r rest)) × (out₁ ≡ out)
moved_on (goes st) rest out out₁ r f h = (ap (moves store move f) h.0, h.1)
moved_on (acts st a) rest out out₁ r f h = absurd (omega (arith, h))

-- a move with an act ends the step
pub moved_out : (m : Moved St) (rest out out₁ : List ℕ) (t : Told) (r : Registers) (f : ℕ) → MovedSo m rest out (Some t) r out₁ → StepIs (after_move store (moves store move f) m) rest out t r out₁
moved_out (goes st) rest out out₁ t r f h = absurd (omega (arith, h))
moved_out (acts st a) rest out out₁ t r f h = (ap store h.0, h.1)

pub one_more : (f : ℕ) (st : St) → moves store move (suc f) st ≡ after_move store (moves store move f) (move st)
unfolding moves
one_more f st = refl

-- one turn further: what is left after a move comes to what was to be done from the start
pub turned : (r₀ r : Registers) (rest : List ℕ) (i : ℕ) → i < most_moves → moves store move (most_moves - i) (state r rest) ≡ moves store move most_moves (state r₀ rest) →
    after_move store (moves store move (most_moves - (i + 1))) (move (state r rest)) ≡ moves store move most_moves (state r₀ rest)
turned r₀ r rest i h inv =
    let e : suc (most_moves - (i + 1)) ≡ most_moves - i = omega arith in
    sym (one_more (most_moves - (i + 1)) _) ∙ ap (λ n. moves store move n (state r rest)) e ∙ inv

-- A TURN OF THE LOOP: with so many moves made and none of them an act, one more is an act, or the count is out, or there is none
pub record TurnsLeft (r₀ r : Registers) (out₀ out : List ℕ) (i : ℕ) : Type 0 where
  pub row_is : out ≡ out₀
  pub come_to : (rest : List ℕ) → moves store move (most_moves - i) (state r rest) ≡ moves store move most_moves (state r₀ rest)

pub turn_acts : (r₀ r r₁ : Registers) (out₀ out out₁ : List ℕ) (i : ℕ) (t : Told) → TurnsLeft r₀ r out₀ out i → i < most_moves →
    ((rest : List ℕ) → MoveSays r rest out (Some t) r₁ out₁) → (rest : List ℕ) → MovesSay r₀ rest out₀ t r₁ out₁
turn_acts r₀ r r₁ out₀ out out₁ i t inv h says rest =
    subst (λ (o : List ℕ). StepIs (moves store move most_moves (state r₀ rest)) rest o t r₁ out₁) inv.row_is
    (subst (λ (s : Step). StepIs s rest out t r₁ out₁) (turned r₀ r rest i h (inv.come_to rest))
    (moved_out (move (state r rest)) rest out out₁ t r₁ (most_moves - (i + 1)) (says rest)))

pub turn_goes : (r₀ r r₁ : Registers) (out₀ out out₁ : List ℕ) (i : ℕ) → TurnsLeft r₀ r out₀ out i → i < most_moves →
    ((rest : List ℕ) → MoveSays r rest out None r₁ out₁) → TurnsLeft r₀ r₁ out₀ out₁ (i + 1)
turn_goes r₀ r r₁ out₀ out out₁ i inv h says =
    let on : (rest : List ℕ) → (after_move store (moves store move (most_moves - (i + 1))) (move (state r rest)) ≡ moves store move (most_moves - (i + 1)) (state r₁ rest)) × (out₁ ≡ out) =
    λ rest. moved_on (move (state r rest)) rest out out₁ r₁ (most_moves - (i + 1)) (says rest) in
    record { row_is = (on []).1 ∙ inv.row_is; come_to = λ rest. sym (on rest).0 ∙ turned r₀ r rest i h (inv.come_to rest) }

pub turns_out : (r₀ r : Registers) (out₀ out : List ℕ) (i : ℕ) → TurnsLeft r₀ r out₀ out i → most_moves ≤ i → (rest : List ℕ) → MovesSay r₀ rest out₀ Flush r out
unfolding moves ActTold
turns_out r₀ r out₀ out i inv h rest =
    let e : 0 ≡ most_moves - i = omega arith in
    subst (λ (s : Step). StepIs s rest out₀ Flush r out) (ap (λ n. moves store move n (state r rest)) e ∙ inv.come_to rest) (refl, (refl, inv.row_is))

-- the engine's own length, as the step compares it
pub own_length : length own.start ≡ cells
unfolding own
own_length = length_zeros cells

pub told_fits : (m out : List ℕ) → length m ≡ cells → 131072 ≤ length out → tell_fits m out ≡ true
unfolding tell_fits
told_fits m out h o =
    let e : eqb (length m) (length own.start) ≡ true = eq-eqb _ _ (h ∙ sym own_length) in
    simp (e, le-leb 131072 (length out) o)

pub told_not : (m out : List ℕ) → (length m ≡ cells → ⊥) ⊎ ((length m ≡ cells) × (length out < 131072)) → tell_fits m out ≡ false
unfolding tell_fits
told_not m out (inl h) =
    let e : eqb (length m) (length own.start) ≡ false = ne_eqb _ _ (λ q. h (q ∙ own_length)) in
    simp e
told_not m out (inr h) = simp (lt-leb 131072 (length out) h.1, and-false)

-- a kind that there is asks for no more than an event does, and there is no step for another
pub kind_fits : (m : List ℕ) (k : ℕ) (bs out : List ℕ) → k ≤ 3 → tell_fits m out ≡ step_fits m k bs out
unfolding tell_fits step_fits
kind_fits m k bs out l = simp (le-leb k 3 l)

pub kind_not : (m : List ℕ) (k : ℕ) (bs out : List ℕ) → 3 < k → step_fits m k bs out ≡ false
unfolding step_fits
kind_not m k bs out l = simp (lt-leb k 3 l, and-false)

pub fits_so : (m : List ℕ) (k : ℕ) (bs out : List ℕ) → length m ≡ cells → k ≤ 3 → 131072 ≤ length out → step_fits m k bs out ≡ true
fits_so m k bs out h l o = sym (kind_fits m k bs out l) ∙ told_fits m out h o

pub fits_not : (m : List ℕ) (k : ℕ) (bs out : List ℕ) → (length m ≡ cells → ⊥) ⊎ (((length m ≡ cells) × (3 < k)) ⊎ ((length m ≡ cells) × (k ≤ 3) × (length out < 131072))) → step_fits m k bs out ≡ false
unfolding step_fits
fits_not m k bs out (inl h) =
    let e : eqb (length m) (length own.start) ≡ false = ne_eqb _ _ (λ q. h (q ∙ own_length)) in
    simp e
fits_not m k bs out (inr (inl h)) = simp (lt-leb k 3 h.1, and-false)
fits_not m k bs out (inr (inr h)) = simp (lt-leb 131072 (length out) h.2, and-false)

-- a step at a memory of the engine's own length
pub step_at : (m : List ℕ) (ev : Event) → length m ≡ cells → own.step m ev ≡ moves store move most_moves (after_event (load m) ev)
unfolding own own_step
step_at m ev h = simp (eq-eqb (length m) cells h)

-- A STEP FROM ITS PARTS: the registers taken from memory and told of the event, moves until there is an act, the registers put back
pub stepped : (m : List ℕ) (ev : Event) (r₀ r : Registers) (t : Told) (m₁ out out₁ : List ℕ) → length m ≡ cells → r₀ ≡ told (registers_in m) ev →
    StepIs (moves store move most_moves (state r₀ (drop register_count m))) (drop register_count m) out t r out₁ → m₁ ≡ written m 0 (register_numbers r) →
    (m₁ ≡ (own.step m ev).memory) × ActTold (own.step m ev).act t out out₁
unfolding load store written
stepped m ev r₀ r t m₁ out out₁ h is does put =
    let rest : List ℕ = drop register_count m in
    let whole : moves store move most_moves (state r₀ rest) ≡ own.step m ev = ap (λ x. moves store move most_moves (state x rest)) is ∙ sym (step_at m ev h) in
    let d : StepIs (own.step m ev) rest out t r out₁ = subst (λ (s : Step). StepIs s rest out t r out₁) whole does in
    (put ∙ sym d.0, d.1)
