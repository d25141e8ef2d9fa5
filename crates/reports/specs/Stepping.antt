-- What the parts of a step do, by the machine's definitions: what an event is, a move, and moves until there is an act. For each case of an answer
-- its number and values. Assumes nothing: these are definitions.
use Rattle.std.specs.Prelude.{◌≡◌, ℕ, zero, suc, List, Some, None, Option}
use Rattle.reports.specs.Run.{Event, on, said, page, next, Step}
use Rattle.reports.specs.Moves.{Moved, goes, acts, moves}
use Rattle.reports.specs.Machine.{St, move, store, most_moves}
use Rattle.reports.specs.Entry.{ActTold}
use Rattle.reports.specs.declared.registers.Registers.{Registers}
use Rattle.reports.specs.declared.events.Event.{Event as Heard}
use Rattle.reports.specs.declared.events.Event.TheVariants.{On, Said, Page, Next}
use Rattle.reports.specs.declared.Told.{Told}

abbrev pub event_told : Heard → Event
event_told (On n) = on n
event_told (Said t) = said t.now
event_told (Page p) = page p.now
event_told Next = next

abbrev pub state : Registers → List ℕ → St
state r rest = record { registers = r; rest = rest }

-- a move as it is told: an act, or none; and what stands in the lent row
abbrev pub MovedSo : Moved St → List ℕ → (out : List ℕ) → Option Told → Registers → (out₁ : List ℕ) → Type 0
MovedSo (goes st) rest out None r out₁ = (st ≡ state r rest) × (out₁ ≡ out)
MovedSo (goes st) rest out (Some t) r out₁ = zero ≡ suc zero
MovedSo (acts st a) rest out None r out₁ = zero ≡ suc zero
MovedSo (acts st a) rest out (Some t) r out₁ = (st ≡ state r rest) × ActTold a t out out₁

abbrev pub MoveSays : Registers → List ℕ → (out : List ℕ) → Option Told → Registers → (out₁ : List ℕ) → Type 0
MoveSays r rest out t r₁ out₁ = MovedSo (move (state r rest)) rest out t r₁ out₁

abbrev pub StepIs : Step → List ℕ → (out : List ℕ) → Told → Registers → (out₁ : List ℕ) → Type 0
StepIs s rest out t r out₁ = (s.memory ≡ store (state r rest)) × ActTold s.act t out out₁

abbrev pub MovesSay : Registers → List ℕ → (out : List ℕ) → Told → Registers → (out₁ : List ℕ) → Type 0
MovesSay r rest out t r₁ out₁ = StepIs (moves store move most_moves (state r rest)) rest out t r₁ out₁
