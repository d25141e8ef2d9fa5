-- How a step of the engine is told to the world outside. Assumes nothing: these are definitions.
use Rattle.std.specs.Prelude.{◌≡◌, ℕ, Bool, true, false, ◌&&◌, List, ◌++◌, length, take, drop, ◌==◌, nat_le}
use Rattle.pages.specs.Lists.{pick}
use Rattle.pages.specs.Bytes.{from_eight}
use Rattle.reports.specs.Run.{Event, on, said, page, next, Act, read, write, flush, shows, done, refused}
use Rattle.reports.specs.Machine.{own}
use Rattle.reports.specs.declared.Told.{Told}
use Rattle.reports.specs.declared.Told.TheVariants.{Read, Write, Flush, Shows, Done, No}

-- what the world tells is a kind and some bytes: 0 power, with a number of eight bytes, the highest first, 1 a command, 2 a page, 3 go on
unfoldable pub event_of : ℕ → List ℕ → Event
event_of k bs = pick (k == 0) (on (from_eight 0 (take 8 bs))) (pick (k == 1) (said bs) (pick (k == 2) (page bs) next))

unfoldable pub ActTold : Act → Told → (out out₁ : List ℕ) → Type 0
ActTold (read k) r out out₁ = (r ≡ Read k) × (out₁ ≡ out)
ActTold (write k p) r out out₁ = (r ≡ Write k) × (out₁ ≡ p ++ drop (length p) out)
ActTold flush r out out₁ = (r ≡ Flush) × (out₁ ≡ out)
ActTold (shows s) r out out₁ = (r ≡ Shows (length s)) × (out₁ ≡ s ++ drop (length s) out)
ActTold done r out out₁ = (r ≡ Done) × (out₁ ≡ out)
ActTold (refused k) r out out₁ = (r ≡ No k) × (out₁ ≡ out)

-- one step, told an event: for memories of the engine's own length and a lent row of 131,072 bytes; for others number 0 is told and nothing is changed
abbrev pub TellSays : (memory : List ℕ) → Event → (out : List ℕ) → Bool → Told → (memory₁ out₁ : List ℕ) → Type 0
TellSays memory ev out true r memory₁ out₁ = (memory₁ ≡ (own.step memory ev).memory) × ActTold (own.step memory ev).act r out out₁
TellSays memory ev out false r memory₁ out₁ = (r ≡ No 0) × (memory₁ ≡ memory) × (out₁ ≡ out)

unfoldable pub tell_fits : (memory out : List ℕ) → Bool
tell_fits memory out = length memory == length own.start && nat_le 131072 (length out)

-- the same, told a kind and some bytes; number 0 for other kinds, too
unfoldable pub StepSays : (memory : List ℕ) (kind : ℕ) (bytes out : List ℕ) → Bool → Told → (memory₁ out₁ : List ℕ) → Type 0
StepSays memory kind bytes out fits r memory₁ out₁ = TellSays memory (event_of kind bytes) out fits r memory₁ out₁

unfoldable pub step_fits : (memory : List ℕ) (kind : ℕ) (bytes out : List ℕ) → Bool
step_fits memory kind bytes out = length memory == length own.start && (nat_le kind 3 && nat_le 131072 (length out))
