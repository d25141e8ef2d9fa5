-- What the driver does with what the engine asks for. Assumes nothing: these are definitions.
use Rattle.std.specs.Prelude.{◌≡◌, ℕ, ◌⊎◌, List, [], map, vec_items, ◌≢◌}
use Rattle.pages.specs.Device.{Page, Device}
use Rattle.reports.specs.Run.{World, Event, page, Act, Step, in_memory, on_device, one_act, ran, woken, ran_as}
use Rattle.reports.specs.Run as run
use Rattle.reports.specs.Entry.{ActTold}
use Rattle.reports.specs.Stepping.{event_told}
use Rattle.reports.specs.Machine.{own}
use Rattle.reports.specs.declared.Told.{Told}
use Rattle.std.specs.declared.ops.ControlFlow.{ControlFlow}
use Rattle.std.specs.declared.ops.ControlFlow.TheVariants.{Continue, Break}
use Rattle.driver.specs.declared.machine.End.{End}
use Rattle.driver.specs.declared.machine.End.TheVariants as end
use Rattle.driver.specs.declared.machine.Next.{Next}
use Rattle.driver.specs.declared.machine.Next.TheVariants as tells
use Rattle.driver.specs.declared.machine.Ran.{Ran}

-- what the engine is told: an event, or the page that was read last
abbrev pub meant : Next → Page → Event
meant (tells.Event e) p = event_told e
meant tells.Page p = page p

-- how a command ended, by number
abbrev pub end_number : End → ℕ
end_number end.Done = 0
end_number (end.Refused k) = k
end_number end.Stopped = 1000

-- the rows that were shown
abbrev pub rows_of : Ran → List (List ℕ)
rows_of r = map vec_items (vec_items r.rows)

-- a step of the engine, as it is told
abbrev pub ToldSo : Step → Told → List ℕ → List ℕ → List ℕ → Type 0
ToldSo s told lent m₁ lent₁ = (m₁ ≡ s.memory) × ActTold s.act told lent lent₁

-- an act that is a fault of the engine's, whatever would follow
abbrev pub Faulty : World → Act → Type 0
Faulty w act = (go : World → Event → List (List ℕ) → ℕ → run.Ran) (ss : List (List ℕ)) (r : ℕ) (m : List ℕ) → (one_act go w ss r m act).end ≡ 1001

-- an act done as it should be, by a device that may stand for that of the world w: what is told next, or how the command ended; and the rows shown
-- and the pages read and written, before it and after it
abbrev pub Acted : {D : Type 0} → (D → Device → Type 0) → World → Act → List (List ℕ) → ℕ → ControlFlow End Next → Page → D → List (List ℕ) → ℕ → Type 0
Acted stands w act ss r (Continue told) p x ss₁ r₁ =
    (d : Device) × stands x d
    × ((go : World → Event → List (List ℕ) → ℕ → run.Ran) (m : List ℕ) → one_act go w ss r m act ≡ go (on_device m d) (meant told p) ss₁ r₁)
Acted stands w act ss r (Break e) p x ss₁ r₁ =
    stands x w.device × (e ≢ end.Stopped)
    × ((go : World → Event → List (List ℕ) → ℕ → run.Ran) (m : List ℕ) → one_act go w ss r m act ≡ ran (in_memory w m) ss₁ r₁ (end_number e))

-- how it should have gone, and how it went: the device and the memory afterwards, what was shown, how many pages were read and written, and the end.
-- A run that comes to a fault of the engine's is not followed further: the engine promises that there is none
abbrev pub Same : {D : Type 0} → (D → Device → Type 0) → run.Ran → D → List ℕ → Ran → Type 0
Same stands o x m r =
    (o.end ≡ 1001)
    ⊎ (stands x o.here.device × (m ≡ o.here.memory) × (rows_of r ≡ o.showed) × (r.pages ≡ o.pages_used) × (end_number r.end ≡ o.end))

-- told this, with so many acts at most, in any world whose device and memory these may stand for
abbrev pub Went : {D : Type 0} → (D → Device → Type 0) → ℕ → Event → D → List ℕ → D → List ℕ → Ran → Type 0
Went stands acts ev x m x₁ m₁ r = (w : World) → stands x w.device → w.memory ≡ m → Same stands (run.runs acts own w ev [] 0) x₁ m₁ r

-- power, and a command
abbrev pub Powered : {D : Type 0} → (D → Device → Type 0) → ℕ → D → D → List ℕ → Ran → Type 0
Powered stands acts x x₁ m₁ r = (w : World) → stands x w.device → Same stands (woken own acts w) x₁ m₁ r

abbrev pub Commanded : {D : Type 0} → (D → Device → Type 0) → ℕ → List ℕ → D → List ℕ → D → List ℕ → Ran → Type 0
Commanded stands acts bs x m x₁ m₁ r = (w : World) → stands x w.device → w.memory ≡ m → Same stands (ran_as own acts w bs) x₁ m₁ r
