use Rattle.std.proofs.Common.{◌≡◌, ◌≤◌, [], vec_items}
use Rattle.reports.specs.Run.{World, runs}
use Rattle.reports.specs.Machine.{own}
use Rattle.reports.specs.Stepping.{event_told}
use Rattle.driver.specs.declared.machine.End.TheVariants.{Stopped}
use Rattle.driver.specs.Acts.{meant}
use Rattle.driver.proofs.Running.{SoFar}
use Rattle.driver.proofs.machine.Engine.run.Given as goal

abbrev pub invariant-loop : goal.invariant-loop
invariant-loop g l =
    (l.ran.pages ≤ l.counter) × (l.ran.end ≡ Stopped)
    × ((w : World) → g.D.Device.stands l.initial.self.device w.device → w.memory ≡ vec_items l.initial.self.memory →
    SoFar g.D.Device.stands (runs l.acts own w (event_told l.fn.first) [] 0) l.acts l.counter l.self.device
    (vec_items l.self.memory) (meant l.next l.self.page) l.ran)
