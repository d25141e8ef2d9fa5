use Rattle.std.proofs.Common.{Bool, drop, sym, ap, ◌∙◌, subst}
use Rattle.reports.specs.Registers.{register_count}
use Rattle.reports.specs.Machine.{told}
use Rattle.reports.specs.Stepping.{event_told}
use Rattle.reports.specs.Entry.{TellSays}
use Rattle.reports.proofs.Stepping.{told_fits, stepped}
use Rattle.reports.proofs.machine.tell.Goals as goal

pub returns-clause-says : goal.returns-clause-says
returns-clause-says c =
    let m = c.args.memory.now in
    let o = c.args.out.now in
    let ev = event_told c.args.event in
    let is = c.take_in-registers.ensures ∙ ap (λ r. told r ev) c.load.ensures in
    subst (λ (b : Bool). TellSays m ev o b c.run-act.result c.store.new.memory c.run-act.new.out) (sym (told_fits m o c.if-memory-ne-CELLS.false c.if-out-lt-ROW.false))
    (stepped m ev _ _ _ _ o _ c.if-memory-ne-CELLS.false is (c.run-act.ensures (drop register_count m)) c.store.ensures)
