use Rattle.std.proofs.Common.{ap}
use Rattle.driver.specs.Acts.{meant}
use Rattle.driver.proofs.Running.{told_so}
use Rattle.driver.proofs.machine.Engine.tell.Goals as goal

pub returns-in-Event-clause-says : goal.returns-in-Event-clause-says
returns-in-Event-clause-says g c =
    let self = c.args.self.now in
    told_so self.memory.items self.lent.items _ _ _ _ self.memory.len self.lent.len _ _ _ (ap (λ e. meant e self.page) c.in-Event.is)
    c.as_mut_slice-memory.ensures.value c.as_mut_slice-lent.ensures.value self.sized.0 self.memory.ok.0 self.sized.1 self.lent.ok.0
    c.tell.auto.memory c.tell.auto.out c.tell.ensures.says

pub returns-in-Page-clause-says : goal.returns-in-Page-clause-says
returns-in-Page-clause-says g c =
    let self = c.args.self.now in
    told_so self.memory.items self.lent.items _ _ _ _ self.memory.len self.lent.len _ _ _ (ap (λ e. meant e self.page) c.in-Page.is)
    c.as_mut_slice-memory.ensures.value c.as_mut_slice-lent.ensures.value self.sized.0 self.memory.ok.0 self.sized.1 self.lent.ok.0
    c.tell-in-Page.auto.memory c.tell-in-Page.auto.out c.tell-in-Page.ensures.says
