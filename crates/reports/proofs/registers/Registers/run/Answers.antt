use Rattle.reports.proofs.Stepping.{turn_acts, turn_goes, turns_out}
use Rattle.reports.proofs.registers.Registers.run.Goals as goal

pub returns-in-Some : goal.returns-in-Some
returns-in-Some c = turn_acts _ _ _ _ _ _ _ _ c.loop.invariant c.loop-test.true c.in-Some.ensures

pub loop-preserved : goal.loop-preserved
loop-preserved c = turn_goes _ _ _ _ _ _ _ c.loop.invariant c.loop-test.true c.in_default.ensures

pub returns : goal.returns
returns c = turns_out _ _ _ _ _ c.loop.invariant c.loop-test.false
