use Rattle.reports.proofs.Stepping.{TurnsLeft}
use Rattle.reports.proofs.registers.Registers.run.Given as goal

-- the lent row is as it was, and what is left to do from here comes to what was to be done from the start
abbrev pub invariant-loop : goal.invariant-loop
invariant-loop l = TurnsLeft l.initial.self l.self l.initial.out l.out l.counter
