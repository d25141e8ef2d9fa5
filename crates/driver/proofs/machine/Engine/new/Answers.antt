use Rattle.std.proofs.Common.{arith}
use Rattle.driver.proofs.machine.Engine.new.Goals as goal

-- found alone, too, but a row that is too short is refused at once by this
pub invariant_of-result : goal.invariant_of-result
invariant_of-result g c = record { sized = (c.in_ok-memory.ensures.len, omega (arith, c.in_ok-lent.ensures.len)) }
