use Rattle.std.proofs.Common.{length}
use Rattle.places.proofs.sort.+sort.Given as goal

abbrev pub decreases-sort : goal.decreases-sort
decreases-sort l = length l.tokens.now
