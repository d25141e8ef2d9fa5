use Rattle.questions.proofs.Pairs.{Kept}
use Rattle.questions.proofs.picking.keep_best.Given as goal

abbrev pub invariant-loop-pair : goal.invariant-loop-pair
invariant-loop-pair l = Kept l.hits l.most l.initial.out l.pair-iterator.iter.rest.now l.held l.out
