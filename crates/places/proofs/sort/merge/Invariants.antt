use Rattle.places.proofs.Merged.{Merging}
use Rattle.places.proofs.sort.merge.Given as goal

abbrev pub invariant-loop-cell : goal.invariant-loop-cell
invariant-loop-cell l = Merging l.texts.title.now l.texts.body.now l.left l.right l.cell-index l.lefts l.rights l.out
