use Rattle.std.proofs.lemmas.Slice.Eq.{slice_eq-Decides}
use Rattle.pages.proofs.Heads.{same_is}
use Rattle.pages.proofs.roots.same_copies.Goals as goal
use Rattle.std.proofs.lemmas.Bool.Decides.{Decides-eqb}

pub returns : goal.returns
returns c = same_is _ _ _ (slice_eq-Decides Decides-eqb _ _ _ c.eq.ensures)
