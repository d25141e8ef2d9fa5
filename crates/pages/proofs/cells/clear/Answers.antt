use Rattle.pages.specs.Lists.{zeros}
use Rattle.pages.proofs.cells.clear.Goals as goal

pub returns : goal.returns
unfolding zeros
returns c = c.fill.ensures.after (λ y e. e)
