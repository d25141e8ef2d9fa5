use Rattle.reports.specs.Command.{spelled}
use Rattle.console.proofs.spelling.spell_remove.Goals as goal

pub returns : goal.returns
unfolding spelled
returns c = c.tagged.ensures
