use Rattle.words.proofs.Compared.{compared_cmp}
use Rattle.words.proofs.compare_keys.Goals as goal

pub returns : goal.returns
returns c = compared_cmp _ _ _ c.cmp.ensures
