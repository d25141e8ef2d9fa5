use Rattle.std.proofs.Common.{◌∙◌}
use Rattle.pages.specs.Lists.{each}
use Rattle.words.specs.Words.{small}
use Rattle.matching.proofs.Words.{same_turned}
use Rattle.matching.proofs.texts.is_word.Goals as goal

pub returns : goal.returns
returns c = c.is_eq.ensures ∙ c.compare_to_key.ensures.equal ∙ same_turned (each small c.args.bytes.now) c.args.word.now
