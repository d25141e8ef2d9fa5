use Rattle.std.proofs.Common.{rules, tests}
use Rattle.pages.specs.Lists.{same}
use Rattle.words.proofs.Iterated.{any_word}
use Rattle.matching.proofs.texts.has_word.Goals as goal

pub returns : goal.returns
returns c = any_word (same c.args.word.now) c.args.text.now 0 _ c.any.new.self _ _ c.any.ensures.ran c.new.ensures.text c.new.ensures.first (λ x b q k. search (rules, tests))
