use Rattle.std.proofs.Common.{rules, tests}
use Rattle.pages.specs.Lists.{starts_with}
use Rattle.words.proofs.Iterated.{any_word}
use Rattle.matching.proofs.texts.has_beginning.Goals as goal

pub returns : goal.returns
returns c = any_word (starts_with c.args.start.now) c.args.text.now 0 _ c.any.new.self _ _ c.any.ensures.ran c.new.ensures.text c.new.ensures.first (λ x b q k. search (rules, tests))
