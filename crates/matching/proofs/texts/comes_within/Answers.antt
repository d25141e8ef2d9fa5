use Rattle.std.proofs.Common.{rules, tests}
use Rattle.std.proofs.lemmas.Iterator.{YieldsList-from_take}
use Rattle.std.proofs.lemmas.Iterator.Consumers.{YieldsList-at}
use Rattle.std.proofs.lemmas.Iterator.Search.{any_from_yields_List}
use Rattle.pages.specs.Lists.{same}
use Rattle.words.proofs.Iterated.{yields_words}
use Rattle.matching.proofs.texts.comes_within.Goals as goal

pub returns : goal.returns
returns c =
    any_from_yields_List (same c.args.key.now) c.any.new.self _ _ c.any.ensures.ran
    (YieldsList-from_take c.args.most (YieldsList-at c.take.ensures.source (yields_words c.args.text.now c.args.from _ c.from_offset.ensures.text c.from_offset.ensures.first)) c.take.ensures.count)
    (λ x b q k. search (rules, tests))
