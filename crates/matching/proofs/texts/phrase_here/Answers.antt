use Rattle.std.proofs.Common.{rules, tests, vec_items, length, nat_eq, ap, ◌∙◌}
use Rattle.std.proofs.lemmas.Iterator.{YieldsList-from_slice, YieldsList-from_zip}
use Rattle.std.proofs.lemmas.Iterator.Consumers.{YieldsList-at, count_from_yields_List}
use Rattle.std.proofs.lemmas.Iterator.Search.{YieldsList-from_take_while}
use Rattle.pages.specs.Lists.{same}
use Rattle.words.proofs.Iterated.{yields_words}
use Rattle.matching.proofs.Words.{here_counted}
use Rattle.matching.proofs.texts.phrase_here.Goals as goal

pub returns : goal.returns
returns c =
    let phrase = c.args.phrase.now in
    let text = c.args.text.now in
    ap (λ n. nat_eq n (length phrase))
    (count_from_yields_List c.take_while.result c.count-matched.result c.count-matched.ensures.ran
    (YieldsList-from_take_while _ (λ p. same (vec_items p.0) p.1)
    (YieldsList-at c.take_while.ensures.source
    (YieldsList-from_zip
    (YieldsList-at c.zip.ensures.first (YieldsList-from_slice phrase c.iter.ensures.rest))
    (YieldsList-at c.zip.ensures.second (yields_words text c.args.from _ c.from_offset.ensures.text c.from_offset.ensures.first))))
    c.take_while.ensures.closure c.take_while.ensures.done (λ x b q k. search (rules, tests))))
    ∙ here_counted vec_items phrase _
