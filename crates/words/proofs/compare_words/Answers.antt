use Rattle.std.proofs.Common.{take, rules, tests, arith}
use Rattle.std.specs.Ordering.{nat_cmp, is_ne}
use Rattle.std.proofs.lemmas.Iterator.{YieldsList-from_slice, YieldsList-from_map, YieldsList-from_zip}
use Rattle.std.proofs.lemmas.Iterator.Consumers.{YieldsList-at}
use Rattle.std.proofs.lemmas.Iterator.Search.{find_from_yields_List}
use Rattle.words.specs.Words.{small}
use Rattle.words.proofs.Compared.{compared_cmp}
use Rattle.words.proofs.FirstDiffering.{order_found}
use Rattle.words.proofs.compare_words.Goals as goal

pub returns : goal.returns
returns c =
    let a = c.args.a.now in
    let b = c.args.b.now in
    let m = c.min-both.result in
    let found =
    find_from_yields_List is_ne c.find.new.self _ c.find.result c.find.ensures.ran
    (YieldsList-from_map _ (λ p. nat_cmp (small p.0) (small p.1))
    (YieldsList-at c.map.ensures.source
    (YieldsList-from_zip (YieldsList-at c.zip.ensures.first (YieldsList-from_slice (take m a) c.iter.ensures.rest)) (YieldsList-at c.zip.ensures.second (YieldsList-from_slice (take m b) c.iter-2.ensures.rest))))
    c.map.ensures.closure (λ x r q k. search (rules, tests)))
    (λ x b q k. search (rules, tests)) in
    compared_cmp _ _ _ (order_found small small m a b c.find.result _ (omega arith) found c.unwrap_or_else.ensures (λ q. search rules))
