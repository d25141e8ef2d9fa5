use Rattle.std.proofs.Common.{◌∙◌, take, ap, rules, tests, arith}
use Rattle.std.specs.Ordering.{nat_cmp, is_ne}
use Rattle.std.specs.Cmp.Lexicographic.{slice_cmp}
use Rattle.std.proofs.lemmas.List.{map-id}
use Rattle.std.proofs.lemmas.Iterator.{YieldsList-from_slice, YieldsList-from_map, YieldsList-from_zip}
use Rattle.std.proofs.lemmas.Iterator.Consumers.{YieldsList-at}
use Rattle.std.proofs.lemmas.Iterator.Search.{find_from_yields_List}
use Rattle.words.specs.Words.{small}
use Rattle.words.proofs.Compared.{compared_cmp}
use Rattle.words.proofs.FirstDiffering.{order_found}
use Rattle.words.proofs.compare_to_key.Goals as goal

pub returns : goal.returns
returns c =
    let a = c.args.word.now in
    let b = c.args.key.now in
    let m = c.min-both.result in
    let found =
    find_from_yields_List is_ne c.find.new.self _ c.find.result c.find.ensures.ran
    (YieldsList-from_map _ (λ p. nat_cmp (small p.0) p.1)
    (YieldsList-at c.map.ensures.source
    (YieldsList-from_zip (YieldsList-at c.zip.ensures.first (YieldsList-from_slice (take m a) c.iter.ensures.rest)) (YieldsList-at c.zip.ensures.second (YieldsList-from_slice (take m b) c.iter-2.ensures.rest))))
    c.map.ensures.closure (λ x r q k. search (rules, tests)))
    (λ x b q k. search (rules, tests)) in
    compared_cmp _ _ _ (order_found small (λ x. x) m a b c.find.result _ (omega arith) found c.unwrap_or_else.ensures (λ q. search rules) ∙ ap (slice_cmp nat_cmp _) (map-id b))
