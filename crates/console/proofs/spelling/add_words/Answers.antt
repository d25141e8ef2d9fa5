use Rattle.std.proofs.Common.{[], ◌∷◌, ◌++◌, vec_items, sym, ap, ◌∙◌, append_assoc, arith, take_all}
use Rattle.std.proofs.lemmas.Result.{on_ok_weaker}
use Rattle.questions.specs.Spelling.{query_spelled}
use Rattle.console.specs.Typed.{query_of, all_of}
use Rattle.console.proofs.Requests.{with_both, one_more, all_spelled}
use Rattle.console.proofs.spelling.add_words.Goals as goal

pub loop-word-preserved : goal.loop-word-preserved
loop-word-preserved c =
    let five = c.in_ok-push.ensures.items ∙ ap (λ k. vec_items c.loop-word.bytes ++ k ∷ []) c.from.ensures in
    one_more (vec_items c.args.bytes.now) _ _ _ c.in-Some.others.now c.loop-word.word-index c.word-item.result (omega arith) c.word-item.is c.loop-word.invariant five c.in_ok-add_word.ensures

pub returns : goal.returns
returns c =
    let old = vec_items c.args.bytes.now in
    let others = c.in-Some.others.now in
    let last = c.in-Some.last.now in
    let before = c.loop-word.invariant ∙ ap (λ ws. old ++ with_both ws) (take_all c.loop-word.word-index others (omega arith)) in
    let all = all_spelled others last ∙ ap (λ ws. query_spelled (all_of ws)) (sym c.in-Some.ensures.cases.0) in
    on_ok_weaker c.add_word-2.result
    (λ h some. h ∙ ap (λ l. l ++ query_spelled (query_of last)) before ∙ append_assoc old (with_both others) (query_spelled (query_of last)) ∙ ap (λ l. old ++ l) all)
    c.add_word-2.ensures
