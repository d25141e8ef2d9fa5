use Rattle.std.proofs.Common.{◌++◌, length, drop, sym, ap, arith, length-take}
use Rattle.words.proofs.Laws.{words_few}
use Rattle.places.proofs.Made.{indexed_both, fit_from}
use Rattle.places.proofs.tokens.index_words.Goals as goal

pub overflow_add-n : goal.overflow_add-n
overflow_add-n c =
    let few = words_few c.args.texts.title.now in
    let few-2 = words_few c.args.texts.body.now in
    omega arith

pub add_words-requires-clause-places : goal.add_words-requires-clause-places
add_words-requires-clause-places c = let few = words_few c.args.texts.title.now in omega arith

pub add_words-requires-2-clause-places : goal.add_words-requires-2-clause-places
add_words-requires-2-clause-places c = let few = words_few c.args.texts.body.now in omega arith

pub returns : goal.returns
returns c =
    let title = c.args.texts.title.now in
    let body = c.args.texts.body.now in
    record {
      fits = sym (fit_from title body (length c.args.tokens.now) (omega arith) (omega arith) (omega arith));
      made = indexed_both title body c.args.tokens.now c.add_words.new.tokens c.add_words-2.new.tokens _ _ _ (omega arith) c.count-n.ensures c.count-m.ensures (omega arith)
          (omega (arith, c.add_words.auto.tokens)) (omega (arith, c.add_words-2.auto.tokens, length-take c.count-m.result c.split_at_mut-title.result.1.now)) c.add_words.ensures c.add_words-2.ensures
          (ap (λ ts. c.add_words.new.tokens ++ (c.add_words-2.new.tokens ++ drop c.count-m.result ts)) c.split_at_mut-title.ensures.back);
    }
