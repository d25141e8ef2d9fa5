use Rattle.std.proofs.Common.{◌≡◌, ◌+◌, ◌∙◌, [], ◌∷◌, ◌++◌, length, set, subst, sym, ap, inl, arith}
use Rattle.std.proofs.lemmas.List.{length_push, take_all}
use Rattle.pages.specs.Lists.{each}
use Rattle.words.specs.Words.{words}
use Rattle.words.specs.Stretches.{to_come}
use Rattle.words.specs.Standing.{standing}
use Rattle.words.proofs.Laws.{words_few}
use Rattle.words.proofs.Standing.{length_standing}
use Rattle.words.proofs.Iterated.{numbered_turn, numbered_end}
use Rattle.places.specs.Places.{placed}
use Rattle.places.specs.Tokens.{text_row}
use Rattle.places.proofs.Made.{Adding, adding_none, adding_more, start_fits}
use Rattle.places.proofs.tokens.add_words.Goals as goal

pub loop-i-init-derived : goal.loop-i-init-derived
loop-i-init-derived c =
    let it = c.into_iter-i-iterator.result in
    let few = words_few c.args.text.now in
    let text : it.iter.text.now ≡ c.args.text.now = cc in
    let first : it.iter.at ≡ 0 = cc in
    let none : it.count ≡ 0 = cc in
    let all : length (standing it.iter.text.now it.iter.at) ≡ length (words c.args.text.now) = length_standing _ _ ∙ (λ i. length (to_come (text i) (first i))) in
    ((tt, tt, inl (omega arith)), tt)

pub loop-i-init : goal.loop-i-init
loop-i-init c = adding_none c.args.text.now c.args.base c.args.tokens.now

pub overflow_add-base : goal.overflow_add-base
overflow_add-base c =
    let t = numbered_turn c.args.text.now c.into_iter-i-iterator.result (cc) (cc) (cc) c.loop-i.yielded c.loop-i.i-iterator c.loop-i.yielded_by _ c.next.new.self c.in-Some.i c.in-Some.word c.in-Some.is c.next.ensures.steps in
    omega (arith, t.1, c.requires.places)

pub overflow_cast-base : goal.overflow_cast-base
overflow_cast-base c =
    let t = numbered_turn c.args.text.now c.into_iter-i-iterator.result (cc) (cc) (cc) c.loop-i.yielded c.loop-i.i-iterator c.loop-i.yielded_by _ c.next.new.self c.in-Some.i c.in-Some.word c.in-Some.is c.next.ensures.steps in
    omega (arith, t.1, c.requires.places)

pub new-requires-in-loop-i : goal.new-requires-in-loop-i
new-requires-in-loop-i c =
    let t = numbered_turn c.args.text.now c.into_iter-i-iterator.result (cc) (cc) (cc) c.loop-i.yielded c.loop-i.i-iterator c.loop-i.yielded_by _ c.next.new.self c.in-Some.i c.in-Some.word c.in-Some.is c.next.ensures.steps in
    start_fits c.args.text.now c.args.base c.in-Some.i c.in-Some.word t.1 t.2 c.requires.short

pub offset_bounds-tokens-i : goal.offset_bounds-tokens-i
offset_bounds-tokens-i c =
    let t = numbered_turn c.args.text.now c.into_iter-i-iterator.result (cc) (cc) (cc) c.loop-i.yielded c.loop-i.i-iterator c.loop-i.yielded_by _ c.next.new.self c.in-Some.i c.in-Some.word c.in-Some.is c.next.ensures.steps in
    omega (arith, t.1, c.requires.places)

pub bounds-tokens-i : goal.bounds-tokens-i
bounds-tokens-i c =
    let t = numbered_turn c.args.text.now c.into_iter-i-iterator.result (cc) (cc) (cc) c.loop-i.yielded c.loop-i.i-iterator c.loop-i.yielded_by _ c.next.new.self c.in-Some.i c.in-Some.word c.in-Some.is c.next.ensures.steps in
    omega (arith, t.1, c.requires.room, c.loop-i.auto.tokens)

pub loop-i-preserved : goal.loop-i-preserved
loop-i-preserved c =
    let t = numbered_turn c.args.text.now c.into_iter-i-iterator.result (cc) (cc) (cc) c.loop-i.yielded c.loop-i.i-iterator c.loop-i.yielded_by _ c.next.new.self c.in-Some.i c.in-Some.word c.in-Some.is c.next.ensures.steps in
    let n : length (c.loop-i.yielded ++ (c.in-Some.i, c.in-Some.word) ∷ []) ≡ c.in-Some.i + 1 = length_push _ _ ∙ ap (λ k. k + 1) (sym t.0) in
    let before : Adding c.args.text.now c.args.base c.in-Some.i c.loop-i.tokens = subst (λ k. Adding c.args.text.now c.args.base k c.loop-i.tokens) (sym t.0) c.loop-i.invariant in
    subst (λ k. Adding c.args.text.now c.args.base k (set c.loop-i.tokens c.in-Some.i c.into.result)) (sym n)
    (adding_more c.args.text.now c.args.base c.in-Some.i c.in-Some.word t.1 t.2 c.loop-i.tokens c.into.result (omega (arith, t.1, c.requires.room, c.loop-i.auto.tokens)) c.requires.places
    (c.into.ensures ∙ c.new-in-loop-i.ensures) before)

pub returns : goal.returns
returns c doc =
    let n = numbered_end c.args.text.now c.into_iter-i-iterator.result (cc) (cc) (cc) c.loop-i.yielded c.loop-i.i-iterator c.loop-i.yielded_by _ c.next.new.self c.in-None.is c.next.ensures.steps in
    ap (each (text_row doc c.args.text.now)) (sym (take_all (length c.loop-i.yielded) c.loop-i.tokens (omega (arith, n, c.requires.room, c.loop-i.auto.tokens))))
    ∙ c.loop-i.invariant doc
    ∙ ap (placed doc c.args.base) (take_all (length c.loop-i.yielded) (words c.args.text.now) (omega (arith, n)))
