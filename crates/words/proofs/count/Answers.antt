use Rattle.std.proofs.Common.{◌≡◌, length, inl, ◌∙◌, arith}
use Rattle.std.proofs.lemmas.Iterator.Consumers.{YieldsList-from_first, count_from_yields_List}
use Rattle.words.specs.Words.{words}
use Rattle.words.specs.Stretches.{to_come}
use Rattle.words.specs.Standing.{words_left, standing}
use Rattle.words.proofs.Laws.{words_few}
use Rattle.words.proofs.Standing.{length_standing}
use Rattle.words.proofs.count.Goals as goal

pub count-requires-clause-fits : goal.count-requires-clause-fits
count-requires-clause-fits c =
    let few = words_few c.args.text.now in
    let all : length (standing c.new.result.text.now c.new.result.at) ≡ length (words c.args.text.now) =
    length_standing _ _ ∙ (λ i. length (to_come (c.new.ensures.text i) (c.new.ensures.first i))) in
    inl (omega arith)

pub returns : goal.returns
returns c =
    let counted =
    count_from_yields_List c.new.result _ c.count.ensures.ran (YieldsList-from_first (λ w. w) words_left (words_left c.new.result) cc)
    ∙ length_standing _ _ ∙ (λ i. length (to_come (c.new.ensures.text i) (c.new.ensures.first i))) in
    omega (arith, counted)
