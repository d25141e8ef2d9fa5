use Rattle.std.proofs.Common.{◌&&◌, sym, ap, ◌∙◌}
use Rattle.questions.specs.Query.{within}
use Rattle.pages.specs.Lists.{each, same}
use Rattle.words.specs.Words.{small}
use Rattle.words.specs.Stretches.{to_come}
use Rattle.words.specs.Standing.{word_of}
use Rattle.matching.proofs.Words.{same_turned}
use Rattle.matching.proofs.texts.near_here.Goals as goal

pub returns-then-is_word : goal.returns-then-is_word
returns-then-is_word c =
    let text = c.args.text.now in
    let found = c.args.found in
    let first = c.args.first.now in
    let there = same_turned (word_of text found) first ∙ ap (λ b. same first (each small b)) (sym c.bytes.ensures) ∙ sym c.if-is_word.ensures in
    c.comes_within.ensures ∙ ap (λ b. b && within c.args.most c.args.second.now (to_come text found.end)) (sym there)

pub returns-else-is_word : goal.returns-else-is_word
returns-else-is_word c =
    let text = c.args.text.now in
    let found = c.args.found in
    let first = c.args.first.now in
    let there = same_turned (word_of text found) first ∙ ap (λ b. same first (each small b)) (sym c.bytes.ensures) ∙ sym c.if-is_word.ensures in
    c.if-is_word.false ∙ ap (λ b. b && within c.args.most c.args.second.now (to_come text found.end)) (sym there)
