use Rattle.std.proofs.Common.{rules, tests, ◌∙◌}
use Rattle.pages.specs.Lists.{or}
use Rattle.words.specs.Stretches.{to_come}
use Rattle.words.specs.Standing.{word_of}
use Rattle.matching.proofs.Words.{any_standing, near_here, near_stands}
use Rattle.matching.proofs.texts.has_near.Goals as goal

pub returns : goal.returns
returns c =
    let text = c.args.text.now in
    let n = c.args.most in
    let a = c.args.a.now in
    let b = c.args.b.now in
    any_standing (λ w. or (near_here n a b (word_of text w) (to_come text w.end)) (near_here n b a (word_of text w) (to_come text w.end))) text 0 _ c.any.new.self _ _ c.any.ensures.ran c.new.ensures.text c.new.ensures.first
    (λ x r q k. search (rules, tests)) ∙ near_stands text n a b 0
