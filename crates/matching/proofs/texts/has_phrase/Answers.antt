use Rattle.std.proofs.Common.{rules, tests, ℕ, List, map, length, vec_items, sym, ap, ◌∙◌, ⊎_elim, arith}
use Rattle.std.proofs.lemmas.Bool.{cases_lt, both_ways, eq-eqb, eqb-true}
use Rattle.std.proofs.lemmas.List.{nil_from_length, length-map}
use Rattle.words.specs.Words.{words}
use Rattle.words.specs.Stretches.{to_come}
use Rattle.questions.specs.Query.{words_here, words_somewhere}
use Rattle.matching.proofs.Words.{any_standing, no_words, somewhere_stands}
use Rattle.matching.proofs.texts.has_phrase.Goals as goal

pub returns-then-is_empty : goal.returns-then-is_empty
returns-then-is_empty c =
    let phrase = c.args.phrase.now in
    let ws : List (List ℕ) = words c.args.text.now in
    let none = eqb-true (length phrase) 0 (sym c.if-is_empty.ensures) in
    c.if-is_empty.true ∙ sym (ap (λ v. words_somewhere (map vec_items v) ws) (nil_from_length phrase (omega arith)) ∙ no_words ws)

pub returns-else-is_empty : goal.returns-else-is_empty
returns-else-is_empty c =
    let text = c.args.text.now in
    let phrase = c.args.phrase.now in
    let ps : List (List ℕ) = map vec_items phrase in
    let some = ⊎_elim (λ h. h) (λ h. absurd (both_ways _ (sym c.if-is_empty.ensures) (eq-eqb (length phrase) 0 (omega arith)))) (cases_lt 0 (length phrase)) in
    any_standing (λ w. words_here ps (to_come text w.start)) text 0 _ c.any.new.self _ _ c.any.ensures.ran c.new.ensures.text c.new.ensures.first
    (λ x b q k. search (rules, tests)) ∙ somewhere_stands text ps 0 (omega (arith, length-map phrase vec_items))
