use Rattle.std.proofs.Common.{◌≡◌, [], ◌∷◌, ◌++◌, vec_items, ap, ◌∙◌, append_assoc, rules}
use Rattle.std.proofs.lemmas.Result.{IfOk-weaker}
use Rattle.pages.specs.Bytes.{with_length}
use Rattle.questions.specs.Spelling.{query_spelled}
use Rattle.console.proofs.spelling.add_word.Goals as goal

pub returns : goal.returns
unfolding query_spelled
returns c =
    let old = vec_items c.args.bytes.now in
    let word = c.args.word.now in
    let letters = with_length (vec_items word.letters) in
    let first : vec_items c.extend_from_slice.new.self ≡ old ++ (1 ∷ word.field ∷ []) = search rules in
    IfOk-weaker c.add_with_length.result _ _
    (λ _ h.
    h ∙ ap (λ l. vec_items c.extend_from_slice.new.self ++ with_length l) c.as_slice.ensures.value ∙ ap (λ l. l ++ letters) first ∙ append_assoc old (1 ∷ word.field ∷ []) letters)
    c.add_with_length.ensures
