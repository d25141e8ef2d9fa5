use Rattle.std.proofs.Common.{◌≡◌, ◌++◌, length, vec_items, sym, ap, ◌∙◌, append_assoc, rules}
use Rattle.std.proofs.lemmas.Result.{IfOk-equal}
use Rattle.pages.specs.Bytes.{eight}
use Rattle.std.specs.Result.{OnOk}
use Rattle.pages.proofs.Places.{eight_is}
use Rattle.console.proofs.spelling.add_with_length.Goals as goal

pub returns : goal.returns
returns c =
    let text = c.args.text.now in
    let old = vec_items c.args.bytes.now in
    let first = c.in_ok-extend_from_slice.ensures.items in
    let count = c.to_be_bytes.ensures ∙ sym (eight_is (length text)) in
    let both : OnOk c.extend_from_slice-2.result (vec_items c.extend_from_slice-2.new.self ≡ vec_items c.extend_from_slice.new.self ++ text) = search rules in
    IfOk-equal c.extend_from_slice-2.result _ _ _ both (ap (λ l. l ++ text) (first ∙ ap (λ n. old ++ n) count) ∙ append_assoc old (eight (length text)) text)
