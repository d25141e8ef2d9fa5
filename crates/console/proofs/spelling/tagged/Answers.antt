use Rattle.std.proofs.Common.{◌++◌, sym, ap, ◌∙◌}
use Rattle.pages.proofs.Places.{eight_is}
use Rattle.console.proofs.spelling.tagged.Goals as goal

pub returns : goal.returns
returns c =
    let added = c.in_ok-extend_from_slice.ensures.items in
    let number = c.to_be_bytes.ensures ∙ sym (eight_is c.args.number) in
    added ∙ ap (λ l. l ++ c.to_be_bytes.result) c.in_ok-bytes.ensures.items ∙ rw (c.from.ensures, number)
