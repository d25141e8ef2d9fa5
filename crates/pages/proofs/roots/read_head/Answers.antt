use Rattle.std.proofs.Common.{Some, sym, ap, ◌∙◌}
use Rattle.pages.specs.Head.{copies_agree, head_at}
use Rattle.pages.proofs.Heads.{read_agreeing, read_differing, read_no_page}
use Rattle.pages.proofs.roots.read_head.Goals as goal

pub returns-in_err-page : goal.returns-in_err-page
returns-in_err-page c = c.from_residual.ensures ∙ sym (read_no_page c.args.page.now c.in_err-page.ensures.cases)

pub returns-then-not-same_copies : goal.returns-then-not-same_copies
returns-then-not-same_copies c =
    sym (read_differing c.args.page.now (ap copies_agree (sym c.in_ok-page.ensures.cases.same) ∙ sym c.same_copies.ensures ∙ c.if-not-same_copies.true))

pub returns : goal.returns
returns c =
    let e = c.in_ok-page.ensures.cases in
    ap Some (c.read_copy.ensures ∙ ap (λ p. head_at p 0) e.same)
    ∙ sym (read_agreeing c.args.page.now e.long (ap copies_agree (sym e.same) ∙ sym c.same_copies.ensures ∙ c.if-not-same_copies.false))
