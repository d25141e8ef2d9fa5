use Rattle.std.proofs.Common.{◌≡◌, replicate, ap, ◌∙◌}
use Rattle.pages.proofs.Heads.{head_page_made}
use Rattle.pages.proofs.roots.write_head.Goals as goal

pub returns-clause-page : goal.returns-clause-page
returns-clause-page c =
    let z : c.fill.new.self ≡ replicate 512 0 = c.fill.ensures.after (λ y e. e) ∙ ap (λ n. replicate n 0) c.if-page-ne512.false in
    head_page_made c.args.head z (c.copy_from_slice.ensures.after ∙ c.copy_of-copy.ensures) (c.copy_from_slice-2.ensures.after ∙ c.copy_of-copy.ensures)
