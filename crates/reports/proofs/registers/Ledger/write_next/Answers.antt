use Rattle.std.proofs.Common.{◌≡◌, true, eqb, ◌++◌, length, take, drop, sym, ap, ◌∙◌, arith, length-take, rules, eq-eqb}
use Rattle.pages.specs.Lists.{pick}
use Rattle.pages.specs.Head.{head_page}
use Rattle.pages.proofs.Heads.{length_head_page}
use Rattle.reports.specs.Entry.{ActTold}
use Rattle.reports.specs.Machine.{next_head}
use Rattle.reports.proofs.registers.Ledger.write_next.Goals as goal

pub returns-clause-told : goal.returns-clause-told
unfolding ActTold
returns-clause-told c =
    let l = c.args.self.now in
    let o = c.args.out.now in
    let h = head_page c.next_head-head.result in
    let fits : eqb (length (take 512 o)) 512 ≡ true = simp length-take (eq-eqb _ _ (omega arith)) in
    let page : c.write_head.new.page ≡ h = c.write_head.ensures.page ∙ ap (λ b. pick b h (take 512 o)) (c.write_head.ensures.fits ∙ fits) in
    let next : h ≡ head_page (next_head l) = ap head_page c.next_head-head.ensures in
    (search rules, ap (λ p. p ++ drop 512 o) (page ∙ next) ∙ ap (λ n. head_page (next_head l) ++ drop n o) (sym (length_head_page (next_head l))))
