use Rattle.std.proofs.Common.{◌+◌, ◌∙◌, ap, arith}
use Rattle.std.proofs.lemmas.Bool.{both_ways}
use Rattle.rows.proofs.Read.{end_is, no_end}
use Rattle.rows.proofs.page.rows_end.Goals as goal

pub returns-in-Some-clause-end : goal.returns-in-Some-clause-end
returns-in-Some-clause-end c =
    let s = c.in-Some.ensures in
    ap (λ n. n + 2) s.1 ∙ end_is c.args.page.now s.0 (omega (arith, s.1)) (omega (arith, s.1))

pub returns-in_default-clause-end : goal.returns-in_default-clause-end
returns-in_default-clause-end c =
    let s = c.in-Some.ensures in no_end c.args.page.now (λ _ small inside. omega (arith, s.1))

pub returns-in_default-2-clause-end : goal.returns-in_default-2-clause-end
returns-in_default-2-clause-end c =
    let s = c.in-Some.ensures in no_end c.args.page.now (λ _ small inside. omega (arith, s.1))

pub returns-in_default-3-clause-end : goal.returns-in_default-3-clause-end
returns-in_default-3-clause-end c =
    no_end c.args.page.now (λ counted _ _. both_ways _ c.in_default.ensures counted)
