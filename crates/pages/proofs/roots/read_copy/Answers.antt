use Rattle.std.proofs.Common.{ℕ, ◌*◌, ◌∙◌, rules, tests}
use Rattle.pages.specs.Places.{number_at}
use Rattle.pages.proofs.Heads.{head_at_in}
use Rattle.pages.proofs.Made.{made_at}
use Rattle.pages.proofs.roots.read_copy.Goals as goal

pub returns : goal.returns
returns c =
    let p = c.args.page.now in
    let v : ℕ → ℕ = λ i. number_at p (8 * i) in
    c.from.ensures ∙ head_at_in p c.from_fn.result (made_at v 21 (λ i y q l k. search (rules, tests)) c.from_fn.result c.from_fn.ensures.items)
