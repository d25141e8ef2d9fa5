use Rattle.std.proofs.Common.{◌≡◌, ◌∙◌, MatchOption, rules, tests}
use Rattle.questions.specs.Reading.{nothing, got, only, in_range, read_number, read_within}
use Rattle.questions.proofs.Reading.{tested, then_none}
use Rattle.questions.proofs.reader.read_within.Goals as goal

pub returns-in_err-n : goal.returns-in_err-n
unfolding read_within
returns-in_err-n c = rw c.from_residual.ensures (then_none (only (in_range c.args.low c.args.high)) c.in_err-n.ensures)

pub returns : goal.returns
unfolding read_within
returns c =
    let bs = c.args.bytes.now in
    let low = c.args.low in
    let high = c.args.high in
    let n = c.in_ok-n.n in
    let t : c.contains.result ≡ in_range low high n = c.contains.ensures.value ∙ search (rules, tests) in
    rw c.then_some.ensures
    (tested (λ o. MatchOption o (read_within low high bs ≡ nothing) (λ p. read_within low high bs ≡ got p.0 p.1.now)) (read_number bs) (in_range low high) n c.in_ok-n.rest.now _ (n, c.in_ok-n.rest) c.in_ok-n.ensures t
    (λ e. e) (λ e. e))
