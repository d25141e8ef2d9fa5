use Rattle.std.proofs.Common.{◌≤◌, rules}
use Rattle.console.proofs.Requests.{asked_fits}
use Rattle.console.proofs.typed.read_ask.Goals as goal

pub returns : goal.returns
returns c =
    let good = c.in_ok-words.ensures in
    let low : 1 ≤ c.in_ok-most.most = search rules in
    let high : c.in_ok-most.most ≤ 1000 = search rules in
    (good.0, asked_fits _ _ low high good)
