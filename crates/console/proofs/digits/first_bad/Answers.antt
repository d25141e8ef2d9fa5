use Rattle.std.proofs.Common.{rules, tests}
use Rattle.std.proofs.lemmas.Iterator.{IsFirst-from_position, YieldsList-from_slice}
use Rattle.console.proofs.Hex.{Digit, NoDigit, found_bad}
use Rattle.console.proofs.digits.first_bad.Goals as goal

pub returns : goal.returns
returns c =
    found_bad c.args.text.now c.position.result
    (IsFirst-from_position _ _ _ NoDigit Digit c.position.ensures.ran (YieldsList-from_slice c.args.text.now cc) (λ x q k. search (rules, tests)) (λ x q k. search (rules, tests)))
