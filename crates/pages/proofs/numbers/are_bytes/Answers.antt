use Rattle.std.proofs.Common.{rules, tests}
use Rattle.pages.proofs.Bytes.{all_bytes_places}
use Rattle.pages.proofs.numbers.are_bytes.Goals as goal

pub returns : goal.returns
returns c =
    let all = all_bytes_places c.args.bytes.now (λ i. (c.type_inv.bytes i).fits) in
    record { bytes = search (rules, tests, all); always = all }
