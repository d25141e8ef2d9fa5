use Rattle.std.proofs.Common.{rules}
use Rattle.pages.proofs.Bytes.{all_bytes_places}
use Rattle.pages.proofs.cells.take_page.Goals as goal

pub returns-clause-taken : goal.returns-clause-taken
returns-clause-taken c =
    let b = all_bytes_places c.args.bytes.now (λ i. (c.type_inv.bytes i).fits) in
    search (rules, b)
