use Rattle.std.proofs.Common.{◌≡◌, true, rules}
use Rattle.pages.specs.Bytes.{all_bytes}
use Rattle.pages.proofs.Bytes.{all_bytes_places}
use Rattle.reports.specs.Reading.{read_kind}
use Rattle.reports.specs.Request.{Handed}
use Rattle.reports.proofs.Requests.{handing_on}
use Rattle.reports.proofs.reader.read_kind.Goals as goal

pub returns-in-Count : goal.returns-in-Count
unfolding read_kind Handed
returns-in-Count c =
    let bs = c.args.bytes.now in
    let ok : all_bytes bs ≡ true = all_bytes_places bs (λ i. (c.type_inv.bytes i).fits) in
    search (handing_on, rules)
