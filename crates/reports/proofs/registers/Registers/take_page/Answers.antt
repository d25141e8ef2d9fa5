use Rattle.std.proofs.Common.{◌≡◌, true, rules}
use Rattle.pages.specs.Bytes.{all_bytes}
use Rattle.pages.proofs.Bytes.{all_bytes_places}
use Rattle.reports.proofs.registers.Registers.take_page.Goals as goal

pub returns-in-First : goal.returns-in-First
returns-in-First c =
    let page = c.args.page.now in
    let ok : all_bytes page ≡ true = all_bytes_places page (λ i. (c.type_inv.page i).fits) in
    search rules

pub returns-in-Second : goal.returns-in-Second
returns-in-Second c =
    let page = c.args.page.now in
    let ok : all_bytes page ≡ true = all_bytes_places page (λ i. (c.type_inv.page i).fits) in
    search rules
