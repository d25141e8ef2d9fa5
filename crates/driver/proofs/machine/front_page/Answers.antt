use Rattle.std.proofs.Common.{◌≡◌, true, take, sym, subst, rules}
use Rattle.pages.specs.Bytes.{all_bytes}
use Rattle.pages.proofs.Bytes.{all_bytes_places}
use Rattle.pages.proofs.Lists.{every_take}
use Rattle.driver.proofs.machine.front_page.Goals as goal

pub returns-clause-bytes : goal.returns-clause-bytes
returns-clause-bytes c =
    let lent = c.args.lent.now in
    let front : c.copy_from_slice.new.self ≡ take 512 lent = search rules in
    subst (λ l. all_bytes l ≡ true) (sym front) (every_take _ 512 lent (all_bytes_places lent (λ i. (c.type_inv.lent i).fits)))
