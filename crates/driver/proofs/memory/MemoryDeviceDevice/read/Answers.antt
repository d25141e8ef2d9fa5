use Rattle.std.proofs.Common.{◌<◌, length, sym, ap, ◌∙◌, arith}
use Rattle.std.specs.Option.{ok_or}
use Rattle.std.specs.Result.{result_err}
use Rattle.std.proofs.lemmas.Grind.{common_steps}
use Rattle.std.proofs.lemmas.Option.{MatchOption-at_none, same_Some}
use Rattle.std.proofs.lemmas.Result.{err_from_is_err_and}
use Rattle.pages.specs.Device.{page_at}
use Rattle.driver.specs.declared.faults.Fault.TheVariants.{NoSuchPage}
use Rattle.driver.proofs.Rows.{page_at_getD, length_all_written}
use Rattle.driver.proofs.memory.MemoryDeviceDevice.read.Goals as goal

pub returns : goal.returns
returns c d e =
    let pages = c.args.self.now.pages.items in
    let page = c.args.page in
    let found = c.in_ok-found.found.now in
    let there : page < length pages = grind (arith, common_steps) in (
      e,
      omega (arith, length_all_written d.pages d.queue, ap length e, there),
      (grind (arith, common_steps)) ∙ sym (page_at_getD pages page found there) ∙ ap (λ ps. page_at ps page) (sym e),
    )

pub returns-in_err-found : goal.returns-in_err-found
returns-in_err-found c d e =
    let p = err_from_is_err_and c.from_residual.result c.from_residual.ensures.1 in
    let no = c.in_err-found.ensures in
    let told = same_Some _ _ (ap result_err (no.value ∙ ap (λ o. ok_or o (NoSuchPage c.args.page)) no.ok_part)) in
    let none = MatchOption-at_none _ _ no.ok_part c.get.ensures.lookup.3 in
    rw p.1 (e, omega (arith, length_all_written d.pages d.queue, ap length e, ap length c.deref.ensures.value, none), p.2 ∙ told)
