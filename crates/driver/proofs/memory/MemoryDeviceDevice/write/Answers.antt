use Rattle.std.proofs.Common.{length, set, ap, ◌∙◌, arith}
use Rattle.std.specs.Option.{ok_or}
use Rattle.std.specs.Result.{result_err}
use Rattle.std.proofs.lemmas.Option.{MatchOption-at_some, MatchOption-at_none, same_Some}
use Rattle.std.proofs.lemmas.Result.{err_from_is_err_and}
use Rattle.driver.specs.declared.faults.Fault.TheVariants.{NoSuchPage}
use Rattle.driver.proofs.Rows.{set_page_set, all_written_more, length_all_written}
use Rattle.driver.proofs.memory.MemoryDeviceDevice.write.Goals as goal

pub returns : goal.returns
returns c d e =
    let k = c.args.page in
    let page = c.args.from.now in
    let item = MatchOption-at_some _ _ _ c.in_ok-found.ensures.ok_part c.get_mut.ensures.item.3 in (
      all_written_more d.pages d.queue (record { at = k; page = page }) ∙ set_page_set _ k page ∙ ap (λ ps. set ps k page) e,
      omega (arith, length_all_written d.pages d.queue, ap length e, item.0),
    )

pub returns-in_err-found : goal.returns-in_err-found
returns-in_err-found c d e =
    let p = err_from_is_err_and c.from_residual.result c.from_residual.ensures.1 in
    let no = c.in_err-found.ensures in
    let told = same_Some _ _ (ap result_err (no.value ∙ ap (λ o. ok_or o (NoSuchPage c.args.page)) no.ok_part)) in
    let none = MatchOption-at_none _ _ no.ok_part c.get_mut.ensures.item.3 in
    rw p.1 (e, omega (arith, length_all_written d.pages d.queue, ap length e, none), p.2 ∙ told)
