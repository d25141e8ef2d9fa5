use Rattle.std.proofs.Common.{◌∙◌}
use Rattle.std.proofs.lemmas.List.Elements.{same_from_all_zip}
use Rattle.driver.proofs.Rows.{blank_replicate}
use Rattle.driver.proofs.memory.MemoryDevice.new.Goals as goal

pub returns : goal.returns
returns c = c.in_ok-pages.ensures.items_if_clones_equal (λ y h. same_from_all_zip _ _ y h.whole (λ a b same. same)) ∙ blank_replicate c.args.count
