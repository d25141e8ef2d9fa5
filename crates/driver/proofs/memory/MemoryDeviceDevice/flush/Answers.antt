use Rattle.std.proofs.Common.{◌∙◌}
use Rattle.driver.proofs.Rows.{all_written_none}
use Rattle.driver.proofs.memory.MemoryDeviceDevice.flush.Goals as goal

pub returns : goal.returns
returns c d e = all_written_none _ ∙ e
