use Rattle.std.proofs.Common.{length, ap, arith}
use Rattle.driver.proofs.Rows.{length_all_written}
use Rattle.driver.proofs.memory.MemoryDeviceDevice.pages.Goals as goal

pub returns : goal.returns
returns c d e = omega (arith, length_all_written d.pages d.queue, ap length e, c.args.self.now.pages.ok.0)
