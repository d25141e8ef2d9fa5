use Rattle.console.proofs.Requests.{counted_fits}
use Rattle.console.proofs.typed.read_count.Goals as goal

pub returns : goal.returns
returns c = let good = c.in_ok-words.ensures in (good.0, counted_fits _ good)
