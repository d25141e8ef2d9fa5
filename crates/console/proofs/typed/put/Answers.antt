use Rattle.std.proofs.Common.{arith}
use Rattle.pages.proofs.Bytes.{all_bytes_places}
use Rattle.console.proofs.Requests.{put_fits}
use Rattle.console.proofs.typed.put.Goals as goal

pub returns : goal.returns
returns c =
    put_fits _ _ _ (omega arith) (omega arith) (omega arith) (all_bytes_places c.args.title.now (λ i. (c.type_inv.title i).fits)) (all_bytes_places c.args.body.now (λ i. (c.type_inv.body i).fits))
