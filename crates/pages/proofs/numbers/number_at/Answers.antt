use Rattle.std.proofs.Common.{◌≤◌, length, take, sym, ap, arith}
use Rattle.std.proofs.lemmas.List.{drop_all}
use Rattle.pages.specs.Bytes.{from_eight}
use Rattle.pages.proofs.numbers.number_at.Goals as goal

pub returns-in-None : goal.returns-in-None
unfolding from_eight
returns-in-None c =
    let past : length c.args.bytes.now ≤ c.args.at = omega (arith, c.in-None.ensures.lookup) in
    ap (λ xs. from_eight 0 (take 8 xs)) (sym (drop_all c.args.at c.args.bytes.now past))
