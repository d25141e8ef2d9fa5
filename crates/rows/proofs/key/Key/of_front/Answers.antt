use Rattle.std.proofs.Common.{◌≡◌, min, length, take, ap, ◌∙◌, arith}
use Rattle.std.proofs.lemmas.List.{take_min}
use Rattle.rows.proofs.Keyed.{key_before}
use Rattle.rows.proofs.key.Key.of_front.Goals as goal

pub returns : goal.returns
returns c =
    let bs = c.args.bytes.now in
    let n : c.min.result ≡ min 64 (length bs) = omega (arith, c.min.ensures) in
    key_before c.padded.result (take c.min.result bs) c.padded.ensures ∙ ap (λ k. take k bs) n ∙ take_min 64 bs
