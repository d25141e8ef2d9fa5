use Rattle.std.proofs.Common.{◌≡◌, ◌≤◌, min, length, map, take, ap, ◌∙◌, arith, length-take}
use Rattle.std.proofs.lemmas.List.{take_min}
use Rattle.words.specs.Words.{small}
use Rattle.rows.proofs.Keyed.{key_before, padded_by, padded_small, small_front}
use Rattle.rows.proofs.key.Key.of_word.Goals as goal

pub invariant_of-result : goal.invariant_of-result
invariant_of-result c =
    let front = take c.min.result c.args.word.now in
    let h : length front ≤ 64 = simp length-take (omega (arith, c.min.ensures)) in
    padded_small _ (padded_by c.padded-bytes.result front c.padded-bytes.ensures h) c.make_ascii_lowercase.new.self c.make_ascii_lowercase.ensures.after

pub returns : goal.returns
returns c =
    let w = c.args.word.now in
    let front = take c.min.result w in
    let h : length front ≤ 64 = simp length-take (omega (arith, c.min.ensures)) in
    let n : c.min.result ≡ min 64 (length w) = omega (arith, c.min.ensures) in
    small_front _ (padded_by c.padded-bytes.result front c.padded-bytes.ensures h) c.make_ascii_lowercase.new.self c.make_ascii_lowercase.ensures.after
    ∙ ap (map small) (key_before c.padded-bytes.result front c.padded-bytes.ensures ∙ ap (λ k. take k w) n ∙ take_min 64 w)
