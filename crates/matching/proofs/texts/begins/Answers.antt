use Rattle.std.proofs.Common.{◌≡◌, ◌-◌, ⊎_elim, length, take, sym, ap, ◌∙◌, arith}
use Rattle.pages.specs.Lists.{each, same}
use Rattle.pages.proofs.Lists.{each_take}
use Rattle.pages.proofs.Folds.{length_each}
use Rattle.words.specs.Words.{small}
use Rattle.matching.proofs.Words.{same_turned, starts_short, starts_long}
use Rattle.matching.proofs.texts.begins.Goals as goal

pub returns-in-Some : goal.returns-in-Some
returns-in-Some c =
    let p = c.args.start.now in
    let bytes = c.args.bytes.now in
    let all : length p - 0 ≡ length p = omega arith in
    let front = ap (each small) c.in-Some.ensures.lookup.0.2 ∙ ap (λ n. each small (take n bytes)) all ∙ each_take small (length p) bytes in
    let long = starts_long p (each small bytes) (omega (arith, length_each small bytes, c.in-Some.ensures.lookup.0.1)) in
    c.is_eq.ensures ∙ c.compare_to_key.ensures.equal ∙ ap (λ b. same b p) front ∙ same_turned (take (length p) (each small bytes)) p ∙ sym long

pub returns-in-None : goal.returns-in-None
returns-in-None c =
    let p = c.args.start.now in
    let bytes = c.args.bytes.now in
    let less = ⊎_elim (λ h. absurd (omega arith)) (λ h. h) c.in-None.ensures.lookup.0 in
    sym (starts_short p (each small bytes) (omega (arith, length_each small bytes, less)))
