use Rattle.std.proofs.Common.{[], ap, sym, ◌∙◌, arith, rules, tests}
use Rattle.std.specs.Int.{w64, to_be_bytes}
use Rattle.std.specs.List.{flat_map}
use Rattle.std.proofs.lemmas.List.Folds.{flat_map-map}
use Rattle.pages.specs.Places.{in_eights}
use Rattle.pages.proofs.Made.{mapped}
use Rattle.pages.proofs.Places.{eight_is}
use Rattle.pages.proofs.roots.copy_of.Goals as goal

pub returns : goal.returns
returns c =
    let xs = c.into-numbers.result in
    let is = mapped (to_be_bytes w64) [] xs c.map-spelled.result 21 (omega arith) (λ x y p q k. search (rules, tests)) c.map-spelled.ensures.items in
    c.copy_from_slice.ensures.after ∙ c.as_flattened.ensures.value ∙ ap (flat_map (λ bs. bs)) is ∙ flat_map-map (λ bs. bs) (to_be_bytes w64) xs
    ∙ (λ i. flat_map (λ x. sym (eight_is x) i) xs) ∙ ap in_eights c.into-numbers.ensures
