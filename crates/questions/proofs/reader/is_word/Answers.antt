use Rattle.std.proofs.Common.{◌≡◌, true, ◌&&◌, leb, length, sym, refl, ◌∙◌, arith, rules, tests}
use Rattle.std.proofs.lemmas.Bool.{and_from, le-leb, eqb-false}
use Rattle.std.proofs.lemmas.Iterator.{YieldsList-from_slice}
use Rattle.std.proofs.lemmas.Iterator.Search.{all_from_yields_List}
use Rattle.std.proofs.lemmas.List.Recursion.{same_from_clauses}
use Rattle.std.specs.List.{list_all}
use Rattle.pages.specs.Lists.{every}
use Rattle.questions.specs.Reading.{small_letter}
use Rattle.questions.proofs.reader.is_word.Goals as goal

pub returns-then-bytes-le-LONGEST_WORD : goal.returns-then-bytes-le-LONGEST_WORD
returns-then-bytes-le-LONGEST_WORD c =
    let bs = c.args.bytes.now in
    let some = eqb-false (length bs) 0 (sym c.is_empty.ensures ∙ c.if-bytes-le-LONGEST_WORD.true.0) in
    let long : (leb 1 (length bs) && leb (length bs) 64) ≡ true = and_from _ _ (le-leb 1 (length bs) (omega (arith, some))) (le-leb (length bs) 64 c.if-bytes-le-LONGEST_WORD.true.1) in
    rw long
    (all_from_yields_List small_letter _ _ _ c.all.ensures.ran (YieldsList-from_slice bs cc) (λ x b q k. search (rules, tests))
    ∙ same_from_clauses (list_all small_letter) (every small_letter) (λ x t. small_letter x && t) refl (λ _ _. refl) (λ _ _. refl) bs)
