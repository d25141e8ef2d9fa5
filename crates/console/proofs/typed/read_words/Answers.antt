use Rattle.std.proofs.Common.{◌≡◌, true, [], ◌∷◌, vec_items, sym, refl, subst, arith, length-append}
use Rattle.pages.specs.Lists.{every}
use Rattle.pages.proofs.Lists.{every_join}
use Rattle.console.specs.Typed.{good_word}
use Rattle.console.proofs.typed.read_words.Goals as goal

pub loop-piece-preserved : goal.loop-piece-preserved
loop-piece-preserved c =
    let pushed = c.in_ok-push.ensures.items in
    let words = vec_items c.loop-piece.words in
    let last : every good_word (c.in_ok-word.word ∷ []) ≡ true = rw c.in_ok-word.ensures refl in (
      rw (pushed, length-append) (omega (arith, c.loop-piece.invariant.0, c.len.ensures, c.loop-piece.words.ok.0)),
      subst (λ l. every good_word l ≡ true) (sym pushed) (every_join good_word words (c.in_ok-word.word ∷ []) c.loop-piece.invariant.1 last),
    )
