use Rattle.std.proofs.Common.{◌≡◌, ℕ, ◌/◌, ◌≤◌, List, length, take, refl, ap, ◌∙◌, arith}
use Rattle.std.proofs.lemmas.Grind.{common_steps}
use Rattle.std.proofs.lemmas.List.{take_all}
use Rattle.rows.proofs.Ordered.{row_ext}
use Rattle.pages.specs.Lists.{each}
use Rattle.pages.proofs.Folds.{length_each}
use Rattle.words.specs.Words.{small}
use Rattle.places.specs.Tokens.{token_text}
use Rattle.places.proofs.Made.{key_short}
use Rattle.places.proofs.token.Token.row.Goals as goal

-- bytes that are those of a word of at most 64 give its key
key_of_word : (given word key : List ℕ) → each small word ≡ key → length word ≤ 64 → given ≡ word → each small (take 64 given) ≡ key
key_of_word given word key e short same = ap (λ bs. each small (take 64 bs)) same ∙ ap (each small) (take_all 64 word short) ∙ e

pub returns : goal.returns
returns c =
    let word = c.word-word.result.now in
    let e = ap length c.word-word.ensures in
    let s = key_short (token_text c.args.texts.title.now c.args.texts.body.now c.args.self.0) (c.args.self.0 / 65536) in
    let short : length word ≤ 64 = omega (arith, length_each small word) in
    row_ext _ _ (c.of_word.ensures ∙ key_of_word _ word _ c.word-word.ensures short (grind (arith, common_steps))) refl c.place.ensures
