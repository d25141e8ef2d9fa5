-- Where the words of a text stand: the bytes that make no word before the next one, the stretch of bytes that makes it, and what is still to come. Assumes nothing: these are definitions.
use Rattle.std.specs.Prelude.{◌≡◌, ℕ, suc, ◌+◌, ◌-◌, ◌≤◌, min, Bool, true, false, List, [], ◌∷◌, length, take, drop}
use Rattle.std.specs.Bool.{beq}
use Rattle.pages.specs.Lists.{pick, each}
use Rattle.words.specs.Words.{in_word, small, words}
use Rattle.words.specs.declared.Word.{Word}

-- how many bytes at the front make words, or make none
unfoldable pub run : Bool → List ℕ → ℕ
run of [] = 0
run of (c ∷ cs) = pick (beq (in_word c) of) (suc (run of cs)) 0

abbrev pub gap : List ℕ → ℕ
gap bs = run false bs

abbrev pub stretch : List ℕ → ℕ
stretch bs = run true bs

-- the bytes from a place on with capitals made small
abbrev pub word_at : List ℕ → ℕ → ℕ → List ℕ
word_at bs start len = each small (take len (drop start bs))

-- the words that are still to come from a place on
abbrev pub to_come : List ℕ → ℕ → List (List ℕ)
to_come bs at = words (drop at bs)

-- the next word from a place on: where it stands, how many of its bytes count, and that it comes before what comes after its stretch
pub record Found (bs : List ℕ) (at : ℕ) (w : Word) : Type 0 where
  pub starts : w.start ≡ at + gap (drop at bs)
  pub ends : w.end ≡ w.start + stretch (drop w.start bs)
  pub counts : w.len ≡ min 64 (w.end - w.start)
  pub some : 1 ≤ w.len
  pub inside : w.end ≤ length bs
  pub comes : to_come bs at ≡ word_at bs w.start w.len ∷ to_come bs w.end
