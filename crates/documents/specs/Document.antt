-- A document: a name, a title and a body; its words. Assumes nothing: these are definitions.
use Rattle.std.specs.Prelude.{ℕ, ◌+◌, List, ◌++◌, length}
use Rattle.words.specs.Words.{words}

pub record Doc : Type 0 where
  pub name : ℕ
  pub title : List ℕ
  pub body : List ℕ

abbrev pub all_words : Doc → List (List ℕ)
all_words d = words d.title ++ words d.body

abbrev pub long : Doc → ℕ
long d = length (words d.title) + length (words d.body)
