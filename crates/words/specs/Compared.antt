-- What a comparison of bytes answers, with capitals as they are or made small. Assumes nothing: these are definitions.
use Rattle.std.specs.Prelude.{◌≡◌, ℕ, Bool, true, false, List}
use Rattle.std.specs.declared.cmp.Ordering.{Ordering}
use Rattle.std.specs.Ordering.{is_lt, is_eq, is_gt}
use Rattle.pages.specs.Lists.{each, same, earlier}
use Rattle.words.specs.Words.{small}

-- bytes with capitals made small, or as they are
abbrev pub read_as : Bool → List ℕ → List ℕ
read_as true bs = each small bs
read_as false bs = bs

-- the answer tells which of two lists is the earlier one, or that they are the same
pub record Compared (r : Ordering) (a b : List ℕ) : Type 0 where
  pub less : is_lt r ≡ earlier a b
  pub equal : is_eq r ≡ same a b
  pub greater : is_gt r ≡ earlier b a
