-- Merging sorted rows: of several lists always the least of the first rows. Assumes nothing: these are definitions.
use Rattle.std.specs.Prelude.{◌≡◌, ℕ, zero, suc, true, List, [], ◌∷◌, length, Some, None, Option}
use Rattle.pages.specs.Lists.{pick}
use Rattle.pages.proofs.Sorted.{Pairwise}
use Rattle.rows.specs.Rows.{Row, row_less}
use Rattle.rows.specs.Cursors.{together}

-- each row is less than every later one
abbrev pub Rising : List Row → Type 0
Rising rs = Pairwise (λ (a b : Row). row_less a b ≡ true) rs

-- the least of the first rows of several lists, and the lists without it
pub record Least : Type 0 where
  pub row : Row
  pub rest : List (List Row)

abbrev pub after_none : Option Least → Option Least
after_none None = None
after_none (Some m) = Some (record { row = m.row; rest = [] ∷ m.rest })

abbrev pub or_first : Row → List Row → List (List Row) → Option Least → Option Least
or_first r rs ls None = Some (record { row = r; rest = rs ∷ ls })
or_first r rs ls (Some m) =
    pick (row_less m.row r) (Some (record { row = m.row; rest = (r ∷ rs) ∷ m.rest })) (Some (record { row = r; rest = rs ∷ ls }))

unfoldable pub least : List (List Row) → Option Least
least [] = None
least ([] ∷ ls) = after_none (least ls)
least ((r ∷ rs) ∷ ls) = or_first r rs ls (least ls)

abbrev pub least_then : Option Least → (List (List Row) → List Row) → List Row
least_then None f = []
least_then (Some m) f = m.row ∷ f m.rest

-- one after the other, as many as there are
unfoldable pub merged : ℕ → List (List Row) → List Row
merged zero ls = []
merged (suc n) ls = least_then (least ls) (merged n)

abbrev pub merge_all : List (List Row) → List Row
merge_all ls = merged (length (together ls)) ls

abbrev pub merge_rows : List Row → List Row → List Row
merge_rows a b = merge_all (a ∷ b ∷ [])
