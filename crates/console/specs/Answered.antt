-- What is printed of how a command went. Assumes nothing: these are definitions.
use Rattle.std.specs.Prelude.{◌≡◌, ℕ, List, [], ◌∷◌, ◌++◌, take, drop, codes, decimal, Result, Vec, IfOk, vec_items}
use Rattle.std.specs.declared.alloc.Global.{Global}
use Rattle.std.specs.declared.alloc.AllocError.{AllocError}
use Rattle.pages.specs.Lists.{flat}
use Rattle.pages.specs.Bytes.{from_eight}
use Rattle.driver.specs.declared.machine.End.{End}
use Rattle.driver.specs.declared.machine.End.TheVariants.{Done, Refused, Stopped}
use Rattle.console.specs.declared.typed.Request.{Request}
use Rattle.console.specs.declared.typed.Request.TheVariants.{Put, Remove, Note, Ask, Count, Fetch, Help, Quit}

-- what a row is: a name and its points, how many match, or a title or a body
pub data Kind : Type 0 where
  Hit : Kind
  Number : Kind
  Text : Kind

-- a row as a line: a hit is a name and its points, a count is one number, each in eight bytes; a text is as it is
abbrev pub line_of : Kind → List ℕ → List ℕ
line_of Hit row = decimal (from_eight 0 (take 8 row)) ++ (codes ": " ++ decimal (from_eight 0 (take 8 (drop 8 row))))
line_of Number row = decimal (from_eight 0 (take 8 row)) ++ codes " match"
line_of Text row = row

-- a line for each row
abbrev pub lines : Kind → List (List ℕ) → List ℕ
lines k rows = flat (λ row. line_of k row ++ 10 ∷ []) rows

-- what it gives for a row, as the line of a row of this kind
abbrev pub Gives : (List ℕ → Result (Vec ℕ Global) AllocError → Type 0) → Kind → Type 0
Gives gives k = (row : List ℕ) (r : Result (Vec ℕ Global) AllocError) → gives row r → IfOk r (λ l. vec_items l ≡ line_of k row)

-- hits, and a line if there is none
abbrev pub hit_lines : List (List ℕ) → List ℕ
hit_lines [] = codes "0 match\n"
hit_lines (row ∷ rows) = lines Hit (row ∷ rows)

abbrev pub shown : Request → List (List ℕ) → List ℕ
shown (Put n t b) rows = codes "done\n"
shown (Remove n) rows = codes "done\n"
shown Note rows = codes "done\n"
shown (Ask k ws) rows = hit_lines rows
shown (Count ws) rows = lines Number rows
shown (Fetch n) rows = lines Text rows
shown Help rows = codes "done\n"
shown Quit rows = codes "done\n"

abbrev pub answered : Request → List (List ℕ) → End → List ℕ
answered q rows Done = shown q rows
answered q rows (Refused k) = codes "refused " ++ (decimal k ++ codes "\n")
answered q rows Stopped = codes "stopped\n"
