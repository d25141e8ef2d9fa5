-- A step of the machine makes small moves until there is an act. Assumes nothing: these are definitions.
use Rattle.std.specs.Prelude.{ℕ, zero, suc, List}
use Rattle.reports.specs.Run.{Act, flush, Step}

-- what a move comes to: on to another state, or an act
pub data Moved (St : Type 0) : Type 0 where
  goes : St → Moved St
  acts : St → Act → Moved St

abbrev pub after_move : {St : Type 0} → (St → List ℕ) → (St → Step) → Moved St → Step
after_move enc go (goes st) = go st
after_move enc go (acts st a) = record { memory = enc st; act = a }

-- so many moves at most, until there is an act; when the count is out, a flush, which nobody sees
unfoldable pub moves : {St : Type 0} → (St → List ℕ) → (St → Moved St) → ℕ → St → Step
moves enc move zero st = record { memory = enc st; act = flush }
moves enc move (suc f) st = after_move enc (moves enc move f) (move st)
