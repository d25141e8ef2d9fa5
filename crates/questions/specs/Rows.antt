-- Hits in a lent row, two numbers for each, and what stands there when one more is put in. Assumes nothing: these are definitions.
use Rattle.std.specs.Prelude.{◌≡◌, ℕ, suc, ◌+◌, ◌-◌, ◌*◌, ◌^◌, ◌<◌, ◌≤◌, Bool, true, false, ◌&&◌, List, [], ◌∷◌, ◌++◌, length, take, drop, Some, None, Ok, Err, Option, Result, nat_le, slice_index, slice_index_or}
use Rattle.std.specs.Borrow.{Bor}
use Rattle.std.specs.List.{insert}
use Rattle.questions.specs.Order.{Hit, better, put_in, in_order}
use Rattle.questions.specs.Best.{smaller, hits_in, hit_of, hits_of, all_hits, hits_out, refusal_number, refusal}
use Rattle.questions.specs.declared.hits.Hit.{Hit as Held}
use Rattle.questions.specs.declared.hits.Placed.{Placed}
use Rattle.questions.specs.declared.refusal.Refusal.{Refusal}

abbrev pub as_hit : Held → Hit
as_hit h = record { doc = h.doc; points = h.points }

abbrev pub hit_at : List ℕ → ℕ → Hit
hit_at row i = record { doc = slice_index row (2 * i); points = slice_index row (2 * i + 1) }

-- the row has room for the most, and holds no more than that
abbrev pub has_room : (row : List ℕ) (count most : ℕ) → Bool
has_room row count most = nat_le count most && nat_le (2 * most) (length row)

-- a place for a hit among so many: it is not better than the one before it, and better than the one that stands there
pub record Goes (row : List ℕ) (count : ℕ) (h : Hit) (at : ℕ) : Type 0 where
  pub within : at ≤ count
  pub before : 0 < at → better h (hit_at row (at - 1)) ≡ false
  pub after : at < count → better h (hit_at row at) ≡ true

-- the same among hits as pairs of numbers
pub record GoesAmong (held : List (List ℕ)) (h : Hit) (at : ℕ) : Type 0 where
  pub within : at ≤ length held
  pub before : 0 < at → better h (hit_of (slice_index_or held (at - 1) [])) ≡ false
  pub after : at < length held → better h (hit_of (slice_index_or held at [])) ≡ true

-- the row with a hit at its place, and those from there up to the last one place further down
abbrev pub moved : (row : List ℕ) (at last : ℕ) → Hit → List ℕ
moved row at last h = take (2 * at) row ++ (h.doc ∷ h.points ∷ take (2 * (last - at)) (drop (2 * at) row) ++ drop (2 * last + 2) row)

-- What is answered, and what stands in the row. In a row whose hits are in order the new one is put in as the order says.
pub record Inserted (row : List ℕ) (count most : ℕ) (h : Hit) (p : Placed) (row₁ : List ℕ) : Type 0 where
  pub held : p.count ≡ smaller most (suc count)
  pub place : Goes row count h p.at
  pub few : 2 ^ p.compared ≤ 4 * count + 1
  pub stands : row₁ ≡ hits_out (take most (insert (hits_in count row) p.at h)) ++ drop (2 * p.count) row
  pub ordered : in_order (hits_in count row) ≡ hits_in count row → row₁ ≡ hits_out (take most (put_in h (hits_in count row))) ++ drop (2 * p.count) row

abbrev pub PutSays : (row : List ℕ) (count most : ℕ) → Hit → Option Placed → (row₁ : List ℕ) → Type 0
PutSays row count most h None row₁ = (has_room row count most ≡ false) × (row₁ ≡ row)
PutSays row count most h (Some p) row₁ = (has_room row count most ≡ true) × Inserted row count most h p row₁

-- the hits where none of the refusals applies, with room for the best of them, and otherwise the refusal that applies
abbrev pub Checked : (hits out : List ℕ) (k : ℕ) → Result (Bor (List (List ℕ))) Refusal → Type 0
Checked hits out k (Ok pairs) =
    (refusal hits out k ≡ 0) × (hits_of pairs.now ≡ all_hits hits) × (length pairs.now ≡ slice_index hits 0) × (2 * smaller k (length pairs.now) ≤ length out)
Checked hits out k (Err why) = refusal hits out k ≡ refusal_number why
