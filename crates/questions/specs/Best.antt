-- Picking the best of some hits, over rows of numbers: what is refused, and what stands in the lent row afterwards. Assumes nothing: these are
-- definitions.
use Rattle.std.specs.Prelude.{◌≡◌, ℕ, zero, suc, ◌+◌, ◌*◌, Bool, true, ◌&&◌, List, [], ◌∷◌, ◌++◌, length, map, take, drop, nat_le, nat_lt, slice_index, Ok, Err, Result, codes}
use Rattle.pages.specs.Lists.{pick}
use Rattle.questions.specs.Order.{Hit, in_order}
use Rattle.questions.specs.declared.refusal.Refusal.{Refusal}
use Rattle.questions.specs.declared.refusal.Refusal.TheVariants.{CutShort, NotRising, NoRoom}

abbrev pub smaller : ℕ → ℕ → ℕ
smaller a b = pick (nat_lt a b) a b

-- hits are how many, and for each a name and its points
unfoldable pub hits_in : ℕ → List ℕ → List Hit
hits_in zero xs = []
hits_in (suc n) xs = record { doc = slice_index xs 0; points = slice_index xs 1 } ∷ hits_in n (drop 2 xs)

-- a hit as two numbers, and hits as pairs of them
abbrev pub hit_of : List ℕ → Hit
hit_of pair = record { doc = slice_index pair 0; points = slice_index pair 1 }

abbrev pub hits_of : List (List ℕ) → List Hit
hits_of pairs = map hit_of pairs

abbrev pub all_hits : List ℕ → List Hit
all_hits xs = hits_in (slice_index xs 0) (drop 1 xs)

unfoldable pub hits_out : List Hit → List ℕ
hits_out [] = []
hits_out (h ∷ hs) = h.doc ∷ h.points ∷ hits_out hs

-- the number of each refusal
abbrev pub refusal_number : Refusal → ℕ
refusal_number CutShort = 1
refusal_number NotRising = 2
refusal_number NoRoom = 3

-- what each refusal prints
abbrev pub refusal_text : Refusal → List ℕ
refusal_text CutShort = codes "the hits are cut short, or more than 65536"
refusal_text NotRising = codes "the names of the hits do not rise"
refusal_text NoRoom = codes "the row is too short for the best of the hits"

unfoldable pub BestSays : (hits out : List ℕ) (k : ℕ) → (refusal : ℕ) → Result ℕ Refusal → (out₁ : List ℕ) → Type 0
BestSays hits out k zero r out₁ =
    (r ≡ Ok (smaller k (slice_index hits 0)))
    × (out₁ ≡ hits_out (take k (in_order (all_hits hits))) ++ drop (2 * smaller k (slice_index hits 0)) out)
BestSays hits out k (suc n) r out₁ = ((why : Refusal) × (r ≡ Err why) × (refusal_number why ≡ suc n)) × (out₁ ≡ out)

unfoldable pub rising : List Hit → Bool
rising [] = true
rising (g ∷ []) = true
rising (g ∷ h ∷ hs) = nat_lt g.doc h.doc && rising (h ∷ hs)

-- which refusal, 0 for none: 1, the hits are cut short or more than 65,536; 2, their names don't rise; 3, the lent row is shorter than 2 × k, or 2 for
-- each hit if these are fewer
unfoldable pub refusal : (hits out : List ℕ) (k : ℕ) → ℕ
refusal hits out k =
    pick (nat_le 1 (length hits) && (nat_le (slice_index hits 0) 65536 && nat_le (1 + 2 * slice_index hits 0) (length hits)))
    (pick (rising (all_hits hits)) (pick (nat_le (2 * smaller k (slice_index hits 0)) (length out)) 0 3) 2) 1
