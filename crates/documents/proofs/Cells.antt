-- Laws of cells that hold bytes, by their places, and of a row that is written over. Assumes nothing.
use Rattle.std.proofs.Common.{◌≡◌, ℕ, zero, suc, ◌+◌, ◌%◌, ◌<◌, ◌≤◌, true, false, ◌&&◌, List, [], ◌∷◌, ◌++◌, length, get_or, drop, refl, ap, ◌∙◌, ⊎_elim, append-nil, arith}
use Rattle.std.proofs.lemmas.List.{drop_all, at_drop_more}
use Rattle.std.proofs.lemmas.Bool.{cases_lt, both_ways, lt-ltb, le-ltb}
use Rattle.pages.specs.Bytes.{all_bytes}
use Rattle.pages.specs.Places.{written}
use Rattle.documents.specs.Pages.{low_bytes}

-- cells by cell: one that holds a byte, and one that holds none
pub bytes_more : (cs : List ℕ) (i : ℕ) → i < length cs → get_or cs i 0 < 256 → all_bytes (drop i cs) ≡ all_bytes (drop (i + 1) cs)
bytes_more cs i h s = at_drop_more all_bytes cs i 0 h ∙ ap (λ t. t && all_bytes (drop (i + 1) cs)) (lt-ltb (get_or cs i 0) 256 s)

pub bytes_stop : (cs : List ℕ) (i : ℕ) → i < length cs → 256 ≤ get_or cs i 0 → all_bytes (drop i cs) ≡ false
bytes_stop cs i h s = at_drop_more all_bytes cs i 0 h ∙ ap (λ t. t && all_bytes (drop (i + 1) cs)) (le-ltb (get_or cs i 0) 256 s)

pub bytes_here : (cs : List ℕ) (i : ℕ) → i < length cs → all_bytes (drop i cs) ≡ true → get_or cs i 0 < 256
bytes_here cs i h b = ⊎_elim (λ s. s) (λ s. absurd (both_ways _ (bytes_stop cs i h s) b)) (cases_lt (get_or cs i 0) 256)

-- all of a row is written over
pub written_whole : (out bs : List ℕ) → length bs ≡ length out → written out 0 bs ≡ bs
unfolding written
written_whole out bs e = ap (λ x. bs ++ x) (drop_all (0 + length bs) out (omega arith)) ∙ append-nil bs

-- the lowest byte of what stands in a cell
pub getD_low : (cs : List ℕ) (i : ℕ) → get_or (low_bytes cs) i 0 ≡ get_or cs i 0 % 256
getD_low [] i = refl
getD_low (c ∷ cs) zero = refl
getD_low (c ∷ cs) (suc i) = getD_low cs i
