-- Hits as pairs of numbers: those that stand in a row, and whether their names rise.
use Rattle.std.proofs.Common.{◌≡◌, ℕ, zero, suc, ◌+◌, ◌-◌, ◌/◌, ◌<◌, ◌≤◌, Bool, true, false, ◌&&◌, nat_lt, List, [], ◌∷◌, ◌++◌, length, get_or, take, drop, sym, refl, ap, ◌∙◌, subst, append_assoc, add-one, arith}
use Rattle.std.specs.Simd.{first_chunks}
use Rattle.std.specs.List.{IsAllAdjacentAnswer}
use Rattle.std.proofs.lemmas.List.{append-nil}
use Rattle.questions.specs.Order.{Hit, better}
use Rattle.questions.specs.Best.{hit_of, hits_of, all_hits, hits_in, rising}
use Rattle.questions.specs.Rows.{hit_at, Goes, GoesAmong, Inserted}
use Rattle.questions.specs.declared.hits.Placed.{Placed}
use Rattle.questions.proofs.Rows.{hit_further, HoldsBest, holds_none, holds_one_more}

pub length_chunks : (n : ℕ) (xs : List ℕ) → length (first_chunks 2 n xs) ≡ n
length_chunks zero xs = refl
length_chunks (suc n) xs = ap suc (length_chunks n (drop 2 xs))

pub take_chunks : (m n : ℕ) (xs : List ℕ) → m ≤ n → take m (first_chunks 2 n xs) ≡ first_chunks 2 m xs
take_chunks zero n xs le = refl
take_chunks (suc m) zero xs le = absurd (omega arith)
take_chunks (suc m) (suc n) xs le = ap (λ (ps : List (List ℕ)). take 2 xs ∷ ps) (take_chunks m n (drop 2 xs) (omega arith))

first_hit : (xs : List ℕ) → hit_of (take 2 xs) ≡ hit_at xs 0
first_hit [] = refl
first_hit (x ∷ []) = refl
first_hit (x ∷ y ∷ ys) = refl

-- the pairs that a row is cut into are the hits that it has
pub hits_of_chunks : (n : ℕ) (xs : List ℕ) → hits_of (first_chunks 2 n xs) ≡ hits_in n xs
unfolding hits_in
hits_of_chunks zero xs = refl
hits_of_chunks (suc n) xs = rw (first_hit xs) (ap (λ (hs : List Hit). hit_at xs 0 ∷ hs) (hits_of_chunks n (drop 2 xs)))

pub chunk_at : (n i : ℕ) (xs : List ℕ) → i < n → hit_of (get_or (first_chunks 2 n xs) i []) ≡ hit_at xs i
chunk_at zero i xs l = absurd (omega arith)
chunk_at (suc n) zero xs l = first_hit xs
chunk_at (suc n) (suc i) xs l = chunk_at n i (drop 2 xs) (omega arith) ∙ hit_further xs i

-- a place among the pairs is a place in the row
pub goes_in_row : (row : List ℕ) (count : ℕ) (held : List (List ℕ)) (h : Hit) (at : ℕ) → held ≡ first_chunks 2 count row → GoesAmong held h at → Goes row count h at
goes_in_row row count held h at e g =
    let len : length held ≡ count = ap length e ∙ length_chunks count row in
    let is : (i : ℕ) → i < count → better h (hit_of (get_or held i [])) ≡ better h (hit_at row i) =
    λ i l. ap (λ (ps : List (List ℕ)). better h (hit_of (get_or ps i []))) e ∙ ap (better h) (chunk_at count i row l) in
    record {
      within = omega (arith, g.within);
      before = λ l. sym (is (at - 1) (omega (arith, g.within))) ∙ g.before l;
      after = λ l. sym (is at l) ∙ g.after (omega arith);
    }

-- NAMES THAT RISE, one pair of neighbours at a time
abbrev pub lower_name : List ℕ → List ℕ → Bool
lower_name a b = nat_lt (get_or a 0 0) (get_or b 0 0)

rising_all : (ps : List (List ℕ)) → ((k : ℕ) (d : List ℕ) → suc k < length ps → lower_name (get_or ps k d) (get_or ps (suc k) d) ≡ true) → rising (hits_of ps) ≡ true
unfolding rising
rising_all [] h = refl
rising_all (p ∷ []) h = refl
rising_all (p ∷ q ∷ ps) h = rw (h 0 p (omega arith)) (rising_all (q ∷ ps) (λ k d l. h (suc k) d (omega arith)))

rising_not : (ps : List (List ℕ)) (k : ℕ) → suc k < length ps → ((d : List ℕ) → lower_name (get_or ps k d) (get_or ps (suc k) d) ≡ false) → rising (hits_of ps) ≡ false
unfolding rising
rising_not [] k l h = absurd (omega arith)
rising_not (p ∷ []) k l h = absurd (omega arith)
rising_not (p ∷ q ∷ ps) zero l h = rw (h p)
rising_not (p ∷ q ∷ ps) (suc k) l h =
    elim (lower_name p q) as (λ b. b && rising (hits_of (q ∷ ps)) ≡ false) [ true ↦ rising_not (q ∷ ps) k (omega arith) (λ d. h d) | false ↦ refl ]

pub rising_is : (ps : List (List ℕ)) (r : Bool) → IsAllAdjacentAnswer (λ x y b. b ≡ lower_name x y) ps r → r ≡ rising (hits_of ps)
rising_is ps true h = sym (rising_all ps (λ k d l. let e : true ≡ lower_name (get_or ps k d) (get_or ps (k + 1) d) = h k d (omega arith) in rw add-one at (sym e)))
rising_is ps false h = sym (rising_not ps h.0 (omega (arith, h.1)) (λ d. rw add-one at (sym (h.2 d))))

-- THE HITS OF A ROW, of which the first number says how many they are
module _ (hits : List ℕ) (n : ℕ) (rest : List ℕ) (pairs : List (List ℕ)) (is : hits ≡ n ∷ rest) (cut : pairs ≡ first_chunks 2 (length rest / 2) rest) (enough : n ≤ length pairs) where
  pub counted_hits : hits_of (take n pairs) ≡ all_hits hits
  counted_hits =
      let len : length pairs ≡ length rest / 2 = ap length cut ∙ length_chunks (length rest / 2) rest in
      let e : take n pairs ≡ first_chunks 2 n rest = ap (take n) cut ∙ take_chunks n (length rest / 2) rest (omega arith) in
      rw (e, is) (hits_of_chunks n rest)

  pub counted_rise : (r : Bool) → r ≡ rising (hits_of (take n pairs)) → rising (all_hits hits) ≡ r
  counted_rise r e = sym (e ∙ ap rising counted_hits)

-- KEEPING THE BEST, from the last hit to the first: of those that are done the best stand in the row, and the others are left
pub record Kept (hits : List (List ℕ)) (most : ℕ) (row : List ℕ) (left : List (List ℕ)) (held : ℕ) (row₁ : List ℕ) : Type 0 where
  pub done : List (List ℕ)
  pub parts : left ++ done ≡ hits
  pub best : HoldsBest (hits_of done) most row held row₁

pub kept_none : (hits : List (List ℕ)) (most : ℕ) (row : List ℕ) (left : List (List ℕ)) → left ≡ hits → Kept hits most row left 0 row
kept_none hits most row left e = record { done = []; parts = append-nil left ∙ e; best = holds_none most row }

pub kept_more : {hits : List (List ℕ)} {most : ℕ} (row : List ℕ) (left left₁ : List (List ℕ)) (held : ℕ) (row₁ : List ℕ) (pair : List ℕ) (h : Hit) (p : Placed) (row₂ : List ℕ) →
    Kept hits most row left held row₁ → left ≡ left₁ ++ pair ∷ [] → h ≡ hit_of pair → Inserted row₁ held most h p row₂ → Kept hits most row left₁ p.count row₂
kept_more {hits} {most} row left left₁ held row₁ pair h p row₂ k e is put = record {
  done = pair ∷ k.done;
  parts = sym (append_assoc left₁ (pair ∷ []) k.done) ∙ ap (λ (ps : List (List ℕ)). ps ++ k.done) (sym e) ∙ k.parts;
  best = holds_one_more (hits_of k.done) most row held row₁ (hit_of pair) p row₂ k.best (subst (λ (g : Hit). Inserted row₁ held most g p row₂) is put);
}
