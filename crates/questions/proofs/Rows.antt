-- Laws of hits in rows of numbers, two for each: reading and writing them are inverse, and each part of the hits is a part of the row.
use Rattle.std.proofs.Common.{◌≡◌, ℕ, zero, suc, ◌+◌, ◌-◌, ◌*◌, ◌^◌, ◌<◌, ◌≤◌, min, true, leb, ◌⊎◌, List, [], ◌∷◌, ◌++◌, length, get_or, take, drop, set, sym, refl, ap, ◌∙◌, inl, inr, ⊎_elim, append_assoc, arith, length-append, length-drop, take-append-drop, length-take}
use native.Mathlib.Nat.{sub-zero, suc-sub-suc}
use lib.Seq.{paste}
use Rattle.std.specs.List.{insert}
use Rattle.std.proofs.lemmas.List.{take_all, take-take, take_at, drop_at, drop-drop, drop_more, get_or-drop, length-take-le, take-append-le}
use Rattle.std.proofs.lemmas.Slice.{drop-append-drop}
use Rattle.std.proofs.lemmas.Bool.Decides.{nat_tests}
use Rattle.std.proofs.lemmas.Bool.{and_parts, and_from, leb-true, le-leb, cases_lt}
use Rattle.std.proofs.lemmas.List.Edits.{sets-eq, length-insert}
use Rattle.questions.specs.Order.{Hit, better, put_in, in_order}
use Rattle.questions.specs.Best.{smaller, hits_in, hits_out}
use Rattle.questions.specs.Rows.{hit_at, moved, has_room, Goes, Inserted}
use Rattle.questions.specs.declared.hits.Placed.{Placed}
use Rattle.questions.proofs.Insertion.{put_in_between, first_in_order, first_with_one_more}
use Rattle.questions.proofs.Order.{length_in_order}

pub length_hits_in : (n : ℕ) (xs : List ℕ) → length (hits_in n xs) ≡ n
unfolding hits_in
length_hits_in zero xs = refl
length_hits_in (suc n) xs = ap suc (length_hits_in n (drop 2 xs))

pub length_hits_out : (hs : List Hit) → length (hits_out hs) ≡ 2 * length hs
unfolding hits_out
length_hits_out [] = refl
length_hits_out (h ∷ hs) = let r = length_hits_out hs in omega arith

pub hits_out_append : (gs hs : List Hit) → hits_out (gs ++ hs) ≡ hits_out gs ++ hits_out hs
unfolding hits_out
hits_out_append [] hs = refl
hits_out_append (g ∷ gs) hs = ap (λ (x : List ℕ). g.doc ∷ g.points ∷ x) (hits_out_append gs hs)

-- what was written is read again
pub hits_in_out : (hs : List Hit) (n : ℕ) (rest : List ℕ) → length hs ≡ n → hits_in n (hits_out hs ++ rest) ≡ hs
unfolding hits_in hits_out
hits_in_out [] zero rest e = refl
hits_in_out [] (suc n) rest e = absurd (omega arith)
hits_in_out (h ∷ hs) zero rest e = absurd (omega arith)
hits_in_out (h ∷ hs) (suc n) rest e = ap (λ (x : List Hit). h ∷ x) (hits_in_out hs n rest (omega arith))

-- what was read is written as it stood
pub hits_out_in : (n : ℕ) (xs : List ℕ) → 2 * n ≤ length xs → hits_out (hits_in n xs) ≡ take (2 * n) xs
unfolding hits_in hits_out
hits_out_in zero xs le = refl
hits_out_in (suc n) [] le = absurd (omega arith)
hits_out_in (suc n) (x ∷ []) le = absurd (omega arith)
hits_out_in (suc n) (x ∷ y ∷ ys) le =
    let e : 2 * suc n ≡ suc (suc (2 * n)) = omega arith in
    rw e (ap (λ (z : List ℕ). x ∷ y ∷ z) (hits_out_in n ys (omega arith)))

pub take_hits_in : (i n : ℕ) (xs : List ℕ) → i ≤ n → take i (hits_in n xs) ≡ hits_in i xs
unfolding hits_in
take_hits_in zero n xs le = refl
take_hits_in (suc i) zero xs le = absurd (omega arith)
take_hits_in (suc i) (suc n) xs le = ap (λ (x : List Hit). hit_at xs 0 ∷ x) (take_hits_in i n (drop 2 xs) (omega arith))

pub drop_hits_in : (i n : ℕ) (xs : List ℕ) → drop i (hits_in n xs) ≡ hits_in (n - i) (drop (2 * i) xs)
unfolding hits_in
drop_hits_in zero n xs = rw sub-zero
drop_hits_in (suc i) zero xs = let e : 0 - suc i ≡ 0 = omega arith in rw e
drop_hits_in (suc i) (suc n) xs =
    let e : 2 * suc i ≡ 2 + 2 * i = omega arith in
    rw (e, suc-sub-suc) (drop_hits_in i n (drop 2 xs) ∙ ap (hits_in (n - i)) (drop-drop (2 * i) 2 xs))

pub hit_further : (xs : List ℕ) (j : ℕ) → hit_at (drop 2 xs) j ≡ hit_at xs (suc j)
hit_further xs j =
    let e : 2 * suc j ≡ 2 + 2 * j = omega arith in
    let f : 2 + 2 * j + 1 ≡ 2 + (2 * j + 1) = omega arith in
    let p = get_or-drop 2 xs (2 * j) 0 in
    let q = get_or-drop 2 xs (2 * j + 1) 0 in
    rw e cc

pub getD_hits_in : (n : ℕ) (xs : List ℕ) (j : ℕ) (d : Hit) → j < n → get_or (hits_in n xs) j d ≡ hit_at xs j
unfolding hits_in
getD_hits_in zero xs j d l = absurd (omega arith)
getD_hits_in (suc n) xs zero d l = refl
getD_hits_in (suc n) xs (suc j) d l = getD_hits_in n (drop 2 xs) j d (omega arith) ∙ hit_further xs j

-- from one hit of a row on
pub drop_hits_more : (n : ℕ) (xs : List ℕ) (i : ℕ) → i < n → drop i (hits_in n xs) ≡ hit_at xs i ∷ drop (i + 1) (hits_in n xs)
drop_hits_more n xs i l =
    drop_more (hits_in n xs) i (hit_at xs 0) (omega (arith, length_hits_in n xs)) ∙ ap (λ (h : Hit). h ∷ drop (i + 1) (hits_in n xs)) (getD_hits_in n xs i (hit_at xs 0) l)

take_inserted : {X : Type 0} (n i : ℕ) (x : X) (xs : List X) → i ≤ n → i ≤ length xs → take (suc n) (insert xs i x) ≡ take i xs ++ (x ∷ take (n - i) (drop i xs))
take_inserted n zero x xs h k = rw sub-zero
take_inserted n (suc i) x [] h k = absurd (omega arith)
take_inserted zero (suc i) x (y ∷ ys) h k = absurd (omega arith)
take_inserted {X} (suc n) (suc i) x (y ∷ ys) h k = rw suc-sub-suc (ap (λ (z : List X). y ∷ z) (take_inserted n i x ys (omega arith) (omega arith)))

-- so many or so many: the same where they are as many, or more than there are
pub take_most : {X : Type 0} (m n : ℕ) (xs : List X) → (m ≡ n) ⊎ ((length xs ≤ m) × (length xs ≤ n)) → take m xs ≡ take n xs
take_most m n xs (inl e) = ap (λ (k : ℕ). take k xs) e
take_most m n xs (inr l) = take_all m xs l.0 ∙ sym (take_all n xs l.1)

-- ONE MORE IN THE ROW: with the hits from its place on moved down over the last, the row holds the hits with the new one in its place
pub moved_is : (row : List ℕ) (count most at last : ℕ) (h : Hit) → at ≤ last → last ≤ count → 2 * last + 2 ≤ length row → (most ≡ suc last) ⊎ ((count ≡ last) × (suc last ≤ most)) →
    moved row at last h ≡ hits_out (take most (insert (hits_in count row) at h)) ++ drop (2 * suc last) row
unfolding hits_out
moved_is row count most at last h a b c d =
    let hs : List Hit = hits_in count row in
    let len : length hs ≡ count = length_hits_in count row in
    let n : length (insert hs at h) ≡ length hs + 1 = length-insert hs at h (omega arith) in
    let t : take most (insert hs at h) ≡ take at hs ++ (h ∷ take (last - at) (drop at hs)) =
    take_most most (suc last) (insert hs at h) (⊎_elim (λ e. inl e) (λ e. inr (omega (arith, e), omega (arith, e))) d) ∙ take_inserted last at h hs a (omega arith) in
    let front : hits_out (take at hs) ≡ take (2 * at) row = ap hits_out (take_hits_in at count row (omega arith)) ∙ hits_out_in at row (omega arith) in
    let back : hits_out (take (last - at) (drop at hs)) ≡ take (2 * (last - at)) (drop (2 * at) row) =
    ap hits_out (ap (take (last - at)) (drop_hits_in at count row) ∙ take_hits_in (last - at) (count - at) (drop (2 * at) row) (omega arith))
    ∙ hits_out_in (last - at) (drop (2 * at) row) (omega (arith, length-drop (2 * at) row)) in
    let e : 2 * suc last ≡ 2 * last + 2 = omega arith in
    rw (t, hits_out_append, front, back, e) (sym (append_assoc (take (2 * at) row) (h.doc ∷ h.points ∷ take (2 * (last - at)) (drop (2 * at) row)) (drop (2 * last + 2) row)))

-- a full row that turns the hit away
pub full_is : (row : List ℕ) (count most at : ℕ) (h : Hit) → count ≡ most → at ≡ most → 2 * most ≤ length row →
    row ≡ hits_out (take most (insert (hits_in count row) at h)) ++ drop (2 * count) row
full_is row count most at h e f le =
    let hs : List Hit = hits_in most row in
    let len : length hs ≡ most = length_hits_in most row in
    let t : take most (insert hs most h) ≡ hs = take_at (take most hs) (h ∷ drop most hs) most (length-take-le most hs (omega arith)) ∙ take_all most hs (omega arith) in
    rw (e, f, t, hits_out_in most row le) (sym (take-append-drop (2 * most) row))

-- what a copy of a part one place further down and two writes leave
pub written_is : (row : List ℕ) (at last : ℕ) (h : Hit) → at ≤ last → 2 * last + 2 ≤ length row →
    set (set (paste row (2 * at + 2) (drop (2 * at) row) (2 * last - 2 * at)) (2 * at) h.doc) (suc (2 * at)) h.points ≡ moved row at last h
written_is row at last h a b =
    let i : ℕ = 2 * at in
    let n : ℕ = 2 * last - i in
    let middle : List ℕ = take n (drop i row) in
    let end : List ℕ = drop (i + 2 + n) row in
    let p : paste row (i + 2) (drop i row) n ≡ take (i + 2) row ++ (middle ++ end) = append_assoc (take (i + 2) row) middle end in
    let front : length (take (i + 2) row) ≡ i + 2 = length-take-le (i + 2) row (omega arith) in
    let long : length (take (i + 2) row ++ (middle ++ end)) ≡ length (take (i + 2) row) + length (middle ++ end) = length-append (take (i + 2) row) (middle ++ end) in
    let s = sets-eq (h.doc ∷ h.points ∷ []) (take (i + 2) row ++ (middle ++ end)) i (omega arith) in
    let t : take i (take (i + 2) row ++ (middle ++ end)) ≡ take i row = take-append-le i (take (i + 2) row) (middle ++ end) (omega arith) ∙ take-take i (i + 2) row (omega arith) in
    let d : drop (i + 2) (take (i + 2) row ++ (middle ++ end)) ≡ middle ++ end = drop_at (take (i + 2) row) (middle ++ end) (i + 2) front in
    let e : 2 * (last - at) ≡ n = omega arith in
    let f : 2 * last + 2 ≡ i + 2 + n = omega arith in
    rw (p, s, t, d, e, f, append_assoc)

-- in a row in order, a hit's place among its neighbours is where the order puts it
put_in_row : (row : List ℕ) (count : ℕ) (h : Hit) (at : ℕ) → Goes row count h at → in_order (hits_in count row) ≡ hits_in count row →
    put_in h (hits_in count row) ≡ insert (hits_in count row) at h
put_in_row row count h at g o =
    let len = length_hits_in count row in
    put_in_between at h (hits_in count row) o (omega (arith, g.within))
    (λ l d. ap (better h) (getD_hits_in count row (at - 1) d (omega (arith, g.within))) ∙ g.before l)
    (λ l d. let l₁ : at < count = omega arith in ap (better h) (getD_hits_in count row at d l₁) ∙ g.after l₁)

pub smaller_is : (a b : ℕ) → smaller a b ≡ min a b
smaller_is a b = grind (arith, nat_tests)

pub room_is : (row : List ℕ) (count most : ℕ) → count ≤ most → 2 * most ≤ length row → has_room row count most ≡ true
room_is row count most a b = and_from (leb count most) (leb (2 * most) (length row)) (le-leb count most a) (le-leb (2 * most) (length row) b)

pub room_for : (row : List ℕ) (count most : ℕ) → has_room row count most ≡ true → (count ≤ most) × (2 * most ≤ length row)
room_for row count most r = let p = and_parts (leb count most) (leb (2 * most) (length row)) r in (leb-true count most p.0, leb-true (2 * most) (length row) p.1)

-- what is answered and stands, from its parts
inserted_says : (row : List ℕ) (count most : ℕ) (h : Hit) (p : Placed) (row₁ : List ℕ) → p.count ≡ smaller most (suc count) → Goes row count h p.at →
    2 ^ p.compared ≤ 4 * count + 1 → row₁ ≡ hits_out (take most (insert (hits_in count row) p.at h)) ++ drop (2 * p.count) row → Inserted row count most h p row₁
inserted_says row count most h p row₁ n g f s =
    record { held = n; place = g; few = f; stands = s; ordered = λ o. s ∙ ap (λ (x : List Hit). hits_out (take most x) ++ drop (2 * p.count) row) (sym (put_in_row row count h p.at g o)) }

module _ (row : List ℕ) (count most : ℕ) (h : Hit) (p : Placed) (room : has_room row count most ≡ true) (g : Goes row count h p.at) (few : 2 ^ p.compared ≤ 4 * count + 1) where
  pub full_says : p.at ≡ most → p.count ≡ count → Inserted row count most h p row
  full_says a n =
      let r = room_for row count most room in
      let e : count ≡ most = omega (arith, g.within) in
      inserted_says row count most h p row (omega (arith, smaller_is most (suc count))) g few
      (full_is row count most p.at h e a r.1 ∙ ap (λ (x : ℕ). hits_out (take most (insert (hits_in count row) p.at h)) ++ drop (2 * x) row) (sym n))

  pub moved_says : (last : ℕ) (row₁ : List ℕ) → (p.at ≡ most → ⊥) → last ≡ min count (most - 1) → p.count ≡ last + 1 → row₁ ≡ moved row p.at last h → Inserted row count most h p row₁
  moved_says last row₁ a l n m =
      let r = room_for row count most room in
      let some : p.at < most = omega (arith, g.within) in
      let e : p.count ≡ suc last = omega arith in
      inserted_says row count most h p row₁ (omega (arith, smaller_is most (suc count))) g few
      (m ∙ moved_is row count most p.at last h (omega (arith, g.within)) (omega arith) (omega arith)
      (⊎_elim (λ x. inr (omega arith, omega arith)) (λ x. inl (omega arith)) (cases_lt count most))
      ∙ ap (λ (x : ℕ). hits_out (take most (insert (hits_in count row) p.at h)) ++ drop (2 * x) row) (sym e))

-- one more, if there is room
one_more : (all most count n : ℕ) → count ≡ smaller most all → n ≡ smaller most (suc count) → (n ≡ smaller most (suc all)) × (2 * count ≤ 2 * n)
one_more all most count n k s =
    let a = smaller_is most all in
    let b = smaller_is most (suc count) in
    (omega (arith, smaller_is most (suc all)), omega arith)

-- THE BEST SO FAR: of these hits the first so many in order stand in the row, and after them what stood there before
abbrev pub HoldsBest : (hs : List Hit) (most : ℕ) (row : List ℕ) (count : ℕ) (row₁ : List ℕ) → Type 0
HoldsBest hs most row count row₁ = (count ≡ smaller most (length hs)) × (row₁ ≡ hits_out (take most (in_order hs)) ++ drop (2 * count) row)

pub holds_none : (most : ℕ) (row : List ℕ) → HoldsBest [] most row 0 row
unfolding in_order hits_out
holds_none most row = let none : take most (in_order []) ≡ [] = take_all most [] (omega arith) in (omega (arith, smaller_is most 0), rw none)

pub holds_room : (hs : List Hit) (most : ℕ) (row : List ℕ) (count : ℕ) (row₁ : List ℕ) → HoldsBest hs most row count row₁ → 2 * most ≤ length row₁ → has_room row₁ count most ≡ true
holds_room hs most row count row₁ k le = room_is row₁ count most (omega (arith, k.0, smaller_is most (length hs))) le

-- with one more put in, it holds the best of them and that one
pub holds_one_more : (hs : List Hit) (most : ℕ) (row : List ℕ) (count : ℕ) (row₁ : List ℕ) (h : Hit) (p : Placed) (row₂ : List ℕ) →
    HoldsBest hs most row count row₁ → Inserted row₁ count most h p row₂ → HoldsBest (h ∷ hs) most row p.count row₂
holds_one_more hs most row count row₁ h p row₂ k s =
    let first : List Hit = take most (in_order hs) in
    let n = one_more (length hs) most count p.count k.0 s.held in
    let len : length first ≡ count = length-take most (in_order hs) ∙ ap (min most) (length_in_order hs) ∙ sym (k.0 ∙ smaller_is most (length hs)) in
    let same : hits_in count row₁ ≡ first = ap (hits_in count) k.1 ∙ hits_in_out first count (drop (2 * count) row) len in
    let o : in_order (hits_in count row₁) ≡ hits_in count row₁ = rw same (first_in_order most hs) in
    let e : take most (put_in h (hits_in count row₁)) ≡ take most (in_order (h ∷ hs)) = ap (λ (x : List Hit). take most (put_in h x)) same ∙ first_with_one_more most h hs in
    let d : drop (2 * p.count) row₁ ≡ drop (2 * p.count) row =
    ap (drop (2 * p.count)) k.1 ∙ drop-append-drop (2 * count) row (hits_out first) (2 * p.count) n.1 (length_hits_out first ∙ ap (λ (x : ℕ). 2 * x) len) in
    (n.0, s.ordered o ∙ rw (e, d))
