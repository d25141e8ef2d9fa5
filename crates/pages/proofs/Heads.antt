-- Laws of heads. Assumes nothing.
use Rattle.std.proofs.Common.{◌≡◌, ℕ, zero, suc, ◌+◌, ◌*◌, ◌<◌, ◌≤◌, Bool, true, false, eqb, ltb, List, [], ◌∷◌, ◌++◌, length, get_or, take, drop, replicate, Some, None, Decides, sym, refl, ap, ◌∙◌, ⊎_elim, append_assoc, append-nil, not-suc-le-zero, arith, lit<, lit≤, length-append, rules, ltb-true, lt-ltb, eq-eqb, ne_eqb}
use Rattle.std.proofs.lemmas.Bool.{and_from, and_right, cases_Bool, cases_eq}
use Rattle.std.proofs.lemmas.List.{take_at, drop_at, drop-drop, take-take}
use Rattle.std.proofs.lemmas.Slice.Eq.{compares_Decides}
use Rattle.pages.specs.Lists.{every, same, zeros}
use Rattle.pages.specs.Bytes.{eight, all_bytes, from_eight}
use Rattle.pages.specs.Device.{Page, half, a_page}
use Rattle.pages.specs.Places.{number_at, written, in_eights}
use Rattle.pages.specs.declared.roots.Head.{Head}
use Rattle.pages.specs.Head.{segment_at, root_at, head_at, head_in, head_numbers, head_page, fits_eights, copies_agree, read_head, empty_head, HeadsKept}
use Rattle.pages.proofs.Bytes.{and_true, length_eight, eight_is_bytes, from_eight_eight}
use Rattle.pages.proofs.Folds.{every_append}
use Rattle.pages.proofs.Device.{take_half, drop_half, zeros_bytes}
use borrow.Rule.Slice.PartMut.{put_mid}
use Rattle.pages.proofs.Places.{length_in_eights, number_at_fits, written_part}

-- what is read: by cases
pub read_agreeing : (p : Page) → length p ≡ 512 → copies_agree p ≡ true → read_head p ≡ Some (head_at p 0)
unfolding read_head
read_agreeing p l a = simp (eq-eqb (length p) 512 l, a)

pub read_differing : (p : Page) → copies_agree p ≡ false → read_head p ≡ None
unfolding read_head
read_differing p a = simp (a, and_right (eqb (length p) 512) false refl)

pub read_no_page : (p : Page) → (length p ≡ 512 → ⊥) → read_head p ≡ None
unfolding read_head
read_no_page p l = simp (ne_eqb (length p) 512 l)

pub same_decides : (xs ys : List ℕ) → Decides (same xs ys) (xs ≡ ys)
unfolding same
same_decides = compares_Decides same (search rules)

pub same_is : (xs ys : List ℕ) (r : Bool) → Decides r (xs ≡ ys) → r ≡ same xs ys
same_is xs ys r h = let s = same_decides xs ys in search (rules, s, h)

-- a write over as many bytes, where they stand between others
pub written_over : (p xs ys q : List ℕ) (at : ℕ) → length p ≡ at → length xs ≡ length ys → written (p ++ (xs ++ q)) at ys ≡ p ++ (ys ++ q)
unfolding written
written_over p xs ys q at l e =
    let t : take at (p ++ (xs ++ q)) ≡ p = take_at p (xs ++ q) at l in
    let d : drop (at + length ys) (p ++ (xs ++ q)) ≡ q =
    sym (drop-drop (length ys) at (p ++ (xs ++ q))) ∙ ap (drop (length ys)) (drop_at p (xs ++ q) at l) ∙ drop_at xs q (length ys) e in
    ap (λ x. x ++ (ys ++ drop (at + length ys) (p ++ (xs ++ q)))) t ∙ ap (λ x. p ++ (ys ++ x)) d

-- both copies, written over zeros
pub head_page_made : (h : Head) {z a b : List ℕ} → z ≡ replicate 512 0 → a ≡ in_eights (head_numbers h) → b ≡ in_eights (head_numbers h)
    → put_mid 256 168 (a ++ drop 168 z) b ≡ head_page h
unfolding head_page zeros
head_page_made h {z} {a} {b} p q r =
    let c : List ℕ = in_eights (head_numbers h) in
    let l : length c ≡ 168 = length_in_eights (head_numbers h) in
    let m : length (c ++ zeros 88) ≡ 256 = length-append c (zeros 88) ∙ ap (λ n. n + 88) l in
    let e : a ++ drop 168 z ≡ (c ++ zeros 88) ++ (zeros 168 ++ zeros 88) = ap (λ xs. a ++ drop 168 xs) p ∙ ap (λ xs. xs ++ zeros 344) q ∙ sym (append_assoc c (zeros 88) (zeros 256)) in
    let two : written ((c ++ zeros 88) ++ (zeros 168 ++ zeros 88)) 256 c ≡ (c ++ zeros 88) ++ (c ++ zeros 88) = written_over (c ++ zeros 88) (zeros 168) c (zeros 88) 256 m (sym l) in
    written_part (a ++ drop 168 z) 256 168 r (sym l) ∙ ap (λ xs. written xs 256 c) e ∙ two ∙ append_assoc c (zeros 88) (c ++ zeros 88)

-- THE PAGE OF A HEAD: two copies of 168 bytes, each with zeros up to 256
copy_length : (h : Head) → length (in_eights (head_numbers h)) ≡ 168
copy_length h = length_in_eights (head_numbers h)

first_half : (h : Head) → length (in_eights (head_numbers h) ++ zeros 88) ≡ 256
unfolding zeros
first_half h = length-append (in_eights (head_numbers h)) (zeros 88) ∙ ap (λ n. n + 88) (copy_length h)

pub length_head_page : (h : Head) → length (head_page h) ≡ 512
unfolding head_page
length_head_page h =
    let c : List ℕ = in_eights (head_numbers h) in
    let l = first_half h in
    ap length (sym (append_assoc c (zeros 88) (c ++ zeros 88))) ∙ length-append (c ++ zeros 88) (c ++ zeros 88) ∙ cc

pub first_copy : (h : Head) → take 168 (head_page h) ≡ in_eights (head_numbers h)
unfolding head_page
first_copy h = take_at (in_eights (head_numbers h)) _ 168 (copy_length h)

pub second_copy : (h : Head) → take 168 (drop 256 (head_page h)) ≡ in_eights (head_numbers h)
unfolding head_page
second_copy h =
    let c : List ℕ = in_eights (head_numbers h) in
    ap (λ x. take 168 (drop 256 x)) (sym (append_assoc c (zeros 88) (c ++ zeros 88))) ∙ ap (take 168) (drop_at (c ++ zeros 88) (c ++ zeros 88) 256 (first_half h))
    ∙ take_at c (zeros 88) 168 (copy_length h)

pub head_page_agrees : (h : Head) → copies_agree (head_page h) ≡ true
head_page_agrees h = (same_decides (take 168 (head_page h)) (take 168 (drop 256 (head_page h)))).1 (first_copy h ∙ sym (second_copy h))

-- bytes
in_eights_bytes : (ns : List ℕ) → all_bytes (in_eights ns) ≡ true
in_eights_bytes [] = refl
in_eights_bytes (n ∷ ns) = every_append (λ b. ltb b 256) (eight n) (in_eights ns) ∙ and_from _ _ (eight_is_bytes n) (in_eights_bytes ns)

pub head_page_is_page : (h : Head) → a_page (head_page h) ≡ true
unfolding head_page
head_page_is_page h =
    let byte : ℕ → Bool = λ b. ltb b 256 in
    let c : List ℕ = in_eights (head_numbers h) in
    let a : all_bytes (c ++ zeros 88) ≡ true = every_append byte c (zeros 88) ∙ and_from _ _ (in_eights_bytes (head_numbers h)) (zeros_bytes 88) in
    let b : all_bytes ((c ++ zeros 88) ++ (c ++ zeros 88)) ≡ true = every_append byte (c ++ zeros 88) (c ++ zeros 88) ∙ and_from _ _ a a in
    and_from _ _ (eq-eqb (length (head_page h)) 512 (length_head_page h)) (ap all_bytes (sym (append_assoc c (zeros 88) (c ++ zeros 88))) ∙ b)

-- WHAT WAS WRITTEN IS READ. The number at the place of each of some numbers
pub number_among : (ns : List ℕ) (rest : List ℕ) (i : ℕ) → every (λ n. ltb n 18446744073709551616) ns ≡ true → i < length ns → number_at (in_eights ns ++ rest) (8 * i) ≡ get_or ns i 0
number_among [] rest i f h = absurd (not-suc-le-zero h)
number_among (n ∷ ns) rest zero f h =
    let e = and_true _ _ f in
    ap (λ x. from_eight 0 (take 8 x)) (append_assoc (eight n) (in_eights ns) rest) ∙ ap (from_eight 0) (take_at (eight n) _ 8 (length_eight n)) ∙ from_eight_eight n (ltb-true n _ e.0)
number_among (n ∷ ns) rest (suc i) f h =
    let e = and_true (ltb n 18446744073709551616) (every (λ m. ltb m 18446744073709551616) ns) f in
    let k : 8 * suc i ≡ 8 + 8 * i = omega arith in
    ap (λ m. number_at (in_eights (n ∷ ns) ++ rest) m) k ∙ ap (λ x. from_eight 0 (take 8 x)) (sym (drop-drop (8 * i) 8 _))
    ∙ ap (λ x. from_eight 0 (take 8 (drop (8 * i) x))) (ap (drop 8) (append_assoc (eight n) (in_eights ns) rest) ∙ drop_at (eight n) (in_eights ns ++ rest) 8 (length_eight n))
    ∙ number_among ns rest i e.1 (omega arith)

-- the head whose numbers stand at the front of a page
pub head_at_in : (p : Page) (ns : List ℕ) → ((i : ℕ) → i < 21 → get_or ns i 0 ≡ number_at p (8 * i)) → head_in ns 0 ≡ head_at p 0
unfolding head_at root_at segment_at
head_at_in p ns f =
    simp (
      f 0 (lit< tt),
      f 1 (lit< tt),
      f 2 (lit< tt),
      f 3 (lit< tt),
      f 4 (lit< tt),
      f 5 (lit< tt),
      f 6 (lit< tt),
      f 7 (lit< tt),
      f 8 (lit< tt),
      f 9 (lit< tt),
      f 10 (lit< tt),
      f 11 (lit< tt),
      f 12 (lit< tt),
      f 13 (lit< tt),
      f 14 (lit< tt),
      f 15 (lit< tt),
      f 16 (lit< tt),
      f 17 (lit< tt),
      f 18 (lit< tt),
      f 19 (lit< tt),
      f 20 (lit< tt),
    )

pub head_at_page : (h : Head) → fits_eights h ≡ true → head_at (head_page h) 0 ≡ h
unfolding head_page fits_eights
head_at_page h f = sym (head_at_in (head_page h) (head_numbers h) (λ i l. sym (number_among (head_numbers h) _ i f l)))

pub read_written : (h : Head) → fits_eights h ≡ true → read_head (head_page h) ≡ Some h
read_written h f = read_agreeing (head_page h) (length_head_page h) (head_page_agrees h) ∙ ap Some (head_at_page h f)

-- OF A TORN WRITE NO HEAD IS READ. The sequence of a page's second copy, and of its first
sequence_of : (h : Head) → fits_eights h ≡ true → from_eight 0 (take 8 (in_eights (head_numbers h))) ≡ h.sequence
unfolding fits_eights
sequence_of h f = ap (λ x. from_eight 0 (take 8 x)) (sym (append-nil (in_eights (head_numbers h)))) ∙ number_among (head_numbers h) [] 0 f (lit< tt)

pub torn_first : (h : Head) (old : Page) → take 168 (half (head_page h) old) ≡ in_eights (head_numbers h)
torn_first h old =
    let long : 256 ≤ length (head_page h) = omega (arith, length_head_page h) in
    sym (take-take 168 256 (half (head_page h) old) (lit≤ tt)) ∙ ap (take 168) (take_half (head_page h) old long) ∙ take-take 168 256 (head_page h) (lit≤ tt) ∙ first_copy h

pub torn_second : (h : Head) (old : Page) → drop 256 (half (head_page h) old) ≡ drop 256 old
torn_second h old = drop_half (head_page h) old (omega (arith, length_head_page h))

pub read_torn : (h : Head) (old : Page) → fits_eights h ≡ true → (number_at old 256 ≡ h.sequence → ⊥) → read_head (half (head_page h) old) ≡ None
read_torn h old f new =
    let p : Page = half (head_page h) old in
    ⊎_elim
    (λ a.
    let e : take 168 p ≡ take 168 (drop 256 p) = (same_decides (take 168 p) (take 168 (drop 256 p))).0 a in
    let q : in_eights (head_numbers h) ≡ take 168 (drop 256 old) = sym (torn_first h old) ∙ e ∙ ap (take 168) (torn_second h old) in
    absurd (new (ap (from_eight 0) (sym (take-take 8 168 (drop 256 old) (lit≤ tt))) ∙ ap (λ x. from_eight 0 (take 8 x)) (sym q) ∙ sequence_of h f)))
    (read_differing p) (cases_Bool (copies_agree p))

-- a page on which a head is read: its copies agree, and the head is what stands there
pub read_is : (p : Page) (h : Head) → read_head p ≡ Some h → (copies_agree p ≡ true) × (head_at p 0 ≡ h)
read_is p h r =
    ⊎_elim
    (λ a.
    ⊎_elim (λ l. (a, cc (read_agreeing p l a))) (λ l. let z : ◌≡◌ {A = ℕ} 0 1 = cc (read_no_page p l) in absurd (omega arith)) (cases_eq (length p) 512))
    (λ a. let z : ◌≡◌ {A = ℕ} 0 1 = cc (read_differing p a) in absurd (omega arith)) (cases_Bool (copies_agree p))

-- its second copy has the head's sequence, too
pub second_sequence : (p : Page) (h : Head) → read_head p ≡ Some h → number_at p 256 ≡ h.sequence
unfolding head_at
second_sequence p h r =
    let i = read_is p h r in
    let e : take 168 p ≡ take 168 (drop 256 p) = (same_decides (take 168 p) (take 168 (drop 256 p))).0 i.0 in
    ap (from_eight 0) (sym (take-take 8 168 (drop 256 p) (lit≤ tt)) ∙ ap (take 8) (sym e) ∙ take-take 8 168 p (lit≤ tt)) ∙ ap (λ (x : Head). x.sequence) i.1

-- and each of its numbers is one of eight bytes
pub read_fits : (p : Page) (h : Head) → a_page p ≡ true → read_head p ≡ Some h → fits_eights h ≡ true
unfolding fits_eights head_at root_at segment_at
read_fits p h a r =
    let b : all_bytes p ≡ true = (and_true (eqb (length p) 512) (all_bytes p) a).1 in
    let f : (at : ℕ) → ltb (number_at p at) 18446744073709551616 ≡ true = λ at. lt-ltb _ _ (number_at_fits p at b) in
    let g : fits_eights (head_at p 0) ≡ true = simp f in
    ap fits_eights (sym (read_is p h r).1) ∙ g

pub read_blank : read_head (zeros 512) ≡ Some empty_head
unfolding read_head zeros head_at root_at segment_at from_eight same
read_blank = refl

pub heads_kept : HeadsKept
unfolding HeadsKept
heads_kept = (head_page_is_page, read_written, read_torn, read_blank, read_fits)
