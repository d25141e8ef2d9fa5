-- Laws of documents on pages. Assumes nothing.
use Rattle.std.proofs.Common.{◌≡◌, ℕ, zero, suc, ◌+◌, ◌-◌, ◌*◌, ◌%◌, ◌^◌, ◌<◌, ◌≤◌, Bool, true, false, ◌&&◌, ltb, leb, List, [], ◌∷◌, ◌++◌, length, get_or, take, drop, Some, None, sym, refl, ap, ◌∙◌, ⊎_elim, append_assoc, append-nil, mul-suc, arith, length-append, length-drop, length-take}
use Rattle.std.proofs.lemmas.List.{ext_get_or, take_all, take_at, drop_at, drop-drop, take-take, drop-take, get_or-take, get_or-drop, get_or_append_left, get_or-append_right, get_or_past, length-take-le, take-append-drop, nil_from_length}
use Rattle.std.proofs.lemmas.Bool.{cases_lt, cases_Bool, and_parts, and_from, eq-eqb, lt-ltb, ltb-true, le-leb, leb-true}
use Rattle.pages.specs.Lists.{pick, every, flat, zeros}
use Rattle.pages.specs.Bytes.{in_bytes, all_bytes, from_eight}
use Rattle.pages.specs.Device.{Page, page_at, a_page}
use Rattle.pages.specs.Places.{written}
use Rattle.pages.proofs.Bytes.{length_in_bytes, in_bytes_bytes, from_in_bytes}
use Rattle.pages.proofs.Device.{length_zeros, zeros_bytes}
use Rattle.pages.proofs.Folds.{every_append}
use Rattle.pages.proofs.Lists.{every_take, every_drop}
use Rattle.pages.proofs.Places.{from_eight_below}
use Rattle.words.proofs.Laws.{words_few}
use Rattle.documents.specs.Document.{Doc, long}
use Rattle.documents.specs.declared.layout.Header.{Header}
use Rattle.documents.specs.Pages.{header_bytes, content_of, filled, page_of, cut, header_of, content, pages_of, doc_page, padded, cells_number, header_at, read_header, low_bytes, can_write, page_from_cells, Storable, PagesStand}

-- FILLED up with zeros: each place is as before, and past the end 0 as before
pub getD_zeros : (n i : ℕ) → get_or (zeros n) i 0 ≡ 0
unfolding zeros
getD_zeros zero i = refl
getD_zeros (suc n) zero = refl
getD_zeros (suc n) (suc i) = getD_zeros n i

pub getD_filled : (n : ℕ) (bs : List ℕ) (i : ℕ) → get_or (filled n bs) i 0 ≡ get_or bs i 0
getD_filled n bs i =
    ⊎_elim (λ h. get_or_append_left bs (zeros (n - length bs)) 0 i h)
    (λ h. get_or-append_right bs (zeros (n - length bs)) (length bs) i 0 refl h ∙ getD_zeros (n - length bs) (i - length bs) ∙ sym (get_or_past bs i 0 h))
    (cases_lt i (length bs))

pub length_filled : (n : ℕ) (bs : List ℕ) → length bs ≤ n → length (filled n bs) ≡ n
length_filled n bs h = simp (length-append, length_zeros) (omega arith)

-- a part that is filled, and the rest that is filled
pub filled_parts : (m n : ℕ) (bs : List ℕ) → length bs ≤ m + n → filled m (take m bs) ++ filled n (drop m bs) ≡ filled (m + n) bs
filled_parts m n bs h =
    let l : length (filled m (take m bs)) ≡ m = length_filled m (take m bs) (simp length-take (omega arith)) in
    let k : length (filled n (drop m bs)) ≡ n = length_filled n (drop m bs) (simp length-drop (omega arith)) in
    let w : length (filled (m + n) bs) ≡ m + n = length_filled (m + n) bs h in
    ext_get_or 0 _ _ (length-append (filled m (take m bs)) (filled n (drop m bs)) ∙ omega arith)
    (λ i _. ⊎_elim
    (λ s. get_or_append_left (filled m (take m bs)) (filled n (drop m bs)) 0 i (omega arith) ∙ getD_filled m (take m bs) i ∙ get_or-take m bs i 0 s ∙ sym (getD_filled (m + n) bs i))
    (λ g. let e : m + (i - m) ≡ i = omega arith in
    get_or-append_right (filled m (take m bs)) (filled n (drop m bs)) m i 0 l g ∙ getD_filled n (drop m bs) (i - m) ∙ get_or-drop m bs (i - m) 0 ∙ ap (λ j. get_or bs j 0) e
    ∙ sym (getD_filled (m + n) bs i))
    (cases_lt i m))

-- A PAGE of some content from a place on: its length, and its bytes by their places
module _ (bs : List ℕ) (start : ℕ) where
  pub length_stretch : length (filled 512 (take 504 (drop start bs))) ≡ 512
  length_stretch = length_filled 512 (take 504 (drop start bs)) (simp length-take (omega arith))

  pub stretch_place : (i : ℕ) → i < 504 → get_or (filled 512 (take 504 (drop start bs))) i 0 ≡ get_or bs (start + i) 0
  stretch_place i h = getD_filled 512 (take 504 (drop start bs)) i ∙ get_or-take 504 (drop start bs) i 0 h ∙ get_or-drop start bs i 0

  pub stretch_kept : (i : ℕ) → 504 ≤ i → get_or (filled 512 (take 504 (drop start bs))) i 0 ≡ 0
  stretch_kept i h = getD_filled 512 (take 504 (drop start bs)) i ∙ get_or_past (take 504 (drop start bs)) i 0 (simp length-take (omega arith))

pub length_page_of : (bs : List ℕ) (q : ℕ) → length (page_of bs q) ≡ 512
unfolding page_of
length_page_of bs q = length_stretch bs (504 * q)

pub page_of_place : (bs : List ℕ) (q i : ℕ) → i < 504 → get_or (page_of bs q) i 0 ≡ get_or bs (504 * q + i) 0
unfolding page_of
page_of_place bs q = stretch_place bs (504 * q)

pub page_of_kept : (bs : List ℕ) (q i : ℕ) → 504 ≤ i → get_or (page_of bs q) i 0 ≡ 0
unfolding page_of
page_of_kept bs q = stretch_kept bs (504 * q)

-- bytes after bytes
pub joined_bytes : (xs ys : List ℕ) → all_bytes xs ≡ true → all_bytes ys ≡ true → all_bytes (xs ++ ys) ≡ true
joined_bytes xs ys h k = every_append (λ b. ltb b 256) xs ys ∙ and_from _ _ h k

pub a_page_of : (bs : List ℕ) (q : ℕ) → all_bytes bs ≡ true → a_page (page_of bs q) ≡ true
unfolding page_of
a_page_of bs q h =
    let byte : ℕ → Bool = λ b. ltb b 256 in
    let front : List ℕ = take 504 (drop (504 * q) bs) in
    let bytes : every byte front ≡ true = every_take byte 504 (drop (504 * q) bs) (every_drop byte (504 * q) bs h) in
    and_from _ _ (eq-eqb _ 512 (length_page_of bs q)) (joined_bytes front (zeros (512 - length front)) bytes (zeros_bytes (512 - length front)))

-- the first 504 bytes of a page, by their places; they are a part of the content with zeros after it
front_is : (bs : List ℕ) (q : ℕ) (ys : List ℕ) → length ys ≡ 504 → ((i : ℕ) → i < 504 → get_or ys i 0 ≡ get_or bs (504 * q + i) 0) → take 504 (page_of bs q) ≡ ys
front_is bs q ys l same =
    let k : length (take 504 (page_of bs q)) ≡ 504 = length-take-le 504 (page_of bs q) (omega (arith, length_page_of bs q)) in
    ext_get_or 0 _ ys (k ∙ sym l)
    (λ i s. let t : i < 504 = omega arith in get_or-take 504 (page_of bs q) i 0 t ∙ page_of_place bs q i t ∙ sym (same i t))

pub front_of_page : (bs : List ℕ) (n q : ℕ) → q < n → length bs ≤ 504 * n → take 504 (page_of bs q) ≡ take 504 (drop (504 * q) (filled (504 * n) bs))
front_of_page bs n q h l =
    let rest : List ℕ = drop (504 * q) (filled (504 * n) bs) in
    let k : length rest ≡ 504 * n - 504 * q = length-drop (504 * q) (filled (504 * n) bs) ∙ omega (arith, length_filled (504 * n) bs l) in
    front_is bs q (take 504 rest) (length-take-le 504 rest (omega arith))
    (λ i t. get_or-take 504 rest i 0 t ∙ get_or-drop (504 * q) (filled (504 * n) bs) i 0 ∙ getD_filled (504 * n) bs (504 * q + i))

-- CUT into pages
pub length_cut : (n : ℕ) (bs : List ℕ) → length (cut n bs) ≡ n
unfolding cut
length_cut zero bs = refl
length_cut (suc n) bs = ap suc (length_cut n (drop 504 bs))

next_page : (bs : List ℕ) (q : ℕ) → page_of (drop 504 bs) q ≡ page_of bs (suc q)
unfolding page_of
next_page bs q = ap (λ xs. filled 512 (take 504 xs)) (drop-drop (504 * q) 504 bs ∙ ap (λ k. drop k bs) (omega (arith, mul-suc 504 q)))

pub page_at_cut : (n : ℕ) (bs : List ℕ) (q : ℕ) → q < n → page_at (cut n bs) q ≡ page_of bs q
unfolding cut page_at
page_at_cut zero bs q h = absurd (omega arith)
page_at_cut (suc n) bs zero h = refl
page_at_cut (suc n) bs (suc q) h = page_at_cut n (drop 504 bs) q (omega arith) ∙ next_page bs q

pub cut_pages : (n : ℕ) (bs : List ℕ) → all_bytes bs ≡ true → every a_page (cut n bs) ≡ true
unfolding cut
cut_pages zero bs h = refl
cut_pages (suc n) bs h = and_from _ _ (a_page_of bs 0 h) (cut_pages n (drop 504 bs) (every_drop (λ b. ltb b 256) 504 bs h))

pub cut_whole : (n : ℕ) (bs : List ℕ) → length bs ≤ 504 * n → flat (take 504) (cut n bs) ≡ filled (504 * n) bs
unfolding cut zeros
cut_whole zero bs h = let e = nil_from_length bs (omega arith) in ap (filled 0) (sym e)
cut_whole (suc n) bs h =
    let front : take 504 (page_of bs 0) ≡ filled 504 (take 504 bs) =
    front_is bs 0 (filled 504 (take 504 bs)) (length_filled 504 (take 504 bs) (simp length-take (omega arith)))
    (λ i t. getD_filled 504 (take 504 bs) i ∙ get_or-take 504 bs i 0 t ∙ ap (λ j. get_or bs j 0) (omega arith)) in
    let rest : flat (take 504) (cut n (drop 504 bs)) ≡ filled (504 * n) (drop 504 bs) = cut_whole n (drop 504 bs) (omega (arith, length-drop 504 bs, mul-suc 504 n)) in
    ap (λ x. x ++ flat (take 504) (cut n (drop 504 bs))) front ∙ ap (λ x. filled 504 (take 504 bs) ++ x) rest
    ∙ filled_parts 504 (504 * n) bs (omega (arith, mul-suc 504 n)) ∙ ap (λ k. filled k bs) (omega (arith, mul-suc 504 n))

-- A PART of a list within its front, and one that stands between two others
pub part_of_front : (p : List ℕ) (m at n : ℕ) → at + n ≤ m → take n (drop at (take m p)) ≡ take n (drop at p)
part_of_front p m at n h =
    let e : m ≡ at + (m - at) = omega arith in
    ap (λ k. take n (drop at (take k p))) e ∙ ap (take n) (drop-take at (m - at) p) ∙ take-take n (m - at) (drop at p) (omega arith)

pub part_between : (a b c : List ℕ) (at n : ℕ) → length a ≡ at → length b ≡ n → take n (drop at (a ++ (b ++ c))) ≡ b
part_between a b c at n k l = ap (take n) (drop_at a (b ++ c) at k) ∙ take_at b c n l

-- HEADERS
pub length_header : (h : Header) → length (header_bytes h) ≡ 14
unfolding header_bytes
length_header h = simp (length-append, length_in_bytes)

pub header_is_bytes : (h : Header) → all_bytes (header_bytes h) ≡ true
unfolding header_bytes
header_is_bytes h =
    let b : (k n : ℕ) → all_bytes (in_bytes k n []) ≡ true = λ k n. in_bytes_bytes k n [] refl in
    let x : List ℕ = in_bytes 3 h.words [] in
    let y : List ℕ = in_bytes 2 h.body_len [] in
    let z : List ℕ = in_bytes 1 h.title_len [] in
    joined_bytes (in_bytes 8 h.name []) (z ++ (y ++ x)) (b 8 h.name) (joined_bytes z (y ++ x) (b 1 h.title_len) (joined_bytes y x (b 2 h.body_len) (b 3 h.words)))

-- the length of the content, which fits its pages
pub length_content : (d : Doc) → length (content d) ≡ 14 + length d.title + length d.body
length_content d = simp (length-append, length_header) (omega arith)

pub content_fits : (d : Doc) → length (content d) ≤ 504 * pages_of d
content_fits d = omega (arith, length_content d)

pub content_is_bytes : (d : Doc) → Storable d → all_bytes (content d) ≡ true
content_is_bytes d s =
    joined_bytes (header_bytes (header_of d)) (d.title ++ d.body) (header_is_bytes (header_of d)) (joined_bytes d.title d.body s.title_bytes s.body_bytes)

-- words of a document that fits are few
pub long_fits : (d : Doc) → Storable d → long d < 16777216
long_fits d s = omega (arith, words_few d.title, words_few d.body)

-- the front of the first page is the header
pub header_in_front : (d : Doc) → take 14 (doc_page d 0) ≡ header_bytes (header_of d)
header_in_front d =
    let h : List ℕ = header_bytes (header_of d) in
    sym (take-take 14 504 (doc_page d 0) (omega arith)) ∙ ap (take 14) (front_of_page (content d) (pages_of d) 0 (omega arith) (content_fits d))
    ∙ take-take 14 504 (padded d) (omega arith) ∙ ap (take 14) (append_assoc h (d.title ++ d.body) _) ∙ take_at h _ 14 (length_header (header_of d))

-- a number that stands in the front of a page is read
number_in_front : (p a c : List ℕ) (at k n : ℕ) → take 14 p ≡ a ++ (in_bytes k n [] ++ c) → length a ≡ at → at + k ≤ 14 → n < 256 ^ k → cells_number p at k ≡ n
unfolding from_eight
number_in_front p a c at k n e l h s =
    let m : length (in_bytes k n []) ≡ k = length_in_bytes k n [] ∙ omega arith in
    ap (from_eight 0) (sym (part_of_front p 14 at k h) ∙ ap (λ x. take k (drop at x)) e ∙ part_between a (in_bytes k n []) c at k l m) ∙ from_in_bytes k n [] s

-- a part of at most eight of the first 14 cells, read as eight bytes or fewer
pub part_read : (p front : List ℕ) (at n : ℕ) → front ≡ take 14 p → at + n ≤ 14 → n ≤ 8 → from_eight 0 (take 8 (take n (drop at front))) ≡ cells_number p at n
part_read p front at n e h l =
    ap (from_eight 0) (take_all 8 (take n (drop at front)) (simp length-take (omega arith)) ∙ ap (λ x. take n (drop at x)) e ∙ part_of_front p 14 at n h)

pub read_header_is : (p : Page) → 14 ≤ length p → all_bytes (take 14 p) ≡ true → read_header p ≡ Some (header_at p)
unfolding read_header
read_header_is p l b = ap (λ t. pick t (Some (header_at p)) None) (and_from _ _ (le-leb 14 (length p) l) b)

pub read_header_none : (p : Page) → leb 14 (length p) && all_bytes (take 14 p) ≡ false → read_header p ≡ None
unfolding read_header
read_header_none p f = ap (λ t. pick t (Some (header_at p)) None) f

pub header_read : (d : Doc) → Storable d → read_header (doc_page d 0) ≡ Some (header_of d)
unfolding header_bytes
header_read d s =
    let p : Page = doc_page d 0 in
    let h : Header = header_of d in
    let a : List ℕ = in_bytes 8 h.name [] in
    let b : List ℕ = in_bytes 1 h.title_len [] in
    let c : List ℕ = in_bytes 2 h.body_len [] in
    let e : List ℕ = in_bytes 3 h.words [] in
    let front = header_in_front d in
    let name : cells_number p 0 8 ≡ h.name = number_in_front p [] (b ++ (c ++ e)) 0 8 h.name front refl (omega arith) s.name_fits in
    let title : cells_number p 8 1 ≡ h.title_len = number_in_front p a (c ++ e) 8 1 h.title_len front (length_in_bytes 8 h.name []) (omega arith) s.title_fits in
    let body : cells_number p 9 2 ≡ h.body_len =
    number_in_front p (a ++ b) e 9 2 h.body_len (front ∙ sym (append_assoc a b (c ++ e))) (simp (length-append, length_in_bytes)) (omega arith) s.body_fits in
    let words : cells_number p 11 3 ≡ h.words =
    number_in_front p (a ++ (b ++ c)) [] 11 3 h.words (front ∙ simp (append_assoc, append-nil)) (simp (length-append, length_in_bytes)) (omega arith) (long_fits d s) in
    read_header_is p (omega (arith, length_page_of (content d) 0)) (ap all_bytes front ∙ header_is_bytes h) ∙ cc

-- THE BOUNDS of what is read
pub part_is_bytes : (p : Page) (at n : ℕ) → all_bytes (take 14 p) ≡ true → at + n ≤ 14 → all_bytes (take n (drop at p)) ≡ true
part_is_bytes p at n b h =
    let byte : ℕ → Bool = λ x. ltb x 256 in
    ap all_bytes (sym (part_of_front p 14 at n h)) ∙ every_take byte n (drop at (take 14 p)) (every_drop byte at (take 14 p) b)

pub length_part : (p : Page) (at n : ℕ) → 14 ≤ length p → at + n ≤ 14 → length (take n (drop at p)) ≡ n
length_part p at n l h = length-take-le n (drop at p) (simp length-drop (omega arith))

pub cells_number_bound : (p : Page) (at n : ℕ) → 14 ≤ length p → all_bytes (take 14 p) ≡ true → at + n ≤ 14 → cells_number p at n < 256 ^ n
cells_number_bound p at n l b h =
    let e = ap (λ k. 256 ^ k) (length_part p at n l h) in
    omega (arith, from_eight_below (take n (drop at p)) 0 (part_is_bytes p at n b h))

pub header_small : (p : Page) (h : Header) → read_header p ≡ Some h →
    (h.name < 18446744073709551616) × (h.title_len < 256) × (h.body_len < 65536) × (h.words < 16777216)
header_small p h e =
    ⊎_elim
    (λ t.
    let both = and_parts (leb 14 (length p)) (all_bytes (take 14 p)) t in
    let l = leb-true 14 (length p) both.0 in
    let r = read_header_is p l both.1 in
    let name : h.name ≡ cells_number p 0 8 = cc in
    let title : h.title_len ≡ cells_number p 8 1 = cc in
    let body : h.body_len ≡ cells_number p 9 2 = cc in
    let words : h.words ≡ cells_number p 11 3 = cc in
    let at : (i n : ℕ) → i + n ≤ 14 → cells_number p i n < 256 ^ n = λ i n. cells_number_bound p i n l both.1 in
    (omega (arith, at 0 8 (omega arith)), omega (arith, at 8 1 (omega arith)), omega (arith, at 9 2 (omega arith)), omega (arith, at 11 3 (omega arith))))
    (λ f. let r = read_header_none p f in let z : ◌≡◌ {A = ℕ} 0 1 = cc in absurd (omega arith))
    (cases_Bool (leb 14 (length p) && all_bytes (take 14 p)))

-- TITLE AND BODY in the content with zeros after it
pub title_in : (d : Doc) → take (length d.title) (drop 14 (padded d)) ≡ d.title
title_in d =
    let h : List ℕ = header_bytes (header_of d) in
    let z : List ℕ = zeros (504 * pages_of d - length (content d)) in
    let e : padded d ≡ h ++ (d.title ++ (d.body ++ z)) = append_assoc h (d.title ++ d.body) z ∙ ap (λ x. h ++ x) (append_assoc d.title d.body z) in
    ap (λ x. take (length d.title) (drop 14 x)) e ∙ part_between h d.title (d.body ++ z) 14 _ (length_header (header_of d)) refl

pub body_in : (d : Doc) → take (length d.body) (drop (14 + length d.title) (padded d)) ≡ d.body
body_in d =
    let h : List ℕ = header_bytes (header_of d) in
    let z : List ℕ = zeros (504 * pages_of d - length (content d)) in
    let e : padded d ≡ (h ++ d.title) ++ (d.body ++ z) = ap (λ x. x ++ z) (sym (append_assoc h d.title d.body)) ∙ append_assoc (h ++ d.title) d.body z in
    let l : length (h ++ d.title) ≡ 14 + length d.title = length-append h d.title ∙ ap (λ n. n + length d.title) (length_header (header_of d)) in
    ap (λ x. take (length d.body) (drop (14 + length d.title) x)) e ∙ part_between (h ++ d.title) d.body z _ _ l refl

-- CELLS that hold bytes are taken as they are
pub low_bytes_same : (cs : List ℕ) → all_bytes cs ≡ true → low_bytes cs ≡ cs
low_bytes_same [] h = refl
low_bytes_same (c ∷ cs) h =
    let t = and_parts (ltb c 256) (all_bytes cs) h in
    let less = ltb-true c 256 t.0 in
    let e : c % 256 ≡ c = omega arith in
    let rest = low_bytes_same cs t.1 in
    cc

pub writes : (d : Doc) (q : ℕ) (out : List ℕ) → Storable d → q < pages_of d → 512 ≤ length out → can_write d.title d.body q out ≡ true
writes d q out s h l =
    and_from _ _ (and_from _ _ (le-leb 512 (length out) l) (and_from _ _ (le-leb (length d.title) 255 (omega arith)) (le-leb (length d.body) 65535 (omega arith))))
    (lt-ltb q (pages_of d) h)

pub writes_page : (d : Doc) (q : ℕ) → Storable d → page_from_cells d.name d.title d.body (long d) q ≡ doc_page d q
writes_page d q s =
    let t = low_bytes_same d.title s.title_bytes in
    let b = low_bytes_same d.body s.body_bytes in
    λ i. page_of (content_of d.name (t i) (b i) (long d)) q

-- READING page by page: a part more of a list is copied behind what is there
pub written_grows : (r xs : List ℕ) (n k : ℕ) → n + k ≤ length r → n + k ≤ length xs → take n r ≡ take n xs →
    take (n + k) (written r n (take k (drop n xs))) ≡ take (n + k) xs
unfolding written
written_grows r xs n k h l e =
    let a : length (take n xs) ≡ n = length-take-le n xs (omega arith) in
    let b : length (take k (drop n xs)) ≡ k = length-take-le k (drop n xs) (simp length-drop (omega arith)) in
    let whole : take n xs ++ take k (drop n xs) ≡ take (n + k) xs =
    (λ i. sym (take-take n (n + k) xs (omega arith)) i ++ sym (drop-take n k xs) i) ∙ take-append-drop n (take (n + k) xs) in
    let z : List ℕ = drop (n + length (take k (drop n xs))) r in
    ap (λ x. take (n + k) (x ++ (take k (drop n xs) ++ z))) e ∙ ap (take (n + k)) (sym (append_assoc (take n xs) (take k (drop n xs)) z))
    ∙ take_at (take n xs ++ take k (drop n xs)) z (n + k) (length-append (take n xs) (take k (drop n xs)) ∙ omega arith) ∙ whole

pub read_on : (d : Doc) (q : ℕ) (cells : List ℕ) → q < pages_of d → 504 * (q + 1) ≤ length cells → take (504 * q) cells ≡ take (504 * q) (padded d) →
    take (504 * (q + 1)) (written cells (504 * q) (take 504 (doc_page d q))) ≡ take (504 * (q + 1)) (padded d)
read_on d q cells h l e =
    let m : 504 * (q + 1) ≡ 504 * q + 504 = omega arith in
    let w : length (padded d) ≡ 504 * pages_of d = length_filled (504 * pages_of d) (content d) (content_fits d) in
    let more = written_grows cells (padded d) (504 * q) 504 (omega arith) (omega arith) e in
    ap (λ x. take (504 * (q + 1)) (written cells (504 * q) x)) (front_of_page (content d) (pages_of d) q h (content_fits d))
    ∙ ap (λ n. take n (written cells (504 * q) (take 504 (drop (504 * q) (padded d))))) m ∙ more ∙ ap (λ n. take n (padded d)) (sym m)

-- a part of the content stands where all pages were copied to
read_part : (d : Doc) (cells bs : List ℕ) (at n : ℕ) → at + n ≤ 504 * pages_of d → take (504 * pages_of d) cells ≡ take (504 * pages_of d) (padded d) →
    take n (drop at (padded d)) ≡ bs → take n (drop at cells) ≡ bs
read_part d cells bs at n h e b =
    let m : ℕ = 504 * pages_of d in
    sym (part_of_front cells m at n h) ∙ ap (λ x. take n (drop at x)) e ∙ part_of_front (padded d) m at n h ∙ b

pub stand : PagesStand
stand =
    record {
      count = λ d. length_cut (pages_of d) (content d);
      some = λ t b. omega arith;
      few = λ t b h k. omega arith;
      each_page = λ d. page_at_cut (pages_of d) (content d);
      are_pages = λ d s. cut_pages (pages_of d) (content d) (content_is_bytes d s);
      writes = writes;
      writes_page = writes_page;
      header = header_read;
      small = header_small;
      whole = λ d. cut_whole (pages_of d) (content d) (content_fits d);
      title = title_in;
      body = body_in;
      read_on = read_on;
      read_title = λ d cells e. read_part d cells d.title 14 (length d.title) (omega arith) e (title_in d);
      read_body = λ d cells e. read_part d cells d.body (14 + length d.title) (length d.body) (omega arith) e (body_in d);
    }
