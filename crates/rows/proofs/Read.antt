-- Laws of rows on a page: what was put there is read, and nothing else. Assumes nothing.
use Rattle.std.proofs.Common.{◌≡◌, ℕ, zero, suc, ◌+◌, ◌-◌, ◌*◌, ◌^◌, ◌<◌, ◌≤◌, Bool, true, false, ◌&&◌, ◌==◌, ltb, leb, List, [], ◌∷◌, ◌++◌, length, get_or, set, take, drop, Some, None, Option, sym, refl, ap, ◌∙◌, subst, ⊎_elim, append_assoc, append-nil, arith, length-append, length-drop, length-take}
use Rattle.std.specs.Int.{w32, from_be_bytes}
use Rattle.std.specs.List.{AllByRecursion}
use Rattle.std.proofs.lemmas.Bool.{cases_Bool, and_parts, and_from, and_left, and_right, le-leb, lt-leb, leb-true, lt-ltb, eq-eqb}
use Rattle.std.proofs.lemmas.List.{take_at, drop_at, drop-drop, drop_all, drop_more, drop-append-le, take-append-drop, take-take, drop-take, length-take-le}
use Rattle.std.proofs.lemmas.Slice.{between_is}
use borrow.Rule.Slice.PartMut.{put_mid}
use Rattle.pages.specs.Lists.{pick, flat, zeros}
use Rattle.pages.specs.Bytes.{in_bytes, all_bytes, from_eight}
use Rattle.pages.specs.Device.{Page, a_page}
use Rattle.pages.proofs.Bytes.{length_in_bytes, in_bytes_bytes, from_in_bytes}
use Rattle.pages.proofs.Folds.{added_up_append, every_append}
use Rattle.pages.proofs.Places.{from_eight_below}
use Rattle.pages.proofs.Lists.{every_join, every_take, every_drop}
use Rattle.pages.proofs.Device.{length_zeros, zeros_bytes}
use Rattle.rows.specs.Rows.{Row, RowFits, Stand, row_bytes, row_size, rows_size, page_of, used, rows_end, begins, row_in, stand, row_at, and_then, rows_in, rows_of, room_for, with_row}
use Rattle.rows.specs.Laws.{PagesStand}
use Rattle.pages.proofs.Bytewise.{flat_append, in_bytes_before, drop_zeros}

-- THE BYTES of a row
pub length_row : (r : Row) → length (row_bytes r) ≡ row_size r
unfolding row_bytes
length_row r = simp (length-append, length_in_bytes) (omega arith)

pub length_rows : (rs : List Row) → length (flat row_bytes rs) ≡ rows_size rs
length_rows [] = refl
length_rows (r ∷ rs) = length-append (row_bytes r) (flat row_bytes rs) ∙ (let a = length_row r in let b = length_rows rs in omega arith)

-- a row in its parts: key, four bytes and two bytes, with anything behind
pub row_parts : (r : Row) (bs : List ℕ) → row_bytes r ++ bs ≡ length r.key ∷ r.key ++ (in_bytes 4 r.doc [] ++ (in_bytes 2 r.place [] ++ bs))
unfolding row_bytes
row_parts r bs =
    let e : in_bytes 4 r.doc (in_bytes 2 r.place []) ≡ in_bytes 4 r.doc [] ++ in_bytes 2 r.place [] = in_bytes_before 4 r.doc (in_bytes 2 r.place []) in
    ap (λ xs. length r.key ∷ (r.key ++ xs) ++ bs) e
    ∙ ap (λ xs. length r.key ∷ xs)
    (append_assoc r.key (in_bytes 4 r.doc [] ++ in_bytes 2 r.place []) bs ∙ ap (λ xs. r.key ++ xs) (append_assoc (in_bytes 4 r.doc []) (in_bytes 2 r.place []) bs))

pub never : (a b : Bool) → (a && (b && false)) ≡ false
never true true = refl
never true false = refl
never false b = refl

-- the row that a list begins with, by its parts
module _ (ks ds ps bs : List ℕ) (four : length ds ≡ 4) (two : length ps ≡ 2) where
  abbrev rest : List ℕ
  rest = ks ++ (ds ++ (ps ++ bs))

  long : length ks + 6 ≤ length rest
  long = simp length-append (omega arith)

  take_key : take (length ks) rest ≡ ks
  take_key = take_at ks (ds ++ (ps ++ bs)) (length ks) refl

  take_doc : take 4 (drop (length ks) rest) ≡ ds
  take_doc = ap (take 4) (drop_at ks (ds ++ (ps ++ bs)) (length ks) refl) ∙ take_at ds (ps ++ bs) 4 four

  take_place : take 2 (drop (length ks + 4) rest) ≡ ps
  take_place =
      ap (take 2) (sym (drop-drop 4 (length ks) rest) ∙ ap (drop 4) (drop_at ks (ds ++ (ps ++ bs)) (length ks) refl) ∙ drop_at ds (ps ++ bs) 4 four) ∙ take_at ps bs 2 two

  take_whole : take (length ks + 6) rest ≡ ks ++ (ds ++ ps)
  take_whole =
      let e : rest ≡ (ks ++ (ds ++ ps)) ++ bs = ap (λ xs. ks ++ xs) (sym (append_assoc ds ps bs)) ∙ sym (append_assoc ks (ds ++ ps) bs) in
      ap (take (length ks + 6)) e ∙ take_at (ks ++ (ds ++ ps)) bs (length ks + 6) (simp length-append (omega arith))

  whole_bytes : all_bytes (take (length ks + 6) rest) ≡ (all_bytes ks && (all_bytes ds && all_bytes ps))
  whole_bytes = ap all_bytes take_whole ∙ every_append (λ c. ltb c 256) ks (ds ++ ps) ∙ ap (λ t. all_bytes ks && t) (every_append (λ c. ltb c 256) ds ps)

  pub row_in_parts : length ks ≤ 64 → all_bytes ks ≡ true → all_bytes ds ≡ true → all_bytes ps ≡ true →
      row_in (length ks ∷ rest) ≡ Some (record { key = ks; doc = from_eight 0 ds; place = from_eight 0 ps })
  unfolding row_in
  row_in_parts s k d p =
      let e : begins (length ks) rest ≡ true = simp (le-leb _ _ s, le-leb _ _ long, whole_bytes, k, d, p) in
      simp (e, take_key, take_doc, take_place)

  pub row_in_no_bytes : (all_bytes ks && (all_bytes ds && all_bytes ps)) ≡ false → row_in (length ks ∷ rest) ≡ None
  unfolding row_in
  row_in_no_bytes h =
      let e : begins (length ks) rest ≡ false = ap (λ t. leb (length ks) 64 && (leb (length ks + 6) (length rest) && t)) (whole_bytes ∙ h) ∙ never (leb (length ks) 64) (leb (length ks + 6) (length rest)) in
      simp e

pub row_in_bytes : (r : Row) (bs : List ℕ) → RowFits r → row_in (row_bytes r ++ bs) ≡ Some r
unfolding from_eight
row_in_bytes r bs f =
    let d : from_eight 0 (in_bytes 4 r.doc []) ≡ r.doc = from_in_bytes 4 r.doc [] f.doc_fits in
    let p : from_eight 0 (in_bytes 2 r.place []) ≡ r.place = from_in_bytes 2 r.place [] f.place_fits in
    ap row_in (row_parts r bs)
    ∙ row_in_parts r.key (in_bytes 4 r.doc []) (in_bytes 2 r.place []) bs (length_in_bytes 4 r.doc []) (length_in_bytes 2 r.place [])
    f.short f.bytes (in_bytes_bytes 4 r.doc [] refl) (in_bytes_bytes 2 r.place [] refl)
    ∙ (λ i. Some (record { key = r.key; doc = d i; place = p i }))

-- no row where the list is cut short or the key is too long
pub row_in_long : (n : ℕ) (bs : List ℕ) → 64 < n → row_in (n ∷ bs) ≡ None
unfolding row_in
row_in_long n bs h = simp (lt-leb n 64 h)

pub row_in_short : (n : ℕ) (bs : List ℕ) → length bs < n + 6 → row_in (n ∷ bs) ≡ None
unfolding row_in
row_in_short n bs h =
    let e : leb (n + 6) (length bs) ≡ false = lt-leb _ _ h in
    let it : Option Row = Some (record { key = take n bs; doc = from_eight 0 (take 4 (drop n bs)); place = from_eight 0 (take 2 (drop (n + 4) bs)) }) in
    elim (leb n 64) as (λ t. pick (t && (leb (n + 6) (length bs) && all_bytes (take (n + 6) bs))) it None ≡ None) [ true ↦ simp e | false ↦ refl ]

-- bytes of a part of bytes
pub part : (a k n : ℕ) (bs : List ℕ) → a + k ≤ n → all_bytes (take n bs) ≡ true → all_bytes (take k (drop a bs)) ≡ true
part a k n bs h w =
    let e : take k (drop a (take n bs)) ≡ take k (drop a bs) = ap (λ m. take k (drop a (take m bs))) (omega arith) ∙ ap (take k) (drop-take a (n - a) bs) ∙ take-take k (n - a) (drop a bs) (omega arith) in
    subst (λ (xs : List ℕ). all_bytes xs ≡ true) e (every_take (λ c. ltb c 256) k (drop a (take n bs)) (every_drop (λ c. ltb c 256) a (take n bs) w))

-- what so many bytes spell
pub bounded : (xs : List ℕ) (k : ℕ) → length xs ≡ k → all_bytes xs ≡ true → from_eight 0 xs < (0 + 1) * 256 ^ k
bounded xs k l b = subst (λ (m : ℕ). from_eight 0 xs < (0 + 1) * 256 ^ m) l (from_eight_below xs 0 b)

-- what is read fits, and does not go past the end of the list
pub row_in_fits : (xs : List ℕ) (r : Row) → row_in xs ≡ Some r → RowFits r × (row_size r ≤ length xs)
unfolding row_in
row_in_fits [] r h = cc
row_in_fits (n ∷ bs) r h =
    let it : Row = record { key = take n bs; doc = from_eight 0 (take 4 (drop n bs)); place = from_eight 0 (take 2 (drop (n + 4) bs)) } in
    ⊎_elim
    (λ t.
    let e : Some it ≡ Some r = subst (λ (x : Bool). pick x (Some it) None ≡ Some r) t h in
    let q : it ≡ r = cc in
    let a = and_parts (leb n 64) (leb (n + 6) (length bs) && all_bytes (take (n + 6) bs)) t in
    let b = and_parts (leb (n + 6) (length bs)) (all_bytes (take (n + 6) bs)) a.1 in
    let s : n ≤ 64 = leb-true n 64 a.0 in
    let l : n + 6 ≤ length bs = leb-true (n + 6) (length bs) b.0 in
    let lk : length (take n bs) ≡ n = length-take-le n bs (omega arith) in
    let whole : all_bytes (take (n + 6) bs) ≡ true = b.1 in
    let key : all_bytes (take n bs) ≡ true = part 0 n (n + 6) bs (omega arith) whole in
    let doc : all_bytes (take 4 (drop n bs)) ≡ true = part n 4 (n + 6) bs (omega arith) whole in
    let place : all_bytes (take 2 (drop (n + 4) bs)) ≡ true = part (n + 4) 2 (n + 6) bs (omega arith) whole in
    let ld : length (take 4 (drop n bs)) ≡ 4 = length-take-le 4 (drop n bs) (simp length-drop (omega arith)) in
    let lp : length (take 2 (drop (n + 4) bs)) ≡ 2 = length-take-le 2 (drop (n + 4) bs) (simp length-drop (omega arith)) in
    let df : from_eight 0 (take 4 (drop n bs)) < 4294967296 = bounded (take 4 (drop n bs)) 4 ld doc in
    let pf : from_eight 0 (take 2 (drop (n + 4) bs)) < 65536 = bounded (take 2 (drop (n + 4) bs)) 2 lp place in
    subst (λ (x : Row). RowFits x × (row_size x ≤ suc (length bs))) q
    (record { short = omega arith; bytes = key; doc_fits = df; place_fits = pf }, omega arith))
    (λ t. let e : None ≡ Some r = subst (λ (x : Bool). pick x (Some it) None ≡ Some r) t h in cc)
    (cases_Bool (begins n bs))

-- THE END OF THE ROWS, of any page: by its first two numbers
abbrev pub counted : Page → Bool
counted p = leb 2 (length p) && all_bytes (take 2 p)

pub end_is : (p : Page) → counted p ≡ true → used p ≤ 502 → used p + 2 ≤ length p → used p + 2 ≡ rows_end p
unfolding rows_end
end_is p c small inside =
    let a = and_parts (leb 2 (length p)) (all_bytes (take 2 p)) c in
    let e2 : leb (used p) 502 ≡ true = le-leb _ _ small in
    let e3 : leb (2 + used p) (length p) ≡ true = le-leb _ _ (omega arith) in
    let t : (leb 2 (length p) && (all_bytes (take 2 p) && (leb (used p) 502 && leb (2 + used p) (length p)))) ≡ true = and_from _ _ a.0 (and_from _ _ a.1 (and_from _ _ e2 e3)) in
    sym (ap (λ (x : Bool). pick x (2 + used p) 0) t ∙ omega arith)

pub no_end : (p : Page) → (counted p ≡ true → used p ≤ 502 → used p + 2 ≤ length p → ⊥) → 0 ≡ rows_end p
unfolding rows_end
no_end p n =
    let t : Bool = leb 2 (length p) && (all_bytes (take 2 p) && (leb (used p) 502 && leb (2 + used p) (length p))) in
    ⊎_elim
    (λ h.
    let a = and_parts (leb 2 (length p)) _ h in
    let b = and_parts (all_bytes (take 2 p)) _ a.1 in
    let c = and_parts (leb (used p) 502) (leb (2 + used p) (length p)) b.1 in
    let f : 2 + used p ≤ length p = leb-true _ _ c.1 in
    absurd (n (and_from _ _ a.0 b.0) (leb-true _ _ c.0) (omega arith)))
    (λ h. sym (ap (λ (x : Bool). pick x (2 + used p) 0) h))
    (cases_Bool t)

-- WHAT IS READ, of any page
-- A PAGE of which the first two bytes say how many follow: bytes bs, and anything behind
pub record Holds (p : Page) (bs more : List ℕ) : Type 0 where
  pub is : p ≡ in_bytes 2 (length bs) (bs ++ more)
  pub fits : length bs ≤ 502

module _ (p : Page) (bs more : List ℕ) (h : Holds p bs more) where
  abbrev count : List ℕ
  count = in_bytes 2 (length bs) []

  two : length count ≡ 2
  two = length_in_bytes 2 (length bs) []

  shape : p ≡ count ++ (bs ++ more)
  shape = h.is ∙ in_bytes_before 2 (length bs) (bs ++ more)

  pub length_held : length p ≡ 2 + length bs + length more
  length_held = ap length h.is ∙ length_in_bytes 2 (length bs) (bs ++ more) ∙ (let e = length-append bs more in omega arith)

  count_is : take 2 p ≡ count
  count_is = ap (take 2) shape ∙ take_at count (bs ++ more) 2 two

  pub end_held : rows_end p ≡ 2 + length bs
  unfolding from_eight
  end_held =
      let n : used p ≡ length bs = ap (from_eight 0) count_is ∙ from_in_bytes 2 (length bs) [] (omega (arith, h.fits)) in
      let b : all_bytes (take 2 p) ≡ true = ap all_bytes count_is ∙ in_bytes_bytes 2 (length bs) [] refl in
      let l = length_held in
      let e = end_is p (and_from _ _ (le-leb 2 (length p) (omega arith)) b) (omega (arith, h.fits)) (omega arith) in
      omega arith

  pub held : take (rows_end p) p ≡ count ++ bs
  held =
      ap (λ n. take n p) end_held ∙ ap (take (2 + length bs)) (shape ∙ sym (append_assoc count bs more))
      ∙ take_at (count ++ bs) more (2 + length bs) (length-append count bs ∙ (let e = two in omega arith))

  -- what stands from an offset on
  pub held_from : (k : ℕ) → drop (2 + k) (take (rows_end p) p) ≡ drop k bs
  held_from k = ap (drop (2 + k)) held ∙ sym (drop-drop k 2 (count ++ bs)) ∙ ap (drop k) (drop_at count bs 2 two)

  -- what lies behind the bytes
  pub past_end : (k : ℕ) → drop (2 + length bs + k) p ≡ drop k more
  past_end k =
      sym (drop-drop k (2 + length bs) p)
      ∙ ap (drop k)
      (ap (drop (2 + length bs)) (shape ∙ sym (append_assoc count bs more))
      ∙ drop_at (count ++ bs) more (2 + length bs) (length-append count bs ∙ (let e = two in omega arith)))

  pub row_held : (k : ℕ) → row_at p (2 + k) ≡ stand (2 + k) (row_in (drop k bs))
  unfolding row_at
  row_held k = ap (λ xs. stand (2 + k) (row_in xs)) (held_from k)

-- PAGES OF ROWS
pub page_holds : (rs : List Row) → rows_size rs ≤ 502 → Holds (page_of rs) (flat row_bytes rs) (zeros (510 - rows_size rs))
unfolding page_of
page_holds rs h =
    let e = length_rows rs in
    record { is = ap (λ n. in_bytes 2 n (flat row_bytes rs ++ zeros (510 - rows_size rs))) (sym e); fits = omega arith }

page_is : (rs : List Row) → in_bytes 2 (rows_size rs) (flat row_bytes rs ++ zeros (510 - rows_size rs)) ≡ page_of rs
unfolding page_of
page_is rs = refl

pub page_end : (rs : List Row) → rows_size rs ≤ 502 → rows_end (page_of rs) ≡ 2 + rows_size rs
page_end rs h = end_held _ _ _ (page_holds rs h) ∙ ap (λ n. 2 + n) (length_rows rs)

pub length_page : (rs : List Row) → rows_size rs ≤ 502 → length (page_of rs) ≡ 512
length_page rs h =
    length_held _ _ _ (page_holds rs h) ∙ (let a = length_rows rs in let b = length_zeros (510 - rows_size rs) in omega arith)

row_is_bytes : (r : Row) → RowFits r → all_bytes (row_bytes r) ≡ true
unfolding row_bytes
row_is_bytes r f =
    and_from _ _ (lt-ltb (length r.key) 256 (omega (arith, f.short)))
    (every_join (λ c. ltb c 256) r.key _ f.bytes (in_bytes_bytes 4 r.doc _ (in_bytes_bytes 2 r.place [] refl)))

rows_are_bytes : (rs : List Row) → AllByRecursion RowFits rs → all_bytes (flat row_bytes rs) ≡ true
rows_are_bytes [] f = refl
rows_are_bytes (r ∷ rs) f = every_join (λ c. ltb c 256) (row_bytes r) (flat row_bytes rs) (row_is_bytes r f.0) (rows_are_bytes rs f.1)

pub page_is_a_page : (rs : List Row) → AllByRecursion RowFits rs → rows_size rs ≤ 502 → a_page (page_of rs) ≡ true
page_is_a_page rs f h =
    and_from _ _ (eq-eqb (length (page_of rs)) 512 (length_page rs h))
    (subst (λ (p : Page). all_bytes p ≡ true) (sym (page_holds rs h).is)
    (in_bytes_bytes 2 (length (flat row_bytes rs)) _ (every_join (λ c. ltb c 256) (flat row_bytes rs) (zeros (510 - rows_size rs)) (rows_are_bytes rs f) (zeros_bytes (510 - rows_size rs)))))

-- the bytes from a row on
bytes_from : (before : List Row) (r : Row) (after : List Row) → drop (rows_size before) (flat row_bytes (before ++ r ∷ after)) ≡ row_bytes r ++ flat row_bytes after
bytes_from before r after =
    ap (drop (rows_size before)) (flat_append row_bytes before (r ∷ after)) ∙ drop_at (flat row_bytes before) (flat row_bytes (r ∷ after)) (rows_size before) (length_rows before)

pub row_stands : (before : List Row) (r : Row) (after : List Row) → RowFits r → rows_size (before ++ r ∷ after) ≤ 502 →
    row_at (page_of (before ++ r ∷ after)) (2 + rows_size before) ≡ Some (record { row = r; next = 2 + rows_size before + row_size r })
row_stands before r after f h =
    row_held _ _ _ (page_holds (before ++ r ∷ after) h) (rows_size before)
    ∙ ap (λ xs. stand (2 + rows_size before) (row_in xs)) (bytes_from before r after)
    ∙ ap (stand (2 + rows_size before)) (row_in_bytes r (flat row_bytes after) f)

pub all_last : {A : Type 0} (P : A → Type 0) (before : List A) (r : A) (after : List A) → AllByRecursion P (before ++ r ∷ after) → P r
all_last P [] r after h = h.0
all_last P (x ∷ before) r after h = all_last P before r after h.1

pub size_push : (rs : List Row) (r : Row) → rows_size (rs ++ r ∷ []) ≡ rows_size rs + row_size r
size_push rs r = added_up_append row_size rs (r ∷ []) ∙ omega arith

-- the row that the part from the offset to the end begins with
pub stands : (p : List ℕ) (at e : ℕ) → e ≡ rows_end p → row_at p at ≡ stand at (row_in (take (e - at) (drop at p)))
unfolding row_at
stands p at e h = ap (λ n. stand at (row_in (drop at (take n p)))) (sym h) ∙ ap (λ xs. stand at (row_in xs)) (sym (between_is p at e))

pub none_stands : (p : Page) (at : ℕ) → rows_end p ≤ at → row_at p at ≡ None
unfolding row_at row_in
none_stands p at h = ap (λ xs. stand at (row_in xs)) (drop_all at (take (rows_end p) p) (simp length-take (omega arith)))

-- what was put there is read back
rows_back : (n : ℕ) (rs : List Row) → AllByRecursion RowFits rs → length rs ≤ n → rows_in n (flat row_bytes rs) ≡ rs
unfolding rows_in row_in
rows_back zero [] f h = refl
rows_back zero (r ∷ rs) f h = absurd (omega arith)
rows_back (suc n) [] f h = refl
rows_back (suc n) (r ∷ rs) f h =
    ap (λ o. and_then o (λ q. rows_in n (drop (row_size q) (row_bytes r ++ flat row_bytes rs)))) (row_in_bytes r (flat row_bytes rs) f.0)
    ∙ ap (λ xs. r ∷ rows_in n xs) (drop_at (row_bytes r) (flat row_bytes rs) (row_size r) (length_row r))
    ∙ ap (λ xs. r ∷ xs) (rows_back n rs f.1 (omega arith))

pub rows_at_least : (rs : List Row) → 7 * length rs ≤ rows_size rs
rows_at_least [] = omega arith
rows_at_least (r ∷ rs) = let e = rows_at_least rs in omega arith

pub page_read_back : (rs : List Row) → AllByRecursion RowFits rs → rows_size rs ≤ 502 → rows_of (page_of rs) ≡ rs
unfolding rows_of
page_read_back rs f h = ap (rows_in 512) (held_from _ _ _ (page_holds rs h) 0) ∙ rows_back 512 rs f (let e = rows_at_least rs in omega arith)

-- ONE ROW MORE
pub page_takes : (rs : List Row) (r : Row) → rows_size rs + row_size r ≤ 502 → room_for (page_of rs) r ≡ true
unfolding room_for
page_takes rs r h =
    let p = page_of rs in
    let e = page_end rs (omega arith) in
    let l = length_page rs (omega arith) in
    let a : leb 2 (rows_end p) ≡ true = le-leb _ _ (omega arith) in
    let b : leb (rows_end p + row_size r) 504 ≡ true = le-leb _ _ (omega arith) in
    let d : leb (rows_end p + row_size r) (length p) ≡ true = le-leb _ _ (omega arith) in
    simp (a, b, d)

pub page_refuses : (rs : List Row) (r : Row) → rows_size rs ≤ 502 → 502 < rows_size rs + row_size r → room_for (page_of rs) r ≡ false
unfolding room_for
page_refuses rs r h k =
    let e = page_end rs h in
    let a : leb 2 (rows_end (page_of rs)) ≡ true = le-leb _ _ (omega arith) in
    let b : leb (rows_end (page_of rs) + row_size r) 504 ≡ false = lt-leb _ _ (omega arith) in
    simp (a, b)

pub page_with_row : (rs : List Row) (r : Row) → rows_size rs + row_size r ≤ 502 → with_row (page_of rs) r ≡ page_of (rs ++ r ∷ [])
unfolding with_row
page_with_row rs r h =
    let hold = page_holds rs (omega arith) in
    let p = page_of rs in
    let n = rows_size rs in
    let bs = flat row_bytes rs in
    let e = page_end rs (omega arith) in
    let s = size_push rs r in
    let size : rows_end p - 2 + row_size r ≡ rows_size (rs ++ r ∷ []) = omega arith in
    let past : drop (rows_end p + row_size r) p ≡ zeros (510 - rows_size (rs ++ r ∷ [])) =
    ap (λ m. drop (m + row_size r) p) (e ∙ ap (λ m. 2 + m) (sym (length_rows rs)))
    ∙ past_end p bs (zeros (510 - n)) hold (row_size r) ∙ drop_zeros (row_size r) (510 - n) ∙ ap zeros (omega arith) in
    let rows : flat row_bytes (rs ++ r ∷ []) ≡ bs ++ row_bytes r = flat_append row_bytes rs (r ∷ []) ∙ ap (λ xs. bs ++ xs) (append-nil (row_bytes r)) in
    (λ i. in_bytes 2 (size i) (held_from p bs (zeros (510 - n)) hold 0 i ++ (row_bytes r ++ past i)))
    ∙ ap (in_bytes 2 (rows_size (rs ++ r ∷ []))) (sym (append_assoc bs (row_bytes r) _) ∙ ap (λ xs. xs ++ zeros (510 - rows_size (rs ++ r ∷ []))) (sym rows))
    ∙ page_is (rs ++ r ∷ [])

-- what two and four bytes spell, as the library reads them
pub two_spell : (xs : List ℕ) → length xs ≡ 2 → get_or xs 0 0 * 256 + get_or xs 1 0 ≡ from_eight 0 xs
unfolding from_eight
two_spell [] l = absurd (omega arith)
two_spell (a ∷ []) l = absurd (omega arith)
two_spell (a ∷ b ∷ []) l = omega arith
two_spell (a ∷ b ∷ c ∷ xs) l = absurd (omega arith)

pub four_spell : (xs : List ℕ) → length xs ≡ 4 → from_be_bytes w32 xs ≡ from_eight 0 xs
unfolding from_eight
four_spell [] l = absurd (omega arith)
four_spell (a ∷ []) l = absurd (omega arith)
four_spell (a ∷ b ∷ []) l = absurd (omega arith)
four_spell (a ∷ b ∷ c ∷ []) l = absurd (omega arith)
four_spell (a ∷ b ∷ c ∷ d ∷ []) l = omega arith
four_spell (a ∷ b ∷ c ∷ d ∷ e ∷ xs) l = absurd (omega arith)

pub end_within : (p : Page) → (rows_end p ≤ 504) × (rows_end p ≤ length p)
unfolding rows_end
end_within p =
    let t : Bool = leb 2 (length p) && (all_bytes (take 2 p) && (leb (used p) 502 && leb (2 + used p) (length p))) in
    ⊎_elim
    (λ h.
    let a = and_parts (leb 2 (length p)) _ h in
    let b = and_parts (all_bytes (take 2 p)) _ a.1 in
    let c = and_parts (leb (used p) 502) _ b.1 in
    let d = leb-true _ _ c.0 in
    let e = leb-true _ _ c.1 in
    subst (λ (x : Bool). (pick x (2 + used p) 0 ≤ 504) × (pick x (2 + used p) 0 ≤ length p)) (sym h) (omega arith, e))
    (λ h. subst (λ (x : Bool). (pick x (2 + used p) 0 ≤ 504) × (pick x (2 + used p) 0 ≤ length p)) (sym h) (omega arith, omega arith))
    (cases_Bool t)

stand_parts : (at : ℕ) (o : Option Row) (s : Stand) → stand at o ≡ Some s → (o ≡ Some s.row) × (s.next ≡ at + row_size s.row)
stand_parts at None s h = cc
stand_parts at (Some r) s h =
    let e : record { row = r; next = at + row_size r } ≡ s = cc in
    (ap (λ (x : Stand). Some x.row) e, subst (λ (x : Stand). x.next ≡ at + row_size x.row) e refl)

pub read_fits : (p : Page) (at : ℕ) (s : Stand) → row_at p at ≡ Some s →
    RowFits s.row × (s.next ≡ at + row_size s.row) × (s.next ≤ rows_end p) × (rows_end p ≤ 504) × (rows_end p ≤ length p)
unfolding row_at
read_fits p at s h =
    let a = stand_parts at (row_in (drop at (take (rows_end p) p))) s h in
    let b = row_in_fits (drop at (take (rows_end p) p)) s.row a.0 in
    let w = end_within p in
    let l : length (drop at (take (rows_end p) p)) ≡ rows_end p - at = simp (length-drop, length-take) (omega arith) in
    (b.0, a.1, omega (arith, b.1, a.1), w.0, w.1)

-- ROWS IN CELLS. A list cut at the length of its key, the document and the place
module _ (xs : List ℕ) (long : get_or xs 0 0 + 7 ≤ length xs) where
  abbrev n : ℕ
  n = get_or xs 0 0

  abbrev keys : List ℕ
  keys = take (n + 1 - 1) (drop 1 xs)

  abbrev docs : List ℕ
  docs = take (n + 5 - (n + 1)) (drop (n + 1) xs)

  abbrev places : List ℕ
  places = take (n + 7 - (n + 5)) (drop (n + 5) xs)

  abbrev pub row_here : Row
  row_here = record { key = keys; doc = from_eight 0 docs; place = from_eight 0 places }

  pub length_keys : length keys ≡ n
  length_keys = length-take-le (n + 1 - 1) (drop 1 xs) (simp length-drop (omega arith)) ∙ omega arith

  pub length_docs : length docs ≡ 4
  length_docs = length-take-le (n + 5 - (n + 1)) (drop (n + 1) xs) (simp length-drop (omega arith)) ∙ omega arith

  pub length_places : length places ≡ 2
  length_places = length-take-le (n + 7 - (n + 5)) (drop (n + 5) xs) (simp length-drop (omega arith)) ∙ omega arith

  rest_from : (a b c : ℕ) → b ≡ a + c → drop a xs ≡ take (b - a) (drop a xs) ++ drop b xs
  rest_from a b c e =
      sym (take-append-drop (b - a) (drop a xs)) ∙ ap (λ ys. take (b - a) (drop a xs) ++ ys) (drop-drop (b - a) a xs ∙ ap (λ m. drop m xs) (omega arith))

  cut : xs ≡ length keys ∷ keys ++ (docs ++ (places ++ drop (n + 7) xs))
  cut =
      drop_more xs 0 0 (omega arith)
      ∙ (λ i. sym length_keys i ∷ rest_from 1 (n + 1) n (omega arith) i)
      ∙ ap (λ ys. length keys ∷ keys ++ ys) (rest_from (n + 1) (n + 5) 4 (omega arith) ∙ ap (λ ys. docs ++ ys) (rest_from (n + 5) (n + 7) 2 (omega arith)))

  -- document and place together
  pub tail_is : take (n + 7 - (n + 1)) (drop (n + 1) xs) ≡ docs ++ places
  tail_is =
      let l = length_docs in
      let m = length_places in
      ap (take (n + 7 - (n + 1)))
      (rest_from (n + 1) (n + 5) 4 (omega arith) ∙ ap (λ ys. docs ++ ys) (rest_from (n + 5) (n + 7) 2 (omega arith)) ∙ sym (append_assoc docs places (drop (n + 7) xs)))
      ∙ take_at (docs ++ places) (drop (n + 7) xs) (n + 7 - (n + 1)) (length-append docs places ∙ omega arith)

  pub row_in_cells : n ≤ 64 → all_bytes keys ≡ true → all_bytes docs ≡ true → all_bytes places ≡ true →
      row_in xs ≡ Some (record { key = keys; doc = from_eight 0 docs; place = from_eight 0 places })
  row_in_cells s k d p = ap row_in cut ∙ row_in_parts keys docs places (drop (n + 7) xs) length_docs length_places (let e = length_keys in omega arith) k d p

  no_row_in_cells : (all_bytes keys && (all_bytes docs && all_bytes places)) ≡ false → row_in xs ≡ None
  no_row_in_cells h = ap row_in cut ∙ row_in_no_bytes keys docs places (drop (n + 7) xs) length_docs length_places h

  pub no_row_by_key : all_bytes keys ≡ false → row_in xs ≡ None
  no_row_by_key h = no_row_in_cells (and_left (all_bytes keys) (all_bytes docs && all_bytes places) h)

  pub no_row_by_doc : all_bytes docs ≡ false → row_in xs ≡ None
  no_row_by_doc h = no_row_in_cells (and_right (all_bytes keys) (all_bytes docs && all_bytes places) (and_left (all_bytes docs) (all_bytes places) h))

  pub no_row_by_place : all_bytes places ≡ false → row_in xs ≡ None
  no_row_by_place h = no_row_in_cells (and_right (all_bytes keys) (all_bytes docs && all_bytes places) (and_right (all_bytes docs) (all_bytes places) h))

-- so many bytes are none only if one of them is no byte
first_false : (a b : Bool) → b ≡ true → (a && b) ≡ false → a ≡ false
first_false true b t h = sym t ∙ h
first_false false b t h = refl

pub no_bytes : (xs : List ℕ) (n : ℕ) → length xs ≡ n → (all_bytes xs && length xs == n) ≡ false → all_bytes xs ≡ false
no_bytes xs n l h = first_false (all_bytes xs) (length xs == n) (eq-eqb _ _ l) h

-- cells that are too few for any row, for their row, or whose key is too long
pub row_in_few : (xs : List ℕ) → length xs < get_or xs 0 0 + 7 → row_in xs ≡ None
unfolding row_in
row_in_few [] h = refl
row_in_few (x ∷ xs) h = row_in_short x xs (omega arith)

pub row_in_too_long : (xs : List ℕ) → 64 < get_or xs 0 0 → row_in xs ≡ None
row_in_too_long [] h = absurd (omega arith)
row_in_too_long (x ∷ xs) h = row_in_long x xs h

-- THE NEXT PART: after what is done, a part is written
pub put_next : {A : Type 0} (xs done rest ys : List A) (a k : ℕ) → xs ≡ done ++ rest → length done ≡ a → put_mid a k xs ys ≡ (done ++ ys) ++ drop k rest
put_next xs done rest ys a k e l =
    ap (λ zs. put_mid a k zs ys) e ∙ (λ i. take_at done rest a l i ++ (ys ++ drop k (drop_at done rest a l i))) ∙ sym (append_assoc done ys (drop k rest))

-- a number in as many bytes as there are
pub width_is : (ys : List ℕ) (w n k : ℕ) → ys ≡ in_bytes w n [] → length ys ≡ k → ys ≡ in_bytes k n []
width_is ys w n k e l = let h = ap length e ∙ length_in_bytes w n [] in let q : w ≡ k = omega arith in e ∙ ap (λ m. in_bytes m n []) q

-- the first cell is written
pub set_first : (xs : List ℕ) (n : ℕ) → 1 ≤ length xs → set xs 0 n ≡ (n ∷ []) ++ drop 1 xs
set_first [] n h = absurd (omega arith)
set_first (x ∷ xs) n h = refl

-- bytes are taken into as many cells
pub taken_whole : (o : Bool) (new bs old : List ℕ) → o ≡ (length bs == length old) → new ≡ pick o bs old → length bs ≡ length old → new ≡ bs
taken_whole o new bs old t n l = n ∙ ap (λ b. pick b bs old) (t ∙ eq-eqb _ _ l)

-- the parts of a row, one after the other
pub row_of_parts : (r : Row) (n : ℕ) (ks ds ps : List ℕ) → n ≡ length r.key → ks ≡ r.key → ds ≡ in_bytes 4 r.doc [] → ps ≡ in_bytes 2 r.place [] →
    (((n ∷ []) ++ ks) ++ ds) ++ ps ≡ row_bytes r
row_of_parts r n ks ds ps a b c d =
    (λ i. (((a i ∷ []) ++ b i) ++ c i) ++ d i)
    ∙ append_assoc (length r.key ∷ r.key) (in_bytes 4 r.doc []) (in_bytes 2 r.place [])
    ∙ ap (λ ys. length r.key ∷ r.key ++ (in_bytes 4 r.doc [] ++ ys)) (sym (append-nil (in_bytes 2 r.place [])))
    ∙ sym (row_parts r []) ∙ append-nil (row_bytes r)

-- ROOM for a row, and the page with it
pub no_room : (p : Page) (r : Row) → (2 ≤ rows_end p → rows_end p + row_size r ≤ 504 → rows_end p + row_size r ≤ length p → ⊥) → false ≡ room_for p r
unfolding room_for
no_room p r n =
    ⊎_elim
    (λ h.
    let a = and_parts (leb 2 (rows_end p)) _ h in
    let b = and_parts (leb (rows_end p + row_size r) 504) (leb (rows_end p + row_size r) (length p)) a.1 in
    absurd (n (leb-true _ _ a.0) (leb-true _ _ b.0) (leb-true _ _ b.1)))
    (λ h. sym h)
    (cases_Bool (leb 2 (rows_end p) && (leb (rows_end p + row_size r) 504 && leb (rows_end p + row_size r) (length p))))

pub has_room : (p : Page) (r : Row) → 2 ≤ rows_end p → rows_end p + row_size r ≤ 504 → rows_end p + row_size r ≤ length p → true ≡ room_for p r
unfolding room_for
has_room p r a b c = sym (and_from _ _ (le-leb _ _ a) (and_from _ _ (le-leb _ _ b) (le-leb _ _ c)))

pub row_put : (p : Page) (r : Row) (e k : ℕ) (bs ns : List ℕ) → e ≡ rows_end p → k ≡ row_size r → bs ≡ row_bytes r → ns ≡ in_bytes 2 (e + k - 2) [] → 2 ≤ e → e ≤ length p →
    ns ++ drop 2 (put_mid e k p bs) ≡ with_row p r
unfolding with_row
row_put p r e k bs ns is size b m two inside =
    let i : 2 ≤ length (take e p) = simp length-take (omega arith) in
    let n : e + k - 2 ≡ rows_end p - 2 + row_size r = omega arith in
    (λ j. m j ++ (drop-append-le 2 (take e p) (bs ++ drop k (drop e p)) i) j)
    ∙ ap (λ ys. in_bytes 2 (e + k - 2) [] ++ (drop 2 (take e p) ++ (bs ++ ys))) (drop-drop k e p)
    ∙ sym (in_bytes_before 2 (e + k - 2) (drop 2 (take e p) ++ (bs ++ drop (e + k) p)))
    ∙ (λ j. in_bytes 2 (n j) (drop 2 (take (is j) p) ++ (b j ++ drop (is j + size j) p)))

pub blank_page : page_of [] ≡ zeros 512
unfolding page_of in_bytes zeros
blank_page = refl

pub page_laws : PagesStand
page_laws = record {
  a_page_it_is = page_is_a_page;
  ends = λ rs f h. page_end rs h;
  each_stands = λ before r after f h.
      row_stands before r after (all_last RowFits before r after f) h ∙ ap (λ n. Some (record { row = r; next = n })) (let e = size_push before r in omega arith);
  none_past_the_end = λ rs f h at l. none_stands (page_of rs) at (let e = page_end rs h in omega arith);
  read_back = page_read_back;
  row_added = λ rs r f g h. (page_takes rs r h, page_with_row rs r h);
  blank_has_none = blank_page;
  row_refused = λ rs r f. page_refuses rs r;
  what_is_read_fits = read_fits;
}
