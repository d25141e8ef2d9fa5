-- Laws of the rows of a document. Assumes nothing.
use Rattle.std.proofs.Common.{◌≡◌, ℕ, suc, ◌+◌, ◌<◌, ◌≤◌, Bool, true, false, ◌&&◌, leb, List, [], ◌∷◌, length, sym, refl, ap, ◌∙◌, subst, inl, arith, length-append}
use Rattle.std.specs.List.{AllByRecursion}
use Rattle.std.proofs.ByRecursion.{All-append, All-weaker}
use Rattle.std.proofs.lemmas.Bool.{and_parts, and_from, le-leb, leb-true, both_ways, true≢false}
use Rattle.std.proofs.lemmas.Bool.Decides.{nat_tests}
use Rattle.pages.specs.Lists.{every, added_up, earlier}
use Rattle.pages.specs.Bytes.{in_bytes, eight}
use Rattle.pages.proofs.Folds.{all_from_every, added_up_append}
use Rattle.pages.proofs.Lists.{earlier_less}
use Rattle.pages.proofs.Perm.{perm_all}
use Rattle.pages.proofs.Sorted.{Different}
use Rattle.words.specs.Words.{in_word, small, words}
use Rattle.words.proofs.Laws.{words_every}
use Rattle.rows.specs.declared.Row.{Row}
use Rattle.rows.specs.Rows.{row_less, row_size, rows_size}
use Rattle.rows.proofs.Ordered.{less_from, less_one_way, less_irreflexive}
use Rattle.documents.specs.Document.{Doc}
use Rattle.documents.specs.Room.{row_bytes}
use Rattle.places.specs.Places.{name_key, name_row, placed, word_rows, doc_rows, sorted_rows}
use Rattle.places.specs.Laws.{PlacesStand}
use Rattle.places.proofs.Ordered.{pairwise_join, insert_first, sorted_all, sorted_rises, sorted_only, sorted_only_members, sorted_merged}

pub placed_length : (doc p : ℕ) (ws : List (List ℕ)) → length (placed doc p ws) ≡ length ws
unfolding placed
placed_length doc p [] = refl
placed_length doc p (w ∷ ws) = ap suc (placed_length doc (p + 1) ws)

pub placed_places : (doc p : ℕ) (ws : List (List ℕ)) → AllByRecursion (λ r. (p ≤ r.place) × (r.place < p + length ws)) (placed doc p ws)
unfolding placed
placed_places doc p [] = tt
placed_places doc p (w ∷ ws) = ((omega arith, omega arith), All-weaker _ (λ (r : Row). (p ≤ r.place) × (r.place < p + suc (length ws))) (λ r h. (omega arith, omega arith)) _ (placed_places doc (p + 1) ws))

pub placed_keys : (P : List ℕ → Type 0) (doc p : ℕ) (ws : List (List ℕ)) → AllByRecursion P ws → AllByRecursion (λ r. P r.key) (placed doc p ws)
unfolding placed
placed_keys P doc p [] h = tt
placed_keys P doc p (w ∷ ws) h = (h.0, placed_keys P doc (p + 1) ws h.1)

pub placed_size : (doc p : ℕ) (ws : List (List ℕ)) → rows_size (placed doc p ws) ≡ added_up (λ w. 7 + length w) ws
unfolding placed
placed_size doc p [] = refl
placed_size doc p (w ∷ ws) = ap (λ n. 7 + length w + n) (placed_size doc (p + 1) ws)

-- rows at different places are different
apart : (a b : Row) → a.place < b.place → a ≡ b → ⊥
apart a b l e = let q = ap (λ (r : Row). r.place) e in omega arith

pub placed_different : (doc p : ℕ) (ws : List (List ℕ)) → Different (placed doc p ws)
unfolding placed
placed_different doc p [] = tt
placed_different doc p (w ∷ ws) =
    let r : Row = record { key = w; doc = doc; place = p } in
    (All-weaker _ (λ (q : Row). r ≡ q → ⊥) (λ q h. apart r q (omega arith)) _ (placed_places doc (p + 1) ws), placed_different doc (p + 1) ws)

pub word_rows_different : (doc : ℕ) (title body : List ℕ) → length (words title) ≤ 32768 → Different (word_rows doc title body)
word_rows_different doc title body l =
    pairwise_join _ (placed doc 0 (words title)) (placed doc 32768 (words body)) (placed_different doc 0 (words title)) (placed_different doc 32768 (words body))
    (All-weaker _ (λ (r : Row). AllByRecursion (λ q. r ≡ q → ⊥) (placed doc 32768 (words body)))
    (λ r h. All-weaker _ (λ (q : Row). r ≡ q → ⊥) (λ q k. apart r q (omega arith)) _ (placed_places doc 32768 (words body)))
    _ (placed_places doc 0 (words title)))

-- a word begins with a byte from 48 up, so that the key of a name is the earlier one
abbrev high : List ℕ → Bool
high w = leb 1 (length w) && every (λ c. leb 48 c) w

small_high : (c : ℕ) → in_word c ≡ true → leb 48 (small c) ≡ true
small_high c t = grind (arith, nat_tests)

pub every_true : (bs : List ℕ) → every (λ _. true) bs ≡ true
every_true [] = refl
every_true (b ∷ bs) = every_true bs

after_name : (n : ℕ) (w : List ℕ) → high w ≡ true → earlier (name_key n) w ≡ true
after_name n [] h = absurd (true≢false (sym h))
after_name n (c ∷ w) h =
    let e = and_parts (leb 1 (length (c ∷ w))) (every (λ b. leb 48 b) (c ∷ w)) h in
    let k = leb-true 48 c (and_parts (leb 48 c) (every (λ b. leb 48 b) w) e.1).0 in
    earlier_less 1 c (eight n) w (omega arith)

pub words_after_name : (n : ℕ) (bs : List ℕ) → AllByRecursion (λ w. earlier (name_key n) w ≡ true) (words bs)
words_after_name n bs =
    All-weaker _ (λ (w : List ℕ). earlier (name_key n) w ≡ true) (after_name n) (words bs)
    (all_from_every high (words bs)
    (words_every (λ _. true) (λ c. leb 48 c) high (λ c _ t. small_high c t) (λ w some most k. and_from _ _ (le-leb 1 (length w) some) k) bs (every_true bs)))

pub name_less : (doc n : ℕ) (title body : List ℕ) → AllByRecursion (λ q. row_less (name_row doc n) q ≡ true) (word_rows doc title body)
name_less doc n title body =
    let K : List ℕ → Type 0 = λ w. earlier (name_key n) w ≡ true in
    let less : (p : ℕ) (bs : List ℕ) → AllByRecursion (λ q. row_less (name_row doc n) q ≡ true) (placed doc p (words bs)) = λ p bs.
    All-weaker _ (λ (q : Row). row_less (name_row doc n) q ≡ true) (λ q h. less_from (name_row doc n) q (inl h)) _ (placed_keys K doc p (words bs) (words_after_name n bs)) in
    All-append _ (placed doc 0 (words title)) _ (less 0 title) (less 32768 body)

pub doc_rows_different : (doc : ℕ) (d : Doc) → length (words d.title) ≤ 32768 → Different (doc_rows doc d)
doc_rows_different doc d l =
    let r = name_row doc d.name in
    (All-weaker _ (λ (q : Row). r ≡ q → ⊥) (λ q h e. both_ways _ (less_irreflexive r) (subst (λ (x : Row). row_less r x ≡ true) (sym e) h)) _ (name_less doc d.name d.title d.body), word_rows_different doc d.title d.body l)

pub name_first : (doc : ℕ) (d : Doc) → sorted_rows (doc_rows doc d) ≡ name_row doc d.name ∷ sorted_rows (word_rows doc d.title d.body)
unfolding sorted_rows
name_first doc d =
    let r = name_row doc d.name in
    insert_first r _
    (perm_all (λ q. row_less q r ≡ false) (sorted_all (word_rows doc d.title d.body))
    (All-weaker _ (λ (q : Row). row_less q r ≡ false) (λ q h. less_one_way r q h) _ (name_less doc d.name d.title d.body)))

pub word_rows_length : (doc : ℕ) (title body : List ℕ) → length (word_rows doc title body) ≡ length (words title) + length (words body)
word_rows_length doc title body = length-append (placed doc 0 (words title)) _ ∙ (λ i. placed_length doc 0 (words title) i + placed_length doc 32768 (words body) i)

pub doc_rows_size : (doc : ℕ) (d : Doc) → rows_size (doc_rows doc d) ≡ row_bytes d
unfolding row_bytes in_bytes
doc_rows_size doc d =
    ap (λ n. 16 + n)
    (added_up_append row_size (placed doc 0 (words d.title)) (placed doc 32768 (words d.body))
    ∙ (λ i. placed_size doc 0 (words d.title) i + placed_size doc 32768 (words d.body) i)
    ∙ sym (added_up_append (λ w. 7 + length w) (words d.title) (words d.body)))

pub places_laws : PlacesStand
places_laws = record {
  all_there = sorted_all;
  rise = sorted_rises;
  only = sorted_only;
  only_members = sorted_only_members;
  merged = sorted_merged;
  different = doc_rows_different;
  name_first = name_first;
  how_many = λ doc d. let e = word_rows_length doc d.title d.body in omega arith;
  bytes = doc_rows_size;
}
