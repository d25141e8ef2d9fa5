-- Laws of copying a document to a page. Assumes nothing.
use Rattle.std.proofs.Common.{◌≡◌, ℕ, zero, suc, ◌+◌, ◌-◌, ◌%◌, ◌<◌, ◌≤◌, List, [], ◌∷◌, ◌++◌, length, get_or, take, drop, set, map, replicate, sym, ap, ◌∙◌, append_assoc, arith, length-append}
use Rattle.std.specs.List.{enumerate_from}
use Rattle.std.proofs.lemmas.List.{set_at, take_more, drop_more, length-take-le, drop-append-le, drop-map, drop-replicate, length-replicate, get_or_default}
use Rattle.std.proofs.lemmas.List.FromFn.{length-enumerate_from, get_or-enumerate_from}
use Rattle.pages.specs.Lists.{zeros}
use Rattle.pages.specs.Places.{written}
use Rattle.pages.proofs.Folds.{length_each}
use Rattle.documents.specs.Pages.{filled, low_bytes}

-- what comes after a place in one list after another
drop_both : {A : Type 0} (n : ℕ) (xs ys : List A) → drop n (xs ++ ys) ≡ drop n xs ++ drop (n - length xs) ys
drop_both zero xs ys = let e : 0 - length xs ≡ 0 = omega arith in ap (λ k. xs ++ drop k ys) (sym e)
drop_both (suc n) [] ys = let e : suc n - 0 ≡ suc n = omega arith in ap (λ k. drop k ys) (sym e)
drop_both (suc n) (x ∷ xs) ys = let e : suc n - suc (length xs) ≡ n - length xs = omega arith in drop_both n xs ys ∙ ap (λ k. drop n xs ++ drop k ys) (sym e)

-- the same of header, title and body, where title and body are cells
pub content_past : (h t b : List ℕ) (n : ℕ) → drop n (h ++ (low_bytes t ++ low_bytes b)) ≡
    (drop n h ++ map (λ c. c % 256) (drop (n - length h) t)) ++ map (λ c. c % 256) (drop (n - length h - length t) b)
content_past h t b n =
    let low : ℕ → ℕ = λ c. c % 256 in
    let l : length (map low t) ≡ length t = length_each low t in
    drop_both n h (map low t ++ map low b) ∙ ap (λ x. drop n h ++ x) (drop_both (n - length h) (map low t) (map low b)) ∙ sym (append_assoc (drop n h) _ _)
    ∙ (λ i. (drop n h ++ drop-map low (n - length h) t i) ++ drop (n - length h - l i) (map low b)) ∙ ap (λ x. (drop n h ++ map low (drop (n - length h) t)) ++ x) (drop-map low (n - length h - length t) b)

-- one byte more of a page that is written from its first byte on
pub one_place_more : (out page : List ℕ) (i : ℕ) → i < length page → i < length out → set (written out 0 (take i page)) i (get_or page i 0) ≡ written out 0 (take (i + 1) page)
unfolding written
one_place_more out page i h l =
    let x : ℕ = get_or page i 0 in
    let a : length (take i page) ≡ i = length-take-le i page (omega arith) in
    let b : length (take (i + 1) page) ≡ i + 1 = length-take-le (i + 1) page (omega arith) in
    let before : written out 0 (take i page) ≡ take i page ++ (get_or out i 0 ∷ drop (i + 1) out) =
    ap (λ n. take i page ++ drop n out) (omega arith) ∙ ap (λ y. take i page ++ y) (drop_more out i 0 l) in
    ap (λ y. set y i x) before ∙ set_at (take i page) (get_or out i 0) (drop (i + 1) out) x i a ∙ sym (append_assoc (take i page) (x ∷ []) (drop (i + 1) out))
    ∙ ap (λ y. y ++ drop (i + 1) out) (sym (take_more page i 0 h)) ∙ ap (λ n. take (i + 1) page ++ drop n out) (omega arith)

-- the same of a byte that comes with its place
pub next_byte : (out bytes : List ℕ) (k i b : ℕ) → k < length (enumerate_from 0 bytes) → (i, b) ≡ get_or (enumerate_from 0 bytes) k (i, b) → length bytes ≤ length out →
    set (written out 0 (take k bytes)) i b ≡ written out 0 (take (k + 1) bytes)
next_byte out bytes k i b h e l =
    let less : k < length bytes = omega (arith, length-enumerate_from 0 bytes) in
    let is = e ∙ get_or-enumerate_from 0 bytes k (i, b) less in
    let place : i ≡ k = ap (λ p. p.0) is ∙ omega arith in
    let byte : b ≡ get_or bytes k 0 = ap (λ p. p.1) is ∙ get_or_default bytes k b 0 less in
    (λ j. set (written out 0 (take k bytes)) (place j) (byte j)) ∙ one_place_more out bytes k less (omega arith)

-- bytes over zeros are the bytes, filled up with zeros
pub over_zeros : (out bytes : List ℕ) → length bytes ≤ 512 → 512 ≤ length out → written (replicate 512 0 ++ drop 512 out) 0 bytes ≡ written out 0 (filled 512 bytes)
unfolding written zeros
over_zeros out bytes h l =
    let n : ℕ = length bytes in
    let z : List ℕ = replicate (512 - n) 0 in
    let k : n ≤ length (replicate {A = ℕ} 512 0) = simp length-replicate h in
    let whole : List ℕ = replicate 512 0 ++ drop 512 out in
    let start : 0 + n ≡ n = omega arith in
    let e : 0 + length (bytes ++ z) ≡ 512 = simp (length-append, length-replicate) (omega arith) in
    ap (λ m. bytes ++ drop m whole) start ∙ ap (λ x. bytes ++ x) (drop-append-le n (replicate 512 0) (drop 512 out) k ∙ ap (λ x. x ++ drop 512 out) (drop-replicate n 512 0)) ∙ sym (append_assoc bytes z (drop 512 out))
    ∙ ap (λ m. (bytes ++ z) ++ drop m out) (sym e)
