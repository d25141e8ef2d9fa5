-- Laws of the numbers of a head on a page: written one after the other, in both copies, and read. Assumes nothing.
use Rattle.std.proofs.Common.{◌≡◌, ℕ, zero, suc, ◌+◌, ◌*◌, ◌<◌, ◌≤◌, List, [], ◌∷◌, ◌++◌, length, get_or, replicate, sym, refl, ap, ◌∙◌, append_assoc, arith, lit<, length-append}
use Rattle.pages.specs.Lists.{zeros}
use Rattle.pages.specs.Bytes.{eight}
use Rattle.pages.specs.Device.{Page}
use Rattle.pages.specs.Places.{number_at, written, in_eights}
use Rattle.pages.specs.declared.roots.Head.{Head}
use Rattle.pages.specs.Head.{segment_at, root_at, head_at, head_numbers, head_page}
use Rattle.pages.proofs.Heads.{written_over}
use Rattle.pages.proofs.Places.{length_in_eights, written_then}

-- zeros are the library's
pub zeros_replicate : (n : ℕ) → replicate n 0 ≡ zeros n
unfolding zeros
zeros_replicate zero = refl
zeros_replicate (suc n) = ap (λ xs. 0 ∷ xs) (zeros_replicate n)

-- numbers in eight bytes each, one list of them after the other
pub in_eights_append : (xs ys : List ℕ) → in_eights (xs ++ ys) ≡ in_eights xs ++ in_eights ys
in_eights_append [] ys = refl
in_eights_append (x ∷ xs) ys = ap (λ z. eight x ++ z) (in_eights_append xs ys) ∙ sym (append_assoc (eight x) (in_eights xs) (in_eights ys))

-- numbers written after numbers
pub numbers_then : (o₀ : List ℕ) {o₁ o₂ : List ℕ} (at n : ℕ) (xs ys : List ℕ) → at ≤ length o₀ → n ≡ at + 8 * length xs → o₁ ≡ written o₀ at (in_eights xs) → o₂ ≡ written o₁ n (in_eights ys)
    → o₂ ≡ written o₀ at (in_eights (xs ++ ys))
numbers_then o₀ at n xs ys h e p q = written_then o₀ at n (in_eights xs) (in_eights ys) h (omega (arith, length_in_eights xs)) p q ∙ ap (written o₀ at) (sym (in_eights_append xs ys))

-- both copies, written over zeros
pub head_page_written : (h : Head) → written (written (replicate 512 0) 0 (in_eights (head_numbers h))) 256 (in_eights (head_numbers h)) ≡ head_page h
unfolding head_page zeros
head_page_written h =
    let c : List ℕ = in_eights (head_numbers h) in
    let l : length c ≡ 168 = length_in_eights (head_numbers h) in
    let one : written (zeros 512) 0 c ≡ c ++ zeros 344 = written_over [] (zeros 168) c (zeros 344) 0 refl (sym l) in
    let m : length (c ++ zeros 88) ≡ 256 = length-append c (zeros 88) ∙ ap (λ n. n + 88) l in
    let e : c ++ zeros 344 ≡ (c ++ zeros 88) ++ (zeros 168 ++ zeros 88) = sym (append_assoc c (zeros 88) (zeros 256)) in
    let two : written ((c ++ zeros 88) ++ (zeros 168 ++ zeros 88)) 256 c ≡ (c ++ zeros 88) ++ (c ++ zeros 88) = written_over (c ++ zeros 88) (zeros 168) c (zeros 88) 256 m (sym l) in
    ap (λ z. written (written z 0 c) 256 c) (zeros_replicate 512) ∙ ap (λ z. written z 256 c) (one ∙ e) ∙ two ∙ append_assoc c (zeros 88) (c ++ zeros 88)

-- a head is read where its numbers stand
pub head_at_numbers : (p : Page) (h : Head) → ((i : ℕ) → i < 21 → number_at p (8 * i) ≡ get_or (head_numbers h) i 0) → head_at p 0 ≡ h
unfolding head_at root_at segment_at
head_at_numbers p h f =
    simp (
      f 0 (lit< tt),
      f 1 (lit< tt),
      f 2 (lit< tt),
      f 3 (lit< tt),
      f 4 (lit< tt),
      f 5 (lit< tt),
      f 6 (lit< tt),
      f 7 (lit< tt),
      f 8 (lit< tt),
      f 9 (lit< tt),
      f 10 (lit< tt),
      f 11 (lit< tt),
      f 12 (lit< tt),
      f 13 (lit< tt),
      f 14 (lit< tt),
      f 15 (lit< tt),
      f 16 (lit< tt),
      f 17 (lit< tt),
      f 18 (lit< tt),
      f 19 (lit< tt),
      f 20 (lit< tt),
    )
