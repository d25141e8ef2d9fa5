-- Laws of a comparison: what the library says of two slices.
use Rattle.std.proofs.Common.{◌≡◌, ℕ, List, Ordering, refl, arith}
use Rattle.std.specs.Ordering.{nat_cmp, is_lt, is_eq, is_gt}
use Rattle.std.specs.Cmp.Lexicographic.{slice_cmp}
use Rattle.std.proofs.lemmas.Cmp.{same_from_slice_cmp}
use Rattle.std.proofs.lemmas.Bool.Decides.{nat_tests}
use Rattle.pages.specs.Lists.{same, earlier}
use Rattle.words.specs.Compared.{Compared}

-- what the library's comparison of slices says
pub compared_cmp : (a b : List ℕ) (r : Ordering) → r ≡ slice_cmp nat_cmp a b → Compared r a b
unfolding earlier same
compared_cmp a b r e =
    record {
      less = same_from_slice_cmp nat_cmp is_lt earlier refl (λ _ _. refl) (λ _ _. refl) (λ x y xs ys o h. grind (arith, nat_tests)) a b r e;
      equal = same_from_slice_cmp nat_cmp is_eq same refl (λ _ _. refl) (λ _ _. refl) (λ x y xs ys o h. grind (arith, nat_tests)) a b r e;
      greater = same_from_slice_cmp nat_cmp is_gt (λ x y. earlier y x) refl (λ _ _. refl) (λ _ _. refl) (λ x y xs ys o h. grind (arith, nat_tests)) a b r e;
    }
