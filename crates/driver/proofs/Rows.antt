-- Pages in a row, and writes that wait. Assumes nothing.
use Rattle.std.proofs.Common.{◌≡◌, ℕ, zero, suc, ◌<◌, List, [], ◌∷◌, ◌++◌, length, get_or, set, replicate, refl, ap, ◌∙◌, arith, length-set}
use Rattle.pages.specs.Lists.{zeros}
use Rattle.pages.specs.Device.{Page, Write, page_at, set_page, all_written, blank}

pub page_at_getD : (ps : List Page) (k : ℕ) (d : Page) → k < length ps → page_at ps k ≡ get_or ps k d
unfolding page_at
page_at_getD [] k d h = absurd (omega arith)
page_at_getD (p ∷ ps) zero d h = refl
page_at_getD (p ∷ ps) (suc k) d h = page_at_getD ps k d (omega arith)

pub set_page_set : (ps : List Page) (k : ℕ) (p : Page) → set_page ps k p ≡ set ps k p
unfolding set_page
set_page_set [] k p = refl
set_page_set (q ∷ ps) zero p = refl
set_page_set (q ∷ ps) (suc k) p = ap (λ l. q ∷ l) (set_page_set ps k p)

pub length_set_page : (ps : List Page) (k : ℕ) (p : Page) → length (set_page ps k p) ≡ length ps
length_set_page ps k p = ap length (set_page_set ps k p) ∙ length-set ps k p

-- a write that waits makes no page more or less
pub length_all_written : (ps : List Page) (ws : List Write) → length (all_written ps ws) ≡ length ps
unfolding all_written
length_all_written ps [] = refl
length_all_written ps (w ∷ ws) = length_all_written (set_page ps w.at w.page) ws ∙ length_set_page ps w.at w.page

-- of what waits, the last is written last
pub all_written_more : (ps : List Page) (ws : List Write) (w : Write) → all_written ps (ws ++ w ∷ []) ≡ set_page (all_written ps ws) w.at w.page
unfolding all_written
all_written_more ps [] w = refl
all_written_more ps (v ∷ ws) w = all_written_more (set_page ps v.at v.page) ws w

pub all_written_none : (ps : List Page) → all_written ps [] ≡ ps
unfolding all_written
all_written_none ps = refl

pub zeros_replicate : (n : ℕ) → zeros n ≡ replicate n 0
unfolding zeros
zeros_replicate zero = refl
zeros_replicate (suc n) = ap (λ l. 0 ∷ l) (zeros_replicate n)

pub blank_none : blank 0 ≡ []
unfolding blank
blank_none = refl

pub blank_more : (n : ℕ) → blank n ++ zeros 512 ∷ [] ≡ blank (suc n)
unfolding blank
blank_more zero = refl
blank_more (suc n) = ap (λ l. zeros 512 ∷ l) (blank_more n)

pub blank_replicate : (n : ℕ) → replicate n (replicate 512 0) ≡ blank n
unfolding blank
blank_replicate zero = refl
blank_replicate (suc n) = let p = zeros_replicate 512 in rw (p, blank_replicate n)
