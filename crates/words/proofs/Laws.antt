-- Laws of the words of a text.
use Rattle.std.proofs.Common.{◌≡◌, ℕ, suc, ◌+◌, ◌-◌, ◌*◌, ◌<◌, ◌≤◌, min, Bool, true, false, not, ◌&&◌, ltb, leb, List, [], ◌∷◌, ◌++◌, length, get_or, take, drop, sym, refl, ap, ◌∙◌, subst, ⊎_elim, append-nil, arith, length-drop, length-take, take-take, drop-drop}
use mathlib.Core.Bool.{beq}
use lib.Seq.{append_snoc}
use Rattle.std.proofs.lemmas.List.{at_drop_more, drop_all, take_all, length-append}
use Rattle.std.proofs.lemmas.Bool.{and_parts, and_from, cases_Bool, cases_lt, le-leb, leb-true}
use Rattle.std.proofs.lemmas.Bool.Decides.{nat_tests}
use Rattle.pages.specs.Lists.{pick, every, each, added_up}
use Rattle.pages.proofs.Folds.{length_each}
use Rattle.pages.proofs.Lists.{every_join, every_take, each_take}
use Rattle.words.specs.Words.{in_word, small, ended, words_from, words}
use Rattle.words.specs.Stretches.{run, gap, stretch, word_at, to_come, Found}
use Rattle.words.specs.declared.Word.{Word}
use Rattle.words.specs.Laws.{well_formed}

-- one byte more: it makes words, or it makes none
pub words_in : (w : List ℕ) (c : ℕ) (cs : List ℕ) → in_word c ≡ true → words_from w (c ∷ cs) ≡ words_from (w ++ small c ∷ []) cs
unfolding words_from
words_in w c cs e = ap (λ b. pick b (words_from (w ++ small c ∷ []) cs) (ended w (words_from [] cs))) e

pub words_out : (w : List ℕ) (c : ℕ) (cs : List ℕ) → in_word c ≡ false → words_from w (c ∷ cs) ≡ ended w (words cs)
unfolding words_from
words_out w c cs e = ap (λ b. pick b (words_from (w ++ small c ∷ []) cs) (ended w (words_from [] cs))) e

pub run_in : (of : Bool) (c : ℕ) (cs : List ℕ) → beq (in_word c) of ≡ true → run of (c ∷ cs) ≡ suc (run of cs)
unfolding run
run_in of c cs e = ap (λ b. pick b (suc (run of cs)) 0) e

pub run_out : (of : Bool) (c : ℕ) (cs : List ℕ) → beq (in_word c) of ≡ false → run of (c ∷ cs) ≡ 0
unfolding run
run_out of c cs e = ap (λ b. pick b (suc (run of cs)) 0) e

-- a run from a place on goes on, or ends
pub run_more : (of : Bool) (bs : List ℕ) (i : ℕ) → i < length bs → beq (in_word (get_or bs i 0)) of ≡ true → run of (drop i bs) ≡ suc (run of (drop (i + 1) bs))
run_more of bs i h e = at_drop_more (run of) bs i 0 h ∙ run_in of _ _ e

pub run_stops : (of : Bool) (bs : List ℕ) (i : ℕ) → i < length bs → beq (in_word (get_or bs i 0)) of ≡ false → run of (drop i bs) ≡ 0
run_stops of bs i h e = at_drop_more (run of) bs i 0 h ∙ run_out of _ _ e

pub stretch_first : (bs : List ℕ) (i : ℕ) → i < length bs → 1 ≤ stretch (drop i bs) → stretch (drop i bs) ≡ suc (stretch (drop (i + 1) bs))
stretch_first bs i h some =
    ⊎_elim (λ t. run_more true bs i h t) (λ f. let none = run_stops true bs i h f in absurd (omega arith)) (cases_Bool (beq (in_word (get_or bs i 0)) true))

pub run_within : (of : Bool) (bs : List ℕ) → run of bs ≤ length bs
unfolding run
run_within of [] = omega arith
run_within of (c ∷ cs) =
    let rest = run_within of cs in
    ⊎_elim (λ t. let e = run_in of c cs t in omega arith) (λ f. let e = run_out of c cs f in omega arith) (cases_Bool (beq (in_word c) of))

-- bytes that make no word do not change the words to come
pub words_gap : (bs : List ℕ) → words (drop (gap bs) bs) ≡ words bs
unfolding run
words_gap [] = refl
words_gap (c ∷ cs) =
    ⊎_elim
    (λ t. ap (λ n. words (drop n (c ∷ cs))) (run_out false c cs (ap (λ b. beq b false) t)))
    (λ f. ap (λ n. words (drop n (c ∷ cs))) (run_in false c cs (ap (λ b. beq b false) f)) ∙ words_gap cs ∙ sym (words_out [] c cs f))
    (cases_Bool (in_word c))

-- past the bytes that make no word there is a byte that makes one, or nothing
pub after_gap : (bs : List ℕ) → gap bs < length bs → 1 ≤ stretch (drop (gap bs) bs)
unfolding run
after_gap [] h = absurd (omega arith)
after_gap (c ∷ cs) h =
    ⊎_elim
    (λ t. let e = run_out false c cs (ap (λ b. beq b false) t) in
    subst (λ (n : ℕ). 1 ≤ stretch (drop n (c ∷ cs))) (sym e) (let f = run_in true c cs (ap (λ b. beq b true) t) in omega arith))
    (λ f. let e = run_in false c cs (ap (λ b. beq b false) f) in
    subst (λ (n : ℕ). 1 ≤ stretch (drop n (c ∷ cs))) (sym e) (after_gap cs (omega arith)))
    (cases_Bool (in_word c))

-- a stretch of bytes that make words ends the word that they make
pub words_stretch : (w bs : List ℕ) → words_from w bs ≡ ended (w ++ each small (take (stretch bs) bs)) (words (drop (stretch bs) bs))
unfolding run words_from
words_stretch w [] = ap (λ v. ended v []) (sym (append-nil w))
words_stretch w (c ∷ cs) =
    let G : ℕ → List (List ℕ) = λ n. ended (w ++ each small (take n (c ∷ cs))) (words (drop n (c ∷ cs))) in
    ⊎_elim
    (λ t. words_in w c cs t ∙ words_stretch (w ++ small c ∷ []) cs
    ∙ ap (λ v. ended v (words (drop (stretch cs) cs))) (append_snoc w (small c) (each small (take (stretch cs) cs)))
    ∙ ap G (sym (run_in true c cs (ap (λ b. beq b true) t))))
    (λ f. words_out w c cs f ∙ ap (ended w) (sym (words_out [] c cs f)) ∙ ap (λ v. ended v (words (c ∷ cs))) (sym (append-nil w))
    ∙ ap G (sym (run_out true c cs (ap (λ b. beq b true) f))))
    (cases_Bool (in_word c))

pub ended_some : (w : List ℕ) (ws : List (List ℕ)) → 1 ≤ length w → ended w ws ≡ take 64 w ∷ ws
ended_some [] ws h = absurd (omega arith)
ended_some (c ∷ cs) ws h = refl

take_least : (m n : ℕ) (a : List ℕ) → take m (take n a) ≡ take (min m n) a
take_least m n a =
    ⊎_elim
    (λ l. take-take m n a (omega arith) ∙ ap (λ k. take k a) (omega arith))
    (λ g. take_all m (take n a) (omega (arith, length-take n a)) ∙ ap (λ k. take k a) (omega arith))
    (cases_lt m n)

-- a text that begins with a byte that makes words: its first word, and what comes after the stretch
pub words_first : (bs : List ℕ) → 1 ≤ stretch bs → words bs ≡ each small (take (min 64 (stretch bs)) bs) ∷ words (drop (stretch bs) bs)
words_first bs h =
    let within = run_within true bs in
    let long : 1 ≤ length (each small (take (stretch bs) bs)) = simp (length_each, length-take) (omega arith) in
    words_stretch [] bs ∙ ended_some _ _ long
    ∙ ap (λ v. v ∷ words (drop (stretch bs) bs)) (sym (each_take small 64 (take (stretch bs) bs)) ∙ ap (each small) (take_least 64 (stretch bs) bs))

module _ (bs : List ℕ) (at s : ℕ) (starts : s ≡ at + gap (drop at bs)) where
  dropped : drop s bs ≡ drop (gap (drop at bs)) (drop at bs)
  dropped = ap (λ k. drop k bs) starts ∙ sym (drop-drop (gap (drop at bs)) at bs)

  -- the next word from a place on starts past the bytes that make none
  pub come_from_start : to_come bs at ≡ to_come bs s
  come_from_start = sym (words_gap (drop at bs)) ∙ ap words (sym dropped)

  pub none_to_come : length bs ≤ s → to_come bs at ≡ []
  unfolding words_from
  none_to_come h = come_from_start ∙ ap words (drop_all s bs h)

  -- its stretch goes on from its first byte, which is known to make words
  pub next_found : (e n : ℕ) → s < length bs → e ≡ s + 1 + stretch (drop (s + 1) bs) → n ≡ min 64 (e - s) → Found bs at (record { start = s; len = n; end = e })
  next_found e n h after counts =
      let left : gap (drop at bs) < length (drop at bs) = simp length-drop (omega arith) in
      let some : 1 ≤ stretch (drop s bs) = subst (λ (l : List ℕ). 1 ≤ stretch l) (sym dropped) (after_gap (drop at bs) left) in
      let first : stretch (drop s bs) ≡ suc (stretch (drop (s + 1) bs)) = stretch_first bs s h some in
      let ends : e ≡ s + stretch (drop s bs) = omega arith in
      let within : stretch (drop s bs) ≤ length bs - s = omega (arith, run_within true (drop s bs), length-drop s bs) in
      let least : min 64 (stretch (drop s bs)) ≡ n = omega arith in
      let rest : drop (stretch (drop s bs)) (drop s bs) ≡ drop e bs = drop-drop (stretch (drop s bs)) s bs ∙ ap (λ k. drop k bs) (sym ends) in
      record {
        starts = starts;
        ends = ends;
        counts = counts;
        some = omega arith;
        inside = omega arith;
        comes = come_from_start ∙ words_first (drop s bs) some ∙ (λ i. each small (take (least i) (drop s bs)) ∷ words (rest i));
      }

-- where a word that was found stands
pub found_bounds : (bs : List ℕ) (at : ℕ) (w : Word) → Found bs at w → (at ≤ w.start) × (w.start + w.len ≤ w.end) × (w.end ≤ length bs) × (w.len ≤ 64)
found_bounds bs at w f =
    let least : w.len ≡ min 64 (w.end - w.start) = f.counts in
    let from : w.start ≡ at + gap (drop at bs) = f.starts in
    let some : 1 ≤ w.len = f.some in
    (omega arith, omega arith, f.inside, omega arith)

pub length_word_at : (bs : List ℕ) (start len : ℕ) → start + len ≤ length bs → length (word_at bs start len) ≡ len
length_word_at bs start len h = simp (length_each, length-take, length-drop) (omega arith)

ended_append : (w : List ℕ) (us vs : List (List ℕ)) → ended w us ++ vs ≡ ended w (us ++ vs)
ended_append [] us vs = refl
ended_append (c ∷ cs) us vs = refl

-- a byte that makes no word cuts a text
words_from_cut : (w a b : List ℕ) (c : ℕ) → in_word c ≡ false → words_from w (a ++ c ∷ b) ≡ words_from w a ++ words b
unfolding words_from
words_from_cut w [] b c e = words_out w c b e ∙ sym (ended_append w [] (words b))
words_from_cut w (x ∷ a) b c e =
    ⊎_elim
    (λ t. words_in w x (a ++ c ∷ b) t ∙ words_from_cut (w ++ small x ∷ []) a b c e ∙ ap (λ ws. ws ++ words b) (sym (words_in w x a t)))
    (λ f. words_out w x (a ++ c ∷ b) f ∙ ap (ended w) (words_from_cut [] a b c e) ∙ sym (ended_append w (words a) (words b)) ∙ ap (λ ws. ws ++ words b) (sym (words_out w x a f)))
    (cases_Bool (in_word x))

pub words_cut : (a b : List ℕ) (c : ℕ) → in_word c ≡ false → words (a ++ c ∷ b) ≡ words a ++ words b
words_cut a b c e = words_from_cut [] a b c e

-- what holds of each word: it has 1 to 64 bytes, and each of them comes from a byte of the text that makes words
module _ (P : List ℕ → Bool) where
  ended_every : (w : List ℕ) (ws : List (List ℕ)) → (1 ≤ length w → P (take 64 w) ≡ true) → every P ws ≡ true → every P (ended w ws) ≡ true
  ended_every [] ws h k = k
  ended_every (c ∷ cs) ws h k = and_from _ _ (h (omega arith)) k

module _ (p q : ℕ → Bool) (P : List ℕ → Bool) (byte : (c : ℕ) → p c ≡ true → in_word c ≡ true → q (small c) ≡ true)
    (whole : (w : List ℕ) → 1 ≤ length w → length w ≤ 64 → every q w ≡ true → P w ≡ true) where
  words_from_every : (w bs : List ℕ) → every q w ≡ true → every p bs ≡ true → every P (words_from w bs) ≡ true
  unfolding words_from
  words_from_every w [] h k = ended_every P w [] (λ l. whole (take 64 w) (simp length-take (omega arith)) (simp length-take (omega arith)) (every_take q 64 w h)) refl
  words_from_every w (c ∷ cs) h k =
      let r = and_parts (p c) (every p cs) k in
      ⊎_elim
      (λ t. subst (λ (ws : List (List ℕ)). every P ws ≡ true) (sym (words_in w c cs t))
      (words_from_every (w ++ small c ∷ []) cs (every_join q w (small c ∷ []) h (and_from _ _ (byte c r.0 t) refl)) r.1))
      (λ f. subst (λ (ws : List (List ℕ)). every P ws ≡ true) (sym (words_out w c cs f))
      (ended_every P w (words cs) (λ l. whole (take 64 w) (simp length-take (omega arith)) (simp length-take (omega arith)) (every_take q 64 w h)) (words_from_every [] cs refl r.1)))
      (cases_Bool (in_word c))

  pub words_every : (bs : List ℕ) → every p bs ≡ true → every P (words bs) ≡ true
  words_every bs k = words_from_every [] bs refl k

-- a byte of a word, made small, makes words and is no capital
abbrev pub letter : ℕ → Bool
letter c = (in_word c && ltb c 256) && not (leb 65 c && leb c 90)

small_letter : (c : ℕ) → ltb c 256 ≡ true → in_word c ≡ true → letter (small c) ≡ true
small_letter c h t = grind (arith, nat_tests)

pub words_formed : (bs : List ℕ) → every (λ b. ltb b 256) bs ≡ true → every well_formed (words bs) ≡ true
words_formed = words_every (λ b. ltb b 256) letter well_formed small_letter (λ w some most k. and_from _ _ (and_from _ _ (le-leb 1 (length w) some) (le-leb (length w) 64 most)) k)

-- a word has no capitals, so to make it small leaves it as it is
pub small_word : (w : List ℕ) → every letter w ≡ true → each small w ≡ w
small_word [] h = refl
small_word (c ∷ w) h =
    let p = and_parts (letter c) (every letter w) h in
    let l : letter c ≡ true = p.0 in
    let e : small c ≡ c = grind (arith, nat_tests) in
    λ j. e j ∷ small_word w p.1 j

-- bytes from 128 up never cut a word
pub high_in_word : (c : ℕ) → 128 ≤ c → in_word c ≡ true
high_in_word c h = grind (arith, nat_tests)

-- the words and a byte after each fit into the text and a byte after it
abbrev taken_up : List (List ℕ) → ℕ
taken_up ws = added_up (λ w. length w + 1) ws

ended_fit : (w : List ℕ) (ws : List (List ℕ)) (n : ℕ) → taken_up ws ≤ n → taken_up (ended w ws) ≤ length w + n + 1
ended_fit [] ws n h = omega arith
ended_fit (c ∷ cs) ws n h = let l = length-take 63 cs in omega arith

words_from_fit : (w bs : List ℕ) → taken_up (words_from w bs) ≤ length w + length bs + 1
unfolding words_from
words_from_fit w [] = ended_fit w [] 0 (omega arith)
words_from_fit w (c ∷ cs) =
    ⊎_elim
    (λ t. let e = ap taken_up (words_in w c cs t) in
    let h = words_from_fit (w ++ small c ∷ []) cs in
    omega (arith, length-append w (small c ∷ [])))
    (λ f. let e = ap taken_up (words_out w c cs f) in
    let rest = words_from_fit [] cs in
    let h = ended_fit w (words cs) (length cs + 1) (omega arith) in
    omega arith)
    (cases_Bool (in_word c))

pub words_fit : (bs : List ℕ) → added_up (λ w. length w + 1) (words bs) ≤ length bs + 1
words_fit bs = let h = words_from_fit [] bs in omega arith

-- words have a byte at least, so they are at most half as many as the bytes and one
every_true : (bs : List ℕ) → every (λ _. true) bs ≡ true
every_true [] = refl
every_true (b ∷ bs) = every_true bs

twice_taken : (ws : List (List ℕ)) → every (λ w. leb 1 (length w)) ws ≡ true → 2 * length ws ≤ taken_up ws
twice_taken [] h = omega arith
twice_taken (w ∷ ws) h =
    let p = and_parts (leb 1 (length w)) (every (λ v. leb 1 (length v)) ws) h in
    let some = leb-true 1 (length w) p.0 in
    let rest = twice_taken ws p.1 in
    omega arith

pub words_few : (bs : List ℕ) → 2 * length (words bs) ≤ length bs + 1
words_few bs =
    let some = twice_taken (words bs) (words_every (λ _. true) (λ _. true) (λ w. leb 1 (length w)) (λ _ _ _. refl) (λ w h _ _. le-leb 1 (length w) h) bs (every_true bs)) in
    let fit = words_fit bs in
    omega arith
