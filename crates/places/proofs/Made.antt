-- Laws for the making of tokens. Assumes nothing.
use Rattle.std.proofs.Common.{◌≡◌, ℕ, ◌+◌, ◌*◌, ◌/◌, ◌%◌, ◌<◌, ◌≤◌, true, leb, List, [], ◌∷◌, ◌++◌, length, take, drop, get_or, set, sym, refl, ap, ◌∙◌, subst, append_assoc, arith, length-take, length-append}
use Rattle.std.specs.List.{AllByRecursion}
use Rattle.std.proofs.lemmas.List.{take_more, take_more_set, drop-drop, take_at, drop_at, get_or-map}
use Rattle.std.proofs.ByRecursion.{All-weaker}
use Rattle.std.proofs.lemmas.Bool.{lt-ltb, le-ltb, le-leb, leb-true, and_from, and_parts}
use Rattle.pages.specs.Lists.{pick, every, each}
use Rattle.pages.proofs.Folds.{each_append}
use Rattle.words.specs.Words.{words}
use Rattle.words.specs.Stretches.{to_come, word_at, Found}
use Rattle.words.specs.Standing.{word_of, standing}
use Rattle.words.specs.declared.Word.{Word}
use Rattle.words.proofs.Laws.{come_from_start, found_bounds, words_few, words_every}
use Rattle.words.proofs.Standing.{length_standing, standing_bytes, standing_found}
use Rattle.rows.specs.declared.Row.{Row}
use Rattle.places.specs.Places.{placed}
use Rattle.places.specs.Tokens.{first_word, key_at, token_place, text_row, token_row, rows_of_tokens, Added, tokens_fit, Indexed}
use Rattle.places.proofs.Numbered.{placed_places, every_true}

-- a token that is put says where its word begins and its place
token_reads : (text : List ℕ) (doc at p : ℕ) (w : Word) → Found text at w → p < 65536 → (t : ℕ) → t ≡ w.start * 65536 + p →
    text_row doc text t ≡ record { key = word_at text w.start w.len; doc = doc; place = p }
token_reads text doc at p w f l t e =
    let start : t / 65536 ≡ w.start = omega arith in
    let place : t % 65536 ≡ p = omega arith in
    let key : key_at text (t / 65536) ≡ word_at text w.start w.len =
    ap (λ s. first_word (to_come text s)) start ∙ ap first_word (sym (come_from_start text at w.start f.starts) ∙ f.comes) in
    λ i. record { key = key i; doc = doc; place = place i }

placed_append : (doc p : ℕ) (us vs : List (List ℕ)) → placed doc p (us ++ vs) ≡ placed doc p us ++ placed doc (p + length us) vs
unfolding placed
placed_append doc p [] vs = ap (λ n. placed doc n vs) (omega arith)
placed_append doc p (u ∷ us) vs =
    ap (λ rs. record { key = u; doc = doc; place = p } ∷ rs)
    (placed_append doc (p + 1) us vs ∙ ap (λ n. placed doc (p + 1) us ++ placed doc n vs) (omega arith))

-- the first `k` tokens are those of the first `k` words
abbrev pub Adding : List ℕ → ℕ → ℕ → List ℕ → Type 0
Adding text base k ts = (doc : ℕ) → each (text_row doc text) (take k ts) ≡ placed doc base (take k (words text))

pub adding_none : (text : List ℕ) (base : ℕ) (ts : List ℕ) → Adding text base 0 ts
unfolding placed
adding_none text base ts doc = refl

module _ (text : List ℕ) (base k : ℕ) (w : Word) (h : k < length (words text)) (stands : w ≡ get_or (standing text 0) k w) where
  -- the bytes of the word that stands at a place are the word there
  bytes_there : word_of text w ≡ get_or (words text) k []
  bytes_there =
      let m : k < length (standing text 0) = omega (arith, length_standing text 0) in
      ap (word_of text) stands ∙ sym (get_or-map (word_of text) (standing text 0) k w [] m) ∙ ap (λ ws. get_or ws k []) (standing_bytes text 0)

  pub adding_more : (ts : List ℕ) (t : ℕ) → k < length ts → base + length (words text) ≤ 65536 → t ≡ w.start * 65536 + (base + k) → Adding text base k ts → Adding text base (k + 1) (set ts k t)
  unfolding placed
  adding_more ts t room fits e adding doc =
      let m : k < length (standing text 0) = omega (arith, length_standing text 0) in
      let there = standing_found text 0 k w m in
      let P : Word → Type 0 = λ v. Found text there.0 v in
      let found : Found text there.0 w = subst P (sym stands) there.1 in
      let F = text_row doc text in
      let ws = take k (words text) in
      let v = get_or (words text) k [] in
      let long : base + length ws ≡ base + k = omega (arith, length-take k (words text)) in
      let reads : F t ≡ record { key = word_of text w; doc = doc; place = base + k } = token_reads text doc there.0 (base + k) w found (omega arith) t e in
      ap (each F) (take_more_set ts k t room) ∙ each_append F (take k ts) (t ∷ [])
      ∙ (λ i. adding doc i ++ reads i ∷ [])
      ∙ (λ i. placed doc base ws ++ record { key = bytes_there i; doc = doc; place = sym long i } ∷ [])
      ∙ sym (placed_append doc base ws (v ∷ []))
      ∙ ap (placed doc base) (sym (take_more (words text) k [] h))

  -- its place fits a token
  pub start_fits : length text ≤ 65535 → w.start < 65536
  start_fits l =
      let m : k < length (standing text 0) = omega (arith, length_standing text 0) in
      let there = standing_found text 0 k w m in
      let P : Word → Type 0 = λ v. Found text there.0 v in
      let bounds = found_bounds text there.0 w (subst P (sym stands) there.1) in
      omega arith

-- the tokens of a title have places below 32768, those of a body from 32768 on
each_agrees : {A B : Type 0} (f g : A → B) (xs : List A) → AllByRecursion (λ x. f x ≡ g x) xs → each f xs ≡ each g xs
each_agrees f g [] h = refl
each_agrees f g (x ∷ xs) h = λ i. h.0 i ∷ each_agrees f g xs h.1 i

all_of_each : {A B : Type 0} (P : B → Type 0) (f : A → B) (xs : List A) → AllByRecursion P (each f xs) → AllByRecursion (λ x. P (f x)) xs
all_of_each P f [] h = tt
all_of_each P f (x ∷ xs) h = (h.0, all_of_each P f xs h.1)

module _ (doc : ℕ) (title body ts : List ℕ) where
  pub title_tokens : length (words title) ≤ 32768 → each (text_row doc title) ts ≡ placed doc 0 (words title) → rows_of_tokens doc title body ts ≡ placed doc 0 (words title)
  title_tokens l e =
      let P : Row → Type 0 = λ r. (0 ≤ r.place) × (r.place < 0 + length (words title)) in
      let h : AllByRecursion P (each (text_row doc title) ts) = subst (AllByRecursion P) (sym e) (placed_places doc 0 (words title)) in
      each_agrees (token_row doc title body) (text_row doc title) ts
      (All-weaker _ (λ (t : ℕ). token_row doc title body t ≡ text_row doc title t)
      (λ t k. ap (λ b. text_row doc (pick b title body) t) (lt-ltb (token_place t) 32768 (omega arith))) ts (all_of_each P (text_row doc title) ts h))
      ∙ e

  pub body_tokens : each (text_row doc body) ts ≡ placed doc 32768 (words body) → rows_of_tokens doc title body ts ≡ placed doc 32768 (words body)
  body_tokens e =
      let P : Row → Type 0 = λ r. (32768 ≤ r.place) × (r.place < 32768 + length (words body)) in
      let h : AllByRecursion P (each (text_row doc body) ts) = subst (AllByRecursion P) (sym e) (placed_places doc 32768 (words body)) in
      each_agrees (token_row doc title body) (text_row doc body) ts
      (All-weaker _ (λ (t : ℕ). token_row doc title body t ≡ text_row doc body t)
      (λ t k. ap (λ b. text_row doc (pick b title body) t) (le-ltb (token_place t) 32768 (omega arith))) ts (all_of_each P (text_row doc body) ts h))
      ∙ e

-- first those of the title, then those of the body
pub indexed_both : (title body ts us vs after : List ℕ) (n m : ℕ) → length title ≤ 65535 → n ≡ length (words title) → m ≡ length (words body) → n + m ≤ length ts →
    length us ≡ n → length vs ≡ m → Added title 0 us → Added body 32768 vs → after ≡ us ++ (vs ++ drop m (drop n ts)) → Indexed title body ts (n + m) after
indexed_both title body ts us vs after n m l e f room lu lv a b g =
    let few = words_few title in
    let all : after ≡ (us ++ vs) ++ drop m (drop n ts) = g ∙ sym (append_assoc us vs _) in
    let long : length (us ++ vs) ≡ n + m = omega (arith, length-append us vs) in
    record {
      counted = omega arith;
      within = room;
      few = omega arith;
      rows = λ doc.
          ap (λ xs. rows_of_tokens doc title body (take (n + m) xs)) all
          ∙ ap (rows_of_tokens doc title body) (take_at (us ++ vs) (drop m (drop n ts)) (n + m) long)
          ∙ each_append (token_row doc title body) us vs
          ∙ (λ i. title_tokens doc title body us (omega arith) (a doc) i ++ body_tokens doc title body vs (b doc) i);
      rest = ap (drop (n + m)) all ∙ drop_at (us ++ vs) (drop m (drop n ts)) (n + m) long ∙ drop-drop m n ts;
    }

pub fit_from : (title body : List ℕ) (room : ℕ) → length title ≤ 65535 → length body ≤ 65535 → length (words title) + length (words body) ≤ room → tokens_fit title body room ≡ true
fit_from title body room h k l = and_from _ _ (and_from _ _ (le-leb _ _ h) (le-leb _ _ k)) (le-leb _ _ l)

-- a key has at most 64 bytes
first_short : (ws : List (List ℕ)) → every (λ w. leb (length w) 64) ws ≡ true → length (first_word ws) ≤ 64
first_short [] h = omega arith
first_short (w ∷ ws) h = leb-true (length w) 64 (and_parts (leb (length w) 64) (every (λ v. leb (length v) 64) ws) h).0

pub key_short : (text : List ℕ) (at : ℕ) → length (key_at text at) ≤ 64
key_short text at =
    first_short (to_come text at) (words_every (λ _. true) (λ _. true) (λ w. leb (length w) 64) (λ _ _ _. refl) (λ w _ most _. le-leb (length w) 64 most) (drop at text) (every_true (drop at text)))
