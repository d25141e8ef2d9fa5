-- What is read of a command is what was spelled, and the other way round.
use Rattle.std.proofs.Common.{◌≡◌, ℕ, ◌-◌, ◌<◌, Bool, true, false, ◌&&◌, ltb, leb, List, [], ◌∷◌, ◌++◌, length, sym, refl, ap, ◌∙◌, subst, append_assoc, append-nil, arith, lit<}
use lib.Dec.{leb-suc-suc}
use Rattle.std.proofs.lemmas.Bool.{and_parts, and_from, ltb-true, leb-true, lt-ltb, le-leb}
use Rattle.pages.specs.Lists.{pick, or, none_of}
use Rattle.pages.specs.Bytes.{eight, with_length, all_bytes}
use Rattle.pages.proofs.Bytes.{eight_is_bytes}
use Rattle.questions.specs.Query.{Query}
use Rattle.questions.specs.Spelling.{query_spelled, query_fits, size, a_word, a_question}
use Rattle.questions.specs.Reading.{Read, nothing, got, then, only, read_byte, read_number, read_bytes, read_query, Asked}
use Rattle.questions.proofs.Reading.{then_on, got_same, choose, every_append, every_both, Sound, step, sound_only, reads_only, reads_number, sound_number, reads_within, sound_within, reads_bytes, sound_bytes, sound_byte, with_length_bytes, word_bytes, reads_query, sound_query, asked_spelled, query_bytes}
use Rattle.reports.specs.Command.{Command, put, remove, note, ask, how_many, fetch, list_words, sweep, spelled, fits}
use Rattle.reports.specs.Reading.{Reading, no_command, a_command, read_limit, read_text, read_beginning, read_kind, all_of_it, read_command}
use Rattle.reports.specs.Promise.{Said, SpelledOnce}

abbrev big : ℕ
big = 18446744073709551616

-- THE PARTS OF A COMMAND
abbrev a_limit : ℕ → Bool
a_limit k = leb 1 k && leb k 1000

abbrev at_most : ℕ → List ℕ → Bool
at_most most t = leb (length t) most

abbrev a_beginning : List ℕ → Bool
a_beginning p = or (none_of p) (a_word p)

-- bytes with their count that pass a test
reads_tested : (p : List ℕ → Bool) (xs rest : List ℕ) → p xs ≡ true → length xs < big → then (read_bytes (with_length xs ++ rest)) (only p) ≡ got xs rest
reads_tested p xs rest h l = reads_only with_length read_bytes p xs rest (reads_bytes xs rest l) h

sound_tested : (p : List ℕ → Bool) → Sound with_length (λ xs. p xs ≡ true) (λ bs. then (read_bytes bs) (only p))
sound_tested p bs xs rest ok h = let s = sound_only with_length _ read_bytes p sound_bytes bs xs rest ok h in (s.0, s.1.1)

-- how words begin: no bytes, or a word's
beginning_is : (p : List ℕ) → a_beginning p ≡ true → (length p < big) × (all_bytes p ≡ true)
beginning_is [] h = (omega arith, refl)
beginning_is (b ∷ p) h =
    let e = and_parts (leb 1 (length (b ∷ p))) (leb (length (b ∷ p)) 64) (and_parts _ _ h).0 in
    (omega (arith, leb-true (length (b ∷ p)) 64 e.1), word_bytes (b ∷ p) h)

abbrev of_31 : Query → List ℕ → Read Asked
of_31 q rest = got (record { query = q; left = 31 - size q }) rest

reads_question : (q : Query) (rest : List ℕ) → a_question q ≡ true → read_query 31 31 (query_spelled q ++ rest) ≡ of_31 q rest
reads_question q rest h =
    let e = and_parts (query_fits q) (leb (size q) 31) h in
    let few = leb-true (size q) 31 e.1 in
    reads_query q 31 31 rest e.0 few few

sound_question : Sound asked_spelled (λ a. a_question a.query ≡ true) (read_query 31 31)
sound_question bs a rest ok h =
    let s = sound_query 31 31 bs a rest ok h in
    (s.0, and_from _ _ s.1.0 (le-leb (size a.query) 31 (omega (arith, s.1.1))))

-- A COMMAND THAT WAS SPELLED IS READ
reads_command : (c : Command) (rest : List ℕ) → fits c ≡ true → then (read_byte (spelled c ++ rest)) read_kind ≡ got c rest
unfolding spelled fits read_kind read_text read_beginning
reads_command (put n t b) rest fit =
    let e = and_parts (ltb n big && (at_most 255 t && all_bytes t)) (ltb (length b) 65536 && all_bytes b) fit in
    let e₁ = and_parts (ltb n big) (at_most 255 t && all_bytes t) e.0 in
    let t₁ = (and_parts (at_most 255 t) (all_bytes t) e₁.1).0 in
    let b₁ = (and_parts (ltb (length b) 65536) (all_bytes b) e.1).0 in
    then_on _ (ap read_number (append_assoc (eight n ++ with_length t) (with_length b) rest ∙ append_assoc (eight n) (with_length t) (with_length b ++ rest))
    ∙ reads_number n (with_length t ++ (with_length b ++ rest)) (ltb-true n big e₁.0))
    ∙ then_on _ (reads_tested (at_most 255) t (with_length b ++ rest) t₁ (omega (arith, leb-true (length t) 255 t₁)))
    ∙ then_on _ (reads_tested (at_most 65535) b rest (sym (leb-suc-suc (length b) 65535) ∙ b₁) (omega (arith, ltb-true (length b) 65536 b₁)))
reads_command (remove n) rest fit = then_on _ (reads_number n rest (ltb-true n big fit))
reads_command note rest fit = refl
reads_command (ask k q) rest fit =
    let e = and_parts (a_limit k) (a_question q) fit in
    then_on _ (ap read_limit (append_assoc (eight k) (query_spelled q) rest) ∙ reads_within 1 1000 k (query_spelled q ++ rest) (lit< tt) e.0) ∙ then_on _ (reads_question q rest e.1)
reads_command (how_many q) rest fit = then_on _ (reads_question q rest fit)
reads_command (fetch n) rest fit = then_on _ (reads_number n rest (ltb-true n big fit))
reads_command (list_words p k) rest fit =
    let e = and_parts (a_limit k) (a_beginning p) fit in
    then_on _ (ap (λ x. then (read_bytes x) (only a_beginning)) (append_assoc (with_length p) (eight k) rest)
    ∙ reads_tested a_beginning p (eight k ++ rest) e.1 (beginning_is p e.1).0)
    ∙ then_on _ (reads_within 1 1000 k rest (lit< tt) e.0)
reads_command sweep rest fit = refl

spelled_bytes : (c : Command) → fits c ≡ true → all_bytes (spelled c) ≡ true
unfolding spelled fits
spelled_bytes (put n t b) fit =
    let e = and_parts (ltb n big && (at_most 255 t && all_bytes t)) (ltb (length b) 65536 && all_bytes b) fit in
    let t₁ = (and_parts (at_most 255 t) (all_bytes t) (and_parts (ltb n big) _ e.0).1).1 in
    every_both _ (eight n ++ with_length t) (with_length b) (every_both _ (eight n) (with_length t) (eight_is_bytes n) (with_length_bytes t t₁))
    (with_length_bytes b (and_parts (ltb (length b) 65536) (all_bytes b) e.1).1)
spelled_bytes (remove n) fit = eight_is_bytes n
spelled_bytes note fit = refl
spelled_bytes (ask k q) fit =
    every_both _ (eight k) (query_spelled q) (eight_is_bytes k) (query_bytes q (and_parts _ _ (and_parts (a_limit k) (a_question q) fit).1).0)
spelled_bytes (how_many q) fit = query_bytes q (and_parts (query_fits q) (leb (size q) 31) fit).0
spelled_bytes (fetch n) fit = eight_is_bytes n
spelled_bytes (list_words p k) fit =
    every_both _ (with_length p) (eight k) (with_length_bytes p (beginning_is p (and_parts (a_limit k) (a_beginning p) fit).1).1) (eight_is_bytes k)
spelled_bytes sweep fit = refl

pub read_said : (bs : List ℕ) (c : Command) → Said bs c → read_command bs ≡ a_command c
unfolding Said read_command
read_said bs c h =
    let r : read_command (spelled c) ≡ a_command c =
    ap (λ t. pick t (all_of_it (then (read_byte (spelled c)) read_kind)) no_command) (spelled_bytes c h.1)
    ∙ ap (λ x. all_of_it (then (read_byte x) read_kind)) (sym (append-nil (spelled c))) ∙ ap all_of_it (reads_command c [] h.1) in
    ap read_command (sym h.0) ∙ r

-- A COMMAND THAT IS READ WAS SPELLED
bytes_of : (xs : List ℕ) → all_bytes (with_length xs) ≡ true → all_bytes xs ≡ true
bytes_of xs h = (every_append _ (eight (length xs)) xs h).1

abbrev Stands : ℕ → List ℕ → Command → List ℕ → Type 0
Stands kind bs c rest = (spelled c ++ rest ≡ kind ∷ bs) × (fits c ≡ true)

stands_put : (bs : List ℕ) (c : Command) (rest : List ℕ) → all_bytes bs ≡ true →
    then (read_number bs) (λ n rest₁. then (read_text 255 rest₁) (λ t rest₂. then (read_text 65535 rest₂) (λ b rest₃. got (put n t b) rest₃))) ≡ got c rest → Stands 1 bs c rest
unfolding spelled fits read_text
stands_put bs c rest ok h =
    let g = step eight _ read_number sound_number _ bs c rest ok h in
    let k = step with_length _ (read_text 255) (sound_tested (at_most 255)) _ g.1 c rest g.4 g.6 in
    let m = step with_length _ (read_text 65535) (sound_tested (at_most 65535)) _ k.1 c rest k.4 k.6 in
    got_same (Stands 1 bs) m.6 (
      ap (λ r. 1 ∷ r) (append_assoc (eight g.0 ++ with_length k.0) (with_length m.0) m.1 ∙ append_assoc (eight g.0) (with_length k.0) (with_length m.0 ++ m.1)
          ∙ ap (λ r. eight g.0 ++ (with_length k.0 ++ r)) m.2 ∙ ap (λ r. eight g.0 ++ r) k.2 ∙ g.2),
      and_from _ _ (and_from _ _ (lt-ltb g.0 big g.5) (and_from _ _ k.5 (bytes_of k.0 k.3))) (and_from _ _ (leb-suc-suc (length m.0) 65535 ∙ m.5) (bytes_of m.0 m.3)),
    )

-- one part, and then two, of a command
stands_one : {A : Type 0} (kind : ℕ) (spell : A → List ℕ) (Good : A → Type 0) (read : List ℕ → Read A) → Sound spell Good read → (make : A → Command) →
    ((x : A) → Good x → (spelled (make x) ≡ kind ∷ spell x) × (fits (make x) ≡ true)) →
    (bs : List ℕ) (c : Command) (rest : List ℕ) → all_bytes bs ≡ true → then (read bs) (λ x rest₁. got (make x) rest₁) ≡ got c rest → Stands kind bs c rest
stands_one kind spell Good read sound make is bs c rest ok h =
    let g = step spell Good read sound _ bs c rest ok h in
    let m = is g.0 g.5 in
    got_same (Stands kind bs) g.6 (ap (λ x. x ++ g.1) m.0 ∙ ap (λ r. kind ∷ r) g.2, m.1)

stands_two : {A B : Type 0} (kind : ℕ) (spell : A → List ℕ) (Good : A → Type 0) (read : List ℕ → Read A) → Sound spell Good read →
    (spell₁ : B → List ℕ) (Good₁ : B → Type 0) (read₁ : List ℕ → Read B) → Sound spell₁ Good₁ read₁ → (make : A → B → Command) →
    ((x : A) (y : B) → Good x → Good₁ y → (spelled (make x y) ≡ kind ∷ (spell x ++ spell₁ y)) × (fits (make x y) ≡ true)) →
    (bs : List ℕ) (c : Command) (rest : List ℕ) → all_bytes bs ≡ true →
    then (read bs) (λ x rest₁. then (read₁ rest₁) (λ y rest₂. got (make x y) rest₂)) ≡ got c rest → Stands kind bs c rest
stands_two kind spell Good read sound spell₁ Good₁ read₁ sound₁ make is bs c rest ok h =
    let g = step spell Good read sound _ bs c rest ok h in
    let k = step spell₁ Good₁ read₁ sound₁ _ g.1 c rest g.4 g.6 in
    let m = is g.0 k.0 g.5 k.5 in
    got_same (Stands kind bs) k.6
    (ap (λ x. x ++ k.1) m.0 ∙ ap (λ r. kind ∷ r) (append_assoc (spell g.0) (spell₁ k.0) k.1 ∙ ap (λ r. spell g.0 ++ r) k.2 ∙ g.2), m.1)

sound_kind : (kind : ℕ) (bs : List ℕ) (c : Command) (rest : List ℕ) → all_bytes bs ≡ true → read_kind kind bs ≡ got c rest → Stands kind bs c rest
unfolding spelled fits read_kind read_beginning
sound_kind kind bs c rest ok h =
    let at : (k : ℕ) → kind ≡ k → Stands k bs c rest → Stands kind bs c rest = λ k e s. subst (λ (x : ℕ). Stands x bs c rest) (sym e) s in
    choose kind 1 _ _ c rest h (λ e i. at 1 e (stands_put bs c rest ok i))
    (λ h₁. choose kind 2 _ _ c rest h₁ (λ e i. at 2 e (stands_one 2 eight _ read_number sound_number remove (λ n l. (refl, lt-ltb n big l)) bs c rest ok i))
    (λ h₂. choose kind 3 _ _ c rest h₂ (λ e i. at 3 e (got_same (Stands 3 bs) i (refl, refl)))
    (λ h₃. choose kind 4 _ _ c rest h₃
    (λ e i. at 4 e (stands_two 4 eight _ read_limit (sound_within 1 1000) asked_spelled _ (read_query 31 31) sound_question (λ k a. ask k a.query) (λ k a t u. (refl, and_from _ _ t u)) bs c rest ok i))
    (λ h₄. choose kind 5 _ _ c rest h₄
    (λ e i. at 5 e (stands_one 5 asked_spelled _ (read_query 31 31) sound_question (λ a. how_many a.query) (λ a t. (refl, t)) bs c rest ok i))
    (λ h₅. choose kind 6 _ _ c rest h₅ (λ e i. at 6 e (stands_one 6 eight _ read_number sound_number fetch (λ n l. (refl, lt-ltb n big l)) bs c rest ok i))
    (λ h₆. choose kind 7 _ _ c rest h₆
    (λ e i. at 7 e (stands_two 7 with_length _ _ (sound_tested a_beginning) eight _ read_limit (sound_within 1 1000) list_words (λ p k t u. (refl, and_from _ _ u t)) bs c rest ok i))
    (λ h₇. choose kind 8 _ nothing c rest h₇ (λ e i. at 8 e (got_same (Stands 8 bs) i (refl, refl)))
    (λ h₈. let z : ◌≡◌ {A = ℕ} 0 1 = cc in absurd (omega arith)))))))))

sound_command : Sound spelled (λ c. fits c ≡ true) (λ bs. then (read_byte bs) read_kind)
sound_command bs c rest ok h =
    let g = step (λ b. b ∷ []) _ read_byte sound_byte read_kind bs c rest ok h in
    let s = sound_kind g.0 g.1 c rest g.4 g.6 in
    (s.0 ∙ g.2, s.1)

all_got : (r : Read Command) (c : Command) → all_of_it r ≡ a_command c → r ≡ got c []
all_got nothing c h = let z : ◌≡◌ {A = ℕ} 0 1 = cc in absurd (omega arith)
all_got (got d []) c h = let e : d ≡ c = cc in ap (λ x. got x []) e
all_got (got d (b ∷ bs)) c h = let z : ◌≡◌ {A = ℕ} 0 1 = cc in absurd (omega arith)

picked : (t : Bool) (r : Reading) (c : Command) → pick t r no_command ≡ a_command c → (t ≡ true) × (r ≡ a_command c)
picked true r c h = (refl, h)
picked false r c h = let z : ◌≡◌ {A = ℕ} 0 1 = cc in absurd (omega arith)

pub said_read : (bs : List ℕ) (c : Command) → read_command bs ≡ a_command c → Said bs c
unfolding Said read_command
said_read bs c h =
    let t = picked (all_bytes bs) _ c h in
    let s = sound_command bs c [] t.0 (all_got _ c t.1) in
    (sym (append-nil (spelled c)) ∙ s.0, s.1)

-- NO TWO COMMANDS ARE SPELLED ALIKE: what both are spelled is read as one
pub said_once : (bs : List ℕ) (a c : Command) → Said bs a → Said bs c → a ≡ c
said_once bs a c h k = let e = read_said bs a h in let f = read_said bs c k in cc

pub spelled_once : SpelledOnce
unfolding Said SpelledOnce
spelled_once a b h k e = said_once (spelled b) a b (e, h) (refl, k)
