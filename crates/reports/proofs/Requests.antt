-- From the parts that code reads of a command to what it hands on.
use Rattle.std.proofs.Common.{◌≡◌, ℕ, ◌<◌, ◌⊎◌, Bool, true, false, MatchOption, Bor, List, [], ◌∷◌, length, Some, None, Option, Ok, Err, Result, sym, refl, ap, ◌∙◌, subst, inl, inr, append-nil, arith}
use Rattle.std.specs.Bool.{then_some}
use Rattle.std.specs.Result.{result_ok}
use Rattle.std.proofs.lemmas.Bool.{ne_eqb}
use Rattle.pages.specs.Lists.{pick, or, none_of}
use Rattle.pages.specs.Bytes.{eight, all_bytes}
use Rattle.questions.specs.Query.{Query}
use Rattle.questions.specs.Spelling.{query_spelled, a_word}
use Rattle.questions.specs.Reading.{Read, nothing, got, then, only, read_byte, read_bytes, read_within, read_query, Asked}
use Rattle.questions.proofs.Reading.{Sound, every_append, sound_query, sound_within, then_none, passed, failed}
use Rattle.reports.specs.Command.{Command, ask, how_many}
use Rattle.reports.specs.Reading.{Reading, no_command, a_command, last, is_whole, all_of_it, read_kind, read_command}
use Rattle.reports.specs.Request.{Handed, Hands, Reads, TextRead}
use Rattle.reports.specs.declared.reader.Request.{Request}
use Rattle.reports.specs.declared.reader.Request.TheVariants.{Ask, Count}
use Rattle.reports.specs.declared.verb.Verb.{Verb}
use Rattle.reports.specs.declared.verb.UnknownVerb.{UnknownVerb}
use Rattle.reports.specs.Verbs.{verb_number, VerbOf}
use Rattle.reports.proofs.Reading.{read_said, said_read}

-- a command with nothing, or something, after it
pub all_empty : (c : Command) (rest : List ℕ) → length rest ≡ 0 → all_of_it (got c rest) ≡ a_command c
all_empty c [] h = refl
all_empty c (b ∷ rest) h = absurd (omega arith)

pub all_more : (c : Command) (rest : List ℕ) → 0 < length rest → all_of_it (got c rest) ≡ no_command
all_more c [] h = absurd (omega arith)
all_more c (b ∷ rest) h = refl

pub all_none : {A : Type 0} (r : Read A) (f : A → List ℕ → Read Command) → r ≡ nothing → all_of_it (then r f) ≡ no_command
all_none r f h = ap (λ x. all_of_it (then x f)) h

pub all_on : {A : Type 0} (r : Read A) (f : A → List ℕ → Read Command) (a : A) (rest : List ℕ) → r ≡ got a rest → all_of_it (then r f) ≡ all_of_it (f a rest)
all_on r f a rest h = ap (λ x. all_of_it (then x f)) h

-- a last part
pub last_some : {A : Type 0} (r : Read A) (f : A → Command) (a : A) → last r ≡ got a [] → all_of_it (then r (λ x rest. got (f x) rest)) ≡ a_command (f a)
last_some nothing f a h = let z : ◌≡◌ {A = ℕ} 0 1 = cc in absurd (omega arith)
last_some (got b []) f a h = let e : b ≡ a = cc in ap (λ x. a_command (f x)) e
last_some (got b (x ∷ xs)) f a h = let z : ◌≡◌ {A = ℕ} 0 1 = cc in absurd (omega arith)

pub last_none : {A : Type 0} (r : Read A) (f : A → Command) → last r ≡ nothing → all_of_it (then r (λ x rest. got (f x) rest)) ≡ no_command
last_none nothing f h = refl
last_none (got b []) f h = let z : ◌≡◌ {A = ℕ} 0 1 = cc in absurd (omega arith)
last_none (got b (x ∷ xs)) f h = refl

-- WHAT IS HANDED ON of a command whose parts are read in turn: nothing where a part is missing, and after a part that is there what the others hand on
pub none_hands : {A : Type 0} {r : Read A} {o : Option Request} (f : A → List ℕ → Read Command) → r ≡ nothing → o ≡ None → Hands (all_of_it (then r f)) o
none_hands {A} {r} f h e = rw e (all_none r f h)

pub on_hands : {A : Type 0} {r : Read A} {a : A} {rest : List ℕ} (f : A → List ℕ → Read Command) (o : Option Request) → r ≡ got a rest → Hands (all_of_it (f a rest)) o → Hands (all_of_it (then r f)) o
on_hands {A} {r} {a} {rest} f o h k = subst (λ (x : Reading). Hands x o) (sym (all_on r f a rest h)) k

-- what a last part hands on
pub last_hands : {A : Type 0} (r : Read A) (f : A → Command) (a : A) (q : Request) → last r ≡ got a [] → Handed (f a) q → Hands (all_of_it (then r (λ x rest. got (f x) rest))) (Some q)
last_hands r f a q h k = (f a, last_some r f a h, k)

pub no_last_hands : {A : Type 0} (r : Read A) (f : A → Command) {o : Option Request} → last r ≡ nothing → o ≡ None → Hands (all_of_it (then r (λ x rest. got (f x) rest))) o
no_last_hands r f h e = rw e (last_none r f h)

pub whole_some : {A : Type 0} (r : Read A) → is_whole r ≡ true → (a : A) × (r ≡ got a [])
whole_some nothing h = let z : ◌≡◌ {A = ℕ} 0 1 = cc in absurd (omega arith)
whole_some (got b []) h = (b, refl)
whole_some (got b (x ∷ xs)) h = let z : ◌≡◌ {A = ℕ} 0 1 = cc in absurd (omega arith)

pub whole_none : {A : Type 0} (r : Read A) (f : A → Command) → is_whole r ≡ false → all_of_it (then r (λ x rest. got (f x) rest)) ≡ no_command
whole_none nothing f h = refl
whole_none (got b []) f h = let z : ◌≡◌ {A = ℕ} 0 1 = cc in absurd (omega arith)
whole_none (got b (x ∷ xs)) f h = refl

-- bytes that are a question and nothing else are the spelling of it
pub question_here : (bs : List ℕ) → all_bytes bs ≡ true → is_whole (read_query 31 31 bs) ≡ true → (a : Asked) × (read_query 31 31 bs ≡ got a []) × (bs ≡ query_spelled a.query)
question_here bs ok h =
    let w = whole_some (read_query 31 31 bs) h in
    (w.0, w.1, sym (sound_query 31 31 bs w.0 [] ok w.1).0 ∙ append-nil (query_spelled w.0.query))

-- a question at the end
question_hands : (bs : List ℕ) (f : Query → Command) (q : Request) (b : Bool) → all_bytes bs ≡ true → b ≡ is_whole (read_query 31 31 bs) →
    ((x : Query) → bs ≡ query_spelled x → Handed (f x) q) → Hands (all_of_it (then (read_query 31 31 bs) (λ a rest. got (f a.query) rest))) (then_some b q)
question_hands bs f q true ok h k =
    let w = question_here bs ok (sym h) in
    on_hands (λ (a : Asked) rest. got (f a.query) rest) (Some q) w.1 (f w.0.query, refl, k w.0.query w.2)
question_hands bs f q false ok h k = whole_none (read_query 31 31 bs) (λ (a : Asked). f a.query) (sym h)

pub count_hands : (q : Bor (List ℕ)) → all_bytes q.now ≡ true →
    Hands (all_of_it (then (read_query 31 31 q.now) (λ a rest. got (how_many a.query) rest))) (then_some (is_whole (read_query 31 31 q.now)) (Count q))
unfolding Handed
count_hands q ok = question_hands q.now how_many (Count q) _ ok refl (λ x e. (x, refl, e))

pub ask_hands : (k : ℕ) (q : Bor (List ℕ)) → all_bytes q.now ≡ true →
    Hands (all_of_it (then (read_query 31 31 q.now) (λ a rest. got (ask k a.query) rest))) (then_some (is_whole (read_query 31 31 q.now)) (Ask k q))
unfolding Handed
ask_hands k q ok = question_hands q.now (ask k) (Ask k q) _ ok refl (λ x e. (x, refl, e))

-- by the kind
pub no_kind : (kind : ℕ) (bs : List ℕ) → (kind ≡ 0) ⊎ (8 < kind) → all_of_it (read_kind kind bs) ≡ no_command
unfolding read_kind
no_kind kind bs (inl e) = ap (λ k. all_of_it (read_kind k bs)) e
no_kind kind bs (inr h) =
    simp (ne_eqb kind 1 (λ e. omega arith), ne_eqb kind 2 (λ e. omega arith), ne_eqb kind 3 (λ e. omega arith), ne_eqb kind 4 (λ e. omega arith), ne_eqb kind 5 (λ e. omega arith), ne_eqb kind 6 (λ e. omega arith), ne_eqb kind 7 (λ e. omega arith), ne_eqb kind 8 (λ e. omega arith))

-- which bytes are verbs
pub verb_some : {byte : ℕ} {v : Verb} (r : Result Verb UnknownVerb) → VerbOf byte r → Some v ≡ result_ok r → verb_number v ≡ byte
verb_some {byte} {v} (Ok v₁) h e = let same : v ≡ v₁ = cc in ap verb_number same ∙ h
verb_some (Err e₁) h e = cc

pub verb_none : {byte : ℕ} (r : Result Verb UnknownVerb) → VerbOf byte r → ◌≡◌ {A = _} None (result_ok r) → (byte ≡ 0) ⊎ (8 < byte)
verb_none (Ok v) h e = cc
verb_none (Err e₁) h e = h.1

-- the whole command
pub command_no_bytes : (bs : List ℕ) → all_bytes bs ≡ false → read_command bs ≡ no_command
unfolding read_command
command_no_bytes bs h = ap (λ t. pick t (all_of_it (then (read_byte bs) read_kind)) no_command) h

pub command_empty : (bs : List ℕ) → bs ≡ [] → read_command bs ≡ no_command
unfolding read_command
command_empty bs e = ap read_command e

pub command_at : (bs : List ℕ) (kind : ℕ) (rest : List ℕ) → bs ≡ kind ∷ rest → all_bytes bs ≡ true → read_command bs ≡ all_of_it (read_kind kind rest)
unfolding read_command
command_at bs kind rest e ok = ap (λ t. pick t (all_of_it (then (read_byte bs) read_kind)) no_command) ok ∙ ap (λ x. all_of_it (then (read_byte x) read_kind)) e

pub hands_reads : (bs : List ℕ) (o : Option Request) → Hands (read_command bs) o → Reads bs o
hands_reads bs None h = (h, λ c s. let r = read_said bs c s in cc)
hands_reads bs (Some q) h = (h.0, said_read bs h.0 h.1, h.1, h.2)

-- what comes after a part is bytes, too
pub bytes_after : {A : Type 0} (spell : A → List ℕ) (Good : A → Type 0) (read : List ℕ → Read A) → Sound spell Good read →
    (bs : List ℕ) (a : A) (rest : List ℕ) → all_bytes bs ≡ true → read bs ≡ got a rest → all_bytes rest ≡ true
bytes_after spell Good read sound bs a rest ok h = (every_append _ (spell a) rest (ap all_bytes (sound bs a rest ok h).0 ∙ ok)).1

-- after a number from 1 to 1,000
pub bytes_after_limit : (bs : List ℕ) (n : ℕ) (rest : List ℕ) → all_bytes bs ≡ true → read_within 1 1000 bs ≡ got n rest → all_bytes rest ≡ true
bytes_after_limit bs n rest ok h = bytes_after eight _ (read_within 1 1000) (sound_within 1 1000) bs n rest ok h

-- how words begin: with nothing, or like a word
pub beginning_empty : (p : List ℕ) → length p ≡ 0 → or (none_of p) (a_word p) ≡ true
beginning_empty [] h = refl
beginning_empty (b ∷ p) h = absurd (omega arith)

pub beginning_word : (p : List ℕ) → (length p ≡ 0 → ⊥) → or (none_of p) (a_word p) ≡ a_word p
beginning_word [] n = absurd (n refl)
beginning_word (b ∷ p) n = refl

-- a part that was read and passes a test, or none
pub tested : (bs : List ℕ) (p : List ℕ → Bool) (o r : Option (Bor (List ℕ) × Bor (List ℕ))) (Says : Bor (List ℕ) × Bor (List ℕ) → Bool → Type 0) →
    ((x : Bor (List ℕ) × Bor (List ℕ)) (b : Bool) → Says x b → b ≡ p x.0.now) →
    TextRead (read_bytes bs) o → MatchOption o (r ≡ None) (λ x. (b : Bool) × Says x b × (r ≡ then_some b x)) →
    TextRead (then (read_bytes bs) (only p)) r
tested bs p None r Says says h f = rw f (then_none (only p) h)
tested bs p (Some x) r Says says h (true, s, e) = rw e (passed (read_bytes bs) p x.0.now x.1.now h (sym (says x true s)))
tested bs p (Some x) r Says says h (false, s, e) = rw e (failed (read_bytes bs) p x.0.now x.1.now h (sym (says x false s)))

-- all that is said here of what is handed on
pub ruleset handing_on = (tested, none_hands, on_hands, last_hands, no_last_hands, count_hands, ask_hands, bytes_after_limit)
