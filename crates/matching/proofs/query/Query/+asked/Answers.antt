use Rattle.std.proofs.Common.{◌≡◌, ℕ, Bool, not, List, map, vec_items, ap, ◌∙◌, arith, rules}
use Rattle.pages.specs.Lists.{any, same, starts_with}
use Rattle.words.specs.Words.{words}
use Rattle.questions.specs.Query.{matches, words_somewhere, near_in}
use Rattle.questions.specs.Fields.{field_number}
use Rattle.matching.specs.View.{in_field, query_of}
use Rattle.matching.proofs.Asked.{field_asked, word_asked, phrase_asked, beginning_asked, near_asked, both_then, both_else, either_then, either_else, but_then, but_else}
use Rattle.matching.proofs.query.Query.+asked.Goals as goal

pub returns-in-Word : goal.returns-in-Word
returns-in-Word t c d title body =
    let f = c.in-Word.field in
    let key = vec_items c.in-Word.word in
    let asked : List (List ℕ) → Bool = any (same key) in
    let is = c.word_in.ensures ∙ ap (λ k. in_field f (any (same k) (words c.args.texts.now.title.now)) (any (same k) (words c.args.texts.now.body.now))) c.as_slice.ensures.value in
    word_asked d c.args.self.now (field_number f) key c.word_in.result (ap query_of c.in-Word.is)
    (field_asked asked f d c.word_in.result _ _ is (ap (λ s. asked (words s)) title) (ap (λ s. asked (words s)) body))

pub returns-in-Phrase : goal.returns-in-Phrase
returns-in-Phrase t c d title body =
    let f = c.in-Phrase.field in
    let key = map vec_items (vec_items c.in-Phrase.words) in
    let asked : List (List ℕ) → Bool = words_somewhere key in
    let is =
    c.phrase_in.ensures
    ∙ ap (λ k. in_field f (words_somewhere (map vec_items k) (words c.args.texts.now.title.now)) (words_somewhere (map vec_items k) (words c.args.texts.now.body.now))) c.as_slice-in-Phrase.ensures.value
    in
    phrase_asked d c.args.self.now (field_number f) key c.phrase_in.result (ap query_of c.in-Phrase.is)
    (field_asked asked f d c.phrase_in.result _ _ is (ap (λ s. asked (words s)) title) (ap (λ s. asked (words s)) body))

pub returns-in-Begins : goal.returns-in-Begins
returns-in-Begins t c d title body =
    let f = c.in-Begins.field in
    let key = vec_items c.in-Begins.start in
    let asked : List (List ℕ) → Bool = any (starts_with key) in
    let is = c.beginning_in.ensures ∙ ap (λ k. in_field f (any (starts_with k) (words c.args.texts.now.title.now)) (any (starts_with k) (words c.args.texts.now.body.now))) c.as_slice-in-Begins.ensures.value in
    beginning_asked d c.args.self.now (field_number f) key c.beginning_in.result (ap query_of c.in-Begins.is)
    (field_asked asked f d c.beginning_in.result _ _ is (ap (λ s. asked (words s)) title) (ap (λ s. asked (words s)) body))

pub returns-in-Near : goal.returns-in-Near
returns-in-Near t c d title body =
    let most = c.in-Near.most in
    let a = vec_items c.in-Near.a in
    let b = vec_items c.in-Near.b in
    let near =
    c.near_in_body.ensures ∙ ap (λ k. near_in most k c.as_slice-in-Near-2.result.now (words c.args.texts.now.body.now)) c.as_slice-in-Near.ensures.value
    ∙ ap (λ k. near_in most a k (words c.args.texts.now.body.now)) c.as_slice-in-Near-2.ensures.value ∙ ap (λ s. near_in most a b (words s)) body
    in
    near_asked d c.args.self.now most a b c.near_in_body.result (ap query_of c.in-Near.is) near

pub returns-then-asked : goal.returns-then-asked
returns-then-asked t c d title body =
    let a = c.in-Both.a.value in
    let b = c.in-Both.b.value in
    let first = c.if-asked.ensures d title body ∙ ap (λ q. matches d (query_of q)) c.deref.ensures in
    let second = c.asked-then-asked.ensures d title body ∙ ap (λ q. matches d (query_of q)) c.deref-then-asked.ensures in
    both_then d c.args.self.now a b c.asked-then-asked.result (ap query_of c.in-Both.is) first second

pub returns-else-asked : goal.returns-else-asked
returns-else-asked t c d title body =
    let a = c.in-Both.a.value in
    let b = c.in-Both.b.value in
    let first = c.if-asked.ensures d title body ∙ ap (λ q. matches d (query_of q)) c.deref.ensures in
    both_else d c.args.self.now a b c.asked.result (ap query_of c.in-Both.is) first c.if-asked.false

pub returns-then-asked-2 : goal.returns-then-asked-2
returns-then-asked-2 t c d title body =
    let a = c.in-Either.a.value in
    let b = c.in-Either.b.value in
    let first = c.if-asked-2.ensures d title body ∙ ap (λ q. matches d (query_of q)) c.deref-in-Either.ensures in
    either_then d c.args.self.now a b c.asked-in-Either.result (ap query_of c.in-Either.is) first c.if-asked-2.true

pub returns-else-asked-2 : goal.returns-else-asked-2
returns-else-asked-2 t c d title body =
    let a = c.in-Either.a.value in
    let b = c.in-Either.b.value in
    let first = c.if-asked-2.ensures d title body ∙ ap (λ q. matches d (query_of q)) c.deref-in-Either.ensures in
    let second = c.asked-else-asked-2.ensures d title body ∙ ap (λ q. matches d (query_of q)) c.deref-else-asked-2.ensures in
    either_else d c.args.self.now a b c.asked-else-asked-2.result (ap query_of c.in-Either.is) first second

pub returns-then-asked-3 : goal.returns-then-asked-3
returns-then-asked-3 t c d title body =
    let a = c.in-But.a.value in
    let b = c.in-But.b.value in
    let first = c.if-asked-3.ensures d title body ∙ ap (λ q. matches d (query_of q)) c.deref-in-But.ensures in
    let second = c.asked-then-asked-3.ensures d title body ∙ ap (λ q. matches d (query_of q)) c.deref-then-asked-3.ensures in
    let said : not c.asked-then-asked-3.result ≡ matches d (query_of c.args.self.now) = but_then d c.args.self.now a b c.asked-then-asked-3.result (ap query_of c.in-But.is) first second in
    grind (arith, rules, said)

pub returns-else-asked-3 : goal.returns-else-asked-3
returns-else-asked-3 t c d title body =
    let a = c.in-But.a.value in
    let b = c.in-But.b.value in
    let first = c.if-asked-3.ensures d title body ∙ ap (λ q. matches d (query_of q)) c.deref-in-But.ensures in
    but_else d c.args.self.now a b c.asked-in-But.result (ap query_of c.in-But.is) first c.if-asked-3.false
