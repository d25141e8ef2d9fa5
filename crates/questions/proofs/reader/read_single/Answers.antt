use Rattle.std.proofs.Common.{None, refl, arith}
use Rattle.questions.specs.Kinds.{kind_number}
use Rattle.questions.specs.Reading.{read_word, read_phrase}
use Rattle.questions.proofs.QuestionKinds.{kind_is, kind_sought, kind_joins}
use Rattle.questions.proofs.Reading.{sought_none, sought_left, single_none, single_sought, single_phrase, single_near}
use Rattle.questions.proofs.reader.read_single.Goals as goal

pub returns-in_err-read_field-in-Word : goal.returns-in_err-read_field-in-Word
returns-in_err-read_field-in-Word c =
    let bs = c.args.bytes.now in
    rw c.from_residual.ensures (single_sought (kind_number c.args.kind) bs None (kind_sought refl c.in-Word.is) (sought_none read_word bs c.in_err-read_field-in-Word.ensures))

pub returns-in_ok-read_field-in-Word : goal.returns-in_ok-read_field-in-Word
returns-in_ok-read_field-in-Word c =
    let bs = c.args.bytes.now in
    let f = c.in_ok-read_field-in-Word.ensures in
    single_sought (kind_number c.args.kind) bs c.read_word.result (kind_sought refl c.in-Word.is) (sought_left read_word bs f.0 c.in_ok-read_field-in-Word.field-0.now c.read_word.result f.1 c.read_word.ensures)

pub returns-in_err-read_field-in-Phrase : goal.returns-in_err-read_field-in-Phrase
returns-in_err-read_field-in-Phrase c =
    let bs = c.args.bytes.now in
    rw c.from_residual-in_err-read_field-in-Phrase.ensures (single_phrase (kind_number c.args.kind) bs None (kind_is refl c.in-Phrase.is) (sought_none read_phrase bs c.in_err-read_field-in-Phrase.ensures))

pub returns-in_ok-read_field-in-Phrase : goal.returns-in_ok-read_field-in-Phrase
returns-in_ok-read_field-in-Phrase c =
    let bs = c.args.bytes.now in
    let f = c.in_ok-read_field-in-Phrase.ensures in
    single_phrase (kind_number c.args.kind) bs c.read_phrase.result (kind_is refl c.in-Phrase.is) (sought_left read_phrase bs f.0 c.in_ok-read_field-in-Phrase.field-0.now c.read_phrase.result f.1 c.read_phrase.ensures)

pub returns-in-Near : goal.returns-in-Near
returns-in-Near c = single_near (kind_number c.args.kind) c.args.bytes.now c.read_near.result (kind_is refl c.in-Near.is) c.read_near.ensures

pub returns-in-Both : goal.returns-in-Both
returns-in-Both c =
    let joins = kind_joins refl c.in-Both.is in
    single_none (kind_number c.args.kind) c.args.bytes.now (λ e. omega (arith, joins.0)) (λ e. omega (arith, joins.0)) (λ e. omega (arith, joins.0)) (λ e. omega (arith, joins.0))
