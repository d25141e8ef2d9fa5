use Rattle.std.proofs.Common.{◌-◌, Some, None, sym, ap, ◌∙◌, inl, inr, arith}
use Rattle.std.proofs.lemmas.List.{nil_from_length}
use Rattle.questions.specs.declared.reader.Question.{Question}
use Rattle.questions.specs.Reading.{then, read_byte, read_kind, read_single, read_query}
use Rattle.questions.proofs.QuestionKinds.{kind_some, kind_none, kind_alone, kind_joins}
use Rattle.questions.proofs.Reading.{query_none, query_more, query_first, query_single, kind_two, two_none, two_left, told_joined, left_same, single_none, single_ends, single_goes}
use Rattle.questions.proofs.reader.+read_question.Goals as goal

pub returns-in_err-depth : goal.returns-in_err-depth
returns-in_err-depth t c = rw c.from_residual.ensures (query_none c.args.depth c.args.left c.args.bytes.now (inl (omega (arith, c.in_err-depth.ensures))))

pub returns-in_err-left : goal.returns-in_err-left
returns-in_err-left t c = rw c.from_residual-in_err-left.ensures (query_none c.args.depth c.args.left c.args.bytes.now (inr (omega (arith, c.in_err-left.ensures))))

pub returns-in_err-byte : goal.returns-in_err-byte
returns-in_err-byte t c =
    let bs = c.args.bytes.now in
    rw c.from_residual-in_err-byte.ensures
    (query_more c.args.depth c.args.left bs c.in_ok-depth.ensures.0 c.in_ok-left.ensures.0
    ∙ ap (λ x. then (read_byte x) (read_kind (read_query (c.args.depth - 1)) (c.args.left - 1))) (nil_from_length bs c.in_err-byte.ensures.cases))

pub returns-in_err-kind : goal.returns-in_err-kind
returns-in_err-kind t c =
    let byte = c.in_ok-byte.byte.now in
    let rest = c.in_ok-byte.rest.now in
    let k = kind_none c.try_from.result c.try_from.ensures c.in_err-kind.ensures.value in
    let q = query_single c.args.depth c.in_ok-depth.depth c.args.left c.in_ok-left.left c.args.bytes.now byte rest c.in_ok-depth.ensures c.in_ok-left.ensures c.in_ok-byte.ensures.cases.0 (λ a b. omega arith) in
    rw c.from_residual-in_err-kind.ensures (single_ends _ c.in_ok-left.left byte rest q (single_none byte rest (λ e. omega arith) (λ e. omega arith) (λ e. omega arith) (λ e. omega arith)))

pub returns-in_err-rest-in-Word : goal.returns-in_err-rest-in-Word
returns-in_err-rest-in-Word t c =
    let byte = c.in_ok-byte.byte.now in
    let rest = c.in_ok-byte.rest.now in
    let n = kind_some c.try_from.result c.try_from.ensures c.in_ok-kind.ensures.value in
    let q = query_single c.args.depth c.in_ok-depth.depth c.args.left c.in_ok-left.left c.args.bytes.now byte rest c.in_ok-depth.ensures c.in_ok-left.ensures c.in_ok-byte.ensures.cases.0 (kind_alone n c.in-Word.is) in
    rw c.from_residual-in_err-rest-in-Word.ensures (single_ends _ c.in_ok-left.left byte rest q (left_same None (ap (λ k. read_single k rest) (sym n)) c.in_err-rest-in-Word.ensures))

pub returns-in_ok-rest-in-Word : goal.returns-in_ok-rest-in-Word
returns-in_ok-rest-in-Word t c =
    let byte = c.in_ok-byte.byte.now in
    let rest = c.in_ok-byte.rest.now in
    let n = kind_some c.try_from.result c.try_from.ensures c.in_ok-kind.ensures.value in
    let q = query_single c.args.depth c.in_ok-depth.depth c.args.left c.in_ok-left.left c.args.bytes.now byte rest c.in_ok-depth.ensures c.in_ok-left.ensures c.in_ok-byte.ensures.cases.0 (kind_alone n c.in-Word.is) in
    single_goes _ c.in_ok-left.left byte rest c.in_ok-rest-in-Word.rest q (left_same (Some c.in_ok-rest-in-Word.rest) (ap (λ k. read_single k rest) (sym n)) c.in_ok-rest-in-Word.ensures)

pub returns-in_err-first-in-Both : goal.returns-in_err-first-in-Both
returns-in_err-first-in-Both t c =
    let byte = c.in_ok-byte.byte.now in
    let rest = c.in_ok-byte.rest.now in
    let depth = c.in_ok-depth.depth in
    let left = c.in_ok-left.left in
    let n = kind_some c.try_from.result c.try_from.ensures c.in_ok-kind.ensures.value in
    let joins = kind_joins n c.in-Both.is in
    let k = kind_two byte joins.0 joins.1 in
    let q = query_first c.args.depth depth c.args.left left c.args.bytes.now byte rest c.in_ok-depth.ensures c.in_ok-left.ensures c.in_ok-byte.ensures.cases.0 in
    rw c.from_residual-in_err-first-in-Both.ensures
    (q ∙ k.1 (read_query depth) left rest ∙ two_none (read_query depth) k.0 left rest c.in_err-first-in-Both.ensures)

pub returns-in_ok-first-in-Both : goal.returns-in_ok-first-in-Both
returns-in_ok-first-in-Both t c =
    let byte = c.in_ok-byte.byte.now in
    let rest = c.in_ok-byte.rest.now in
    let depth = c.in_ok-depth.depth in
    let left = c.in_ok-left.left in
    let n = kind_some c.try_from.result c.try_from.ensures c.in_ok-kind.ensures.value in
    let joins = kind_joins n c.in-Both.is in
    let k = kind_two byte joins.0 joins.1 in
    let q = query_first c.args.depth depth c.args.left left c.args.bytes.now byte rest c.in_ok-depth.ensures c.in_ok-left.ensures c.in_ok-byte.ensures.cases.0 in
    let first = c.in_ok-first-in-Both.first in
    let f = c.in_ok-first-in-Both.ensures in
    told_joined (λ (a : Question). a.left) (λ (a : Question). a.rest.now) _ (read_query depth first.left first.rest.now) (k.0 f.0) c.read_question-in-Both.result
    (q ∙ k.1 (read_query depth) left rest ∙ two_left (read_query depth) k.0 left rest f.0 first.left first.rest.now f.1) c.read_question-in-Both.ensures
