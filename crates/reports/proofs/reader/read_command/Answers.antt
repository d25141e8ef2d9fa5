use Rattle.std.proofs.Common.{sym, ap, ◌∙◌, subst}
use Rattle.std.proofs.lemmas.List.{nil_from_length}
use Rattle.pages.proofs.Bytes.{all_bytes_places}
use Rattle.reports.specs.Reading.{Reading, all_of_it, read_kind}
use Rattle.reports.specs.Request.{Hands}
use Rattle.reports.proofs.Requests.{command_empty, command_at, no_kind, verb_some, verb_none, hands_reads}
use Rattle.reports.proofs.reader.read_command.Goals as goal

pub returns-in_err-byte : goal.returns-in_err-byte
returns-in_err-byte c =
    let bs = c.args.bytes.now in
    hands_reads bs c.from_residual.result (rw c.from_residual.ensures (command_empty bs (nil_from_length bs c.in_err-byte.ensures.cases)))

pub returns-in_err-verb : goal.returns-in_err-verb
returns-in_err-verb c =
    let bs = c.args.bytes.now in
    let byte = c.in_ok-byte.byte.now in
    let rest = c.in_ok-byte.rest.now in
    let e = command_at bs byte rest c.in_ok-byte.ensures.cases.0 (all_bytes_places bs (λ i. (c.type_inv.bytes i).fits)) in
    let no = no_kind byte rest (verb_none c.try_from.result c.try_from.ensures c.in_err-verb.ensures.value) in
    hands_reads bs c.from_residual-in_err-verb.result (rw c.from_residual-in_err-verb.ensures (e ∙ no))

pub returns : goal.returns
returns c =
    let bs = c.args.bytes.now in
    let byte = c.in_ok-byte.byte.now in
    let rest = c.in_ok-byte.rest.now in
    let e = command_at bs byte rest c.in_ok-byte.ensures.cases.0 (all_bytes_places bs (λ i. (c.type_inv.bytes i).fits)) in
    let verb = verb_some c.try_from.result c.try_from.ensures c.in_ok-verb.ensures.value in
    let same = e ∙ ap (λ k. all_of_it (read_kind k rest)) (sym verb) in
    hands_reads bs c.read_kind.result (subst (λ (x : Reading). Hands x c.read_kind.result) (sym same) c.read_kind.ensures)
