use Rattle.std.proofs.Common.{◌≡◌, take, vec_items}
use Rattle.reports.specs.Plain.{named, others}
use Rattle.plain.proofs.lists.parted.Given as goal

abbrev pub invariant-loop-document : goal.invariant-loop-document
invariant-loop-document l =
    (vec_items l.of_the_name ≡ named l.name (take l.document-index l.among)) × (vec_items l.others ≡ others l.name (take l.document-index l.among))
