use Rattle.std.proofs.Common.{◌≡◌, map, take, vec_items}
use Rattle.pages.specs.Lists.{flat}
use Rattle.reports.specs.Plain.{named, shown_doc}
use Rattle.plain.proofs.lists.texts.Given as goal

abbrev pub invariant-loop-document : goal.invariant-loop-document
invariant-loop-document l = map vec_items (vec_items l.rows) ≡ flat shown_doc (named l.name (take l.document-index l.among))
