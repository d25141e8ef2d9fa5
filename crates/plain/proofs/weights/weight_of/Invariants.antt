use Rattle.std.proofs.Common.{◌≡◌, ◌+◌, ◌^◌, ◌<◌, drop}
use Rattle.reports.specs.Plain.{weight_of}
use Rattle.plain.proofs.weights.weight_of.Given as goal

abbrev pub invariant-loop-document : goal.invariant-loop-document
invariant-loop-document l = (l.sum < 2 ^ 64) × (l.sum + weight_of (drop l.document-index l.documents) ≡ weight_of l.documents)
