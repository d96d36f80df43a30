use Rattle.std.proofs.Common.{◌≡◌, length}
use Rattle.rml_value.specs.Lists.{onto}
use Rattle.rml_value.proofs.list.list_onto.Given as goal

abbrev pub invariant-loop-last : goal.invariant-loop-last
invariant-loop-last l = onto l.fn.values l.fn.list ≡ onto l.values l.list

abbrev pub decreases-loop-last : goal.decreases-loop-last
decreases-loop-last l = length l.values
