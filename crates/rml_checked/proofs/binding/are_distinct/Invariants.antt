use Rattle.std.proofs.Common.{◌≡◌, drop, eqb}
use Rattle.rml_resolved.specs.Binding.{is_distinct}
use Rattle.rml_checked.proofs.Apart.{is_new}
use Rattle.rml_checked.proofs.binding.are_distinct.Given as goal

abbrev pub invariant-loop-x : goal.invariant-loop-x
invariant-loop-x l = is_distinct l.xs ≡ is_new eqb l.seen (drop l.x-index l.xs)
