use Rattle.std.proofs.Common.{◌≡◌, take}
use Rattle.rml_copies.proofs.tables.copy_constructors.Given as goal

abbrev pub invariant-loop-constructor : goal.invariant-loop-constructor
invariant-loop-constructor l = l.all ≡ take l.constructor-index l.constructors
