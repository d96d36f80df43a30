use Rattle.std.proofs.Common.{◌≡◌, map, drop}
use Rattle.rml_scopes.specs.Faults.{lesser_of}
use Rattle.rml_scopes.specs.Module.{no_main}
use Rattle.rml_walks.proofs.faults.at_further_mains.Given as goal

abbrev pub invariant-loop-place : goal.invariant-loop-place
invariant-loop-place l = lesser_of l.initial.least (map no_main l.places) ≡ lesser_of l.least (map no_main (drop l.place-index l.places))
