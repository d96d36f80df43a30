use Rattle.std.proofs.Common.{◌≡◌, drop}
use Rattle.rml_signatures.specs.Places.{places_from, places_of}
use Rattle.rml_signatures.proofs.places.places_of.Given as goal

abbrev pub invariant-loop-place : goal.invariant-loop-place
invariant-loop-place l = places_of l.space l.decls ≡ places_from l.space l.places l.place (drop l.place l.decls)
