use Rattle.rml_groups.proofs.Spotted.{HasSpotsTo}
use Rattle.rml_groups.proofs.spots.spots_of.Given as goal

abbrev pub invariant-loop-rel : goal.invariant-loop-rel
invariant-loop-rel l = HasSpotsTo l.unit.rels.now l.unit.number l.rel-index l.spots.items
