use Rattle.std.proofs.Common.{◌≡◌, take}
use Rattle.rml_print.specs.Listing.{listing}
use Rattle.rml_print.proofs.listing.print_tokens.Given as goal

abbrev pub invariant-loop-spot : goal.invariant-loop-spot
invariant-loop-spot l = l.out.items ≡ listing l.names (take l.spot-index l.spots)
