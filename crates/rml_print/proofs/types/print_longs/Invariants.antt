use Rattle.std.proofs.Common.{◌≡◌, drop}
use Rattle.std.specs.List.{flat_map}
use Rattle.rml_print.specs.Parts.{long_tokens}
use Rattle.rml_print.specs.Written.{with_tokens}
use Rattle.rml_print.proofs.types.print_longs.Given as goal

abbrev pub invariant-loop-long : goal.invariant-loop-long
invariant-loop-long l = with_tokens l.fn.page (flat_map long_tokens l.longs) ≡ with_tokens l.page (flat_map long_tokens (drop l.long-index l.longs))
