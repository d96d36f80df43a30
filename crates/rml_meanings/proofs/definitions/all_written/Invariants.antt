use Rattle.std.proofs.Common.{◌≡◌, ◌++◌, map, drop}
use Rattle.std.specs.Option.{option_map}
use Rattle.rml_abbreviations.specs.Written.{meaning_in, written}
use Rattle.rml_meanings.proofs.definitions.all_written.Given as goal

abbrev pub invariant-loop-body : goal.invariant-loop-body
invariant-loop-body l =
    map (option_map (written (meaning_in l.table))) l.bodies ≡ l.all.items ++ map (option_map (written (meaning_in l.table))) (drop l.body-index l.bodies)
