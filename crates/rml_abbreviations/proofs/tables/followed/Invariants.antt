use Rattle.std.proofs.Common.{◌≡◌, ◌++◌, map, drop}
use Rattle.std.specs.Option.{option_map}
use Rattle.rml_abbreviations.specs.Written.{meaning_in, written}
use Rattle.rml_abbreviations.proofs.tables.followed.Given as goal

abbrev pub invariant-loop-body : goal.invariant-loop-body
invariant-loop-body l =
    map (option_map (written (meaning_in l.next))) l.first ≡ l.table.items ++ map (option_map (written (meaning_in l.next))) (drop l.body-index l.first)
