use Rattle.std.proofs.Common.{◌≡◌, ◌++◌, drop}
use Rattle.std.specs.List.{flat_map}
use Rattle.rml_abbreviations.specs.Written.{meaning_in, written}
use Rattle.rml_scopes.specs.Module.{main_of}
use Rattle.rml_type_facts.specs.Facts.{fits_in}
use Rattle.rml_signatures.specs.Types.{told}
use Rattle.rml_type_facts.proofs.mains.add_mains.Given as goal

abbrev pub invariant-loop-decl : goal.invariant-loop-decl
invariant-loop-decl l =
    let found = main_of l.main (fits_in (told l.known l.types.tables) (written (meaning_in l.types.plain.items)) l.text) in
    l.fn.places.items ++ flat_map found l.specs ≡ l.places.items ++ flat_map found (drop l.decl-index l.specs)
