use Rattle.std.proofs.Common.{◌≡◌, ◌++◌, drop}
use Rattle.rml_abbreviations.specs.Written.{meaning_in, written}
use Rattle.rml_scopes.specs.Module.{mains_from}
use Rattle.rml_type_facts.specs.Facts.{fits_in}
use Rattle.rml_signatures.specs.Types.{told}
use Rattle.rml_type_facts.proofs.mains.mains.Given as goal

abbrev pub invariant-loop-number : goal.invariant-loop-number
invariant-loop-number l =
    let fits = fits_in (told l.known l.types.tables) (written (meaning_in l.types.plain.items)) in
    mains_from fits l.main 0 l.texts ≡ l.places.items ++ mains_from fits l.main l.number (drop l.number l.texts)
