use Rattle.rml_abbreviations.specs.Written.{meaning_in, written}
use Rattle.rml_signatures.specs.Types.{told}
use Rattle.rml_type_facts.proofs.KnownTables.{mains-are}
use Rattle.rml_type_facts.proofs.mains.mains_of.Goals as goal

pub returns : goal.returns
returns c =
    mains-are c.args.known.now c.args.texts.now (written (meaning_in c.args.types.now.plain.items)) (told c.args.known.now c.args.types.now.tables) c.args.main c.in_ok-places.places.items
    c.requires.types.plain.writes c.requires.types.tables c.in_ok-places.ensures
