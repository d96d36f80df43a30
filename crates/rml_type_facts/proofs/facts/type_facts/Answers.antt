use Rattle.rml_type_facts.specs.Circles.{holds}
use Rattle.rml_signatures.specs.Types.{told}
use Rattle.rml_type_facts.proofs.KnownTables.{facts-are}
use Rattle.std.proofs.Common.{◌∙◌, ap}
use Rattle.rml_type_facts.proofs.facts.type_facts.Goals as goal

pub returns : goal.returns
returns c =
    facts-are c.args.known.now c.args.texts.now (holds c.deref.result.now) (told c.args.known.now c.args.types.now.tables) c.facts.result (ap holds c.deref.ensures.value ∙ c.in_ok-circles.ensures.each)
    c.requires.types.tables c.facts.ensures
