use Rattle.std.proofs.Common.{◌∙◌, ap, map}
use Rattle.rml_signatures.specs.Definitions.{params_of}
use Rattle.rml_signatures.proofs.KnownTables.{told-is}
use Rattle.rml_signatures.proofs.tables.tables_of.Goals as goal

pub returns : goal.returns
returns c =
    told-is c.args.known.now c.args.texts.now c.in_ok-numbers.numbers c.in_ok-definitions.definitions.items c.in_ok-params.params.items c.declared_types-declared.result c.in_ok-numbers.ensures
    c.in_ok-definitions.ensures (c.in_ok-params.ensures ∙ ap (map (params_of c.args.texts.now)) c.deref.ensures.value) c.declared_types-declared.ensures
