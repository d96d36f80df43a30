use Rattle.std.proofs.Common.{◌∙◌}
use Rattle.rml_abbreviations.specs.Written.{meaning_in, written}
use Rattle.rml_signatures.specs.Types.{told}
use Rattle.rml_type_facts.proofs.CircleGraph.{mentions-are}
use Rattle.rml_type_facts.proofs.circles.mentions_by.Goals as goal

pub returns-in_ok-labels-in-Some : goal.returns-in_ok-labels-in-Some
returns-in_ok-labels-in-Some c =
    mentions-are (told c.args.known.now c.args.types.now.tables) c.args.texts.now (written (meaning_in c.args.types.now.plain.items)) c.args.body c.in-Some.body
    c.tree.result.now c.tree-in-Some.result.now c.deref.result.now c.deref-in-Some.result.now c.own_among.result
    c.requires.writes c.in-Some.is c.tree.ensures (c.tree-in-Some.ensures ∙ c.in_ok-tree-in-Some.ensures) (c.deref-in-Some.ensures.value ∙ c.in_ok-labels-in-Some.ensures) c.deref.ensures.value c.own_among.ensures
