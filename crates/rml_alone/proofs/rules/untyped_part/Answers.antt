use Rattle.rml_alone.proofs.Verdicts.{declared-verdict}
use Rattle.rml_alone.proofs.rules.untyped_part.Goals as goal

pub returns : goal.returns
returns c = λ p rel n is fits.
    declared-verdict p rel n c.args.text.now c.args.scheme.now c.args.rule.now c.in_ok-tree.tree c.inputs_of.result.now c.outputs_of.result.now c.untyped_under-found.result is fits c.in_ok-tree.ensures c.inputs_of.ensures
    c.outputs_of.ensures c.untyped_under-found.ensures
