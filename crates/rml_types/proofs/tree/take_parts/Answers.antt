use Rattle.std.proofs.Common.{◌∙◌, ap}
use Rattle.rml_types.specs.Finite.{nodes, nodes_at}
use Rattle.rml_types.proofs.Forgotten.{taken, taken-Rel}
use Rattle.rml_types.proofs.Trees.{fold-Named, fold-Tuple}
use Rattle.rml_types.proofs.tree.take_parts.Goals as goal

pub returns-in-Named : goal.returns-in-Named
returns-in-Named c = taken c.append.result c.is_ok.result c.args.rest.now c.append.new.self c.in-Named.args c.args.tree c.append.ensures c.is_ok.ensures.value
    (ap nodes c.in-Named.is ∙ fold-Named _ nodes_at c.in-Named.field-0 c.in-Named.args)

pub returns-in-Tuple : goal.returns-in-Tuple
returns-in-Tuple c = taken c.append-in-Tuple.result c.is_ok-in-Tuple.result c.args.rest.now c.append-in-Tuple.new.self c.in-Tuple.parts c.args.tree c.append-in-Tuple.ensures c.is_ok-in-Tuple.ensures.value
    (ap nodes c.in-Tuple.is ∙ fold-Tuple _ nodes_at c.in-Tuple.parts)

pub returns-then-is_ok : goal.returns-then-is_ok
returns-then-is_ok c = taken-Rel c.append-in-Rel.result c.append-then-is_ok.result c.is_ok-in-Rel.result c.is_ok-then-is_ok.result c.args.rest.now c.append-in-Rel.new.self c.append-then-is_ok.new.self
    c.in-Rel.inputs c.in-Rel.outputs c.args.tree c.append-in-Rel.ensures c.append-then-is_ok.ensures c.is_ok-in-Rel.ensures.value c.is_ok-then-is_ok.ensures.value c.in-Rel.is c.if-is_ok.true
