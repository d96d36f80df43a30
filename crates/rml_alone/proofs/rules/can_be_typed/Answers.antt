use Rattle.std.proofs.Common.{refl, take}
use Rattle.std.specs.Prelude.{All}
use Rattle.rml_typed.specs.Parts.{PieceOf, pieces}
use Rattle.rml_generator.specs.Adds.{Watched}
use Rattle.rml_generator.specs.Scopes.{group_nodes}
use Rattle.rml_generator.specs.declared.scope.Group.TheVariants as group
use Rattle.rml_alone.specs.Texts.{held, reads, uses}
use Rattle.rml_alone.proofs.Decided.{begun, decided, made-live}
use Rattle.rml_alone.proofs.Starting.{begun-within, gives-each}
use Rattle.rml_alone.proofs.rules.can_be_typed.Goals as goal

pub first_parts-made-requires-clause-serves : goal.first_parts-made-requires-clause-serves
first_parts-made-requires-clause-serves c =
    let vs = c.in_ok-variables.variables.items in
    let i = c.fixed_all-2.new.graph in
    let b = begun c.new-graph.result c.fresh.new.graph c.fixed_all.new.graph i vs c.new-graph.ensures c.in_ok-variables.ensures.grows c.in_ok-variables.ensures.ok c.in_ok-taken.ensures.keeps c.in_ok-given.ensures.keeps in
    record { live = b.live; within = begun-within (record { vars = c.deref.result.now; node = group_nodes (group.Outside c.args.text.now.general) }) i vs c.deref.ensures.value (λ r. refl) b }

pub is_solved-requires : goal.is_solved-requires
is_solved-requires c =
    let w : Watched = record { vars = c.deref.result.now; node = group_nodes (group.Outside c.args.text.now.general) } in
    let i = c.fixed_all-2.new.graph in
    made-live w i c.first_parts-made.new.graph _ c.first_parts-made.result
    (c.first_parts-made.ensures (λ told. held c.args.inputs.now c.args.outputs.now)
    (gives-each w i c.in_ok-taken.taken c.args.inputs.now (λ types has. c.in_ok-taken.ensures.types types (c.in_ok-given.ensures.keeps.restricts types has)))
    (gives-each w i c.in_ok-given.given c.args.outputs.now c.in_ok-given.ensures.types))

pub returns : goal.returns
returns c =
    let w : Watched = record { vars = c.deref.result.now; node = group_nodes (group.Outside c.args.text.now.general) } in
    let vs = c.in_ok-variables.variables.items in
    let i = c.fixed_all-2.new.graph in
    decided w vs c.deref.ensures.value (λ r. refl) i c.first_parts-made.new.graph
    (begun c.new-graph.result c.fresh.new.graph c.fixed_all.new.graph i vs c.new-graph.ensures c.in_ok-variables.ensures.grows c.in_ok-variables.ensures.ok c.in_ok-taken.ensures.keeps c.in_ok-given.ensures.keeps)
    c.args.rule.now.vars c.in_ok-variables.ensures.count
    (λ G. All (PieceOf (reads c.args.text.now) (uses c.args.text.now) (held c.args.inputs.now c.args.outputs.now) G) (take c.args.count (pieces c.args.rule.now))) c.first_parts-made.result c.is_solved.result
    (c.first_parts-made.ensures (λ told. held c.args.inputs.now c.args.outputs.now)
    (gives-each w i c.in_ok-taken.taken c.args.inputs.now (λ types has. c.in_ok-taken.ensures.types types (c.in_ok-given.ensures.keeps.restricts types has)))
    (gives-each w i c.in_ok-given.given c.args.outputs.now c.in_ok-given.ensures.types))
    c.is_solved.ensures
