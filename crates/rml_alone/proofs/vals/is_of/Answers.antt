use Rattle.std.proofs.Common.{[], refl}
use Rattle.rml_typed.specs.Typed.{ExpOf}
use Rattle.rml_generator.specs.Adds.{Watched}
use Rattle.rml_generator.specs.Scopes.{group_nodes}
use Rattle.rml_generator.specs.declared.scope.Group.TheVariants as group
use Rattle.rml_alone.specs.Texts.{reads, uses}
use Rattle.rml_alone.proofs.Decided.{begun-alone, decided}
use Rattle.rml_alone.proofs.vals.is_of.Goals as goal

pub returns : goal.returns
returns c =
    let w : Watched = record { vars = []; node = group_nodes (group.Outside c.args.text.now.general) } in
    decided w [] refl (λ r. refl) c.fixed.new.self c.hold-made.new.graph (begun-alone c.new-graph.result c.fixed.new.self c.new-graph.ensures c.in_ok-wanted.ensures.keeps) 0 refl
    (λ G. ExpOf (reads c.args.text.now) (uses c.args.text.now) G c.args.exp.now c.args.tree.now) c.hold-made.result c.is_solved.result
    (c.hold-made.ensures c.args.tree.now c.in_ok-wanted.ensures.types) c.is_solved.ensures
