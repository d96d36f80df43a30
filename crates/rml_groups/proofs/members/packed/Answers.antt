use Rattle.std.proofs.Common.{[], refl}
use Rattle.rml_types.proofs.Callers.{fresh-more, fresh-none, grows-by, grows-refl, no-form}
use Rattle.std.specs.Prelude.{None}
use Rattle.rml_groups.proofs.Made.{packed-made}
use Rattle.rml_groups.proofs.members.packed.Goals as goal

pub returns-clause-made : goal.returns-clause-made
returns-clause-made c =
    let g = c.args.graph.now in let h = c.var.new.self in let i = c.var-2.new.self in let j = c.relation.new.graph in
    let a = c.in_ok-taken.taken in let b = c.in_ok-given.given in
    packed-made g h i j c.requires a b (grows-by g h None no-form c.in_ok-taken.ensures.ok c.in_ok-taken.ensures.types)
    (fresh-more g g h [] a (grows-refl g) (fresh-none g) c.in_ok-taken.ensures.ok c.in_ok-taken.ensures.types c.in_ok-taken.ensures.node) (grows-by h i None no-form c.in_ok-given.ensures.ok c.in_ok-given.ensures.types)
    (fresh-more h h i [] b (grows-refl h) (fresh-none h) c.in_ok-given.ensures.ok c.in_ok-given.ensures.types c.in_ok-given.ensures.node) c.in_ok-node.node c.in_ok-node.ensures _ refl refl refl
