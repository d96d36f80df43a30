use Rattle.std.proofs.Common.{ℕ, List, ◌∙◌, map, refl, ap, subst}
use Rattle.std.specs.Prelude.{slice_get}
use Rattle.rml_types.specs.declared.tree.SchemeTree.TheVariants as tree
use Rattle.rml_resolved.specs.declared.tables.RRule.{RRule}
use Rattle.rml_equations.specs.Joins.{Makes}
use Rattle.rml_groups.specs.Groups.{rule_inputs, rule_outputs}
use Rattle.rml_groups.proofs.Made.{plain-made}
use Rattle.rml_groups.proofs.members.plain.Goals as goal

pub returns-clause-made : goal.returns-clause-made
returns-clause-made c =
    let g = c.args.graph.now in let h = c.fresh.new.graph in let i = c.fresh-2.new.graph in let j = c.relation.new.graph in let n = c.in_ok-node.node in
    let made =
    subst (λ (xs : List ℕ). Makes i j (λ types. tree.Rel (map types xs) (map types c.in_ok-given.given.items)) n) c.deref.ensures.value
    (subst (λ (ys : List ℕ). Makes i j (λ types. tree.Rel (map types c.deref.result.now) (map types ys)) n) c.deref-2.ensures.value c.in_ok-node.ensures) in
    plain-made g h i j c.requires c.in_ok-taken.taken.items c.in_ok-given.given.items c.in_ok-taken.ensures.grows c.in_ok-taken.ensures.ok c.in_ok-given.ensures.grows c.in_ok-given.ensures.ok n made _ c.in_ok-taken.taken
    c.in_ok-given.given refl refl refl refl refl (c.in_ok-taken.ensures.count ∙ c.input_count.ensures ∙ ap (λ (rs : List RRule). rule_inputs (slice_get rs 0)) c.as_slice-rules.ensures)
    (c.in_ok-given.ensures.count ∙ c.output_count.ensures ∙ ap (λ (rs : List RRule). rule_outputs (slice_get rs 0)) c.as_slice-rules.ensures)
