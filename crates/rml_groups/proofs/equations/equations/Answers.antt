use Rattle.std.proofs.Common.{ℕ, List, Option, subst, sym}
use Rattle.std.proofs.lemmas.Result.{err_from_is_err_and}
use Rattle.rml_generator.specs.Adds.{Told}
use Rattle.rml_generator.proofs.Callers.{facts-found, facts-left, facts-more, facts-none, within-later}
use Rattle.rml_groups.specs.declared.extent.Extent.{Extent}
use Rattle.rml_groups.specs.declared.members.Member.{Member}
use Rattle.rml_groups.specs.declared.unit.Unit.{Unit}
use Rattle.rml_groups.specs.Members.{IsListed, MembersTyped, RelationTyped, watch}
use Rattle.rml_groups.proofs.Held.{listed-later}
use Rattle.rml_groups.proofs.equations.equations.Goals as goal

abbrev RelationOf : Unit → List (Option ℕ) → Extent → Told → Member → Type 0
RelationOf u nodes extent told m = RelationTyped u nodes told.group extent m

pub loop-member-init : goal.loop-member-init
loop-member-init c = facts-none c.args.coding (watch c.args.nodes.now) (RelationOf c.args.unit.now c.args.nodes.now c.args.extent) c.args.members.now c.args.graph.now c.requires.live

pub relation_equations-requires-clause-live : goal.relation_equations-requires-clause-live
relation_equations-requires-clause-live c = c.loop-member.invariant.live

pub relation_equations-requires-clause-within : goal.relation_equations-requires-clause-within
relation_equations-requires-clause-within c = within-later c.args.coding (watch c.args.nodes.now) c.args.graph.now c.loop-member.graph c.loop-member.invariant.count c.loop-member.invariant.old c.requires.within

pub relation_equations-requires-clause-held : goal.relation_equations-requires-clause-held
relation_equations-requires-clause-held c =
    let at = c.requires.listed c.loop-member.member-index c.member-item.result c.loop-member-test.true in
    (listed-later c.args.coding c.args.unit.now.rels.now c.args.unit.now.number c.args.graph.now c.loop-member.graph c.args.nodes.now c.member-item.result c.loop-member.invariant.count c.loop-member.invariant.old
    (subst (IsListed c.args.coding c.args.unit.now.rels.now c.args.unit.now.number c.args.graph.now c.args.nodes.now) (sym c.member-item.is) at)).held

pub relation_equations-requires-clause-noded : goal.relation_equations-requires-clause-noded
relation_equations-requires-clause-noded c =
    let at = c.requires.listed c.loop-member.member-index c.member-item.result c.loop-member-test.true in
    (subst (IsListed c.args.coding c.args.unit.now.rels.now c.args.unit.now.number c.args.graph.now c.args.nodes.now) (sym c.member-item.is) at).noded

pub loop-member-preserved : goal.loop-member-preserved
loop-member-preserved c =
    facts-more c.args.coding (watch c.args.nodes.now) (RelationOf c.args.unit.now c.args.nodes.now c.args.extent) c.args.members.now c.args.graph.now c.loop-member.graph c.relation_equations.new.graph c.loop-member.member-index
    c.member-item.result c.loop-member-test.true c.member-item.is c.requires.within c.loop-member.invariant c.in_ok-relation_equations.ensures.ok

pub returns-in_err-relation_equations : goal.returns-in_err-relation_equations
returns-in_err-relation_equations c =
    let p = err_from_is_err_and c.from_residual.result c.from_residual.ensures.1 in
    facts-left c.args.coding (watch c.args.nodes.now) (RelationOf c.args.unit.now c.args.nodes.now c.args.extent) c.args.members.now c.args.graph.now c.loop-member.graph c.relation_equations.new.graph c.relation_equations.new.graph
    c.loop-member.member-index c.member-item.result (λ told. MembersTyped c.args.unit.now c.args.nodes.now told.group c.args.extent c.args.members.now) c.from_residual.result p c.loop-member-test.true c.member-item.is c.requires.within
    (λ told typed. typed) c.loop-member.invariant c.in_err-relation_equations.ensures

pub returns : goal.returns
returns c =
    facts-found c.args.coding (watch c.args.nodes.now) (RelationOf c.args.unit.now c.args.nodes.now c.args.extent) c.args.members.now c.args.graph.now c.loop-member.graph c.loop-member.member-index
    (λ told. MembersTyped c.args.unit.now c.args.nodes.now told.group c.args.extent c.args.members.now) _ c.loop-member-test.false (λ told z. z) (λ told z. z) c.loop-member.invariant
