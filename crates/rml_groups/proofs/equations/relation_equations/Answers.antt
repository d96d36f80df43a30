use Rattle.std.proofs.Common.{◌≡◌, ℕ, ◌<◌, ◌≤◌, List, [], Option, Err, get_or, length, subst}
use Rattle.std.proofs.lemmas.Result.{err_from_is_err_and}
use Rattle.rml_resolved.specs.declared.tables.RRule.{RRule}
use Rattle.rml_generator.specs.Adds.{Adds, Bare, Finds, Told, no_node}
use Rattle.rml_generator.proofs.Callers.{facts-found, facts-left, facts-more, facts-none, within-later}
use Rattle.rml_groups.specs.declared.extent.Extent.{Extent}
use Rattle.rml_groups.specs.declared.members.Member.{Member}
use Rattle.rml_groups.specs.declared.unit.Unit.{Unit}
use Rattle.rml_groups.specs.Groups.{FirstTypedInside, parts_in}
use Rattle.rml_groups.specs.Members.{RelationTyped, watch}
use Rattle.rml_groups.proofs.Held.{held-later}
use Rattle.rml_groups.proofs.equations.relation_equations.Goals as goal

abbrev RuleOf : Unit → Member → List (Option ℕ) → Extent → Told → RRule → Type 0
RuleOf u m nodes extent told rule = FirstTypedInside u m.rel.now.«module» nodes told.group (told.group m.number) rule (parts_in extent rule)

pub loop-rule-init : goal.loop-rule-init
loop-rule-init c = facts-none c.args.coding (watch c.args.nodes.now) (RuleOf c.args.unit.now c.args.member.now c.args.nodes.now c.args.extent) c.args.member.now.rel.now.rules c.args.graph.now c.requires.live

pub rule_equations-requires-clause-live : goal.rule_equations-requires-clause-live
rule_equations-requires-clause-live c = c.loop-rule.invariant.live

pub rule_equations-requires-clause-within : goal.rule_equations-requires-clause-within
rule_equations-requires-clause-within c = within-later c.args.coding (watch c.args.nodes.now) c.args.graph.now c.loop-rule.graph c.loop-rule.invariant.count c.loop-rule.invariant.old c.requires.within

pub rule_equations-requires-clause-held : goal.rule_equations-requires-clause-held
rule_equations-requires-clause-held c = held-later c.args.coding c.args.graph.now c.loop-rule.graph c.args.member.now c.loop-rule.invariant.count c.loop-rule.invariant.old c.requires.held

pub loop-rule-preserved : goal.loop-rule-preserved
loop-rule-preserved c =
    let u = c.args.unit.now in let m = c.args.member.now in let nodes = c.args.nodes.now in
    facts-more c.args.coding (watch nodes) (RuleOf u m nodes c.args.extent) m.rel.now.rules c.args.graph.now c.loop-rule.graph c.rule_equations.new.graph c.loop-rule.rule-index c.rule-item.result
    (subst (λ (rs : List RRule). c.loop-rule.rule-index < length rs) c.as_slice-rule-items.ensures c.loop-rule-test.true)
    (subst (λ (rs : List RRule). c.rule-item.result ≡ get_or rs c.loop-rule.rule-index c.rule-item.result) c.as_slice-rule-items.ensures c.rule-item.is) c.requires.within c.loop-rule.invariant
    (subst (λ (n : ℕ). Adds c.args.coding (watch nodes) c.loop-rule.graph c.rule_equations.new.graph (Bare (λ told. FirstTypedInside u m.rel.now.«module» nodes told.group (told.group m.number) c.rule-item.result n)) []) c.of.ensures
    c.in_ok-rule_equations.ensures.ok)

pub returns-in_err-rule_equations : goal.returns-in_err-rule_equations
returns-in_err-rule_equations c =
    let u = c.args.unit.now in let m = c.args.member.now in let nodes = c.args.nodes.now in
    let p = err_from_is_err_and c.from_residual.result c.from_residual.ensures.1 in
    facts-left c.args.coding (watch nodes) (RuleOf u m nodes c.args.extent) m.rel.now.rules c.args.graph.now c.loop-rule.graph c.rule_equations.new.graph c.rule_equations.new.graph c.loop-rule.rule-index c.rule-item.result
    (λ told. RelationTyped u nodes told.group c.args.extent m) c.from_residual.result p
    (subst (λ (rs : List RRule). c.loop-rule.rule-index < length rs) c.as_slice-rule-items.ensures c.loop-rule-test.true)
    (subst (λ (rs : List RRule). c.rule-item.result ≡ get_or rs c.loop-rule.rule-index c.rule-item.result) c.as_slice-rule-items.ensures c.rule-item.is) c.requires.within (λ told typed. typed) c.loop-rule.invariant
    (subst (λ (n : ℕ). Finds no_node c.args.coding (watch nodes) c.loop-rule.graph c.rule_equations.new.graph (Bare (λ told. FirstTypedInside u m.rel.now.«module» nodes told.group (told.group m.number) c.rule-item.result n)) (Err c.in_err-rule_equations.field-0.0)) c.of.ensures
    c.in_err-rule_equations.ensures)

pub returns : goal.returns
returns c =
    let u = c.args.unit.now in let m = c.args.member.now in let nodes = c.args.nodes.now in
    facts-found c.args.coding (watch nodes) (RuleOf u m nodes c.args.extent) m.rel.now.rules c.args.graph.now c.loop-rule.graph c.loop-rule.rule-index (λ told. RelationTyped u nodes told.group c.args.extent m) _
    (subst (λ (rs : List RRule). length rs ≤ c.loop-rule.rule-index) c.as_slice-rule-items.ensures c.loop-rule-test.false) (λ told z. z) (λ told z. z) c.loop-rule.invariant
