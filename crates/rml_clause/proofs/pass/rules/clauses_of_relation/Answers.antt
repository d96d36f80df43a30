use Rattle.std.proofs.Common.{◌≡◌, ℕ, List, [], ◌∷◌, take, refl, sym, subst, arith, rules}
use Rattle.std.proofs.lemmas.List.{take_all}
use Rattle.rml_resolved.specs.declared.tables.RRule.{RRule}
use Rattle.rml_fol.specs.declared.statements.Stmt.TheVariants as stmt
use Rattle.rml_fol.specs.declared.statements.Alternative.{Alternative}
use Rattle.rml_clause.specs.Plain.{AreRules}
use Rattle.rml_clause.specs.Clauses.{AreEnough, EachNumbered}
use Rattle.rml_clause.proofs.Blocks.{each-pushed, numbered-pushed, few-pushed}
use Rattle.rml_clause.proofs.pass.rules.clauses_of_relation.Goals as goal

pub loop-rule-init : goal.loop-rule-init
loop-rule-init c = record {
  each = subst (λ (alts : List Alternative). AreRules c.args.names.now c.args.params [] alts) (sym c.new-alternatives.ensures) AreRules.none;
  numbered = subst (λ (alts : List Alternative). EachNumbered c.args.params c.args.params [] alts) (sym c.new-alternatives.ensures) tt;
  params_below = omega arith;
  few = λ most le enough. le;
}

pub loop-rule-preserved : goal.loop-rule-preserved
loop-rule-preserved c = record {
  each =
      each-pushed c.args.names.now c.args.params c.args.rules.now c.loop-rule.rule-index c.rule-item.result c.rule-item.result c.loop-rule.alternatives c.push.new.self _
      c.in_ok-stmts.field-0 c.loop-rule-test.true c.rule-item.is c.in_ok-push.ensures.ok refl c.in_ok-stmts.ensures c.loop-rule.invariant.each;
  numbered =
      numbered-pushed c.args.names.now c.args.params c.args.rules.now c.loop-rule.rule-index c.rule-item.result c.rule-item.result c.loop-rule.alternatives c.push.new.self _
      c.in_ok-stmts.field-0 c.loop-rule-test.true c.rule-item.is c.in_ok-push.ensures.ok refl c.in_ok-stmts.ensures
      c.loop-rule.vars c.max-vars.result (omega (arith, c.max-vars.ensures)) (omega (arith, c.max-vars.ensures)) c.loop-rule.invariant.numbered;
  params_below = omega (arith, c.max-vars.ensures, c.loop-rule.invariant.params_below);
  few = λ most le enough.
      let both =
      few-pushed c.args.names.now c.args.params c.args.rules.now c.loop-rule.rule-index c.rule-item.result c.rule-item.result c.loop-rule.alternatives c.push.new.self _
      c.in_ok-stmts.field-0 c.loop-rule-test.true c.rule-item.is c.in_ok-push.ensures.ok refl c.in_ok-stmts.ensures
      c.loop-rule.vars most le enough (c.loop-rule.invariant.few most le) in
      omega (arith, c.max-vars.ensures, both.0, both.1);
}

pub returns : goal.returns
returns c =
    let all : take c.loop-rule.rule-index c.args.rules.now ≡ c.args.rules.now = take_all c.loop-rule.rule-index c.args.rules.now (omega (arith, c.loop-rule-test.false)) in
    let one : c.push-2.new.self ≡ stmt.Or c.loop-rule.alternatives ∷ [] = search rules in
    record {
      alternatives = c.loop-rule.alternatives;
      each = subst (λ (rs : List RRule). AreRules c.args.names.now c.args.params rs c.loop-rule.alternatives) all c.loop-rule.invariant.each;
      is = one;
      numbered = subst (λ (rs : List RRule). EachNumbered c.args.params c.loop-rule.vars rs c.loop-rule.alternatives) all c.loop-rule.invariant.numbered;
      params_below = c.loop-rule.invariant.params_below;
      few = λ most le enough. c.loop-rule.invariant.few most le (subst (λ (rs : List RRule). AreEnough c.args.params most rs) (sym all) enough);
    }
