use Rattle.std.proofs.Common.{ℕ, ◌≤◌, take}
use Rattle.rml_clause.specs.Plain.{AreRules}
use Rattle.rml_clause.specs.Clauses.{EachNumbered, AreEnough}
use Rattle.rml_clause.proofs.pass.rules.clauses_of_relation.Given as goal

abbrev pub invariant-loop-rule : goal.invariant-loop-rule
invariant-loop-rule l = record {
  each : AreRules l.names l.params (take l.rule-index l.rules) l.alternatives;
  numbered : EachNumbered l.params l.vars (take l.rule-index l.rules) l.alternatives;
  params_below : l.params ≤ l.vars;
  few : (most : ℕ) → l.params ≤ most → AreEnough l.params most (take l.rule-index l.rules) → l.vars ≤ most;
}
