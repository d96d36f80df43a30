use Rattle.std.proofs.Common.{◌≡◌, ◌+◌, take}
use Rattle.rml_clause.specs.Plain.{numbers_from, AreMatched}
use Rattle.rml_clause.specs.Added.{Adds}
use Rattle.rml_clause.proofs.pass.premises.match_each.Given as goal

abbrev pub invariant-loop-one : goal.invariant-loop-one
invariant-loop-one l = record {
  variable : l.variable ≡ l.first + l.one-index;
  added : Adds l.fn.making l.making 0 (AreMatched l.names l.params (take l.one-index l.patterns) (numbers_from l.first l.one-index));
}
