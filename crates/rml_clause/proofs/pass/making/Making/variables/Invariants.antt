use Rattle.std.proofs.Common.{◌≡◌, ◌+◌}
use Rattle.rml_clause.specs.Plain.{numbers_from}
use Rattle.rml_clause.proofs.pass.making.Making.variables.Given as goal

abbrev pub invariant-loop-received : goal.invariant-loop-received
invariant-loop-received l = record {
  values : l.variables ≡ numbers_from l.fn.self.next l._received;
  next : l.self.next ≡ l.fn.self.next + l._received;
  stmts : l.self.stmts ≡ l.fn.self.stmts;
}
