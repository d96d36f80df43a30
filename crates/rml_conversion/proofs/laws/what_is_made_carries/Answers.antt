use Rattle.rml_base.proofs.Callers.{light_right}
use Rattle.rml_tocps.proofs.Callers.{carried_is_light}
use Rattle.rml_conversion.specs.Tables.{tables_made}
use Rattle.rml_conversion.proofs.MadeStatements.{stmts-pass}
use Rattle.rml_conversion.proofs.Wholes.{relation-made, tables-carried}
use Rattle.rml_conversion.proofs.laws.what_is_made_carries.Goals as goal

pub returns : goal.returns
returns c = record {
  blocks = stmts-pass;
  relations = relation-made;
  tables = tables-carried;
  programs = λ p fit known ended enough right. carried_is_light p (tables_made p) right (tables-carried p fit known ended enough);
  right = λ p fit known ended enough right. light_right _ _ right (carried_is_light p (tables_made p) right (tables-carried p fit known ended enough));
}
