-- What is asked of the entries of a program's tables, so that they can be put into clause form: numbers are left for all variables.
use Rattle.std.specs.Prelude.{◌≡◌, ◌-◌, ◌<◌, ◌^◌, All, IsTrue, length}
use Rattle.std.specs.List.{list_all}
use Rattle.rml_resolved.specs.declared.tables.ValDef.{ValDef}
use Rattle.rml_resolved.specs.declared.tables.RelDef.{RelDef}
use Rattle.rml_resolved.specs.Size.{relation_tokens}
use Rattle.rml_clause.specs.Within.{expression_within, rule_within}
use Rattle.rml_clause.specs.Clauses.{HasRoom}
use Rattle.rml_clauses.specs.Agrees.{shape}

pub record IsReady (d : RelDef) : Type 0 where
  pub within : IsTrue (list_all (rule_within (2 ^ 32 - (shape d).params)) d.rules)
  pub counted : All (λ r. length r.inputs ≡ (shape d).params) d.rules
  pub room : All (HasRoom (shape d).params) d.rules
  pub few_params : (shape d).params < 2 ^ 32
  pub few_results : (shape d).results < 2 ^ 32
  pub few_tokens : relation_tokens d < 2 ^ 32

-- the value of a val has no variable that is out of range
pub record HasValue (d : ValDef) : Type 0 where
  pub within : IsTrue (expression_within (2 ^ 32 - 0) d.value)
