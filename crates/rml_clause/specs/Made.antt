-- Relations in clause form that were made of rules, and tables that were made of a program: what is asked of them, so that they carry
-- the relations with these rules, and the program.
use Rattle.std.specs.Prelude.{◌≡◌, ℕ, ◌<◌, List, map, length, Option, Some, None, IsTrue, slice_get}
use Rattle.std.specs.List.{list_all}
use Rattle.rml_value.specs.declared.value.Value.{Value}
use Rattle.rml_resolved.specs.declared.parts.Counts.{Counts}
use Rattle.rml_resolved.specs.declared.tables.ConDef.{ConDef}
use Rattle.rml_resolved.specs.declared.program.Program.{Program}
use Rattle.rml_resolved.specs.declared.tables.ValDef.{ValDef}
use Rattle.rml_resolved.specs.declared.tables.RelDef.{RelDef}
use Rattle.rml_resolved.specs.declared.tables.RRule.{RRule}
use Rattle.rml_resolved.specs.Fits.{rule_fits}
use Rattle.rml_search.specs.Context.{Context}
use Rattle.rml_fol.specs.declared.parts.Parts.{Parts}
use Rattle.rml_fol.specs.declared.parts.Relation.{Relation}
use Rattle.rml_fol.specs.declared.parts.Val.{Val}
use Rattle.rml_fol.specs.Expressions.{Vals}
use Rattle.rml_clause.specs.Plain.{expression_of, IsPlain}
use Rattle.rml_clause.specs.Fresh.{EachFresh}
use Rattle.rml_clause.specs.Narrow.{EachNarrow}

pub record IsMadeOf (c : Context) (vals : Vals) (counts : Counts) (cons : List ConDef) (rules : List RRule) (r : Relation) : Type 0 where
  -- there are rules, whose numbers fit
  pub some : 0 < length rules
  pub fit : IsTrue (list_all (rule_fits counts cons) rules)
  -- the body is their plain form, and the variables that it sets and receives are its own
  pub plain : IsPlain c.names r.params rules r.body.stmts
  pub fresh : EachFresh r.params rules plain.alternatives
  -- a val that the search has is the same, and a step of the search weighs as much as any path
  pub vals_agree : (k : ℕ) (v : Value) → c.vals k ≡ Some v → vals k ≡ Some v
  pub narrow : EachNarrow c.names r.params c.step_weight rules

-- ---- tables made of a program

-- a body in the plain form of these rules, with variables of its own
pub record IsClausesOf (names : List (List ℕ)) (rules : List RRule) (r : Relation) : Type 0 where
  pub plain : IsPlain names r.params rules r.body.stmts
  pub fresh : EachFresh r.params rules plain.alternatives

-- relations of one number: there is one in both or in neither
abbrev pub ClausesAt : List (List ℕ) → Option RelDef → Option Relation → Type 0
ClausesAt names None None = Unit {0}
ClausesAt names (Some old) (Some new) = IsClausesOf names old.rules new
ClausesAt names None (Some new) = ⊥
ClausesAt names (Some old) None = ⊥

-- the vals are those of the program, and so are the relations, number by number
pub record AreClausesOf (p : Program) (q : Parts) : Type 0 where
  pub main : q.main ≡ p.main
  pub vals : map (λ (v : Val). v.value) q.vals ≡ map (λ (v : ValDef). expression_of p.names 0 v.value) p.vals
  pub each : (r : ℕ) → ClausesAt p.names (slice_get p.rels r) (slice_get q.rels r)
