-- The tables of a program in clause form, entry by entry those of the program with rules.
use Rattle.std.specs.Prelude.{◌≡◌, ℕ, List, [], ◌∷◌, map, Option, Some, None, slice_get, slice_index_or}
use Rattle.rml_resolved.specs.declared.program.Program.{Program}
use Rattle.rml_resolved.specs.declared.tables.TypeDef.{TypeDef}
use Rattle.rml_resolved.specs.declared.tables.ConDef.{ConDef}
use Rattle.rml_resolved.specs.declared.tables.ValDef.{ValDef}
use Rattle.rml_resolved.specs.declared.tables.RelDef.{RelDef}
use Rattle.rml_resolved.specs.Size.{longest, relation_tokens, weight}
use Rattle.rml_fol.specs.declared.parts.Name.{Name}
use Rattle.rml_fol.specs.declared.parts.Constructor.{Constructor}
use Rattle.rml_fol.specs.declared.parts.Val.{Val}
use Rattle.rml_fol.specs.declared.parts.Relation.{Relation}
use Rattle.rml_fol.specs.declared.parts.Parts.{Parts}
use Rattle.rml_clause.specs.Plain.{expression_of}
use Rattle.rml_clause.specs.Clauses.{AreClauses}
use Rattle.rml_clauses.specs.Agrees.{shape}

abbrev pub name_of : List (List ℕ) → ℕ → ℕ → Name
name_of names of name = record { of = slice_index_or names of []; name = slice_index_or names name [] }

-- a constructor is of the module of its datatype
abbrev pub module_in : Option TypeDef → ℕ
module_in None = 0
module_in (Some d) = d.«module»

abbrev pub constructor_of : List (List ℕ) → List TypeDef → ConDef → Constructor
constructor_of names types d = record { name = name_of names (module_in (slice_get types d.of)) d.name; arity = d.arity }

abbrev pub val_of : List (List ℕ) → ValDef → Val
val_of names d = record { name = name_of names d.«module» d.name; value = expression_of names 0 d.value }

-- the body of a relation is the clauses of its rules; no block is named
pub record IsRelationOf (names : List (List ℕ)) (d : RelDef) (r : Relation) : Type 0 where
  pub name : r.name ≡ name_of names d.«module» d.name
  pub params : r.params ≡ (shape d).params
  pub results : r.results ≡ (shape d).results
  pub bodies : r.bodies ≡ 0
  pub tokens : r.tokens ≡ relation_tokens d
  pub clauses : AreClauses names r.params d.rules r.body.stmts r.vars

abbrev pub AreRelationsOf : List (List ℕ) → List RelDef → List Relation → Type 0
AreRelationsOf names [] [] = Unit {0}
AreRelationsOf names [] (r ∷ rs) = ⊥
AreRelationsOf names (d ∷ ds) [] = ⊥
AreRelationsOf names (d ∷ ds) (r ∷ rs) = IsRelationOf names d r × AreRelationsOf names ds rs

pub record AreTablesOf (p : Program) (q : Parts) : Type 0 where
  pub cons : q.cons ≡ map (constructor_of p.names p.types) p.cons
  pub vals : q.vals ≡ map (val_of p.names) p.vals
  pub rels : AreRelationsOf p.names p.rels q.rels
  pub main : q.main ≡ p.main
  pub gives : q.gives ≡ p.gives
  pub longest_is : q.longest ≡ longest p.rels
  pub weight_is : q.weight ≡ weight p.vals p.rels
