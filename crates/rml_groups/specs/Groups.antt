-- What is told of a text's group, what its rules are typed with, and when that is what a program's tables say.
use Rattle.std.specs.Prelude.{◌≡◌, ◌==◌, ◌&&◌, ℕ, Bool, true, false, List, [], take, length, All, IsTrue, Option, Some, None, Vec, slice_get}
use Rattle.std.specs.declared.alloc.Global.{Global}
use Rattle.std.specs.List.{list_all}
use Rattle.std.specs.Option.{is_none}
use Rattle.rml_types.specs.declared.scheme.Scheme.{Scheme}
use Rattle.rml_types.specs.declared.tree.SchemeTree.{SchemeTree}
use Rattle.rml_types.specs.Instances.{IsInstance}
use Rattle.rml_resolved.specs.declared.parts.Counts.{Counts}
use Rattle.rml_resolved.specs.declared.parts.Parts.{Parts}
use Rattle.rml_resolved.specs.declared.tables.RelDef.{RelDef}
use Rattle.rml_resolved.specs.declared.tables.RRule.{RRule}
use Rattle.rml_resolved.specs.Fits.{relation_fits}
use Rattle.rml_typed.specs.Own.{own_meanings, written}
use Rattle.rml_typed.specs.Typed.{Assigned, Declared, Uses}
use Rattle.rml_typed.specs.Parts.{RelType, PieceOf, pieces}
use Rattle.rml_typed.specs.Units.{GroupTypes, InGroup, up_to}
use Rattle.rml_equations.specs.Rebuilding.{meanings_in}
use Rattle.rml_generator.specs.Entries.{entry}
use Rattle.rml_generator.specs.Scopes.{AtOwnType}
use Rattle.rml_alone.specs.Texts.{IsOwn, reads_by}
use Rattle.rml_groups.specs.declared.extent.Extent.{Extent}
use Rattle.rml_groups.specs.declared.extent.Extent.TheVariants as extent
use Rattle.rml_groups.specs.declared.unit.Unit.{Unit}

-- ---- the group, and parts of it

-- a relation of a text that declares no type
abbrev pub is_member : ℕ → RelDef → Bool
is_member text rel = is_none rel.scheme && (rel.place.text == text)

-- how many parts of a rule are among the first parts of a group
abbrev pub parts_in : Extent → RRule → ℕ
parts_in extent.All rule = length (pieces rule)
parts_in (extent.UpTo place n) rule = up_to place n rule

-- the inputs of a relation's first rule, and its results
abbrev pub rule_inputs : Option RRule → ℕ
rule_inputs None = 0
rule_inputs (Some rule) = length rule.inputs

abbrev pub rule_outputs : Option RRule → ℕ
rule_outputs None = 0
rule_outputs (Some rule) = length rule.results

-- ---- what the rules of a group are typed with, as is told

abbrev pub definitions_at : Option (Vec (Option SchemeTree) Global) → List (Option SchemeTree)
definitions_at None = []
definitions_at (Some table) = table.items

-- what the own abstypes of a module's text stand for
abbrev pub definitions : List (Option (Vec (Option SchemeTree) Global)) → ℕ → List (Option SchemeTree)
definitions tables m = definitions_at (entry tables m)

-- the schemes of constructors and vals, where a text's own abstypes stand for these
abbrev pub reads_with : Unit → List (Option SchemeTree) → Declared
reads_with u table = reads_by (written (meanings_in table)) u.cons.now u.vals.now

-- as the text of a module reads them
abbrev pub reads : Unit → ℕ → Declared
reads u m = reads_with u (definitions u.meanings.now m)

-- of which types a relation may be used: of instances of its scheme, where it has one; otherwise in its text alone, of its one type
abbrev pub used_by : (SchemeTree → SchemeTree) → Option ℕ → RelType → Option Scheme → Bool → SchemeTree → Type 0
used_by reading o k (Some scheme) here t = IsInstance (reading scheme.body) t
used_by reading o k None true t = AtOwnType o k t
used_by reading o k None false t = ⊥

abbrev pub used_at : (SchemeTree → SchemeTree) → ℕ → Option ℕ → RelType → Option RelDef → SchemeTree → Type 0
used_at reading text o k None t = ⊥
used_at reading text o k (Some rel) t = used_by reading o k rel.scheme (rel.place.text == text) t

-- the relations of the group by the table of their nodes, and their one types
abbrev pub uses_with : Unit → List (Option SchemeTree) → List (Option ℕ) → GroupTypes → Uses
uses_with u table nodes S r = used_at (written (meanings_in table)) u.number (entry nodes r) (S r) (slice_get u.rels.now r)

abbrev pub uses : Unit → ℕ → List (Option ℕ) → GroupTypes → Uses
uses u m = uses_with u (definitions u.meanings.now m)

-- types of a rule's own variables type each of its first n parts, in a relation of this type, where a text's own abstypes stand
-- for these
abbrev pub FirstTypedWith : Unit → List (Option SchemeTree) → List (Option ℕ) → GroupTypes → RelType → RRule → ℕ → Type 0
FirstTypedWith u table nodes S k rule n = (G : Assigned) × IsOwn rule.vars G × All (PieceOf (reads_with u table) (uses_with u table nodes S) k G) (take n (pieces rule))

-- in a relation of a module
abbrev pub FirstTypedInside : Unit → ℕ → List (Option ℕ) → GroupTypes → RelType → RRule → ℕ → Type 0
FirstTypedInside u m = FirstTypedWith u (definitions u.meanings.now m)

-- ---- what is told is so in a program

-- This is what is told of the group of a text, in a program of these tables, whose relations fit.
pub record IsGroupOf (p : Parts) (text : ℕ) (u : Unit) : Type 0 where
  pub cons : u.cons.now ≡ p.cons
  pub vals : u.vals.now ≡ p.vals
  pub rels : u.rels.now ≡ p.rels
  pub number : u.number ≡ text
  pub meanings : (r : ℕ) (g : InGroup p text r) (c : ℕ) → meanings_in (definitions u.meanings.now g.rel.«module») c ≡ own_meanings p.types g.rel.«module» c
  pub counts : Counts
  pub fit : IsTrue (list_all (relation_fits counts p.types p.cons) p.rels)
