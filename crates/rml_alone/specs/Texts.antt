-- What stands alone in a text: what it is typed with, and when that is what a program's tables say.
use Rattle.std.specs.Prelude.{◌≡◌, ◌↔◌, ◌==◌, ℕ, ◌≤◌, Bool, true, false, List, take, All, Option, Some, None, option_map, slice_get}
use Rattle.rml_types.specs.declared.scheme.Scheme.{Scheme}
use Rattle.rml_types.specs.declared.tree.SchemeTree.{SchemeTree}
use Rattle.rml_types.specs.Instances.{IsInstance}
use Rattle.rml_types.specs.Schemes.{unit}
use Rattle.rml_resolved.specs.declared.parts.Parts.{Parts}
use Rattle.rml_resolved.specs.declared.tables.ConDef.{ConDef}
use Rattle.rml_resolved.specs.declared.tables.ValDef.{ValDef}
use Rattle.rml_resolved.specs.declared.tables.RelDef.{RelDef}
use Rattle.rml_resolved.specs.declared.tables.RRule.{RRule}
use Rattle.rml_resolved.specs.declared.trees.RExp.{RExp}
use Rattle.rml_typed.specs.Own.{own_meanings, written}
use Rattle.rml_typed.specs.Typed.{Assigned, Declared, Uses, ExpOf, HasInstance}
use Rattle.rml_typed.specs.Parts.{RelType, PieceOf, pieces}
use Rattle.rml_typed.specs.Units.{InGroup, outside}
use Rattle.rml_equations.specs.Rebuilding.{meanings_in}
use Rattle.rml_generator.specs.Entries.{entry}
use Rattle.rml_alone.specs.declared.text.Text.{Text}

-- ---- what it is typed with, as is told of the text

-- a type as the text reads it
abbrev pub read : Text → SchemeTree → SchemeTree
read t = written (meanings_in t.meanings.now)

-- the schemes of constructors and vals in tables, where types are read so
abbrev pub reads_by : (SchemeTree → SchemeTree) → List ConDef → List ValDef → Declared
reads_by reading cons vals = record {
  con = λ c. option_map (λ (d : ConDef). reading d.scheme.body) (slice_get cons c);
  val = λ v. option_map (λ (d : ValDef). reading d.scheme.body) (slice_get vals v);
}

abbrev pub reads : Text → Declared
reads t = reads_by (read t) t.cons.now t.vals.now

-- the general type of a relation of the text's group, where there is one
abbrev pub general_of : Text → ℕ → Option SchemeTree
general_of t r = option_map (λ (s : Scheme). s.body) (entry t.general.now r)

-- of which types a relation may be used: of instances of its scheme, where it has one; otherwise in its text alone
abbrev pub used_by : Text → ℕ → Option Scheme → Bool → SchemeTree → Type 0
used_by t r (Some scheme) here u = IsInstance (read t scheme.body) u
used_by t r None true u = HasInstance (general_of t r) u
used_by t r None false u = ⊥

abbrev pub used_at : Text → ℕ → Option RelDef → SchemeTree → Type 0
used_at t r None u = ⊥
used_at t r (Some rel) u = used_by t r rel.scheme (rel.place.text == t.number) u

abbrev pub uses : Text → Uses
uses t r = used_at t r (slice_get t.rels.now r)

-- ---- what is typed so

abbrev pub held : List SchemeTree → List SchemeTree → RelType
held ins outs = record { inputs = ins; outputs = outs }

-- types of a rule's own variables, past which each is of the type without parts
abbrev pub IsOwn : ℕ → Assigned → Type 0
IsOwn vars G = (x : ℕ) → vars ≤ x → G x ≡ unit

-- some of them type each of the first n parts of a rule
abbrev pub FirstTypedAlone : Text → RelType → RRule → ℕ → Type 0
FirstTypedAlone t k rule n = (G : Assigned) × IsOwn rule.vars G × All (PieceOf (reads t) (uses t) k G) (take n (pieces rule))

-- an expression without variables is of a type
abbrev pub ExpTypedAlone : Text → RExp → SchemeTree → Type 0
ExpTypedAlone t e u = (G : Assigned) × IsOwn 0 G × ExpOf (reads t) (uses t) G e u

-- ---- what is told is so in a program

-- This is what is told of the text of a module, in a program of these tables. A relation of the text's group has the general type
-- that stands in the table, or is used nowhere, where types do not type the group.
pub record IsTextOf (p : Parts) (text m : ℕ) (t : Text) : Type 0 where
  pub cons : t.cons.now ≡ p.cons
  pub vals : t.vals.now ≡ p.vals
  pub rels : t.rels.now ≡ p.rels
  pub number : t.number ≡ text
  pub meanings : (c : ℕ) → meanings_in t.meanings.now c ≡ own_meanings p.types m c
  pub general : (r : ℕ) (u : SchemeTree) → InGroup p text r → HasInstance (general_of t r) u ↔ outside p text r u
