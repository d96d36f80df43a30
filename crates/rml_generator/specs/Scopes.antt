-- What the parts of a rule are typed with, as the definitions of rml_typed have it; and what calls on a graph find in it.
use Rattle.std.specs.Prelude.{◌≡◌, ◌≤◌, ℕ, length, Bool, true, false, ◌==◌, List, Option, Some, None, Result, Vec, option_map, slice_get}
use Rattle.std.specs.declared.alloc.Global.{Global}
use Rattle.rml_types.specs.declared.scheme.Scheme.{Scheme}
use Rattle.rml_types.specs.declared.tree.SchemeTree.{SchemeTree}
use Rattle.rml_types.specs.Finite.{HasTypes}
use Rattle.rml_types.specs.Instances.{IsInstance}
use Rattle.rml_types.specs.Nodes.{Nodes}
use Rattle.rml_resolved.specs.declared.tables.ConDef.{ConDef}
use Rattle.rml_resolved.specs.declared.tables.ValDef.{ValDef}
use Rattle.rml_resolved.specs.declared.tables.RelDef.{RelDef}
use Rattle.rml_typed.specs.Own.{written}
use Rattle.rml_typed.specs.Typed.{Declared, HasInstance, Uses}
use Rattle.rml_typed.specs.Parts.{RelType, as_type}
use Rattle.rml_equations.specs.declared.stop.Stop.{Stop}
use Rattle.rml_equations.specs.Rebuilding.{meanings_in}
use Rattle.rml_generator.specs.declared.scope.Group.{Group}
use Rattle.rml_generator.specs.declared.scope.Group.TheVariants as group
use Rattle.rml_generator.specs.declared.scope.Scope.{Scope}
use Rattle.rml_generator.specs.Adds.{Told, Watched, IsWithin, Finds, Alone, Bare, one_node, no_node, each_node}
use Rattle.rml_generator.specs.Entries.{entry}

-- ---- what parts are typed with

-- a type as the text reads it
abbrev pub read : Scope → SchemeTree → SchemeTree
read s = written (meanings_in s.meanings.now)

-- the schemes of constructors and vals
abbrev pub reads : Scope → Declared
reads s = record {
  con = λ c. option_map (λ (d : ConDef). read s d.scheme.body) (slice_get s.cons.now c);
  val = λ v. option_map (λ (d : ValDef). read s d.scheme.body) (slice_get s.vals.now v);
}

-- a relation of the group has a node, and this is its one type
abbrev pub AtOwnType : Option ℕ → RelType → SchemeTree → Type 0
AtOwnType None k t = ⊥
AtOwnType (Some n) k t = t ≡ as_type k

-- of which types a relation of the text's group may be used
abbrev pub grouped : Group → Told → ℕ → SchemeTree → Type 0
grouped (group.Inside nodes) told r t = AtOwnType (entry nodes.now r) (told.group r) t
grouped (group.Outside types) told r t = HasInstance (option_map (λ (s : Scheme). s.body) (entry types.now r)) t

-- of which types a relation may be used: of instances of its scheme, where it has one; otherwise in its text alone
abbrev pub used_by : Scope → Told → ℕ → Option Scheme → Bool → SchemeTree → Type 0
used_by s told r (Some scheme) here t = IsInstance (read s scheme.body) t
used_by s told r None true t = grouped s.group told r t
used_by s told r None false t = ⊥

abbrev pub used_at : Scope → Told → ℕ → Option RelDef → SchemeTree → Type 0
used_at s told r None t = ⊥
used_at s told r (Some rel) t = used_by s told r rel.scheme (rel.place.text == s.text) t

abbrev pub uses : Scope → Told → Uses
uses s told r = used_at s told r (slice_get s.rels.now r)

-- ---- what is told of a graph

-- the nodes of the group's relations, inside the group
abbrev pub group_nodes : Group → ℕ → Option ℕ
group_nodes (group.Inside nodes) r = entry nodes.now r
group_nodes (group.Outside types) r = None

abbrev pub watched : Scope → Watched
watched s = record { vars = s.variables.now; node = group_nodes s.group }

-- a graph in which no equation was refused, with the nodes that are watched
pub record Serves (s : Scope) (g : Nodes) : Type 0 where
  pub live : g.failed ≡ None
  pub within : IsWithin s.coding (watched s) g

-- a later graph serves as well: it has no further finite types, and all nodes
pub record GoesOn (s : Scope) (g h : Nodes) : Type 0 where
  pub serves : Serves s h
  pub count : length g.forms ≤ length h.forms
  pub old : (types : ℕ → SchemeTree) → HasTypes h types → HasTypes g types

-- equations were made for a node of these types, or none are possible
abbrev pub FindsNode : Scope → Nodes → Nodes → (Told → SchemeTree → Type 0) → Result ℕ Stop → Type 0
FindsNode s g h Holds = Finds one_node s.coding (watched s) g h (Alone Holds)

-- the same for nodes
abbrev pub FindsNodes : Scope → Nodes → Nodes → (Told → List SchemeTree → Type 0) → Result (Vec ℕ Global) Stop → Type 0
FindsNodes s = Finds each_node s.coding (watched s)

-- and where there is no node
abbrev pub FindsFact : Scope → Nodes → Nodes → (Told → Type 0) → Result Unit Stop → Type 0
FindsFact s g h Holds = Finds no_node s.coding (watched s) g h (Bare Holds)
