-- Types of the values of a running program. They are written out in full, and have no variables but those that stand fixed in a
-- call. What a relation may be used at, and what is in a store, is said here too.
use Rattle.std.specs.Prelude.{◌≡◌, ℕ, ℤ, List, [], ◌∷◌, ◌++◌, length, map, Some, slice_get}
use Rattle.rml_types.specs.declared.scheme.Scheme.{Scheme}
use Rattle.rml_types.specs.declared.tree.SchemeTree.{SchemeTree, out-SchemeTree}
use Rattle.rml_types.specs.declared.tree.SchemeTree.TheVariants as tree
use Rattle.rml_types.specs.Schemes.{inst}
use Rattle.rml_value.specs.declared.value.Value.{Value}
use Rattle.rml_value.specs.declared.value.Value.TheVariants as value
use Rattle.rml_builtin.specs.Applied.{Store}
use Rattle.rml_builtin.specs.Types.{int, char, string, lvar, vector}
use Rattle.rml_resolved.specs.declared.parts.Parts.{Parts}
use Rattle.rml_resolved.specs.declared.tables.ConDef.{ConDef}
use Rattle.rml_resolved.specs.declared.tables.RelDef.{RelDef}
use Rattle.rml_typed.specs.Typed.{AreItems}
use Rattle.rml_typed.specs.Parts.{sides, as_type}
use Rattle.rml_typed.specs.Units.{InGroup, GroupTypes, GroupTyped}
use Rattle.rml_sound.specs.Full.{full}

-- the types of a constructor's arguments, over the parameters of its datatype
abbrev pub arguments_of : Parts → ConDef → List SchemeTree
arguments_of p d = map (full p.types) (sides (out-SchemeTree d.scheme.body)).inputs

-- A relation takes and gives values of these types: its declared type has them in some instance, or, where none is declared, some
-- types type the whole group of its text and it has these of them.
pub data RelationHas (p : Parts) (r : ℕ) (ins outs : List SchemeTree) : Type 0 where
  declared : (rel : RelDef) (s : Scheme) (fixed : List SchemeTree) → slice_get p.rels r ≡ Some rel → rel.scheme ≡ Some s
      → tree.Rel ins outs ≡ inst fixed (full p.types s.body) → RelationHas p r ins outs
  inferred : (text : ℕ) (S : GroupTypes) (fixed : List SchemeTree) → InGroup p text r → GroupTyped p text S
      → tree.Rel ins outs ≡ inst fixed (full p.types (as_type (S r))) → RelationHas p r ins outs

-- the type of what each entry of a store may hold
abbrev pub StoreTypes : Type 0
StoreTypes = List SchemeTree

-- a value has a type, where the entries of the store have theirs
mutual
  pub data ValueHas (p : Parts) (S : StoreTypes) : Value → SchemeTree → Type 0 where
    integer : (n : ℤ) → ValueHas p S (value.Int n) int
    character : (c : ℕ) → ValueHas p S (value.Char c) char
    text : (t : List ℕ) → ValueHas p S (value.Text t) string
    con : (c : ℕ) (d : ConDef) (vs : List Value) (ts : List SchemeTree) → slice_get p.cons c ≡ Some d → ValuesHave p S vs (map (inst ts) (arguments_of p d)) → ValueHas p S (value.Con c vs) (tree.Named d.of ts)
    tuple : (vs : List Value) (ts : List SchemeTree) → ValuesHave p S vs ts → ValueHas p S (value.Tuple vs) (tree.Tuple ts)
    rel : (r : ℕ) (ins outs : List SchemeTree) → RelationHas p r ins outs → ValueHas p S (value.Rel r) (tree.Rel ins outs)
    cell : (k : ℕ) (t : SchemeTree) → slice_get S k ≡ Some t → ValueHas p S (value.Cell k) (lvar t)
    items : (vs : List Value) (ts : List SchemeTree) (t : SchemeTree) → AreItems t ts → ValuesHave p S vs ts → ValueHas p S (value.Vector vs) (vector t)

  -- values and types are as many, and each value has its type
  pub data ValuesHave (p : Parts) (S : StoreTypes) : List Value → List SchemeTree → Type 0 where
    none : ValuesHave p S [] []
    more : (v : Value) (t : SchemeTree) (vs : List Value) (ts : List SchemeTree) → ValueHas p S v t → ValuesHave p S vs ts → ValuesHave p S (v ∷ vs) (t ∷ ts)

-- each entry that is set holds a value of its type
pub record StoreHas (p : Parts) (S : StoreTypes) (store : Store) : Type 0 where
  pub long : length S ≡ length store
  pub typed : (k : ℕ) (t : SchemeTree) (v : Value) → slice_get S k ≡ Some t → slice_get store k ≡ Some (Some v) → ValueHas p S v t

-- entries are only added, so that what has a type keeps it
pub record Grows (S T : StoreTypes) : Type 0 where
  pub news : StoreTypes
  pub is : T ≡ S ++ news
