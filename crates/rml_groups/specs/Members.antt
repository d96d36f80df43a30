-- The nodes of the relations of a group, and what finite types of a graph tell of them.
use Rattle.std.specs.Prelude.{◌≡◌, ℕ, ◌<◌, true, List, [], length, All, Option, Some, None, slice_get}
use Rattle.std.specs.List.{AllByRecursion, Contains}
use Rattle.rml_types.specs.declared.tree.SchemeTree.{SchemeTree}
use Rattle.rml_types.specs.declared.tree.SchemeTree.TheVariants as tree
use Rattle.rml_types.specs.Finite.{HasTypes}
use Rattle.rml_types.specs.Nodes.{HasNoFixed, Nodes}
use Rattle.rml_types.specs.Runs.{Grows}
use Rattle.rml_resolved.specs.declared.tables.RelDef.{RelDef}
use Rattle.rml_resolved.specs.declared.tables.RRule.{RRule}
use Rattle.rml_typed.specs.Parts.{RelType, as_type}
use Rattle.rml_typed.specs.Units.{GroupTypes}
use Rattle.rml_equations.specs.declared.coding.Coding.{Coding}
use Rattle.rml_equations.specs.declared.coding.Coding.TheVariants.{Plain, Packed}
use Rattle.rml_equations.specs.Coding.{coded, decoded}
use Rattle.rml_equations.specs.Joins.{Extends}
use Rattle.rml_generator.specs.Adds.{Watched}
use Rattle.rml_generator.specs.Entries.{entry}
use Rattle.rml_generator.specs.Sides.{AreGiven, given_by, side_nodes}
use Rattle.rml_groups.specs.declared.extent.Extent.{Extent}
use Rattle.rml_groups.specs.declared.members.Member.{Member}
use Rattle.rml_groups.specs.declared.unit.Unit.{Unit}
use Rattle.rml_groups.specs.Groups.{FirstTypedInside, is_member, parts_in, rule_inputs, rule_outputs}

-- a graph without nodes
abbrev pub empty : Nodes
empty = record { forms = []; roots = []; failed = None }

-- the nodes of the group's relations are watched, and no variables
abbrev pub watch : List (Option ℕ) → Watched
watch nodes = record { vars = []; node = λ r. entry nodes r }

-- A relation of the group has a node, whose types are the relation types from what its heads are held to, to what its results are.
pub record IsHeld (c : Coding) (g : Nodes) (m : Member) : Type 0 where
  pub node : m.node < length g.forms
  pub inputs : All (λ n. n < length g.forms) (side_nodes m.inputs)
  pub outputs : All (λ n. n < length g.forms) (side_nodes m.outputs)
  pub sound : (types : ℕ → SchemeTree) → HasTypes g types → decoded c (types m.node) ≡ tree.Rel (given_by c types m.inputs) (given_by c types m.outputs)
  pub back : (types : ℕ → SchemeTree) (k : RelType) → HasTypes g types → types m.node ≡ coded c (as_type k) → AreGiven c types m.inputs k.inputs × AreGiven c types m.outputs k.outputs

-- Plain, its counts are those of its first rule; packed, they are open.
abbrev pub CanBe : Coding → RelDef → RelType → Type 0
CanBe Plain rel k = (length k.inputs ≡ rule_inputs (slice_get rel.rules 0)) × (length k.outputs ≡ rule_outputs (slice_get rel.rules 0))
CanBe Packed rel k = Prim.Unit {0}

-- nodes were made for a relation, which may have any type of its counts
pub record IsMade (c : Coding) (g h : Nodes) (m : Member) : Type 0 where
  pub grows : Grows g h
  pub held : IsHeld c h m
  pub any : (types : ℕ → SchemeTree) (k : RelType) → HasTypes g types → CanBe c m.rel.now k → (later : ℕ → SchemeTree) × Extends g h types later × (later m.node ≡ coded c (as_type k))

-- ---- what is typed by types of the relations of the group

-- the first parts of each rule of a relation
abbrev pub RelationTyped : Unit → List (Option ℕ) → GroupTypes → Extent → Member → Type 0
RelationTyped u nodes S extent m = AllByRecursion (λ (rule : RRule). FirstTypedInside u m.rel.now.«module» nodes S (S m.number) rule (parts_in extent rule)) m.rel.now.rules

-- those of each relation
abbrev pub MembersTyped : Unit → List (Option ℕ) → GroupTypes → Extent → List Member → Type 0
MembersTyped u nodes S extent ms = AllByRecursion (RelationTyped u nodes S extent) ms

-- ---- how the graph of a group begins

-- a relation of the group, with its node in the table
pub record IsListed (c : Coding) (rels : List RelDef) (text : ℕ) (g : Nodes) (nodes : List (Option ℕ)) (m : Member) : Type 0 where
  pub there : slice_get rels m.number ≡ Some m.rel.now
  pub member : is_member text m.rel.now ≡ true
  pub noded : entry nodes m.number ≡ Some m.node
  pub held : IsHeld c g m

-- a relation of these is among the members
pub record IsAmong (ms : List Member) (r : ℕ) (rel : RelDef) : Type 0 where
  pub member : Member
  pub among : Contains ms member
  pub number : member.number ≡ r
  pub is : member.rel.now ≡ rel

-- The graph with which the group among the first i relations begins: the nodes of the members, which may have any types of their
-- counts.
pub record Begins (c : Coding) (rels : List RelDef) (text : ℕ) (i : ℕ) (g : Nodes) (ms : List Member) (nodes : List (Option ℕ)) : Type 0 where
  pub live : g.failed ≡ None
  pub unfixed : HasNoFixed g
  pub count : length nodes ≡ i
  pub listed : All (IsListed c rels text g nodes) ms
  pub told : (r n : ℕ) → entry nodes r ≡ Some n → (m : Member) × Contains ms m × (m.number ≡ r) × (m.node ≡ n)
  pub every : (r : ℕ) (rel : RelDef) → r < i → slice_get rels r ≡ Some rel → is_member text rel ≡ true → IsAmong ms r rel
  pub any : (S : GroupTypes) → All (λ (m : Member). CanBe c m.rel.now (S m.number)) ms
      → (types : ℕ → SchemeTree) × HasTypes g types × All (λ (m : Member). types m.node ≡ coded c (as_type (S m.number))) ms
