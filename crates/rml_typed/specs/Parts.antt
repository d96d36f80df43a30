-- The parts of a rule, in their order: its head, each premise, its results; and when its first parts are typed.
use Rattle.std.specs.Prelude.{ℕ, zero, suc, ◌+◌, if◌then◌else◌, nat_lt, List, [], ◌∷◌, ◌++◌, map, length, take, All}
use Rattle.rml_types.specs.declared.tree.SchemeTree.{SchemeTree}
use Rattle.rml_types.specs.declared.tree.SchemeTree.TheOpen.{SchemeTree-F}
use Rattle.rml_types.specs.declared.tree.SchemeTree.TheVariants as tree
use Rattle.rml_resolved.specs.declared.tables.RRule.{RRule}
use Rattle.rml_resolved.specs.declared.trees.RPat.{RPat}
use Rattle.rml_resolved.specs.declared.trees.RExp.{RExp}
use Rattle.rml_resolved.specs.declared.trees.RGoal.{RGoal}
use Rattle.rml_typed.specs.declared.answers.Part.{Part}
use Rattle.rml_typed.specs.declared.answers.Part.TheVariants.{Head, Premise, Results}
use Rattle.rml_typed.specs.Typed.{Assigned, Declared, Uses, PatternsOf, ExpsOf, GoalOf}

-- what a relation takes and gives
pub record RelType : Type 0 where
  pub inputs : List SchemeTree
  pub outputs : List SchemeTree

abbrev pub as_type : RelType → SchemeTree
as_type k = tree.Rel k.inputs k.outputs

-- what stands in a part
pub data Piece : Type 0 where
  head : List RPat → Piece
  premise : RGoal → Piece
  results : List RExp → Piece

abbrev pub pieces : RRule → List Piece
pieces rule = head rule.inputs ∷ map premise rule.goals ++ results rule.results ∷ []

-- the part of a number, counted from 0
abbrev pub part_at : RRule → ℕ → Part
part_at rule zero = Head
part_at rule (suc k) = if nat_lt k (length rule.goals) then Premise (k + 1) else Results

-- a part is typed, in a rule of a relation of this type: the head by its inputs, the results by its outputs
abbrev pub PieceOf : Declared → Uses → RelType → Assigned → Piece → Type 0
PieceOf d uses k G (head ps) = PatternsOf d G ps k.inputs
PieceOf d uses k G (premise g) = GoalOf d uses G g
PieceOf d uses k G (results es) = ExpsOf d uses G es k.outputs

-- some types of the rule's variables type each of its first n parts
abbrev pub FirstTyped : Declared → Uses → RelType → RRule → ℕ → Type 0
FirstTyped d uses k rule n = (G : Assigned) × All (PieceOf d uses k G) (take n (pieces rule))

-- and all its parts
abbrev pub RuleTyped : Declared → Uses → RelType → RRule → Type 0
RuleTyped d uses k rule = FirstTyped d uses k rule (length (pieces rule))

-- what a relation type takes and gives; any other type takes and gives nothing
abbrev pub sides : SchemeTree-F SchemeTree → RelType
sides (SchemeTree-F.Rel ins outs) = record { inputs = ins; outputs = outs }
sides _ = record { inputs = []; outputs = [] }
