-- Which round brackets stand that leave no trace in a tree.
use Rattle.std.specs.Prelude.{Bool, true, false}
use Rattle.rml_syntax.specs.declared.types.TypeExp.{TypeExp, out-TypeExp}
use Rattle.rml_syntax.specs.declared.types.TypeExp.TheOpen.{TypeExp-F}
use Rattle.rml_syntax.specs.declared.rules.Pattern.{Pattern, out-Pattern}
use Rattle.rml_syntax.specs.declared.rules.Pattern.TheOpen.{Pattern-F}
use Rattle.rml_syntax.specs.declared.rules.Exp.{Exp, out-Exp}
use Rattle.rml_syntax.specs.declared.rules.Exp.TheOpen.{Exp-F}
use Rattle.rml_print.specs.declared.seats.Seat.{Seat}
use Rattle.rml_print.specs.declared.seats.Seat.TheVariants.{Item, BehindAs, OnlyResult, Factor, OnlyArgument}
use Rattle.rml_print.specs.declared.seats.Shape.{Shape}
use Rattle.rml_print.specs.declared.seats.Shape.TheVariants.{Chain, Binding, Tuple, Named, Other}

-- whether one pair stands round a tree of this shape in this seat
abbrev pub is_bracketed : Seat → Shape → Bool
-- an item of a chain that is itself a chain or an as
is_bracketed Item Chain = true
is_bracketed Item Binding = true
-- an as directly under another as
is_bracketed BehindAs Binding = true
-- a single result that is a tuple
is_bracketed OnlyResult Tuple = true
-- a factor of a tuple type, a part of a constructor and the single argument of a type name, where it is a tuple
is_bracketed Factor Tuple = true
is_bracketed OnlyArgument Tuple = true
-- the single argument of a type name, where it has names behind it itself
is_bracketed OnlyArgument Named = true
is_bracketed _ _ = false

-- what a tree is, whatever stands for its parts
abbrev pub type_shape_at : {A B : Type 0} → TypeExp-F A B → Shape
type_shape_at (TypeExp-F.Var v p) = Other
type_shape_at (TypeExp-F.App ts ls) = Named
type_shape_at (TypeExp-F.Tuple ts) = Tuple
type_shape_at (TypeExp-F.Rel s) = Other

abbrev pub pattern_shape_at : {A : Type 0} → Pattern-F A → Shape
pattern_shape_at (Pattern-F.Tuple ps) = Tuple
pattern_shape_at (Pattern-F.Cons ps) = Chain
pattern_shape_at (Pattern-F.Bind n at p) = Binding
pattern_shape_at _ = Other

abbrev pub exp_shape_at : {A : Type 0} → Exp-F A → Shape
exp_shape_at (Exp-F.Tuple es) = Tuple
exp_shape_at (Exp-F.Cons es) = Chain
exp_shape_at _ = Other

abbrev pub type_shape : TypeExp → Shape
type_shape t = type_shape_at (out-TypeExp t)

abbrev pub pattern_shape : Pattern → Shape
pattern_shape p = pattern_shape_at (out-Pattern p)

abbrev pub exp_shape : Exp → Shape
exp_shape e = exp_shape_at (out-Exp e)
