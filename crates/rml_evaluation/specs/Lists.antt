-- How the code takes a list apart, a cell at a time: whether a value is a cell, and its head and its tail.
use Rattle.std.specs.Prelude.{◌==◌, if◌then◌else◌, [], ◌∷◌}
use Rattle.rml_value.specs.declared.value.Value.{Value, out-Value}
use Rattle.rml_value.specs.declared.value.Value.TheOpen.{Value-F}
use Rattle.rml_value.specs.declared.value.TheConstants.{CONS}
use Rattle.rml_evaluation.specs.declared.lists.ListParts.{ListParts}
use Rattle.rml_evaluation.specs.declared.lists.ListParts.TheVariants as parts
use Rattle.rml_evaluation.specs.declared.lists.ListParts.TheVariants.{HeadAndTail, Other}

abbrev pub parts_at : Value-F Value → ListParts
parts_at (Value-F.Con d (x ∷ xs ∷ [])) = if CONS == d then HeadAndTail else Other
parts_at (Value-F.Con d vs) = if CONS == d then parts.Wrong else Other
parts_at _ = parts.Wrong

abbrev pub head_at : Value → Value-F Value → Value
head_at v (Value-F.Con d (x ∷ xs ∷ [])) = x
head_at v _ = v

abbrev pub tail_at : Value → Value-F Value → Value
tail_at v (Value-F.Con d (x ∷ xs ∷ [])) = xs
tail_at v _ = v

abbrev pub head_of : Value → Value
head_of v = head_at v (out-Value v)

abbrev pub tail_of : Value → Value
tail_of v = tail_at v (out-Value v)
