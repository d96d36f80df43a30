-- Going on with values, the relation that a value names, and what a built-in leaves in the trace of a run.
use Rattle.std.specs.Prelude.{ℕ, List, Option, Some, None, slice_get}
use Rattle.rml_simulation.specs.declared.partial.Trace.{Trace}
use Rattle.rml_simulation.specs.declared.partial.Partial.{Partial}
use Rattle.rml_simulation.specs.declared.partial.Partial.TheVariants.{GoneWrong}
use Rattle.rml_simulation.specs.Partial.{untraced}
use Rattle.rml_simulation.specs.Calls.{Calls}
use Rattle.rml_value.specs.declared.value.Value.{Value, out-Value}
use Rattle.rml_value.specs.declared.value.Value.TheOpen.{Value-F}
use Rattle.rml_builtin.specs.declared.applied.Answer.{Answer}
use Rattle.rml_builtin.specs.declared.row.TheConstants.{ROWS}
use Rattle.rml_builtin.specs.declared.row.Row.{Row}
use Rattle.rml_builtin.specs.Called.{Called}
use Rattle.rml_builtin.specs.Made.{cells_made}

-- what relations do, called with values and a store
abbrev pub RelationCalls : Type 0
RelationCalls = Calls Called Answer

-- goes on with what is there; where there is nothing it is Wrong
abbrev pub with_value : {A C : Type 0} → Option A → (A → ℕ → Partial C) → ℕ → Partial C
with_value None go n = GoneWrong untraced
with_value (Some v) go n = go v n

abbrev pub relation_at : Value-F Value → Option ℕ
relation_at (Value-F.Rel r) = Some r
relation_at _ = None

-- the relation that a value names
abbrev pub relation_in : Value → Option ℕ
relation_in v = relation_at (out-Value v)

abbrev pub made_at : Option Row → List Value → ℕ
made_at None vs = 0
made_at (Some row) vs = cells_made row vs

-- the text that the built-in of a number printed, and the cells of its results that it made
abbrev pub trace_of_built_in : ℕ → List Value → List ℕ → Trace
trace_of_built_in number vs t = record { text = t; made = made_at (slice_get ROWS number) vs; weighed = 0 }
