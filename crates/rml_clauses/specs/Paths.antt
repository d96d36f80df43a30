-- How heavy the paths of tables are that were made of a program: what is met on the way from one step to the next weighs no more than a step
-- of the program's search.
use Rattle.std.specs.Prelude.{◌≡◌, ℕ, Some, slice_get}
use Rattle.rml_resolved.specs.declared.program.Program.{Program}
use Rattle.rml_resolved.specs.declared.tables.RelDef.{RelDef}
use Rattle.rml_search.specs.Whole.{context_of}
use Rattle.rml_fol.specs.declared.parts.Parts.{Parts}
use Rattle.rml_fol.specs.declared.parts.Relation.{Relation}
use Rattle.rml_clause.specs.Narrow.{EachNarrow}

-- in each relation, by the rules of the relation of its number
pub record AreNarrow (p : Program) (q : Parts) : Type 0 where
  pub at : (r : ℕ) (old : RelDef) (new : Relation) → slice_get p.rels r ≡ Some old → slice_get q.rels r ≡ Some new → EachNarrow p.names new.params (context_of p).step_weight old.rules
