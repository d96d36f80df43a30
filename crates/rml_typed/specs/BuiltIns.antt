-- The relation of a built-in that is named as a value: its one rule calls the built-in on what the relation is given, and gives
-- what that gives.
use Rattle.std.specs.Prelude.{◌≡◌, ℕ, zero, suc, List, [], ◌∷◌, map, length}
use Rattle.rml_builtin.specs.declared.row.Row.{Row}
use Rattle.rml_builtin.specs.Table.{inputs_of, outputs_of}
use Rattle.rml_resolved.specs.declared.tables.RRule.{RRule}
use Rattle.rml_resolved.specs.declared.trees.RPat.TheVariants as pattern
use Rattle.rml_resolved.specs.declared.trees.RExp.TheVariants as exp
use Rattle.rml_resolved.specs.declared.trees.Callee.TheVariants as callee
use Rattle.rml_resolved.specs.declared.trees.RGoal.TheVariants as goal

-- so many numbers, from one on
abbrev pub numbers : ℕ → ℕ → List ℕ
numbers from zero = []
numbers from (suc n) = from ∷ numbers (suc from) n

-- the variables of what the relation is given come first, and then those of what it gives
pub record CallsBuiltIn (number : ℕ) (row : Row) (rule : RRule) : Type 0 where
  pub inputs : rule.inputs ≡ map pattern.Var (numbers 0 (length (inputs_of row)))
  pub goals : rule.goals ≡ goal.Call (callee.Built number) (map exp.Var (numbers 0 (length (inputs_of row)))) (map pattern.Var (numbers (length (inputs_of row)) (length (outputs_of row)))) ∷ []
  pub results : rule.results ≡ map exp.Var (numbers (length (inputs_of row)) (length (outputs_of row)))
