-- How many values the relations of a program take and give, as their rules tell, and that its calls agree with that. A program that is
-- typed agrees: the rules of a relation have its type, a call has the type of what it calls, and a relation type fixes both counts.
use Rattle.std.specs.Prelude.{ℕ, Bool, true, ◌&&◌, ◌==◌, List, [], ◌∷◌, map, length, slice_get}
use Rattle.std.specs.List.{list_all}
use Rattle.rml_builtin.specs.declared.row.TheConstants.{ROWS}
use Rattle.rml_resolved.specs.declared.trees.Callee.{Callee}
use Rattle.rml_resolved.specs.declared.trees.Callee.TheVariants as callee
use Rattle.rml_resolved.specs.declared.trees.RGoal.{RGoal, fold-RGoal}
use Rattle.rml_resolved.specs.declared.trees.RGoal.TheOpen.{RGoal-F}
use Rattle.rml_resolved.specs.declared.tables.RelDef.{RelDef}
use Rattle.rml_resolved.specs.declared.tables.RRule.{RRule}
use Rattle.rml_resolved.specs.declared.program.Program.{Program}
use Rattle.rml_fol.specs.Fits.{Signature, takes_and_gives, row_takes_and_gives, main_fits, every}

-- what the first of these rules takes and gives
abbrev pub shape_of : List RRule → Signature
shape_of [] = record { params = 0; results = 0 }
shape_of (r ∷ rules) = record { params = length r.inputs; results = length r.results }

abbrev pub shape : RelDef → Signature
shape d = shape_of d.rules

abbrev pub shapes_of : List RelDef → List Signature
shapes_of rels = map shape rels

-- a relation or a built-in that is called takes and gives so many; what a variable or a val stands for is told by the run alone
abbrev pub callee_agrees : List Signature → ℕ → ℕ → Callee → Bool
callee_agrees shapes taken given (callee.Rel r) = takes_and_gives taken given (slice_get shapes r)
callee_agrees shapes taken given (callee.Built k) = row_takes_and_gives taken given (slice_get ROWS k)
callee_agrees shapes taken given (callee.Var x) = true
callee_agrees shapes taken given (callee.Val k) = true

abbrev pub goal_agrees_at : List Signature → RGoal-F Bool → Bool
goal_agrees_at shapes (RGoal-F.Call f es ps) = callee_agrees shapes (length es) (length ps) f
goal_agrees_at shapes (RGoal-F.Equal a b) = true
goal_agrees_at shapes (RGoal-F.Let p e) = true
goal_agrees_at shapes (RGoal-F.Not g) = g
goal_agrees_at shapes (RGoal-F.All gs) = every gs

-- each call in a goal agrees
abbrev pub goal_agrees : List Signature → RGoal → Bool
goal_agrees shapes = fold-RGoal Bool (goal_agrees_at shapes)

-- a rule takes and gives so many, and its calls agree
abbrev pub rule_agrees : List Signature → Signature → RRule → Bool
rule_agrees shapes s r = (length r.inputs == s.params) && (length r.results == s.results) && list_all (goal_agrees shapes) r.goals

-- each rule takes and gives as many values as the first
abbrev pub relation_agrees : List Signature → RelDef → Bool
relation_agrees shapes d = list_all (rule_agrees shapes (shape d)) d.rules

-- and `main` takes the list of the arguments, and gives an integer or nothing
abbrev pub counts_agree : Program → Bool
counts_agree p = list_all (relation_agrees (shapes_of p.rels)) p.rels && main_fits p.gives (slice_get (shapes_of p.rels) p.main)
