use Rattle.std.proofs.Common.{◌≡◌, map, take}
use Rattle.rml_prelude.specs.Made.{goal_of}
use Rattle.rml_prelude.proofs.made.goals_of.Given as goal

abbrev pub invariant-loop-short : goal.invariant-loop-short
invariant-loop-short l = l.goals ≡ map (goal_of l.w) (take l.short-index l.shorts)
