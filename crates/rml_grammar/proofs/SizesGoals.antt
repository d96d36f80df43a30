-- A goal has no more goals, patterns and expressions than tokens.
use Rattle.std.proofs.Common.{◌≡◌, ℕ, ◌+◌, ◌≤◌, List, length, ap, ◌∙◌, arith, sum_by}
use Rattle.std.proofs.lemmas.List.Sums.{sum-map, sum_by-cons}
use Rattle.rml_syntax.specs.declared.token.Spot.{Spot}
use Rattle.rml_syntax.specs.declared.rules.Pattern.{Pattern}
use Rattle.rml_syntax.specs.declared.rules.Goal.{Goal}
use Rattle.rml_syntax.specs.declared.rules.Goal.TheVariants as goal
use Rattle.rml_grammar.specs.Sizes.{goal_size, goal_size_at, pattern_size}
use Rattle.rml_grammar.specs.SpelledGoals as s
use Rattle.rml_grammar.specs.SpelledGoals.{IsCallResults, IsGoals, IsMoreGoals, IsGoal, IsGatom}
use Rattle.rml_grammar.proofs.Folds.{goal-All, goal-Call, goal-Equal, goal-Let, goal-Not}
use Rattle.rml_grammar.proofs.SizesExpressions.{eargs-size, exp-size, long-size}
use Rattle.rml_grammar.proofs.SizesPatterns.{pat-size, pseq-size}

results-size : {us rest : List Spot} {ps : List Pattern} → IsCallResults us ps rest → sum_by pattern_size ps + length rest ≤ length us
results-size (s.no_results h) = omega arith
results-size (s.results a) = let x = pseq-size a in omega arith

all-size : (gs : List Goal) → goal_size (goal.All gs) ≡ 1 + sum_by goal_size gs
all-size gs = goal-All ℕ goal_size_at gs ∙ ap (λ n. 1 + n) (sum-map goal_size gs)

mutual
  pub goals-size : {us rest : List Spot} {gs : List Goal} → IsGoals us gs rest → sum_by goal_size gs + length rest ≤ length us
  goals-size (s.some_goals {g} {gs} a b) = let x = goal-size a in let y = more_goals-size b in omega (arith, sum_by-cons goal_size g gs)

  more_goals-size : {us rest : List Spot} {gs : List Goal} → IsMoreGoals us gs rest → sum_by goal_size gs + length rest ≤ length us
  more_goals-size (s.no_more_goals e) = omega arith
  more_goals-size (s.more_goals {g} {gs} a b) = let x = goal-size a in let y = more_goals-size b in omega (arith, sum_by-cons goal_size g gs)

  goal-size : {us rest : List Spot} {g : Goal} → IsGoal us g rest → goal_size g + length rest ≤ length us
  goal-size (s.negated {g} a) = let x = gatom-size a in omega (arith, goal-Not ℕ goal_size_at g)
  goal-size (s.plain a) = gatom-size a

  gatom-size : {us rest : List Spot} {g : Goal} → IsGatom us g rest → goal_size g + length rest ≤ length us
  gatom-size (s.matching {t} {e} a b) = let x = pat-size a in let y = exp-size b in omega (arith, goal-Let ℕ goal_size_at t e)
  gatom-size (s.equation {l} {e} a b) = let x = long-size a in let y = exp-size b in omega (arith, goal-Equal ℕ goal_size_at l e)
  gatom-size (s.call {l} {es} {ps} a h b c) = let x = long-size a in let y = eargs-size b in let z = results-size c in omega (arith, goal-Call ℕ goal_size_at l es ps)
  gatom-size (s.bracket {gs} a) = let x = goals-size a in omega (arith, all-size gs)
