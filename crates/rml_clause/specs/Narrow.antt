-- What the plain form of a rule weighs on its paths from one step to the next, told by the rule alone. An expression that is a variable
-- has no set, and is counted as one all the same.
use Rattle.std.specs.Prelude.{◌≡◌, ℕ, ◌+◌, ◌*◌, ◌≤◌, max, Bool, true, nat_le, List, [], ◌∷◌, map, length, IsTrue}
use Rattle.std.specs.List.{list_all}
use Rattle.rml_resolved.specs.declared.trees.RPat.{RPat}
use Rattle.rml_resolved.specs.declared.trees.RExp.{RExp}
use Rattle.rml_resolved.specs.declared.trees.Callee.TheVariants as callee
use Rattle.rml_resolved.specs.declared.trees.RGoal.{RGoal, fold-RGoal}
use Rattle.rml_resolved.specs.declared.trees.RGoal.TheOpen.{RGoal-F}
use Rattle.rml_resolved.specs.declared.tables.RelDef.{RelDef}
use Rattle.rml_resolved.specs.declared.tables.RRule.{RRule}
use Rattle.rml_resolved.specs.Size.{rule_size}
use Rattle.rml_fol.specs.Weights.{entry_weight, match_weight, set_weight, built_in_weight, equal_weight, call_weight, not_weight}
use Rattle.rml_fol.specs.Patterns.{binds}
use Rattle.rml_fol.specs.Expressions.{cells_of}
use Rattle.rml_clause.specs.Plain.{pattern_of, expression_of}

-- what is met from here to the next step, and the most that is met from any step beyond to the one after it
pub record Path : Type 0 where
  pub first : ℕ
  pub later : ℕ

-- no more is met
abbrev pub ended : Path
ended = record { first = 0; later = 0 }

-- so much is met before
abbrev pub heavier : ℕ → Path → Path
heavier w p = record p { first = w + p.first }

-- so much is met before a step, and so much behind it
abbrev pub round_step : ℕ → ℕ → Path → Path
round_step before behind p = record { first = before; later = max (behind + p.first) p.later }

-- a premise, before the path of what follows it
abbrev pub Before : Type 0
Before = Path → Path

abbrev pub befores_in_turn : List Before → Before
befores_in_turn [] p = p
befores_in_turn (g ∷ gs) p = g (befores_in_turn gs p)

module _ (names : List (List ℕ)) (params : ℕ) where
  abbrev pub weight_of_set : RExp → ℕ
  weight_of_set e = set_weight (cells_of (expression_of names params e))

  abbrev pub weight_of_sets : List RExp → ℕ
  weight_of_sets [] = 0
  weight_of_sets (e ∷ es) = weight_of_set e + weight_of_sets es

  abbrev pub weight_of_match : RPat → ℕ
  weight_of_match p = match_weight (binds (pattern_of names params p))

  abbrev pub weight_of_matches : List RPat → ℕ
  weight_of_matches [] = 0
  weight_of_matches (p ∷ ps) = weight_of_match p + weight_of_matches ps

  -- ---- premises

  -- a val that is called is set before
  abbrev pub before_at : RGoal-F Before → Before
  before_at (RGoal-F.Call (callee.Built k) es ps) p = heavier (weight_of_sets es + (built_in_weight k (length ps) + weight_of_matches ps)) p
  before_at (RGoal-F.Call f es ps) p = round_step (weight_of_sets es + (set_weight 0 + call_weight)) (entry_weight (length ps) + weight_of_matches ps) p
  before_at (RGoal-F.Equal a b) p = heavier (weight_of_set a + (weight_of_set b + equal_weight)) p
  before_at (RGoal-F.Let q e) p = heavier (weight_of_set e + weight_of_match q) p
  -- the failure of its goal is a step
  before_at (RGoal-F.Not g) p = record { first = not_weight + (g ended).first; later = max (g ended).later (max (entry_weight 0 + p.first) p.later) }
  before_at (RGoal-F.All gs) p = befores_in_turn gs p

  abbrev pub before : RGoal → Before
  before = fold-RGoal Before before_at

  abbrev pub before_all : List RGoal → Before
  before_all gs = befores_in_turn (map before gs)

  -- ---- a rule, where a relation begins or a failure was taken

  abbrev pub path_of : RRule → Path
  path_of r = heavier (entry_weight params + weight_of_matches r.inputs) (before_all r.goals (heavier (weight_of_sets r.results) ended))

  -- no path from step to step is heavier than `most`
  abbrev pub EachNarrow : ℕ → List RRule → Type 0
  EachNarrow most [] = Unit {0}
  EachNarrow most (r ∷ rules) = ((path_of r).first ≤ most) × ((path_of r).later ≤ most) × EachNarrow most rules

-- ---- short rules

-- a built-in that is called has one result at most
abbrev pub few_results_at : RGoal-F Bool → Bool
few_results_at (RGoal-F.Call (callee.Built k) es ps) = nat_le (length ps) 1
few_results_at (RGoal-F.Not g) = g
few_results_at (RGoal-F.All gs) = list_all (λ g. g) gs
few_results_at _ = true

abbrev pub few_results : RGoal → Bool
few_results = fold-RGoal Bool few_results_at

abbrev pub rule_has_few : RRule → Bool
rule_has_few r = list_all few_results r.goals

abbrev pub relation_has_few : RelDef → Bool
relation_has_few r = list_all rule_has_few r.rules

-- sixteen for each part of the rule, and sixty-four
pub record IsShort (params most : ℕ) (r : RRule) : Type 0 where
  pub inputs : length r.inputs ≡ params
  pub few : IsTrue (rule_has_few r)
  pub small : 16 * rule_size r + 64 ≤ most

abbrev pub EachShort : ℕ → ℕ → List RRule → Type 0
EachShort params most [] = Unit {0}
EachShort params most (r ∷ rules) = IsShort params most r × EachShort params most rules
