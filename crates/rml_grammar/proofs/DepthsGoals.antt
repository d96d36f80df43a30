-- A goal is at most four deep for each bracket that may open in it, and six.
use Rattle.std.proofs.Common.{ℕ, zero, suc, ◌+◌, ◌*◌, ◌≤◌, List, max, arith, Option, Some, None, Result, Ok, Err}
use Rattle.std.specs.Prelude.{All}
use Rattle.std.proofs.Math.Nat.{max-le}
use Rattle.std.proofs.lemmas.List.Elements.{All-nil, All-weaker}
use Rattle.rml_syntax.specs.declared.token.Spot.{Spot}
use Rattle.rml_syntax.specs.declared.token.Mark.TheVariants as mark
use Rattle.rml_syntax.specs.declared.rules.Long.{Long}
use Rattle.rml_syntax.specs.declared.rules.Exp.{Exp}
use Rattle.rml_syntax.specs.declared.rules.Pattern.{Pattern}
use Rattle.rml_syntax.specs.declared.rules.Goal.{Goal}
use Rattle.rml_syntax.specs.declared.rules.Goal.TheVariants as goal
use Rattle.rml_grammar.specs.declared.fault.Fault.{Fault}
use Rattle.rml_grammar.specs.declared.front.Front.{Front}
use Rattle.rml_grammar.specs.declared.front.Front.TheVariants as front
use Rattle.rml_grammar.specs.Tokens.{after, front_of, rest_of}
use Rattle.rml_grammar.specs.Reading.{◌>>=◌, before, inside, long_at, separated}
use Rattle.rml_grammar.specs.Patterns.{pat_at}
use Rattle.rml_grammar.specs.Expressions.{eargs_at, exp_at}
use Rattle.rml_grammar.specs.Goals.{Inner, a_goal, call_results_at, call_results_by, gatom, gatom_by, goal_by, goals_at, long_goal_by, matching_at}
use Rattle.rml_grammar.specs.Depths.{exps_depth, goal_depth, goal_depth_at, patterns_depth}
use Rattle.rml_grammar.proofs.Folds.{goal-All, goal-Call, goal-Equal, goal-Let, goal-Not}
use Rattle.rml_grammar.proofs.Levels.{goals_level}
use Rattle.rml_grammar.proofs.Depths.{Always, Gives, Inside, Whatever, and-gives, anything, before-gives, deepest-at-most, inside-gives, separated-gives}
use Rattle.rml_grammar.proofs.DepthsExpressions as e
use Rattle.rml_grammar.proofs.DepthsExpressions.{eargs-at-deep, exp-deep, exps-at-most}
use Rattle.rml_grammar.proofs.DepthsPatterns as p
use Rattle.rml_grammar.proofs.DepthsPatterns.{pat-deep, patterns-at-most, pseq-at-deep}

-- no deeper than that
abbrev pub AtMost : ℕ → Goal → Type 0
AtMost k g = goal_depth g ≤ k

all-at-most : (k : ℕ) (gs : List Goal) → All (AtMost k) gs → AtMost (1 + k) (goal.All gs)
all-at-most k gs h = let d = deepest-at-most k goal_depth gs h in omega (arith, goal-All ℕ goal_depth_at gs)

call-at-most : (k : ℕ) (l : Long) (es : List Exp) (ps : List Pattern) → All (e.AtMost k) es → All (p.AtMost k) ps → AtMost (1 + k) (goal.Call l es ps)
call-at-most k l es ps h g =
    let le : max (exps_depth es) (patterns_depth ps) ≤ k = max-le (exps-at-most k es h) (patterns-at-most k ps g) in
    omega (arith, goal-Call ℕ goal_depth_at l es ps, le)

gives-weaker : (j k : ℕ) (r : Result (Goal × List Spot) Fault) → j ≤ k → Gives (AtMost j) r → Gives (AtMost k) r
gives-weaker j k (Ok x) le h = omega arith
gives-weaker j k (Err f) le h = tt

module _ (n : ℕ) where
  results-by-deep : (us : List Spot) (o : Option (List Spot)) → Gives (All (p.AtMost (4 * n + 4))) (call_results_by n us o)
  results-by-deep us None = All-nil (p.AtMost (4 * n + 4))
  results-by-deep us (Some vs) = pseq-at-deep n vs

  long-goal-deep : (l : Long) (us : List Spot) (o : Option (List Spot)) → Gives (AtMost (4 * n + 5)) (long_goal_by n l us o)
  long-goal-deep l us (Some vs) = and-gives (e.AtMost (3 * n + 3)) (AtMost (4 * n + 5)) (exp_at n vs) _ (exp-deep n vs) (λ x h. omega (arith, goal-Equal ℕ goal_depth_at l x.0))
  long-goal-deep l us None = and-gives (All (e.AtMost (1 + 3 * n))) (AtMost (4 * n + 5)) (eargs_at n us) _ (eargs-at-deep n us)
      (λ x h. and-gives (All (p.AtMost (4 * n + 4))) (AtMost (4 * n + 5)) (call_results_at n x.1) _ (results-by-deep x.1 (after mark.Arrow x.1))
      (λ y g. (let a = call-at-most (4 * n + 4) l x.0 y.0 (e.deeper (1 + 3 * n) (4 * n + 4) x.0 (omega arith) h) g in omega arith)))

  matching-deep : Always (AtMost (4 * n + 5)) (matching_at n)
  matching-deep us = and-gives (p.AtMost (4 * n + 4)) (AtMost (4 * n + 5)) (pat_at n us >>= before (after mark.Equals)) _ (before-gives (p.AtMost (4 * n + 4)) (after mark.Equals) (pat_at n us) (pat-deep n us))
      (λ x h. and-gives (e.AtMost (3 * n + 3)) (AtMost (4 * n + 5)) (exp_at n x.1) _ (exp-deep n x.1) (λ y g. omega (arith, goal-Let ℕ goal_depth_at x.0 y.0)))

  module _ (inner : Inner) (deep : Inside (Always (All (AtMost (4 * n + 2)))) inner) where
    gatom-by-deep : (us : List Spot) (f : Front) → Gives (AtMost (4 * n + 5)) (gatom_by n inner us f)
    gatom-by-deep us front.Let = matching-deep (rest_of us)
    gatom-by-deep us front.Named = and-gives Whatever (AtMost (4 * n + 5)) (long_at us) _ (anything (long_at us)) (λ x u. long-goal-deep x.0 x.1 (after mark.Equals x.1))
    gatom-by-deep us front.Round = and-gives (All (AtMost (4 * n + 2))) (AtMost (4 * n + 5)) (inside inner (λ q vs. q vs >>= before (after mark.CloseRound)) us (rest_of us)) _
        (inside-gives (Always (All (AtMost (4 * n + 2)))) (All (AtMost (4 * n + 2))) inner (λ q vs. q vs >>= before (after mark.CloseRound)) us (rest_of us) deep (λ q h. before-gives (All (AtMost (4 * n + 2))) (after mark.CloseRound) (q (rest_of us)) (h (rest_of us))))
        (λ x h. (let a = all-at-most (4 * n + 2) x.0 h in omega arith))
    gatom-by-deep us f = tt

    weaker : (us : List Spot) (f : Front) → Gives (AtMost (4 * n + 6)) (gatom_by n inner us f)
    weaker us f = gives-weaker (4 * n + 5) (4 * n + 6) (gatom_by n inner us f) (omega arith) (gatom-by-deep us f)

    goal-by-deep : (us : List Spot) (f : Front) → Gives (AtMost (4 * n + 6)) (goal_by n inner us f)
    goal-by-deep us front.Not = and-gives (AtMost (4 * n + 5)) (AtMost (4 * n + 6)) (gatom n inner (rest_of us)) _ (gatom-by-deep (rest_of us) (front_of (rest_of us))) (λ x h. omega (arith, goal-Not ℕ goal_depth_at x.0))
    goal-by-deep us front.Let = weaker us front.Let
    goal-by-deep us front.Named = weaker us front.Named
    goal-by-deep us front.Round = weaker us front.Round
    goal-by-deep us f = tt

    goals-deep-by : Always (All (AtMost (4 * n + 6))) (separated (after mark.Amp) (a_goal n inner))
    goals-deep-by us = separated-gives (AtMost (4 * n + 6)) (a_goal n inner) (λ vs. goal-by-deep vs (front_of vs)) (after mark.Amp) us

all-weaker : (j k : ℕ) (r : Result (List Goal × List Spot) Fault) → j ≤ k → Gives (All (AtMost j)) r → Gives (All (AtMost k)) r
all-weaker j k (Ok x) le h = All-weaker (AtMost j) (AtMost k) (λ g a. omega arith) x.0 h
all-weaker j k (Err f) le h = tt

pub goals-deep : (n : ℕ) → Always (All (AtMost (4 * n + 6))) (goals_at n)
goals-deep zero us = rw (goals_level zero us) (goals-deep-by zero None tt us)
goals-deep (suc n) us = rw (goals_level (suc n) us) (goals-deep-by (suc n) (Some (goals_at n)) (λ vs. all-weaker (4 * n + 6) (4 * suc n + 2) (goals_at n vs) (omega arith) (goals-deep n vs)) us)
