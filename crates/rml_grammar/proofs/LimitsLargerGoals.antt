-- Goals read with larger limits.
use Rattle.std.proofs.Common.{ℕ, zero, suc, ◌<◌, List, length, arith, Some, None}
use Rattle.rml_syntax.specs.declared.token.Spot.{Spot}
use Rattle.rml_syntax.specs.declared.token.Mark.TheVariants as mark
use Rattle.rml_syntax.specs.declared.rules.Long.{Long}
use Rattle.rml_syntax.specs.declared.rules.Goal.{Goal}
use Rattle.rml_grammar.specs.Tokens.{sign, after}
use Rattle.rml_grammar.specs.Reading.{◌>>=◌, Parser, separated, before}
use Rattle.rml_grammar.specs.Goals.{Inner, call_results_by, call_results_at, long_goal_by, matching_at, gatom, a_goal, goals_at}
use Rattle.rml_grammar.proofs.Levels.{goals_level}
use Rattle.rml_grammar.proofs.Fine.{fine-before, sign-decides}
use Rattle.rml_grammar.proofs.FineGoals.{goals-fine}
use Rattle.rml_grammar.proofs.Views as v
use Rattle.rml_grammar.proofs.Views.{Begins, begins, Has, has}
use Rattle.rml_grammar.proofs.LimitsLarger.{Steps, and-steps, end-steps, unexpected-steps, skip, Climbs, sign-steps, signs-climb, Higher, first, further, inside-steps, long-climbs}
use Rattle.rml_grammar.proofs.LimitsLargerPatterns.{pat-climbs, pseq-climbs}
use Rattle.rml_grammar.proofs.LimitsLargerExpressions.{exp-climbs, eargs-climbs}

-- goals and the closing bracket
abbrev closed : Parser (List Goal) → Parser (List Goal)
closed p vs = p vs >>= before (after mark.CloseRound)

module _ (n m : ℕ) (l : n < m) where
  results-by : (us : List Spot) → Has mark.Arrow us → Steps (length us) (call_results_by n us (after mark.Arrow us)) (call_results_by m us (after mark.Arrow us))
  results-by us (v.there {us = vs}) = skip (pseq-climbs n m l vs)
  results-by us (v.lacking o) = rw o end-steps

  results-climb : Climbs (call_results_at n) (call_results_at m)
  results-climb us = results-by us (has mark.Arrow us)

  long-by : (x : Long) (us : List Spot) → Has mark.Equals us → Steps (length us) (long_goal_by n x us (after mark.Equals us)) (long_goal_by m x us (after mark.Equals us))
  long-by x us (v.there {us = vs}) = skip (and-steps (exp-climbs n m l vs) (λ y. end-steps))
  long-by x us (v.lacking o) = rw o (and-steps (eargs-climbs n m l us) (λ y. and-steps (results-climb y.1) (λ z. end-steps)))

  matching-climbs : Climbs (matching_at n) (matching_at m)
  matching-climbs us = and-steps (and-steps (pat-climbs n m l us) (λ x. sign-steps mark.Equals x)) (λ x. and-steps (exp-climbs n m l x.1) (λ y. end-steps))

  module _ (i j : Inner) (h : Higher i j) where
    gatom-by : (us : List Spot) → Begins us → Steps (length us) (gatom n i us) (gatom m j us)
    gatom-by us (v.another o) = rw o unexpected-steps
    gatom-by us (v.a_let {us = vs}) = skip (matching-climbs vs)
    gatom-by us v.a_name = and-steps (long-climbs us) (λ x. long-by x.0 x.1 (has mark.Equals x.1))
    gatom-by us (v.a_round {p = o} {us = vs}) = and-steps (inside-steps (sign mark.OpenRound o) vs closed closed h (λ q f. (fine-before (after mark.CloseRound) q (sign-decides mark.CloseRound) f).within vs) (λ p q c. and-steps (c vs) (λ x. sign-steps mark.CloseRound x))) (λ x. end-steps)
    gatom-by us _ = unexpected-steps

    goal-by : (us : List Spot) → Begins us → Steps (length us) (a_goal n i us) (a_goal m j us)
    goal-by us (v.another o) = rw o unexpected-steps
    goal-by us (v.a_not {us = vs}) = skip (and-steps (gatom-by vs (begins vs)) (λ x. end-steps))
    goal-by us b = gatom-by us b

    level-climbs : Climbs (separated (after mark.Amp) (a_goal n i)) (separated (after mark.Amp) (a_goal m j))
    level-climbs us = signs-climb mark.Amp (a_goal n i) (a_goal m j) (λ vs. goal-by vs (begins vs)) us

pub goals-climb : (n m : ℕ) → n < m → Climbs (goals_at n) (goals_at m)
goals-climb zero zero l us = absurd (omega arith)
goals-climb (suc n) zero l us = absurd (omega arith)
goals-climb zero (suc m) l us = rw (goals_level zero us, goals_level (suc m) us) (level-climbs zero (suc m) l None (Some (goals_at m)) (first (goals-fine m)) us)
goals-climb (suc n) (suc m) l us = rw (goals_level (suc n) us, goals_level (suc m) us) (level-climbs (suc n) (suc m) l (Some (goals_at n)) (Some (goals_at m)) (further (goals-climb n m (omega arith))) us)
