-- Readings of goals keep the limits.
use Rattle.std.proofs.Common.{◌≡◌, ℕ, zero, suc, ◌+◌, List, arith, Some, None}
use Rattle.rml_syntax.specs.declared.token.Spot.{Spot}
use Rattle.rml_syntax.specs.declared.token.Mark.TheVariants as mark
use Rattle.rml_syntax.specs.declared.rules.Long.{Long}
use Rattle.rml_grammar.specs.Tokens.{after}
use Rattle.rml_grammar.specs.Reading.{◌>>=◌, separated, before}
use Rattle.rml_grammar.specs.Goals.{Inner, call_results_by, call_results_at, long_goal_by, matching_at, gatom, a_goal, goals_at}
use Rattle.rml_grammar.proofs.Levels.{goals_level}
use Rattle.rml_grammar.proofs.Views as v
use Rattle.rml_grammar.proofs.Views.{Begins, begins, Has, has}
use Rattle.rml_grammar.proofs.LimitsReading.{Whole, At, Ends, went, and-ends, unexpected-ends, Keeps, KeepsInner, full, further, inside-ends, over, and-sign, and-close, separated-keeps, long-keeps}
use Rattle.rml_grammar.proofs.LimitsPatterns.{pat-keeps, pseq-keeps}
use Rattle.rml_grammar.proofs.LimitsExpressions.{exp-keeps, eargs-keeps}

module _ {w : Whole} {d r : ℕ} (n : ℕ) (e : d + n ≡ w.depth) where
  results-by : (us : List Spot) → Has mark.Arrow us → At w d r us → Ends w (λ x. At w d r x.1) (call_results_by n us (after mark.Arrow us))
  results-by us (v.there {us = vs}) a = pseq-keeps n e vs (over tt a)
  results-by us (v.lacking l) a = rw l (went a)

  results-keeps : Keeps w d r (call_results_at n)
  results-keeps us a = results-by us (has mark.Arrow us) a

  long-by : (l : Long) (us : List Spot) → Has mark.Equals us → At w d r us → Ends w (λ x. At w d r x.1) (long_goal_by n l us (after mark.Equals us))
  long-by l us (v.there {us = vs}) a = and-ends (exp-keeps n e vs (over tt a)) (λ x b. went b)
  long-by l us (v.lacking o) a = rw o (and-ends (eargs-keeps n e us a) (λ x b. and-ends (results-keeps x.1 b) (λ y c. went c)))

  matching-keeps : Keeps w d r (matching_at n)
  matching-keeps us a = and-ends (and-ends (pat-keeps n e us a) (λ x b. and-sign mark.Equals tt x b)) (λ x b. and-ends (exp-keeps n e x.1 b) (λ y c. went c))

  module _ (inner : Inner) (k : KeepsInner w d r inner) where
    gatom-by : (us : List Spot) → Begins us → At w d r us → Ends w (λ x. At w d r x.1) (gatom n inner us)
    gatom-by us (v.another o) a = rw o (unexpected-ends a)
    gatom-by us (v.a_let {us = vs}) a = matching-keeps vs (over tt a)
    gatom-by us v.a_name a = and-ends (long-keeps us a) (λ x b. long-by x.0 x.1 (has mark.Equals x.1) b)
    gatom-by us (v.a_round {us = vs}) a = and-ends (inside-ends (λ p vs. p vs >>= before (after mark.CloseRound)) k tt a (λ p h b. and-ends (h vs b) (λ x c. and-close mark.CloseRound tt x c))) (λ x b. went b)
    gatom-by us _ a = unexpected-ends a

    goal-by : (us : List Spot) → Begins us → At w d r us → Ends w (λ x. At w d r x.1) (a_goal n inner us)
    goal-by us (v.another o) a = rw o (unexpected-ends a)
    goal-by us (v.a_not {us = vs}) a = and-ends (gatom-by vs (begins vs) (over tt a)) (λ x b. went b)
    goal-by us b a = gatom-by us b a

    level-keeps : Keeps w d r (separated (after mark.Amp) (a_goal n inner))
    level-keeps us a = separated-keeps mark.Amp tt (a_goal n inner) (λ vs b. goal-by vs (begins vs) b) us a

pub goals-keeps : {w : Whole} {d r : ℕ} (n : ℕ) → d + n ≡ w.depth → Keeps w d r (goals_at n)
goals-keeps zero e us a = rw (goals_level zero us) (level-keeps zero e None (full (omega arith)) us a)
goals-keeps (suc n) e us a = rw (goals_level (suc n) us) (level-keeps (suc n) e (Some (goals_at n)) (further (omega arith) (goals-keeps n (omega arith))) us a)
