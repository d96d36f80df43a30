-- A goal is read, unless a limit is met.
use Rattle.std.proofs.Common.{◌≡◌, ℕ, zero, suc, ◌≤◌, List, ◌∷◌, length, refl, arith}
use Rattle.rml_syntax.specs.declared.token.Spot.{Spot}
use Rattle.rml_syntax.specs.declared.token.Mark.TheVariants as mark
use Rattle.rml_syntax.specs.declared.rules.Pattern.{Pattern}
use Rattle.rml_syntax.specs.declared.rules.Goal.{Goal}
use Rattle.rml_syntax.specs.declared.rules.Goal.TheVariants as goal
use Rattle.rml_grammar.specs.declared.front.Front.TheVariants as front
use Rattle.rml_grammar.specs.Tokens.{sign, after, front_of}
use Rattle.rml_grammar.specs.Reading.{◌>>=◌, follows, before, long_at}
use Rattle.rml_grammar.specs.Patterns.{pat_at}
use Rattle.rml_grammar.specs.Expressions.{exp_at, eargs_at}
use Rattle.rml_grammar.specs.Goals.{Inner, call_results_at, long_goal_by, gatom, a_goal, goals_at, inner_goals, gatom_at, goal_at}
use Rattle.rml_grammar.specs.SpelledGoals as s
use Rattle.rml_grammar.specs.SpelledGoals.{IsCallResults, IsGoals, IsMoreGoals, IsGoal, IsGatom}
use Rattle.rml_grammar.proofs.Levels.{goals_level}
use Rattle.rml_grammar.specs.Laws.{Agrees}
use Rattle.rml_grammar.proofs.Agree.{and-agrees, agrees-is, long-complete, long-front, tail-none, tail-more, separated-agrees}
use Rattle.rml_grammar.proofs.ShortGoals.{short-goal}
use Rattle.rml_grammar.proofs.CompleteExpressions.{exp-complete}
use Rattle.rml_grammar.proofs.CompletePatterns.{pat-complete}
use Rattle.rml_grammar.proofs.ResultsPatterns.{pseq-complete}
use Rattle.rml_grammar.proofs.ResultsExpressions.{eargs-complete}

results-complete : {us rest : List Spot} {ps : List Pattern} → IsCallResults us ps rest → (n : ℕ) → Agrees (call_results_at n us) (ps, rest)
results-complete (s.no_results e) n = rw e refl
results-complete (s.results a) n = pseq-complete a n

module _ (n : ℕ) (inner : Inner) where
  gatom-named : (us : List Spot) → front_of us ≡ front.Named → gatom n inner us ≡ (long_at us >>= λ l. long_goal_by n l.0 l.1 (after mark.Equals l.1))
  gatom-named us e = rw e refl

  goal-named : (us : List Spot) → front_of us ≡ front.Named → a_goal n inner us ≡ gatom n inner us
  goal-named us e = rw e refl

  goal-plain : {us rest : List Spot} {g : Goal} → IsGatom us g rest → a_goal n inner us ≡ gatom n inner us
  goal-plain (s.matching a b) = refl
  goal-plain (s.equation {us} a b) = goal-named us (long-front a)
  goal-plain (s.call {us} a h b c) = goal-named us (long-front a)
  goal-plain (s.bracket a) = refl

mutual
  pub goals-complete : {us rest : List Spot} {gs : List Goal} → IsGoals us gs rest → (n : ℕ) → Agrees (goals_at n us) (gs, rest)
  goals-complete (s.some_goals {us} {vs} {rest} {g} {gs} a b) n = rw (goals_level n us) (separated-agrees (after mark.Amp) (goal_at n) us vs rest g gs (goal-complete a n) (more-complete b n (length vs) (omega arith)))

  more-complete : {us rest : List Spot} {gs : List Goal} → IsMoreGoals us gs rest → (n k : ℕ) → length us ≤ k → Agrees (follows (after mark.Amp) (goal_at n) k us) (gs, rest)
  more-complete (s.no_more_goals {us} e) n k le = tail-none (after mark.Amp) (goal_at n) k us e
  more-complete (s.more_goals {us} {vs} {rest} {p} {g} {gs} a b) n k le = tail-more (after mark.Amp) (goal_at n) k (sign mark.Amp p ∷ us) us vs rest g gs refl le (omega arith) (goal-complete a n)
      (λ j e. more-complete b n j (let h = short-goal a in omega arith))

  goal-complete : {us rest : List Spot} {g : Goal} → IsGoal us g rest → (n : ℕ) → Agrees (goal_at n us) (g, rest)
  goal-complete (s.negated {us} {rest} {p} {g} a) n = and-agrees (gatom_at n us) _ (g, rest) (goal.Not g, rest) (gatom-complete a n) refl
  goal-complete (s.plain a) n = rw (goal-plain n (inner_goals n) a) (gatom-complete a n)

  gatom-complete : {us rest : List Spot} {g : Goal} → IsGatom us g rest → (n : ℕ) → Agrees (gatom_at n us) (g, rest)
  gatom-complete (s.matching {us} {vs} {rest} {p} {q} {t} {e} a b) n = and-agrees (pat_at n us >>= before (after mark.Equals)) _ (t, vs) (goal.Let t e, rest)
      (and-agrees (pat_at n us) _ (t, sign mark.Equals q ∷ vs) (t, vs) (pat-complete a n) refl) (and-agrees (exp_at n vs) _ (e, rest) (goal.Let t e, rest) (exp-complete b n) refl)
  gatom-complete (s.equation {us} {vs} {rest} {p} {l} {e} a b) n = rw (gatom-named n (inner_goals n) us (long-front a))
      (and-agrees (long_at us) _ (l, sign mark.Equals p ∷ vs) (goal.Equal l e, rest) (agrees-is _ (l, sign mark.Equals p ∷ vs) (long-complete a)) (and-agrees (exp_at n vs) _ (e, rest) (goal.Equal l e, rest) (exp-complete b n) refl))
  gatom-complete (s.call {us} {vs} {ws} {rest} {l} {es} {ps} a h b c) n = rw (gatom-named n (inner_goals n) us (long-front a))
      (and-agrees (long_at us) _ (l, vs) (goal.Call l es ps, rest) (agrees-is _ (l, vs) (long-complete a))
      (rw h (and-agrees (eargs_at n vs) _ (es, ws) (goal.Call l es ps, rest) (eargs-complete b n) (and-agrees (call_results_at n ws) _ (ps, rest) (goal.Call l es ps, rest) (results-complete c n) refl))))
  gatom-complete (s.bracket a) zero = tt
  gatom-complete (s.bracket {us} {rest} {p} {q} {gs} a) (suc n) = and-agrees (goals_at n us >>= before (after mark.CloseRound)) _ (gs, rest) (goal.All gs, rest)
      (and-agrees (goals_at n us) _ (gs, sign mark.CloseRound q ∷ rest) (gs, rest) (goals-complete a n) refl) refl
