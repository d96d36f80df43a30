-- What is read as a goal is one.
use Rattle.std.proofs.Common.{ℕ, zero, suc, List, ◌∷◌, subst, Some, None}
use Rattle.rml_base.specs.declared.place.Place.{Place}
use Rattle.rml_syntax.specs.declared.token.Spot.{Spot}
use Rattle.rml_syntax.specs.declared.token.Key.TheVariants as key
use Rattle.rml_syntax.specs.declared.token.Mark.TheVariants as mark
use Rattle.rml_syntax.specs.declared.rules.Long.{Long}
use Rattle.rml_syntax.specs.declared.rules.Goal.{Goal}
use Rattle.rml_grammar.specs.Tokens.{word, sign, after}
use Rattle.rml_grammar.specs.Reading.{◌>>=◌, Parser, separated, before, inside, long_at}
use Rattle.rml_grammar.specs.Patterns.{pat_at, pseq_at}
use Rattle.rml_grammar.specs.Expressions.{exp_at, eargs_at}
use Rattle.rml_grammar.specs.Goals.{Inner, call_results_at, long_goal_by, matching_at, gatom, a_goal, goals_at}
use Rattle.rml_grammar.specs.SpelledNames.{IsLong}
use Rattle.rml_grammar.specs.SpelledExpressions.{IsExp, IsEargs}
use Rattle.rml_grammar.specs.SpelledPatterns.{IsPat, IsPseq}
use Rattle.rml_grammar.specs.SpelledGoals as s
use Rattle.rml_grammar.specs.SpelledGoals.{IsCallResults, IsGoals, IsMoreGoals, IsGoal, IsGatom}
use Rattle.rml_grammar.proofs.Levels.{goals_level}
use Rattle.rml_grammar.proofs.Views as v
use Rattle.rml_grammar.proofs.Views.{Begins, begins, Has, has}
use Rattle.rml_grammar.proofs.Holds.{Holds, Reads, and-holds, holds-map, sign-holds, long-sound, separated-sound}
use Rattle.rml_grammar.proofs.ShortGoals.{short-goal}
use Rattle.rml_grammar.proofs.SoundExpressions.{exp-sound}
use Rattle.rml_grammar.proofs.SoundPatterns.{pat-sound}
use Rattle.rml_grammar.proofs.ResultsExpressions.{eargs-sound}
use Rattle.rml_grammar.proofs.ResultsPatterns.{pseq-sound}

results-by : (n : ℕ) (us : List Spot) → Has mark.Arrow us → Reads IsCallResults us (call_results_at n us)
results-by n _ (v.there {p} {us}) = holds-map (λ x. IsPseq us x.0 x.1) (λ x. IsCallResults (sign mark.Arrow p ∷ us) x.0 x.1) (pseq_at n us) (pseq-sound n us) (λ x h. s.results h)
results-by n us (v.lacking e) = rw e (s.no_results {us = us} e)

results-sound : (n : ℕ) (us : List Spot) → Reads IsCallResults us (call_results_at n us)
results-sound n us = results-by n us (has mark.Arrow us)

long-by : (n : ℕ) (us vs : List Spot) (l : Long) → IsLong us l vs → Has mark.Equals vs → Reads IsGatom us (long_goal_by n l vs (after mark.Equals vs))
long-by n us _ l a (v.there {p} {us = vs}) = and-holds (λ x. IsExp vs x.0 x.1) (λ y. IsGatom us y.0 y.1) (exp_at n vs) _ (exp-sound n vs) (λ x h. s.equation a h)
long-by n us vs l a (v.lacking e) = rw e (and-holds (λ x. IsEargs vs x.0 x.1) (λ y. IsGatom us y.0 y.1) (eargs_at n vs) _ (eargs-sound n vs)
    (λ x h. and-holds (λ y. IsCallResults x.1 y.0 y.1) (λ z. IsGatom us z.0 z.1) (call_results_at n x.1) _ (results-sound n x.1) (λ y g. s.call a e h g)))

matching-sound : (n : ℕ) (p : Place) (us : List Spot) → Reads IsGatom (word key.KLet p ∷ us) (matching_at n us)
matching-sound n p us = and-holds (λ x. (q : Place) × IsPat us x.0 (sign mark.Equals q ∷ x.1)) (λ y. IsGatom (word key.KLet p ∷ us) y.0 y.1) (pat_at n us >>= before (after mark.Equals)) _
    (and-holds (λ x. IsPat us x.0 x.1) (λ y. (q : Place) × IsPat us y.0 (sign mark.Equals q ∷ y.1)) (pat_at n us) _ (pat-sound n us)
    (λ x h. sign-holds mark.Equals (λ y. (q : Place) × IsPat us y.0 (sign mark.Equals q ∷ y.1)) x.0 x.1 (λ q ws e. (q, subst (λ (zs : List Spot). IsPat us x.0 zs) e h))))
    (λ x h. and-holds (λ y. IsExp x.1 y.0 y.1) (λ z. IsGatom (word key.KLet p ∷ us) z.0 z.1) (exp_at n x.1) _ (exp-sound n x.1) (λ y g. s.matching h.1 g))

abbrev pub InnerSound : Inner → Type 0
InnerSound None = Unit {0}
InnerSound (Some p) = (us : List Spot) → Reads IsGoals us (p us)

-- goals and the closing bracket
abbrev closed : Parser (List Goal) → Parser (List Goal)
closed p vs = p vs >>= before (after mark.CloseRound)

inside-sound : (i : Inner) → InnerSound i → (from us : List Spot) → Holds (λ x. (q : Place) × IsGoals us x.0 (sign mark.CloseRound q ∷ x.1)) (inside i closed from us)
inside-sound None h from us = tt
inside-sound (Some p) h from us = and-holds (λ x. IsGoals us x.0 x.1) (λ y. (q : Place) × IsGoals us y.0 (sign mark.CloseRound q ∷ y.1)) (p us) _ (h us)
    (λ x g. sign-holds mark.CloseRound (λ y. (q : Place) × IsGoals us y.0 (sign mark.CloseRound q ∷ y.1)) x.0 x.1 (λ q ws e. (q, subst (λ (zs : List Spot). IsGoals us x.0 zs) e g)))

module _ (n : ℕ) (inner : Inner) (sound : InnerSound inner) where
  pub gatom-sound : (us : List Spot) → Begins us → Reads IsGatom us (gatom n inner us)
  gatom-sound us (v.a_let {p} {us = vs}) = matching-sound n p vs
  gatom-sound us v.a_name = and-holds (λ x. IsLong us x.0 x.1) (λ y. IsGatom us y.0 y.1) (long_at us) _ (long-sound us) (λ x h. long-by n us x.1 x.0 h (has mark.Equals x.1))
  gatom-sound us (v.a_round {p} {us = vs}) = and-holds (λ x. (q : Place) × IsGoals vs x.0 (sign mark.CloseRound q ∷ x.1)) (λ y. IsGatom us y.0 y.1) (inside inner closed us vs) _ (inside-sound inner sound us vs) (λ x h. s.bracket h.1)
  gatom-sound us v.a_literal = tt
  gatom-sound us v.a_tyvar = tt
  gatom-sound us v.a_square = tt
  gatom-sound us v.a_wild = tt
  gatom-sound us v.a_not = tt
  gatom-sound us v.a_line = tt
  gatom-sound us (v.another e) = rw e tt

  plain-sound : (us : List Spot) → Begins us → Reads IsGoal us (gatom n inner us)
  plain-sound us b = holds-map (λ x. IsGatom us x.0 x.1) (λ x. IsGoal us x.0 x.1) (gatom n inner us) (gatom-sound us b) (λ x h. s.plain h)

  pub goal-sound : (us : List Spot) → Begins us → Reads IsGoal us (a_goal n inner us)
  goal-sound us (v.a_not {p} {us = vs}) = and-holds (λ x. IsGatom vs x.0 x.1) (λ y. IsGoal us y.0 y.1) (gatom n inner vs) _ (gatom-sound vs (begins vs)) (λ x h. s.negated h)
  goal-sound us v.a_let = plain-sound us v.a_let
  goal-sound us v.a_name = plain-sound us v.a_name
  goal-sound us v.a_round = plain-sound us v.a_round
  goal-sound us v.a_literal = tt
  goal-sound us v.a_tyvar = tt
  goal-sound us v.a_square = tt
  goal-sound us v.a_wild = tt
  goal-sound us v.a_line = tt
  goal-sound us (v.another e) = rw e tt

  pub level-sound : (us : List Spot) → Reads IsGoals us (separated (after mark.Amp) (a_goal n inner) us)
  level-sound = separated-sound mark.Amp (a_goal n inner) IsGoal IsMoreGoals (λ us e. s.no_more_goals e) (λ q us vs rest t ts a b. s.more_goals a b) (λ us rest t r. short-goal r) (λ us. goal-sound us (begins us)) IsGoals (λ us vs rest t ts a b. s.some_goals a b)

pub goals-sound : (n : ℕ) (us : List Spot) → Reads IsGoals us (goals_at n us)
goals-sound zero us = rw (goals_level zero us) (level-sound zero None tt us)
goals-sound (suc n) us = rw (goals_level (suc n) us) (level-sound (suc n) (Some (goals_at n)) (goals-sound n) us)
