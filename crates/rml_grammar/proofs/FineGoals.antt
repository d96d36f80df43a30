-- A goal is refused at a token whatever follows that token.
use Rattle.std.proofs.Common.{ℕ, zero, suc, List, [], refl, Some, None, Ok}
use Rattle.rml_syntax.specs.declared.token.Mark.TheVariants as mark
use Rattle.rml_syntax.specs.declared.rules.Long.{Long}
use Rattle.rml_syntax.specs.declared.rules.Goal.{Goal}
use Rattle.rml_syntax.specs.declared.rules.Goal.TheVariants as goal
use Rattle.rml_grammar.specs.declared.front.Front.{Front}
use Rattle.rml_grammar.specs.declared.front.Front.TheVariants as front
use Rattle.rml_grammar.specs.Tokens.{after, rest_of}
use Rattle.rml_grammar.specs.Reading.{◌>>=◌, Parser, separated, before, inside, long_at}
use Rattle.rml_grammar.specs.Patterns.{pat_at, pseq_at}
use Rattle.rml_grammar.specs.Expressions.{exp_at, eargs_at}
use Rattle.rml_grammar.specs.Goals.{Inner, call_results_by, call_results_at, long_goal_by, matching_at, gatom_by, gatom, goal_by, a_goal, goals_at}
use Rattle.rml_grammar.proofs.Levels.{goals_level}
use Rattle.rml_grammar.proofs.Fine.{Fine, fine-give, fine-refused, fine-then, fine-map, fine-skip, fine-front, fine-by, fine-separated, fine-before, fine-long, sign-decides, fine-is}
use Rattle.rml_grammar.proofs.FineExpressions.{exp-fine, eargs-at-fine}
use Rattle.rml_grammar.proofs.FinePatterns.{pat-fine, pseq-at-fine}

results-fine : (n : ℕ) → Fine (call_results_at n)
results-fine n = fine-by (after mark.Arrow) (call_results_by n) (pseq_at n) (sign-decides mark.Arrow) (λ us vs. refl) (fine-give []) (pseq-at-fine n)

long-fine : (n : ℕ) (l : Long) → Fine (λ us. long_goal_by n l us (after mark.Equals us))
long-fine n l = fine-by (after mark.Equals) (long_goal_by n l) (λ us. exp_at n us >>= λ e. Ok (goal.Equal l e.0, e.1)) (sign-decides mark.Equals) (λ us vs. refl)
    (fine-then (eargs_at n) (λ es us. call_results_at n us >>= λ ps. Ok (goal.Call l es ps.0, ps.1)) (eargs-at-fine n) (λ es. fine-map (call_results_at n) (λ ps. goal.Call l es ps) (results-fine n)))
    (fine-map (exp_at n) (λ e. goal.Equal l e) (exp-fine n))

matching-fine : (n : ℕ) → Fine (matching_at n)
matching-fine n = fine-then (λ us. pat_at n us >>= before (after mark.Equals)) (λ p us. exp_at n us >>= λ e. Ok (goal.Let p e.0, e.1)) (fine-before (after mark.Equals) (pat_at n) (sign-decides mark.Equals) (pat-fine n))
    (λ p. fine-map (exp_at n) (λ e. goal.Let p e) (exp-fine n))

abbrev pub InnerFine : Inner → Type 0
InnerFine None = Unit {0}
InnerFine (Some p) = Fine p

abbrev closed : Parser (List Goal) → Parser (List Goal)
closed p vs = p vs >>= before (after mark.CloseRound)

inside-fine : (i : Inner) → InnerFine i → Fine (λ us. inside i closed us (rest_of us))
inside-fine None h = fine-refused _
inside-fine (Some p) h = fine-skip (closed p) (fine-before (after mark.CloseRound) p (sign-decides mark.CloseRound) h)

module _ (n : ℕ) (inner : Inner) (fine : InnerFine inner) where
  gatom-by-fine : (f : Front) → Fine (λ us. gatom_by n inner us f)
  gatom-by-fine front.Let = fine-skip (matching_at n) (matching-fine n)
  gatom-by-fine front.Named = fine-then long_at (λ l us. long_goal_by n l us (after mark.Equals us)) fine-long (long-fine n)
  gatom-by-fine front.Round = fine-map (λ us. inside inner closed us (rest_of us)) (λ gs. goal.All gs) (inside-fine inner fine)
  gatom-by-fine f = fine-refused _

  pub gatom-fine : Fine (gatom n inner)
  gatom-fine = fine-front (gatom_by n inner) gatom-by-fine

  pub goal-by-fine : (f : Front) → Fine (λ us. goal_by n inner us f)
  goal-by-fine front.Not = fine-skip (λ us. gatom n inner us >>= λ g. Ok (goal.Not g.0, g.1)) (fine-map (gatom n inner) (λ g. goal.Not g) gatom-fine)
  goal-by-fine front.Let = gatom-by-fine front.Let
  goal-by-fine front.Named = gatom-by-fine front.Named
  goal-by-fine front.Round = gatom-by-fine front.Round
  goal-by-fine f = fine-refused _

  pub level-fine : Fine (separated (after mark.Amp) (a_goal n inner))
  level-fine = fine-separated mark.Amp (a_goal n inner) (fine-front (goal_by n inner) goal-by-fine)

pub goals-fine : (n : ℕ) → Fine (goals_at n)
goals-fine zero = fine-is (goals_at zero) (separated (after mark.Amp) (a_goal zero None)) (goals_level zero) (level-fine zero None tt)
goals-fine (suc n) = fine-is (goals_at (suc n)) (separated (after mark.Amp) (a_goal (suc n) (Some (goals_at n)))) (goals_level (suc n)) (level-fine (suc n) (Some (goals_at n)) (goals-fine n))
