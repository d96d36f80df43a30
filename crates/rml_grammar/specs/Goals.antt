-- How goals are read.
use Rattle.std.specs.Prelude.{ℕ, zero, suc, List, [], Option, Some, None, Result, Ok}
use Rattle.rml_syntax.specs.declared.token.Spot.{Spot}
use Rattle.rml_syntax.specs.declared.token.Mark.TheVariants as mark
use Rattle.rml_syntax.specs.declared.rules.Long.{Long}
use Rattle.rml_syntax.specs.declared.rules.Pattern.{Pattern}
use Rattle.rml_syntax.specs.declared.rules.Goal.{Goal}
use Rattle.rml_syntax.specs.declared.rules.Goal.TheVariants as goal
use Rattle.rml_grammar.specs.declared.front.Front.{Front}
use Rattle.rml_grammar.specs.declared.front.Front.TheVariants as front
use Rattle.rml_grammar.specs.declared.fault.Fault.{Fault}
use Rattle.rml_grammar.specs.Tokens.{after, front_of, rest_of}
use Rattle.rml_grammar.specs.Reading.{◌>>=◌, Parser, unexpected, separated, before, inside, long_at}
use Rattle.rml_grammar.specs.Patterns.{pat_at, pseq_at}
use Rattle.rml_grammar.specs.Expressions.{exp_at, eargs_at}

-- Each takes how many brackets may still open, and the reading of goals one bracket further in, or nothing where none
-- may open.
abbrev pub Inner : Type 0
Inner = Option (Parser (List Goal))

-- [`=>` pseq]
abbrev pub call_results_by : ℕ → List Spot → Option (List Spot) → Result (List Pattern × List Spot) Fault
call_results_by n us None = Ok ([], us)
call_results_by n us (Some vs) = pseq_at n vs

abbrev pub call_results_at : ℕ → Parser (List Pattern)
call_results_at n us = call_results_by n us (after mark.Arrow us)

-- what a long begins: an equation, or a call
abbrev pub long_goal_by : ℕ → Long → List Spot → Option (List Spot) → Result (Goal × List Spot) Fault
long_goal_by n l us (Some vs) = exp_at n vs >>= λ e. Ok (goal.Equal l e.0, e.1)
long_goal_by n l us None = eargs_at n us >>= λ es. call_results_at n es.1 >>= λ ps. Ok (goal.Call l es.0 ps.0, ps.1)

-- pat `=` exp
abbrev pub matching_at : ℕ → Parser Goal
matching_at n us = pat_at n us >>= before (after mark.Equals) >>= λ p. exp_at n p.1 >>= λ e. Ok (goal.Let p.0 e.0, e.1)

-- gatom
abbrev pub gatom_by : ℕ → Inner → List Spot → Front → Result (Goal × List Spot) Fault
gatom_by n inner us front.Let = matching_at n (rest_of us)
gatom_by n inner us front.Named = long_at us >>= λ l. long_goal_by n l.0 l.1 (after mark.Equals l.1)
gatom_by n inner us front.Round = inside inner (λ p vs. p vs >>= before (after mark.CloseRound)) us (rest_of us) >>= λ gs. Ok (goal.All gs.0, gs.1)
gatom_by n inner us _ = unexpected us

abbrev pub gatom : ℕ → Inner → Parser Goal
gatom n inner us = gatom_by n inner us (front_of us)

-- goal
abbrev pub goal_by : ℕ → Inner → List Spot → Front → Result (Goal × List Spot) Fault
goal_by n inner us front.Not = gatom n inner (rest_of us) >>= λ g. Ok (goal.Not g.0, g.1)
goal_by n inner us f = gatom_by n inner us f

abbrev pub a_goal : ℕ → Inner → Parser Goal
a_goal n inner us = goal_by n inner us (front_of us)

-- goals with at most so many brackets open at once
unfoldable pub goals_at : ℕ → Parser (List Goal)
goals_at zero us = separated (after mark.Amp) (a_goal zero None) us
goals_at (suc n) us = separated (after mark.Amp) (a_goal (suc n) (Some (goals_at n))) us

-- goals one bracket further in
abbrev pub inner_goals : ℕ → Inner
inner_goals zero = None
inner_goals (suc n) = Some (goals_at n)

abbrev pub gatom_at : ℕ → Parser Goal
gatom_at n = gatom n (inner_goals n)

abbrev pub goal_at : ℕ → Parser Goal
goal_at n = a_goal n (inner_goals n)
