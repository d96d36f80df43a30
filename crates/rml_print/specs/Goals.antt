-- Goals as tokens.
use Rattle.std.specs.Prelude.{List, ◌∷◌, ◌++◌, map}
use Rattle.rml_syntax.specs.declared.token.Token.{Token}
use Rattle.rml_syntax.specs.declared.token.Token.TheVariants as token
use Rattle.rml_syntax.specs.declared.token.Key.TheVariants as key
use Rattle.rml_syntax.specs.declared.token.Mark.TheVariants as mark
use Rattle.rml_syntax.specs.declared.rules.Goal.{Goal, fold-Goal}
use Rattle.rml_syntax.specs.declared.rules.Goal.TheOpen.{Goal-F}
use Rattle.rml_print.specs.declared.seats.Seat.TheVariants.{Free}
use Rattle.rml_print.specs.Parts.{in_round, separated, tupled, results_tokens, long_tokens}
use Rattle.rml_print.specs.Patterns.{pattern_tokens}
use Rattle.rml_print.specs.Expressions.{exp_tokens}

-- with & between them
abbrev pub joined : List (List Token) → List Token
joined = separated (token.Sign mark.Amp)

-- a call without arguments has ( and ) too
abbrev pub goal_at : Goal-F (List Token) → List Token
goal_at (Goal-F.Call l es ps) = long_tokens l ++ tupled (map exp_tokens es) ++ results_tokens (map pattern_tokens ps)
goal_at (Goal-F.Equal l e) = long_tokens l ++ token.Sign mark.Equals ∷ exp_tokens e Free
goal_at (Goal-F.Let p e) = token.Word key.KLet ∷ pattern_tokens p Free ++ token.Sign mark.Equals ∷ exp_tokens e Free
goal_at (Goal-F.Not g) = token.Word key.KNot ∷ g
goal_at (Goal-F.All gs) = in_round (joined gs)

abbrev pub goal_tokens : Goal → List Token
goal_tokens = fold-Goal (List Token) goal_at

abbrev pub goals_tokens : List Goal → List Token
goals_tokens gs = joined (map goal_tokens gs)
