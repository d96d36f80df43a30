-- Expressions as tokens.
use Rattle.std.specs.Prelude.{List, [], ◌∷◌, ◌++◌}
use Rattle.rml_syntax.specs.declared.token.Token.{Token}
use Rattle.rml_syntax.specs.declared.token.Token.TheVariants as token
use Rattle.rml_syntax.specs.declared.token.Mark.TheVariants as mark
use Rattle.rml_syntax.specs.declared.rules.Exp.{Exp, fold-Exp}
use Rattle.rml_syntax.specs.declared.rules.Exp.TheOpen.{Exp-F}
use Rattle.rml_print.specs.declared.seats.Seat.TheVariants.{Free, Item}
use Rattle.rml_print.specs.Seats.{exp_shape_at}
use Rattle.rml_print.specs.Parts.{Printed, in_square, seated, listed, tupled, long_tokens}

-- an expression without brackets of its seat; an application and a tuple have brackets of their own
abbrev pub bare_exp : Exp-F Printed → List Token
bare_exp (Exp-F.Lit l) = token.Lit l ∷ []
bare_exp (Exp-F.Name l) = long_tokens l
bare_exp (Exp-F.App l es) = long_tokens l ++ tupled es
bare_exp (Exp-F.Tuple es) = tupled es
bare_exp (Exp-F.List es) = in_square (listed mark.Comma Free es)
bare_exp (Exp-F.Cons es) = listed mark.TwoColons Item es

abbrev pub exp_at : Exp-F Printed → Printed
exp_at e = seated (exp_shape_at e) (bare_exp e)

abbrev pub exp_tokens : Exp → Printed
exp_tokens = fold-Exp Printed exp_at
