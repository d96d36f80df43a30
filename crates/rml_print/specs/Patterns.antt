-- Patterns as tokens.
use Rattle.std.specs.Prelude.{List, [], ◌∷◌, ◌++◌}
use Rattle.rml_syntax.specs.declared.token.Token.{Token}
use Rattle.rml_syntax.specs.declared.token.Token.TheVariants as token
use Rattle.rml_syntax.specs.declared.token.Key.TheVariants as key
use Rattle.rml_syntax.specs.declared.token.Mark.TheVariants as mark
use Rattle.rml_syntax.specs.declared.rules.Pattern.{Pattern, fold-Pattern}
use Rattle.rml_syntax.specs.declared.rules.Pattern.TheOpen.{Pattern-F}
use Rattle.rml_print.specs.declared.seats.Seat.TheVariants.{Free, Item, BehindAs}
use Rattle.rml_print.specs.Seats.{pattern_shape_at}
use Rattle.rml_print.specs.Parts.{Printed, in_square, seated, listed, tupled, long_tokens}

-- a pattern without brackets of its seat; an application and a tuple have brackets of their own
abbrev pub bare_pattern : Pattern-F Printed → List Token
bare_pattern Pattern-F.Any = token.Sign mark.Wild ∷ []
bare_pattern (Pattern-F.Lit l) = token.Lit l ∷ []
bare_pattern (Pattern-F.Name l) = long_tokens l
bare_pattern (Pattern-F.App l ps) = long_tokens l ++ tupled ps
bare_pattern (Pattern-F.Tuple ps) = tupled ps
bare_pattern (Pattern-F.List ps) = in_square (listed mark.Comma Free ps)
bare_pattern (Pattern-F.Cons ps) = listed mark.TwoColons Item ps
bare_pattern (Pattern-F.Bind n at p) = token.Name n ∷ token.Word key.KAs ∷ p BehindAs

abbrev pub pattern_at : Pattern-F Printed → Printed
pattern_at p = seated (pattern_shape_at p) (bare_pattern p)

abbrev pub pattern_tokens : Pattern → Printed
pattern_tokens = fold-Pattern Printed pattern_at
