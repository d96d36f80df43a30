-- Tokens that several kinds of trees share: brackets, separators and names.
use Rattle.std.specs.Prelude.{ℕ, zero, suc, List, [], ◌∷◌, ◌++◌, map, Option, Some, None, if◌then◌else◌}
use Rattle.std.specs.List.{flat_map}
use Rattle.rml_syntax.specs.declared.token.Token.{Token}
use Rattle.rml_syntax.specs.declared.token.Token.TheVariants as token
use Rattle.rml_syntax.specs.declared.token.Mark.{Mark}
use Rattle.rml_syntax.specs.declared.token.Mark.TheVariants as mark
use Rattle.rml_syntax.specs.declared.rules.Long.{Long}
use Rattle.rml_print.specs.declared.seats.Seat.{Seat}
use Rattle.rml_print.specs.declared.seats.Seat.TheVariants.{Free, OnlyResult}
use Rattle.rml_print.specs.declared.seats.Shape.{Shape}
use Rattle.rml_print.specs.Seats.{is_bracketed}

-- what a tree prints as, by where it stands
abbrev pub Printed : Type 0
Printed = Seat → List Token

abbrev pub in_round : List Token → List Token
in_round ts = token.Sign mark.OpenRound ∷ ts ++ token.Sign mark.CloseRound ∷ []

abbrev pub in_square : List Token → List Token
in_square ts = token.Sign mark.OpenSquare ∷ ts ++ token.Sign mark.CloseSquare ∷ []

-- a tree of some shape, with brackets where its seat wants them
abbrev pub seated : Shape → List Token → Printed
seated shape ts seat = if is_bracketed seat shape then in_round ts else ts

-- each behind its separator
abbrev pub led : Token → List (List Token) → List Token
led separator = flat_map (λ ts. separator ∷ ts)

-- with a separator between them
abbrev pub separated : Token → List (List Token) → List Token
separated separator [] = []
separated separator (ts ∷ more) = ts ++ led separator more

-- what stands before the item of a number: a separator, but before the first
unfoldable pub separator_before : Token → ℕ → List Token
separator_before separator zero = []
separator_before separator (suc n) = separator ∷ []

-- all in one seat, with a sign between them
abbrev pub listed : Mark → Seat → List Printed → List Token
listed m seat ps = separated (token.Sign m) (map (λ p. p seat) ps)

-- in round brackets, with commas
abbrev pub tupled : List Printed → List Token
tupled ps = in_round (listed mark.Comma Free ps)

-- the results of a rule or a call: left out where there are none
abbrev pub results_tokens : List Printed → List Token
results_tokens [] = []
results_tokens (p ∷ []) = token.Sign mark.Arrow ∷ p OnlyResult
results_tokens (p ∷ q ∷ ps) = token.Sign mark.Arrow ∷ tupled (p ∷ q ∷ ps)

-- a name with or without its module
abbrev pub long_by : Option ℕ → ℕ → List Token
long_by None n = token.Name n ∷ []
long_by (Some m) n = token.Name m ∷ token.Sign mark.Dot ∷ token.Name n ∷ []

abbrev pub long_tokens : Long → List Token
long_tokens l = long_by l.module l.name
