-- Reading from the front of a list of tokens: how the grammar of functions is put together.
use Rattle.std.specs.Prelude.{ℕ, zero, suc, List, [], ◌∷◌, length, Option, Some, None, Result, Ok, Err}
use Rattle.rml_base.specs.declared.place.Place.{Place}
use Rattle.rml_syntax.specs.declared.token.Spot.{Spot}
use Rattle.rml_syntax.specs.declared.token.Token.{Token}
use Rattle.rml_syntax.specs.declared.token.Token.TheVariants as token
use Rattle.rml_syntax.specs.declared.token.Mark.{Mark}
use Rattle.rml_syntax.specs.declared.token.Mark.TheVariants as mark
use Rattle.rml_syntax.specs.declared.rules.Long.{Long}
use Rattle.rml_grammar.specs.declared.fault.Fault.{Fault}
use Rattle.rml_grammar.specs.declared.fault.ParseKind.{ParseKind}
use Rattle.rml_grammar.specs.declared.fault.ParseKind.TheVariants as kind
use Rattle.rml_grammar.specs.Tokens.{after}
use Rattle.rml_grammar.specs.Trees.{short, within}

infixl 10 ◌>>=◌
abbrev pub ◌>>=◌ : {A B : Type 0} → Result A Fault → (A → Result B Fault) → Result B Fault
(Ok x) >>= f = f x
(Err e) >>= f = Err e

-- what is read from the front, and the tokens after it
abbrev pub Parser : Type 0 → Type 0
Parser A = List Spot → Result (A × List Spot) Fault

abbrev pub refused : {A : Type 0} → ParseKind → List Spot → Result A Fault
refused k us = Err (record { kind = k; left = length us })

abbrev pub unexpected : {A : Type 0} → List Spot → Result A Fault
unexpected us = refused kind.Unexpected us

-- {open p}, at most so many turns
abbrev pub follows : {A : Type 0} → (List Spot → Option (List Spot)) → Parser A → ℕ → Parser (List A)
follows opens p zero us = Ok ([], us)
follows opens p (suc k) us = elim (opens us) [
  | None ↦ Ok ([], us)
  | Some vs ↦ p vs >>= λ x. follows opens p k x.1 >>= λ xs. Ok (x.0 ∷ xs.0, xs.1)
]

-- {open p}, as long as one opens
abbrev pub repeated : {A : Type 0} → (List Spot → Option (List Spot)) → Parser A → Parser (List A)
repeated opens p us = follows opens p (length us) us

-- p {open p}
abbrev pub separated : {A : Type 0} → (List Spot → Option (List Spot)) → Parser A → Parser (List A)
separated opens p us = p us >>= λ x. repeated opens p x.1 >>= λ xs. Ok (x.0 ∷ xs.0, xs.1)

-- and then what o looks for, as a sign or a word
abbrev pub then_by : {A : Type 0} → A → List Spot → Option (List Spot) → Result (A × List Spot) Fault
then_by x us None = unexpected us
then_by x us (Some vs) = Ok (x, vs)

abbrev pub before : {A : Type 0} → (List Spot → Option (List Spot)) → A × List Spot → Result (A × List Spot) Fault
before o x = then_by x.0 x.1 (o x.1)

-- p {`,` p} and the closing bracket
abbrev pub enclosed : {A : Type 0} → Mark → Parser A → Parser (List A)
enclosed s p us = separated (after mark.Comma) p us >>= before (after s)

-- nothing, or p {`,` p}, and the closing bracket
abbrev pub enclosed_or_none : {A : Type 0} → Mark → Parser A → Parser (List A)
enclosed_or_none s p us = elim (after s us) [
  | None ↦ enclosed s p us
  | Some vs ↦ Ok ([], vs)
]

-- what stands behind a bracket that stands first in us; no parser: the bracket is one too many
abbrev pub inside : {A B : Type 0} → Option A → (A → Parser B) → List Spot → Parser B
inside None p us vs = refused kind.TooDeep us
inside (Some a) p us vs = p a vs

abbrev pub name_in : List Spot → Token → Place → List Spot → Result ((ℕ × Place) × List Spot) Fault
name_in whole (token.Name n) p us = Ok ((n, p), us)
name_in whole _ p us = unexpected whole

-- a name, and its place
abbrev pub name_at : Parser (ℕ × Place)
name_at [] = unexpected []
name_at (s ∷ us) = name_in (s ∷ us) s.token s.place us

-- name [`.` name]
abbrev pub qualified : ℕ × Place → List Spot → Option (List Spot) → Result (Long × List Spot) Fault
qualified first rest None = Ok (short first, rest)
qualified first rest (Some us) = name_at us >>= λ n. Ok (within first n.0.0, n.1)

unfoldable pub long_at : Parser Long
long_at us = name_at us >>= λ first. qualified first.0 first.1 (after mark.Dot first.1)
