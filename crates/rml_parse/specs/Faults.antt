-- What a list of tokens is, all of it: a text within the limits, or one at which reading stops, with the place and the kind of
-- the fault there.
use Rattle.std.specs.Prelude.{◌≡◌, List, [], ◌∷◌, ◌++◌}
use Rattle.rml_base.specs.declared.limits.TheConstants.{NESTING, RULES}
use Rattle.rml_base.specs.declared.place.Place.{Place}
use Rattle.rml_syntax.specs.declared.token.Spot.{Spot}
use Rattle.rml_syntax.specs.declared.texts.Text.{Text}
use Rattle.rml_grammar.specs.Beginnings.{Begins, GoesOn, IsText, IsTextWithin}
use Rattle.rml_grammar.specs.declared.fault.ParseKind.{ParseKind}
use Rattle.rml_grammar.specs.declared.fault.ParseKind.TheVariants as kind
use Rattle.rml_grammar.specs.Limits.{IsAtLimit, WithinLimits}
use Rattle.rml_grammar.specs.SpelledTexts.{Derives}
use Rattle.rml_parse.specs.declared.answer.ParseErr.{ParseErr}
use Rattle.rml_parse.specs.declared.answer.ParseErr.TheVariants as error

-- the tree derives from the tokens, and no bracket and no rule among them is one too many
pub record IsTree (end : Place) (us : List Spot) (t : Text) : Type 0 where
  pub derived : Derives end us t
  pub within : WithinLimits NESTING RULES us

-- a text's tokens with no bracket and no rule too many
abbrev pub IsAllowed : List Spot → Type 0
IsAllowed us = IsTextWithin NESTING RULES us

-- the place of the first of the rest, or the end place where nothing is left
abbrev pub place_of : Place → List Spot → Place
place_of end [] = end
place_of end (s ∷ rest) = s.place

-- What a fault of this kind means at the first of the rest. Unexpected: no text goes on with it. Either limit: it is the bracket
-- or the rule that passes it, and some text goes on with it.
abbrev pub IsWrong : ParseKind → List Spot → List Spot → Type 0
IsWrong kind.Unexpected before rest = ¬ GoesOn IsText before rest
IsWrong kind.TooDeep before rest = IsAtLimit kind.TooDeep NESTING RULES before rest × GoesOn IsText before rest
IsWrong kind.TooManyRules before rest = IsAtLimit kind.TooManyRules NESTING RULES before rest × GoesOn IsText before rest

-- Reading the tokens, of a text that ends at `end`, stops at this place with a fault of this kind: at one cut of the tokens.
pub record StopsAt (end : Place) (us : List Spot) (place : Place) (kind : ParseKind) : Type 0 where
  pub before : List Spot
  pub rest : List Spot
  pub cut : us ≡ before ++ rest
  pub place_is : place ≡ place_of end rest
  -- a text within the limits begins with the tokens before, and none goes on with the first of the rest
  pub begun : Begins IsAllowed before
  pub refused : ¬ GoesOn IsAllowed before rest
  pub wrong : IsWrong kind before rest

abbrev pub IsFault : Place → List Spot → ParseErr → Type 0
IsFault end us error.Memory = ⊥
IsFault end us (error.At place kind) = StopsAt end us place kind

-- a limit is passed
abbrev pub PassesLimit : ParseErr → Type 0
PassesLimit error.Memory = ⊥
PassesLimit (error.At place kind.Unexpected) = ⊥
PassesLimit (error.At place kind.TooDeep) = Unit {0}
PassesLimit (error.At place kind.TooManyRules) = Unit {0}
