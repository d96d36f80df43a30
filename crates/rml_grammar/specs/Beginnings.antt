-- Which lists of tokens begin a text.
use Rattle.std.specs.Prelude.{ℕ, List, [], ◌∷◌, ◌++◌}
use Rattle.rml_base.specs.declared.place.Place.{Place}
use Rattle.rml_syntax.specs.declared.token.Spot.{Spot}
use Rattle.rml_syntax.specs.declared.texts.Text.{Text}
use Rattle.rml_grammar.specs.Limits.{WithinLimits}
use Rattle.rml_grammar.specs.SpelledTexts.{Derives}

-- the tokens are a text's, wherever that ends
abbrev pub IsText : List Spot → Type 0
IsText us = (end : Place) × (t : Text) × Derives end us t

-- and no bracket opens where n are open, and no rule begins where its relation has m
abbrev pub IsTextWithin : ℕ → ℕ → List Spot → Type 0
IsTextWithin n m us = IsText us × WithinLimits n m us

-- some tokens can follow these, so that the whole is such a list
abbrev pub Begins : (List Spot → Type 0) → List Spot → Type 0
Begins P us = (others : List Spot) × P (us ++ others)

-- Such a list begins with the tokens before and the first of the rest; where nothing is left, those before are one.
abbrev pub GoesOn : (List Spot → Type 0) → List Spot → List Spot → Type 0
GoesOn P before [] = P before
GoesOn P before (s ∷ rest) = (others : List Spot) × P (before ++ s ∷ others)
