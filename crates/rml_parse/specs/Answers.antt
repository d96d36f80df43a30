-- What the private functions of the public call answer: a fault counts the tokens that are left, and is answered with its place.
use Rattle.std.specs.Prelude.{◌≡◌, ℕ, ◌-◌, List, length, Option, Some, None, Result, Ok, Err, slice_get}
use Rattle.rml_base.specs.Answers.{Explains}
use Rattle.rml_base.specs.declared.place.Place.{Place}
use Rattle.rml_syntax.specs.declared.token.Spot.{Spot}
use Rattle.rml_syntax.specs.declared.texts.Text.{Text}
use Rattle.rml_grammar.specs.declared.fault.Fault.{Fault}
use Rattle.rml_phrases.specs.declared.stop.Stop.{Stop}
use Rattle.rml_phrases.specs.declared.stop.Stop.TheVariants as stop
use Rattle.rml_parse.specs.declared.answer.ParseErr.{ParseErr}
use Rattle.rml_parse.specs.declared.answer.ParseErr.TheVariants as error

abbrev pub place_or : Place → Option Spot → Place
place_or end None = end
place_or end (Some s) = s.place

-- the place of the token at which so many are left
abbrev pub place_left : Place → ℕ → List Spot → Place
place_left end n us = place_or end (slice_get us (length us - n))

-- the answer for a stop
abbrev pub PlacedAs : Place → List Spot → Stop → ParseErr → Type 0
PlacedAs end us stop.Memory e = e ≡ error.Memory
PlacedAs end us (stop.At f) e = e ≡ error.At (place_left end f.left us) f.kind

-- the error is the fault that reading gives, with its place
abbrev pub IsFaultOf : Place → List Spot → Result Text Fault → ParseErr → Type 0
IsFaultOf end us read error.Memory = ⊥
IsFaultOf end us read (error.At p k) = (f : Fault) × (read ≡ Err f) × (p ≡ place_left end f.left us) × (k ≡ f.kind)

-- the answer is what reading gives, unless memory ran out
abbrev pub Says : Place → List Spot → Result Text ParseErr → Result Text Fault → Type 0
Says end us result read = Explains error.Memory result (λ t. read ≡ Ok t) (IsFaultOf end us read)
