-- Which trees and signatures are printed: those of some text.
use Rattle.std.specs.Prelude.{ℕ, ◌<◌, List, ◌++◌, All}
use Rattle.rml_base.specs.declared.place.Place.{Place}
use Rattle.rml_syntax.specs.declared.token.Spot.{Spot}
use Rattle.rml_syntax.specs.declared.types.Sig.{Sig}
use Rattle.rml_syntax.specs.declared.texts.Text.{Text}
use Rattle.rml_lex.specs.Reading.{Spelled, shown}
use Rattle.rml_grammar.specs.SpelledTexts.{Derives}
use Rattle.rml_grammar.specs.SpelledTypes.{IsSig}

-- some bytes spell these tokens, with these names
pub record AreOfSomeBytes (names : List (List ℕ)) (spots : List Spot) : Type 0 where
  pub text : ℕ
  pub bytes : List ℕ
  pub are_bytes : All (λ b. b < 256) bytes
  pub spelled : Spelled text bytes (shown names spots)

-- tokens that some bytes spell have this tree
pub record IsOfSomeText (names : List (List ℕ)) (t : Text) : Type 0 where
  pub spots : List Spot
  pub spelled : AreOfSomeBytes names spots
  pub end : Place
  pub derived : Derives end spots t

-- a signature among such tokens
pub record IsSigOfSomeText (names : List (List ℕ)) (s : Sig) : Type 0 where
  pub front : List Spot
  pub spots : List Spot
  pub rest : List Spot
  pub spelled : AreOfSomeBytes names (front ++ spots)
  pub derived : IsSig spots s rest
