-- What is a name with or without a module. What may be left out is, only where it does not follow.
use Rattle.std.specs.Prelude.{ℕ, List, ◌∷◌}
use Rattle.rml_base.specs.declared.place.Place.{Place}
use Rattle.rml_syntax.specs.declared.token.Spot.{Spot}
use Rattle.rml_syntax.specs.declared.token.Mark.TheVariants as mark
use Rattle.rml_syntax.specs.declared.rules.Long.{Long}
use Rattle.rml_grammar.specs.Tokens.{named, sign, Lacks}
use Rattle.rml_grammar.specs.Trees.{short, within}

-- long = name [`.` name]
pub data IsLong : List Spot → Long → List Spot → Type 0 where
  alone : {n : ℕ} {p : Place} {rest : List Spot} → Lacks mark.Dot rest → IsLong (named n p ∷ rest) (short (n, p)) rest
  dotted : {m n : ℕ} {p q r : Place} {rest : List Spot} → IsLong (named m p ∷ sign mark.Dot q ∷ named n r ∷ rest) (within (m, p) n) rest
