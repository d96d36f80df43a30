-- Tokens whose numbers are below a count of names, and whose integers and characters are in range; and what is a name of such.
use Rattle.std.proofs.Common.{◌≡◌, ℕ, Bool, true, List, [], ◌∷◌, refl}
use Rattle.std.specs.Prelude.{nat_lt}
use Rattle.std.specs.List.{list_all}
use Rattle.rml_syntax.specs.declared.token.Spot.{Spot}
use Rattle.rml_syntax.specs.declared.token.Token.{Token}
use Rattle.rml_syntax.specs.declared.token.Token.TheVariants as token
use Rattle.rml_syntax.specs.declared.rules.Long.{Long}
use Rattle.rml_grammar.specs.SpelledNames.{IsLong, alone, dotted}
use Rattle.rml_grammar.specs.SpelledTypes.{IsLongs, more_longs, no_long}
use Rattle.rml_whole.specs.Parts.{lit_is_formed, long_is_formed}
use Rattle.rml_whole_trees.proofs.Words.{cons-of}

abbrev pub token_is_formed : ℕ → Token → Bool
token_is_formed n (token.Name k) = nat_lt k n
token_is_formed n (token.TyVar k) = nat_lt k n
token_is_formed n (token.Lit l) = lit_is_formed n l
token_is_formed n (token.Word k) = true
token_is_formed n (token.Sign m) = true
token_is_formed n (token.Dashes k) = true

abbrev pub AreFormed : ℕ → List Spot → Type 0
AreFormed n [] = Unit {0}
AreFormed n (s ∷ us) = (token_is_formed n s.token ≡ true) × AreFormed n us

module _ (n : ℕ) where
  pub long-formed : {us rest : List Spot} {l : Long} → IsLong us l rest → AreFormed n us → (long_is_formed n l ≡ true) × AreFormed n rest
  long-formed (alone e) h = (h.0, h.1)
  long-formed dotted h = (rw (h.0, h.1.1.0) refl, h.1.1.1)

  pub longs-formed : {us rest : List Spot} {ls : List Long} → IsLongs us ls rest → AreFormed n us → (list_all (long_is_formed n) ls ≡ true) × AreFormed n rest
  longs-formed (no_long e) h = (refl, h)
  longs-formed (more_longs {l} {ls} a b) h = let x = long-formed a h in let y = longs-formed b x.1 in (cons-of (long_is_formed n) l ls x.0 y.0, y.1)
