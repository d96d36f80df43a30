-- Tokens with their places, and what stands first in a list of them.
use Rattle.std.specs.Prelude.{◌≡◌, ℕ, List, [], ◌∷◌, Option, Some, None, if◌then◌else◌}
use denote.Enum.Bare.{sameb}
use Rattle.rml_base.specs.declared.place.Place.{Place}
use Rattle.rml_syntax.specs.declared.token.Spot.{Spot}
use Rattle.rml_syntax.specs.declared.token.Token.{Token}
use Rattle.rml_syntax.specs.declared.token.Token.TheVariants as token
use Rattle.rml_syntax.specs.declared.token.Lit.{Lit}
use Rattle.rml_syntax.specs.declared.token.Key.{Key}
use Rattle.rml_syntax.specs.declared.token.Key.TheVariants as key
use Rattle.rml_syntax.specs.declared.token.Mark.{Mark}
use Rattle.rml_syntax.specs.declared.token.Mark.TheVariants as mark
use Rattle.rml_syntax.specs.contracts.token.Mark as marks
use Rattle.rml_syntax.specs.contracts.token.Key as keys
use Rattle.rml_grammar.specs.declared.front.Opening.{Opening}
use Rattle.rml_grammar.specs.declared.front.Opening.TheVariants as opening
use Rattle.rml_grammar.specs.declared.front.Front.{Front}
use Rattle.rml_grammar.specs.declared.front.Front.TheVariants as front

-- a token of each kind, at a place
abbrev pub word : Key → Place → Spot
word k p = record { token = token.Word k; place = p }

abbrev pub named : ℕ → Place → Spot
named n p = record { token = token.Name n; place = p }

abbrev pub tyvar : ℕ → Place → Spot
tyvar n p = record { token = token.TyVar n; place = p }

abbrev pub literal : Lit → Place → Spot
literal l p = record { token = token.Lit l; place = p }

abbrev pub sign : Mark → Place → Spot
sign m p = record { token = token.Sign m; place = p }

abbrev pub dashes : ℕ → Place → Spot
dashes n p = record { token = token.Dashes n; place = p }

-- what follows the sign, if it stands first
abbrev pub after_in : Mark → Token → List Spot → Option (List Spot)
after_in m (token.Sign t) us = if sameb marks.the_type t m then Some us else None
after_in m _ us = None

abbrev pub after : Mark → List Spot → Option (List Spot)
after m [] = None
after m (s ∷ us) = after_in m s.token us

-- what follows the word, if it stands first
abbrev pub after_word_in : Key → Token → List Spot → Option (List Spot)
after_word_in k (token.Word t) us = if sameb keys.the_type t k then Some us else None
after_word_in k _ us = None

abbrev pub after_word : Key → List Spot → Option (List Spot)
after_word k [] = None
after_word k (s ∷ us) = after_word_in k s.token us

-- another token stands first, or none
abbrev pub Lacks : Mark → List Spot → Type 0
Lacks m us = after m us ≡ None

-- no such word stands first
abbrev pub LacksWord : Key → List Spot → Type 0
LacksWord k us = after_word k us ≡ None

abbrev pub front_in : Token → Place → Front
front_in (token.Lit l) p = front.Literal l
front_in (token.Name n) p = front.Named
front_in (token.TyVar v) p = front.TyVar v p
front_in (token.Dashes n) p = front.Dashes
front_in (token.Sign mark.OpenRound) p = front.Round
front_in (token.Sign mark.OpenSquare) p = front.Square
front_in (token.Sign mark.Wild) p = front.Wild
front_in (token.Sign m) p = front.Other
front_in (token.Word key.KLet) p = front.Let
front_in (token.Word key.KNot) p = front.Not
front_in (token.Word k) p = front.Other

-- what stands first, where a type, a pattern, an expression or a goal may
abbrev pub front_of : List Spot → Front
front_of [] = front.Other
front_of (s ∷ us) = front_in s.token s.place

abbrev pub opening_in : Token → Place → Opening
opening_in (token.Word key.KWith) p = opening.With p
opening_in (token.Word key.KDatatype) p = opening.Datatype
opening_in (token.Word key.KType) p = opening.Type
opening_in (token.Word key.KAbstype) p = opening.Abstype
opening_in (token.Word key.KVal) p = opening.Val
opening_in (token.Word key.KRelation) p = opening.Relation
opening_in (token.Word key.KRule) p = opening.Rule p
opening_in (token.Word key.KAxiom) p = opening.Axiom p
opening_in (token.Word k) p = opening.Other
opening_in (token.Lit l) p = opening.Other
opening_in (token.Name n) p = opening.Other
opening_in (token.TyVar v) p = opening.Other
opening_in (token.Dashes n) p = opening.Other
opening_in (token.Sign m) p = opening.Other

-- what stands first, where a declaration or a rule may
abbrev pub opening_of : List Spot → Opening
opening_of [] = opening.Other
opening_of (s ∷ us) = opening_in s.token s.place

-- all but the first
abbrev pub rest_of : List Spot → List Spot
rest_of [] = []
rest_of (s ∷ us) = us
