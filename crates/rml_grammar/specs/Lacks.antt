-- What does not stand first in a list of tokens, where more than one token decides, or one of several.
use Rattle.std.specs.Prelude.{◌≡◌, Bool, true, false, List, [], ◌∷◌}
use Rattle.rml_syntax.specs.declared.token.Spot.{Spot}
use Rattle.rml_syntax.specs.declared.token.Token.{Token}
use Rattle.rml_syntax.specs.declared.token.Token.TheVariants as token
use Rattle.rml_syntax.specs.declared.token.Key.TheVariants as key
use Rattle.rml_grammar.specs.declared.front.Front.{Front}
use Rattle.rml_grammar.specs.declared.front.Front.TheVariants as front
use Rattle.rml_grammar.specs.declared.front.Opening.{Opening}
use Rattle.rml_grammar.specs.declared.front.Opening.TheVariants as opening
use Rattle.rml_grammar.specs.Tokens.{LacksWord, front_of, opening_of}

abbrev pub is_named : Front → Bool
is_named front.Named = true
is_named f = false

-- no name stands first
abbrev pub LacksName : List Spot → Type 0
LacksName us = is_named (front_of us) ≡ false

-- no `as` follows a name that stands first
abbrev pub LacksAs : Token → List Spot → Type 0
LacksAs (token.Name n) us = LacksWord key.KAs us
LacksAs t us = Unit {0}

abbrev pub LacksBinder : List Spot → Type 0
LacksBinder [] = Unit {0}
LacksBinder (s ∷ us) = LacksAs s.token us

abbrev pub begins_clause : Opening → Bool
begins_clause (opening.Rule p) = true
begins_clause (opening.Axiom p) = true
begins_clause o = false

-- no rule begins here
abbrev pub LacksClause : List Spot → Type 0
LacksClause us = begins_clause (opening_of us) ≡ false

abbrev pub begins_spec : Opening → Bool
begins_spec opening.Datatype = true
begins_spec opening.Type = true
begins_spec opening.Abstype = true
begins_spec opening.Val = true
begins_spec opening.Relation = true
begins_spec o = false

-- no declaration of an interface begins here
abbrev pub LacksSpec : List Spot → Type 0
LacksSpec us = begins_spec (opening_of us) ≡ false

abbrev pub begins_decl : Opening → Bool
begins_decl opening.Datatype = true
begins_decl opening.Type = true
begins_decl opening.Val = true
begins_decl opening.Relation = true
begins_decl o = false

-- no declaration of a body begins here
abbrev pub LacksDecl : List Spot → Type 0
LacksDecl us = begins_decl (opening_of us) ≡ false

abbrev pub begins_uses : Opening → Bool
begins_uses (opening.With p) = true
begins_uses o = false

-- no `with` begins here
abbrev pub LacksUses : List Spot → Type 0
LacksUses us = begins_uses (opening_of us) ≡ false
