-- What does not stand first, in the words of the relation and as the grammar of functions asks it.
use Rattle.std.proofs.Common.{◌≡◌, false, List, [], ◌∷◌, refl, None}
use Rattle.rml_base.specs.declared.place.Place.{Place}
use Rattle.rml_syntax.specs.declared.token.Spot.{Spot}
use Rattle.rml_syntax.specs.declared.token.Token.{Token}
use Rattle.rml_syntax.specs.declared.token.Token.TheVariants as token
use Rattle.rml_grammar.specs.declared.front.Front.{Front}
use Rattle.rml_grammar.specs.declared.front.Front.TheVariants as front
use Rattle.rml_grammar.specs.declared.front.Opening.{Opening}
use Rattle.rml_grammar.specs.declared.front.Opening.TheVariants as opening
use Rattle.rml_grammar.specs.Tokens.{front_of, opening_of}
use Rattle.rml_grammar.specs.Lacks.{LacksAs, LacksBinder, LacksClause, LacksDecl, LacksName, LacksSpec, LacksUses, begins_clause, begins_decl, begins_spec, begins_uses, is_named}
use Rattle.rml_grammar.specs.Patterns.{binder_at, binder_in}
use Rattle.rml_grammar.specs.Texts.{clause_next, clause_next_by, decl_next, decl_next_by, spec_next, spec_next_by, uses_next, uses_next_by}
use Rattle.rml_grammar.specs.Types.{name_by, name_next}

-- a name
name-none-by : (us : List Spot) (f : Front) → is_named f ≡ false → name_by us f ≡ None
name-none-by us front.Named e = absurd (cc e)
name-none-by us f e = refl

pub name-none : (us : List Spot) → LacksName us → name_next us ≡ None
name-none us e = name-none-by us (front_of us) e

name-lacks-by : (us : List Spot) (f : Front) → name_by us f ≡ None → is_named f ≡ false
name-lacks-by us front.Named e = absurd (cc e)
name-lacks-by us f e = refl

pub name-lacks : (us : List Spot) → name_next us ≡ None → LacksName us
name-lacks us e = name-lacks-by us (front_of us) e

-- a name with an `as`
binder-none-in : (t : Token) (p : Place) (us : List Spot) → LacksAs t us → binder_in t p us ≡ None
binder-none-in (token.Name n) p us h = rw h refl
binder-none-in (token.Word k) p us h = refl
binder-none-in (token.TyVar n) p us h = refl
binder-none-in (token.Lit l) p us h = refl
binder-none-in (token.Sign m) p us h = refl
binder-none-in (token.Dashes n) p us h = refl

pub binder-none : (us : List Spot) → LacksBinder us → binder_at us ≡ None
binder-none [] h = refl
binder-none (s ∷ us) h = binder-none-in s.token s.place us h

-- a rule
clause-none-by : (us : List Spot) (o : Opening) → begins_clause o ≡ false → clause_next_by us o ≡ None
clause-none-by us (opening.Rule p) e = absurd (cc e)
clause-none-by us (opening.Axiom p) e = absurd (cc e)
clause-none-by us o e = refl

pub clause-none : (us : List Spot) → LacksClause us → clause_next us ≡ None
clause-none us e = clause-none-by us (opening_of us) e

clause-lacks-by : (us : List Spot) (o : Opening) → clause_next_by us o ≡ None → begins_clause o ≡ false
clause-lacks-by us (opening.Rule p) e = absurd (cc e)
clause-lacks-by us (opening.Axiom p) e = absurd (cc e)
clause-lacks-by us o e = refl

pub clause-lacks : (us : List Spot) → clause_next us ≡ None → LacksClause us
clause-lacks us e = clause-lacks-by us (opening_of us) e

-- a declaration of an interface
spec-none-by : (us : List Spot) (o : Opening) → begins_spec o ≡ false → spec_next_by us o ≡ None
spec-none-by us opening.Datatype e = absurd (cc e)
spec-none-by us opening.Type e = absurd (cc e)
spec-none-by us opening.Abstype e = absurd (cc e)
spec-none-by us opening.Val e = absurd (cc e)
spec-none-by us opening.Relation e = absurd (cc e)
spec-none-by us o e = refl

pub spec-none : (us : List Spot) → LacksSpec us → spec_next us ≡ None
spec-none us e = spec-none-by us (opening_of us) e

spec-lacks-by : (us : List Spot) (o : Opening) → spec_next_by us o ≡ None → begins_spec o ≡ false
spec-lacks-by us opening.Datatype e = absurd (cc e)
spec-lacks-by us opening.Type e = absurd (cc e)
spec-lacks-by us opening.Abstype e = absurd (cc e)
spec-lacks-by us opening.Val e = absurd (cc e)
spec-lacks-by us opening.Relation e = absurd (cc e)
spec-lacks-by us o e = refl

pub spec-lacks : (us : List Spot) → spec_next us ≡ None → LacksSpec us
spec-lacks us e = spec-lacks-by us (opening_of us) e

-- a declaration of a body
decl-none-by : (us : List Spot) (o : Opening) → begins_decl o ≡ false → decl_next_by us o ≡ None
decl-none-by us opening.Datatype e = absurd (cc e)
decl-none-by us opening.Type e = absurd (cc e)
decl-none-by us opening.Val e = absurd (cc e)
decl-none-by us opening.Relation e = absurd (cc e)
decl-none-by us o e = refl

pub decl-none : (us : List Spot) → LacksDecl us → decl_next us ≡ None
decl-none us e = decl-none-by us (opening_of us) e

decl-lacks-by : (us : List Spot) (o : Opening) → decl_next_by us o ≡ None → begins_decl o ≡ false
decl-lacks-by us opening.Datatype e = absurd (cc e)
decl-lacks-by us opening.Type e = absurd (cc e)
decl-lacks-by us opening.Val e = absurd (cc e)
decl-lacks-by us opening.Relation e = absurd (cc e)
decl-lacks-by us o e = refl

pub decl-lacks : (us : List Spot) → decl_next us ≡ None → LacksDecl us
decl-lacks us e = decl-lacks-by us (opening_of us) e

-- a `with`
uses-none-by : (us : List Spot) (o : Opening) → begins_uses o ≡ false → uses_next_by us o ≡ None
uses-none-by us (opening.With p) e = absurd (cc e)
uses-none-by us o e = refl

pub uses-none : (us : List Spot) → LacksUses us → uses_next us ≡ None
uses-none us e = uses-none-by us (opening_of us) e

uses-lacks-by : (us : List Spot) (o : Opening) → uses_next_by us o ≡ None → begins_uses o ≡ false
uses-lacks-by us (opening.With p) e = absurd (cc e)
uses-lacks-by us o e = refl

pub uses-lacks : (us : List Spot) → uses_next us ≡ None → LacksUses us
uses-lacks us e = uses-lacks-by us (opening_of us) e
