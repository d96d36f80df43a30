-- What a list of tokens begins with, as cases.
use Rattle.std.proofs.Common.{◌≡◌, ℕ, List, [], ◌∷◌, refl, sym, subst, Some, None, Bool, true, false}
use Rattle.std.specs.Prelude.{if◌then◌else◌}
use denote.Enum.Bare.{sameb, same_true}
use Rattle.rml_base.specs.declared.place.Place.{Place}
use Rattle.rml_syntax.specs.declared.token.Spot.{Spot}
use Rattle.rml_syntax.specs.declared.token.Token.{Token}
use Rattle.rml_syntax.specs.declared.token.Token.TheVariants as token
use Rattle.rml_syntax.specs.declared.token.Lit.{Lit}
use Rattle.rml_syntax.specs.declared.token.Key.{Key}
use Rattle.rml_syntax.specs.declared.token.Key.TheVariants as key
use Rattle.rml_syntax.specs.declared.token.Mark.{Mark}
use Rattle.rml_syntax.specs.declared.token.Mark.TheVariants as mark
use Rattle.rml_syntax.specs.contracts.token.Mark as marks
use Rattle.rml_syntax.specs.contracts.token.Key as keys
use Rattle.rml_grammar.specs.declared.front.Front.TheVariants as front
use Rattle.rml_grammar.specs.declared.front.Opening.TheVariants as opening
use Rattle.rml_grammar.specs.Tokens.{word, named, tyvar, literal, sign, dashes, after, after_word, front_of, opening_of}
use Rattle.rml_grammar.specs.Lacks.{LacksBinder}

-- by what stands first, where one token decides
pub data Begins : List Spot → Type 0 where
  a_literal : {l : Lit} {p : Place} {us : List Spot} → Begins (literal l p ∷ us)
  a_name : {n : ℕ} {p : Place} {us : List Spot} → Begins (named n p ∷ us)
  a_tyvar : {n : ℕ} {p : Place} {us : List Spot} → Begins (tyvar n p ∷ us)
  a_round : {p : Place} {us : List Spot} → Begins (sign mark.OpenRound p ∷ us)
  a_square : {p : Place} {us : List Spot} → Begins (sign mark.OpenSquare p ∷ us)
  a_wild : {p : Place} {us : List Spot} → Begins (sign mark.Wild p ∷ us)
  a_let : {p : Place} {us : List Spot} → Begins (word key.KLet p ∷ us)
  a_not : {p : Place} {us : List Spot} → Begins (word key.KNot p ∷ us)
  a_line : {n : ℕ} {p : Place} {us : List Spot} → Begins (dashes n p ∷ us)
  another : {us : List Spot} → front_of us ≡ front.Other → Begins us

begins-sign : (m : Mark) (p : Place) (us : List Spot) → Begins (sign m p ∷ us)
begins-sign mark.OpenRound p us = a_round
begins-sign mark.OpenSquare p us = a_square
begins-sign mark.Wild p us = a_wild
begins-sign m p us = another refl

begins-word : (k : Key) (p : Place) (us : List Spot) → Begins (word k p ∷ us)
begins-word key.KLet p us = a_let
begins-word key.KNot p us = a_not
begins-word k p us = another refl

begins-in : (t : Token) (p : Place) (us : List Spot) → Begins (record { token = t; place = p } ∷ us)
begins-in (token.Word k) p us = begins-word k p us
begins-in (token.Name n) p us = a_name
begins-in (token.TyVar n) p us = a_tyvar
begins-in (token.Lit l) p us = a_literal
begins-in (token.Sign m) p us = begins-sign m p us
begins-in (token.Dashes n) p us = a_line

pub begins : (us : List Spot) → Begins us
begins [] = another refl
begins (s ∷ us) = begins-in s.token s.place us

-- the same for declarations and rules
pub data Opens : List Spot → Type 0 where
  a_with : {p : Place} {us : List Spot} → Opens (word key.KWith p ∷ us)
  a_datatype : {p : Place} {us : List Spot} → Opens (word key.KDatatype p ∷ us)
  a_type : {p : Place} {us : List Spot} → Opens (word key.KType p ∷ us)
  an_abstype : {p : Place} {us : List Spot} → Opens (word key.KAbstype p ∷ us)
  a_val : {p : Place} {us : List Spot} → Opens (word key.KVal p ∷ us)
  a_relation : {p : Place} {us : List Spot} → Opens (word key.KRelation p ∷ us)
  a_rule : {p : Place} {us : List Spot} → Opens (word key.KRule p ∷ us)
  an_axiom : {p : Place} {us : List Spot} → Opens (word key.KAxiom p ∷ us)
  nothing : {us : List Spot} → opening_of us ≡ opening.Other → Opens us

opens-word : (k : Key) (p : Place) (us : List Spot) → Opens (word k p ∷ us)
opens-word key.KWith p us = a_with
opens-word key.KDatatype p us = a_datatype
opens-word key.KType p us = a_type
opens-word key.KAbstype p us = an_abstype
opens-word key.KVal p us = a_val
opens-word key.KRelation p us = a_relation
opens-word key.KRule p us = a_rule
opens-word key.KAxiom p us = an_axiom
opens-word k p us = nothing refl

opens-in : (t : Token) (p : Place) (us : List Spot) → Opens (record { token = t; place = p } ∷ us)
opens-in (token.Word k) p us = opens-word k p us
opens-in (token.Name n) p us = nothing refl
opens-in (token.TyVar n) p us = nothing refl
opens-in (token.Lit l) p us = nothing refl
opens-in (token.Sign m) p us = nothing refl
opens-in (token.Dashes n) p us = nothing refl

pub opens : (us : List Spot) → Opens us
opens [] = nothing refl
opens (s ∷ us) = opens-in s.token s.place us

-- a sign that stands first, or does not
pub data Has (m : Mark) : List Spot → Type 0 where
  there : {p : Place} {us : List Spot} → Has m (sign m p ∷ us)
  lacking : {us : List Spot} → after m us ≡ None → Has m us

lacks-if : (b : Bool) (us : List Spot) → b ≡ false → (if b then Some us else None) ≡ None
lacks-if true us e = absurd (cc e)
lacks-if false us e = refl

has-sign : (m t : Mark) (p : Place) (us : List Spot) (b : Bool) → sameb marks.the_type t m ≡ b → Has m (sign t p ∷ us)
has-sign m t p us true e = let P : Mark → Type 0 = λ t. Has m (sign t p ∷ us) in subst P (sym (same_true marks.the_type tt t m e)) there
has-sign m t p us false e = lacking (lacks-if (sameb marks.the_type t m) us e)

has-in : (m : Mark) (t : Token) (p : Place) (us : List Spot) → Has m (record { token = t; place = p } ∷ us)
has-in m (token.Word k) p us = lacking refl
has-in m (token.Name n) p us = lacking refl
has-in m (token.TyVar n) p us = lacking refl
has-in m (token.Lit l) p us = lacking refl
has-in m (token.Sign t) p us = has-sign m t p us (sameb marks.the_type t m) refl
has-in m (token.Dashes n) p us = lacking refl

pub has : (m : Mark) (us : List Spot) → Has m us
has m [] = lacking refl
has m (s ∷ us) = has-in m s.token s.place us

-- a word that stands first, or does not
pub data HasWord (k : Key) : List Spot → Type 0 where
  said : {p : Place} {us : List Spot} → HasWord k (word k p ∷ us)
  unsaid : {us : List Spot} → after_word k us ≡ None → HasWord k us

has-key : (k t : Key) (p : Place) (us : List Spot) (b : Bool) → sameb keys.the_type t k ≡ b → HasWord k (word t p ∷ us)
has-key k t p us true e = let P : Key → Type 0 = λ t. HasWord k (word t p ∷ us) in subst P (sym (same_true keys.the_type tt t k e)) said
has-key k t p us false e = unsaid (lacks-if (sameb keys.the_type t k) us e)

has-word-in : (k : Key) (t : Token) (p : Place) (us : List Spot) → HasWord k (record { token = t; place = p } ∷ us)
has-word-in k (token.Word t) p us = has-key k t p us (sameb keys.the_type t k) refl
has-word-in k (token.Name n) p us = unsaid refl
has-word-in k (token.TyVar n) p us = unsaid refl
has-word-in k (token.Lit l) p us = unsaid refl
has-word-in k (token.Sign m) p us = unsaid refl
has-word-in k (token.Dashes n) p us = unsaid refl

pub has-word : (k : Key) (us : List Spot) → HasWord k us
has-word k [] = unsaid refl
has-word k (s ∷ us) = has-word-in k s.token s.place us

-- a sign is itself
pub same-sign : (m : Mark) (p : Place) (us : List Spot) → after m (sign m p ∷ us) ≡ Some us
same-sign mark.OpenRound p us = refl
same-sign mark.CloseRound p us = refl
same-sign mark.OpenSquare p us = refl
same-sign mark.CloseSquare p us = refl
same-sign mark.Comma p us = refl
same-sign mark.Colon p us = refl
same-sign mark.TwoColons p us = refl
same-sign mark.Arrow p us = refl
same-sign mark.Equals p us = refl
same-sign mark.Amp p us = refl
same-sign mark.Bar p us = refl
same-sign mark.Star p us = refl
same-sign mark.Dot p us = refl
same-sign mark.Wild p us = refl

-- a name and an `as` that stand first, or do not
pub data Binds : List Spot → Type 0 where
  an_as : {n : ℕ} {p q : Place} {us : List Spot} → Binds (named n p ∷ word key.KAs q ∷ us)
  no_as : {us : List Spot} → LacksBinder us → Binds us

binds-name : (n : ℕ) (p : Place) (us : List Spot) → HasWord key.KAs us → Binds (named n p ∷ us)
binds-name n p us said = an_as
binds-name n p us (unsaid e) = no_as e

binds-in : (t : Token) (p : Place) (us : List Spot) → Binds (record { token = t; place = p } ∷ us)
binds-in (token.Word k) p us = no_as tt
binds-in (token.Name n) p us = binds-name n p us (has-word key.KAs us)
binds-in (token.TyVar n) p us = no_as tt
binds-in (token.Lit l) p us = no_as tt
binds-in (token.Sign m) p us = no_as tt
binds-in (token.Dashes n) p us = no_as tt

pub binds : (us : List Spot) → Binds us
binds [] = no_as tt
binds (s ∷ us) = binds-in s.token s.place us

-- a word is itself
pub same-word : (k : Key) (p : Place) (us : List Spot) → after_word k (word k p ∷ us) ≡ Some us
same-word key.KAbstype p us = refl
same-word key.KAnd p us = refl
same-word key.KAs p us = refl
same-word key.KAxiom p us = refl
same-word key.KDatatype p us = refl
same-word key.KDefault p us = refl
same-word key.KEnd p us = refl
same-word key.KEqtype p us = refl
same-word key.KLet p us = refl
same-word key.KModule p us = refl
same-word key.KNot p us = refl
same-word key.KOf p us = refl
same-word key.KRelation p us = refl
same-word key.KRule p us = refl
same-word key.KType p us = refl
same-word key.KVal p us = refl
same-word key.KWith p us = refl
same-word key.KWithtype p us = refl
