-- What is read as an expression is one.
use Rattle.std.proofs.Common.{◌≡◌, ℕ, zero, suc, List, [], ◌∷◌, refl, subst, ◌⊎◌, inl, inr, Option, Some, None, Ok, false}
use Rattle.rml_base.specs.declared.place.Place.{Place}
use Rattle.rml_syntax.specs.declared.token.Spot.{Spot}
use Rattle.rml_syntax.specs.declared.token.Mark.{Mark}
use Rattle.rml_syntax.specs.declared.token.Mark.TheVariants as mark
use Rattle.rml_syntax.specs.declared.rules.Long.{Long}
use Rattle.rml_syntax.specs.declared.rules.Exp.{Exp}
use Rattle.rml_syntax.specs.declared.rules.Exp.TheVariants as exp
use Rattle.rml_grammar.specs.declared.front.Front.TheVariants as front
use Rattle.rml_grammar.specs.Tokens.{sign, after, front_of}
use Rattle.rml_grammar.specs.Reading.{Parser, repeated, separated, enclosed, enclosed_or_none, inside, long_at}
use Rattle.rml_grammar.specs.Trees.{tuple_exp, chain_exp, applied_exp}
use Rattle.rml_grammar.specs.Expressions.{Inner, eatom_by, eargument_by, eargument, eapp, chained_exp, exp_at}
use Rattle.rml_grammar.specs.SpelledNames.{IsLong}
use Rattle.rml_grammar.specs.SpelledExpressions as s
use Rattle.rml_grammar.specs.SpelledExpressions.{IsExp, IsEapps, IsEapp, IsEargs1, IsEatom, IsExpTuple, IsEatom1, IsExps, IsMoreExps, IsEargs, IsEseq, eargs_begin}
use Rattle.rml_grammar.proofs.Levels.{exp_level}
use Rattle.rml_grammar.proofs.Views as v
use Rattle.rml_grammar.proofs.Views.{Begins, begins, Has, has, same-sign}
use Rattle.rml_grammar.proofs.Holds.{Holds, Reads, and-holds, holds-map, sign-holds, long-sound, tail-sound, separated-sound}
use Rattle.rml_grammar.proofs.ShortExpressions.{short-exp, short-eapp}

-- expressions behind a bracket, and the closing one
abbrev pub Closed : Mark → List Spot → List Exp → List Spot → Type 0
Closed m us ts rest = (q : Place) × IsExps us ts (sign m q ∷ rest)

-- or none of them
abbrev pub Empty : Mark → List Spot → List Exp → List Spot → Type 0
Empty m us ts rest = (q : Place) × (us ≡ sign m q ∷ rest) × (ts ≡ [])

module _ (p : Parser Exp) (sound : (us : List Spot) → Reads IsExp us (p us)) where
  pub exps-sound : (us : List Spot) → Reads IsExps us (separated (after mark.Comma) p us)
  exps-sound = separated-sound mark.Comma p IsExp IsMoreExps (λ us e. s.no_more_exps e) (λ q us vs rest t ts a b. s.more_exps a b) (λ us rest t r. short-exp r) sound IsExps (λ us vs rest t ts a b. s.some_exps a b)

  pub enclosed-sound : (m : Mark) (us : List Spot) → Reads (Closed m) us (enclosed m p us)
  enclosed-sound m us = and-holds (λ x. IsExps us x.0 x.1) (λ y. Closed m us y.0 y.1) (separated (after mark.Comma) p us) _ (exps-sound us)
      (λ x r. sign-holds m (λ y. Closed m us y.0 y.1) x.0 x.1 (λ q ws e. (q, subst (λ (zs : List Spot). IsExps us x.0 zs) e r)))

  or-none-some : (m : Mark) (us vs : List Spot) → after m us ≡ Some vs → enclosed_or_none m p us ≡ Ok ([], vs)
  or-none-some m us vs e = rw (e, enclosed_or_none) refl

  or-none-none : (m : Mark) (us : List Spot) → after m us ≡ None → enclosed_or_none m p us ≡ enclosed m p us
  or-none-none m us e = rw (e, enclosed_or_none) refl

  or-none-by : (m : Mark) (us : List Spot) → Has m us → Holds (λ x. Closed m us x.0 x.1 ⊎ Empty m us x.0 x.1) (enclosed_or_none m p us)
  or-none-by m us (v.there {p = q} {us = vs}) = rw (or-none-some m us vs (same-sign m q vs)) (inr (q, refl, refl))
  or-none-by m us (v.lacking e) = rw (or-none-none m us e) (holds-map (λ x. Closed m us x.0 x.1) (λ x. Closed m us x.0 x.1 ⊎ Empty m us x.0 x.1) (enclosed m p us) (enclosed-sound m us) (λ x h. inl h))

  pub or-none-sound : (m : Mark) (us : List Spot) → Holds (λ x. Closed m us x.0 x.1 ⊎ Empty m us x.0 x.1) (enclosed_or_none m p us)
  or-none-sound m us = or-none-by m us (has m us)

-- the reading one bracket further in is sound
abbrev pub InnerSound : Inner → Type 0
InnerSound None = Unit {0}
InnerSound (Some p) = (us : List Spot) → Reads IsExp us (p us)

bracket-atom : (p q : Place) (us rest : List Spot) (ts : List Exp) → IsExps us ts (sign mark.CloseRound q ∷ rest) → IsEatom (sign mark.OpenRound p ∷ us) (tuple_exp ts) rest
bracket-atom p q us rest ts (s.some_exps a (s.no_more_exps e)) = s.bracket a
bracket-atom p q us rest ts (s.some_exps a (s.more_exps b c)) = s.tuple (s.two_exps a b c)

pub closed-inside : (i : Inner) → InnerSound i → (m : Mark) (from us : List Spot) → Reads (Closed m) us (inside i (enclosed m) from us)
closed-inside None h m from us = tt
closed-inside (Some p) h m from us = enclosed-sound p h m us

pub empty-inside : (i : Inner) → InnerSound i → (m : Mark) (from us : List Spot) → Holds (λ x. Closed m us x.0 x.1 ⊎ Empty m us x.0 x.1) (inside i (enclosed_or_none m) from us)
empty-inside None h m from us = tt
empty-inside (Some p) h m from us = or-none-sound p h m us

-- an argument, or none where none begins
pub data IsArgument (us : List Spot) : Option (List Exp) → List Spot → Type 0 where
  present : {ts : List Exp} {rest : List Spot} → IsEargs1 us ts rest → IsArgument us (Some ts) rest
  absent : eargs_begin (front_of us) ≡ false → IsArgument us None us

module _ (inner : Inner) (sound : InnerSound inner) where
  square-atom : (p : Place) (us rest : List Spot) (ts : List Exp) → Closed mark.CloseSquare us ts rest ⊎ Empty mark.CloseSquare us ts rest → IsEatom1 (sign mark.OpenSquare p ∷ us) (exp.List ts) rest
  square-atom p us rest ts (inl h) = s.list h.1
  square-atom p us rest ts (inr h) = rw (h.1, h.2) s.no_list

  pub eatom-sound : (us : List Spot) → Begins us → Reads IsEatom us (eatom_by inner us (front_of us))
  eatom-sound us v.a_literal = s.simple s.lit
  eatom-sound us (v.a_square {p} {us = vs}) = and-holds (λ x. Closed mark.CloseSquare vs x.0 x.1 ⊎ Empty mark.CloseSquare vs x.0 x.1) (λ y. IsEatom us y.0 y.1) (inside inner (enclosed_or_none mark.CloseSquare) us vs) _ (empty-inside inner sound mark.CloseSquare us vs) (λ x h. s.simple (square-atom p vs x.1 x.0 h))
  eatom-sound us (v.a_round {p} {us = vs}) = and-holds (λ x. Closed mark.CloseRound vs x.0 x.1) (λ y. IsEatom us y.0 y.1) (inside inner (enclosed mark.CloseRound) us vs) _ (closed-inside inner sound mark.CloseRound us vs) (λ x h. bracket-atom p h.0 vs x.1 x.0 h.1)
  eatom-sound us v.a_name = tt
  eatom-sound us v.a_tyvar = tt
  eatom-sound us v.a_wild = tt
  eatom-sound us v.a_let = tt
  eatom-sound us v.a_not = tt
  eatom-sound us v.a_line = tt
  eatom-sound us (v.another e) = rw e tt

  pub argument-sound : (us : List Spot) → Begins us → Holds (λ x. IsArgument us x.0 x.1) (eargument_by inner us (front_of us))
  argument-sound us v.a_literal = present (s.an_atom s.lit)
  argument-sound us v.a_name = and-holds (λ x. IsLong us x.0 x.1) (λ y. IsArgument us y.0 y.1) (long_at us) _ (long-sound us) (λ x h. present (s.a_long h))
  argument-sound us (v.a_square {p} {us = vs}) = and-holds (λ x. Closed mark.CloseSquare vs x.0 x.1 ⊎ Empty mark.CloseSquare vs x.0 x.1) (λ y. IsArgument us y.0 y.1) (inside inner (enclosed_or_none mark.CloseSquare) us vs) _ (empty-inside inner sound mark.CloseSquare us vs) (λ x h. present (s.an_atom (square-atom p vs x.1 x.0 h)))
  argument-sound us (v.a_round {p} {us = vs}) = and-holds (λ x. Closed mark.CloseRound vs x.0 x.1) (λ y. IsArgument us y.0 y.1) (inside inner (enclosed mark.CloseRound) us vs) _ (closed-inside inner sound mark.CloseRound us vs) (λ x h. present (s.bracketed h.1))
  argument-sound us v.a_tyvar = absent refl
  argument-sound us v.a_wild = absent refl
  argument-sound us v.a_let = absent refl
  argument-sound us v.a_not = absent refl
  argument-sound us v.a_line = absent refl
  argument-sound us (v.another e) = rw e (absent (rw e refl))

  applied-sound : (us vs rest : List Spot) (l : Long) (a : Option (List Exp)) → IsLong us l vs → IsArgument vs a rest → IsEapp us (applied_exp l a) rest
  applied-sound us vs rest l _ h (present r) = s.applied h r
  applied-sound us vs rest l _ h (absent e) = s.name h e

  pub eapp-sound : (us : List Spot) → Begins us → Reads IsEapp us (eapp inner us)
  eapp-sound us v.a_name = and-holds (λ x. IsLong us x.0 x.1) (λ y. IsEapp us y.0 y.1) (long_at us) _ (long-sound us)
      (λ x h. and-holds (λ y. IsArgument x.1 y.0 y.1) (λ z. IsEapp us z.0 z.1) (eargument inner x.1) _ (argument-sound x.1 (begins x.1)) (λ y g. applied-sound us x.1 y.1 x.0 y.0 h g))
  eapp-sound us (v.a_literal {l} {p} {us = vs}) = s.atom (s.simple s.lit)
  eapp-sound us (v.a_square {p} {us = vs}) = holds-map (λ x. IsEatom us x.0 x.1) (λ x. IsEapp us x.0 x.1) (eatom_by inner us front.Square) (eatom-sound us v.a_square) (λ x h. s.atom h)
  eapp-sound us (v.a_round {p} {us = vs}) = holds-map (λ x. IsEatom us x.0 x.1) (λ x. IsEapp us x.0 x.1) (eatom_by inner us front.Round) (eatom-sound us v.a_round) (λ x h. s.atom h)
  eapp-sound us v.a_tyvar = tt
  eapp-sound us v.a_wild = tt
  eapp-sound us v.a_let = tt
  eapp-sound us v.a_not = tt
  eapp-sound us v.a_line = tt
  eapp-sound us (v.another e) = rw e tt

  -- the items of a chain
  data IsChain (us : List Spot) : List Exp → List Spot → Type 0 where
    links : {vs rest : List Spot} {t : Exp} {ts : List Exp} → IsEapp us t vs → IsEapps vs ts rest → IsChain us (t ∷ ts) rest

  chain-sound : (us rest : List Spot) (ts : List Exp) → IsChain us ts rest → IsExp us (chain_exp ts) rest
  chain-sound us rest _ (links a b) = s.chain a b

  pub tails-sound : (us : List Spot) → Reads IsEapps us (repeated (after mark.TwoColons) (eapp inner) us)
  tails-sound = tail-sound mark.TwoColons (eapp inner) IsEapp IsEapps (λ us e. s.no_eapp e) (λ q us vs rest t ts a b. s.more_eapps a b) (λ us rest t r. short-eapp r) (λ us. eapp-sound us (begins us))

  pub chained-sound : (us : List Spot) → Reads IsExp us (chained_exp inner us)
  chained-sound us = and-holds (λ x. IsChain us x.0 x.1) (λ z. IsExp us z.0 z.1) (separated (after mark.TwoColons) (eapp inner) us) _
      (separated-sound mark.TwoColons (eapp inner) IsEapp IsEapps (λ us e. s.no_eapp e) (λ q us vs rest t ts a b. s.more_eapps a b) (λ us rest t r. short-eapp r) (λ us. eapp-sound us (begins us)) IsChain (λ us vs rest t ts a b. links a b) us)
      (λ x h. chain-sound us x.1 x.0 h)

pub exp-sound : (n : ℕ) (us : List Spot) → Reads IsExp us (exp_at n us)
exp-sound zero us = rw (exp_level zero us) (chained-sound None tt us)
exp-sound (suc n) us = rw (exp_level (suc n) us) (chained-sound (Some (exp_at n)) (exp-sound n) us)
