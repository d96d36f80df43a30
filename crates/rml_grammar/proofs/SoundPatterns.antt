-- What is read as a pattern is one.
use Rattle.std.proofs.Common.{◌≡◌, ℕ, zero, suc, List, [], ◌∷◌, refl, subst, ◌⊎◌, inl, inr, Option, Some, None, Ok, false}
use Rattle.rml_base.specs.declared.place.Place.{Place}
use Rattle.rml_syntax.specs.declared.token.Spot.{Spot}
use Rattle.rml_syntax.specs.declared.token.Mark.{Mark}
use Rattle.rml_syntax.specs.declared.token.Mark.TheVariants as mark
use Rattle.rml_syntax.specs.declared.rules.Long.{Long}
use Rattle.rml_syntax.specs.declared.rules.Pattern.{Pattern}
use Rattle.rml_syntax.specs.declared.rules.Pattern.TheVariants as pat
use Rattle.rml_grammar.proofs.Lacks.{binder-none}
use Rattle.rml_grammar.specs.declared.front.Front.TheVariants as front
use Rattle.rml_grammar.specs.Tokens.{sign, after, front_of}
use Rattle.rml_grammar.specs.Reading.{Parser, repeated, separated, enclosed, enclosed_or_none, inside, long_at}
use Rattle.rml_grammar.specs.Trees.{tuple_pat, chain_pat, applied_pat}
use Rattle.rml_grammar.specs.Patterns.{Inner, patom_by, pargument_by, pargument, papp, pcons, bound_pat, binder_at, pat_at}
use Rattle.rml_grammar.specs.SpelledNames.{IsLong}
use Rattle.rml_grammar.specs.SpelledPatterns as s
use Rattle.rml_grammar.specs.SpelledPatterns.{IsPat, IsPcons, IsPapps, IsPapp, IsPargs1, IsPatom, IsPatTuple, IsPatom1, IsPats, IsMorePats, IsPargs, IsPseq, pargs_begin}
use Rattle.rml_grammar.proofs.Levels.{pat_level}
use Rattle.rml_grammar.proofs.Views as v
use Rattle.rml_grammar.proofs.Views.{Begins, begins, Has, has, same-sign}
use Rattle.rml_grammar.proofs.Holds.{Holds, Reads, and-holds, holds-map, sign-holds, long-sound, tail-sound, separated-sound}
use Rattle.rml_grammar.proofs.ShortPatterns.{short-pat, short-papp}

-- patterns behind a bracket, and the closing one
abbrev pub Closed : Mark → List Spot → List Pattern → List Spot → Type 0
Closed m us ts rest = (q : Place) × IsPats us ts (sign m q ∷ rest)

-- or none of them
abbrev pub Empty : Mark → List Spot → List Pattern → List Spot → Type 0
Empty m us ts rest = (q : Place) × (us ≡ sign m q ∷ rest) × (ts ≡ [])

module _ (p : Parser Pattern) (sound : (us : List Spot) → Reads IsPat us (p us)) where
  pub pats-sound : (us : List Spot) → Reads IsPats us (separated (after mark.Comma) p us)
  pats-sound = separated-sound mark.Comma p IsPat IsMorePats (λ us e. s.no_more_pats e) (λ q us vs rest t ts a b. s.more_pats a b) (λ us rest t r. short-pat r) sound IsPats (λ us vs rest t ts a b. s.some_pats a b)

  pub enclosed-sound : (m : Mark) (us : List Spot) → Reads (Closed m) us (enclosed m p us)
  enclosed-sound m us = and-holds (λ x. IsPats us x.0 x.1) (λ y. Closed m us y.0 y.1) (separated (after mark.Comma) p us) _ (pats-sound us)
      (λ x r. sign-holds m (λ y. Closed m us y.0 y.1) x.0 x.1 (λ q ws e. (q, subst (λ (zs : List Spot). IsPats us x.0 zs) e r)))

  or-none-some : (m : Mark) (us vs : List Spot) → after m us ≡ Some vs → enclosed_or_none m p us ≡ Ok ([], vs)
  or-none-some m us vs e = rw (e, enclosed_or_none) refl

  or-none-none : (m : Mark) (us : List Spot) → after m us ≡ None → enclosed_or_none m p us ≡ enclosed m p us
  or-none-none m us e = rw (e, enclosed_or_none) refl

  or-none-by : (m : Mark) (us : List Spot) → Has m us → Holds (λ x. Closed m us x.0 x.1 ⊎ Empty m us x.0 x.1) (enclosed_or_none m p us)
  or-none-by m us (v.there {p = q} {us = vs}) = rw (or-none-some m us vs (same-sign m q vs)) (inr (q, refl, refl))
  or-none-by m us (v.lacking e) = rw (or-none-none m us e) (holds-map (λ x. Closed m us x.0 x.1) (λ x. Closed m us x.0 x.1 ⊎ Empty m us x.0 x.1) (enclosed m p us) (enclosed-sound m us) (λ x h. inl h))

  pub or-none-sound : (m : Mark) (us : List Spot) → Holds (λ x. Closed m us x.0 x.1 ⊎ Empty m us x.0 x.1) (enclosed_or_none m p us)
  or-none-sound m us = or-none-by m us (has m us)

-- the reading one bracket further in is sound
abbrev pub InnerSound : Inner → Type 0
InnerSound None = Unit {0}
InnerSound (Some p) = (us : List Spot) → Reads IsPat us (p us)

bracket-atom : (p q : Place) (us rest : List Spot) (ts : List Pattern) → IsPats us ts (sign mark.CloseRound q ∷ rest) → IsPatom (sign mark.OpenRound p ∷ us) (tuple_pat ts) rest
bracket-atom p q us rest ts (s.some_pats a (s.no_more_pats e)) = s.bracket a
bracket-atom p q us rest ts (s.some_pats a (s.more_pats b c)) = s.tuple (s.two_pats a b c)

pub closed-inside : (i : Inner) → InnerSound i → (m : Mark) (from us : List Spot) → Reads (Closed m) us (inside i (enclosed m) from us)
closed-inside None h m from us = tt
closed-inside (Some p) h m from us = enclosed-sound p h m us

pub empty-inside : (i : Inner) → InnerSound i → (m : Mark) (from us : List Spot) → Holds (λ x. Closed m us x.0 x.1 ⊎ Empty m us x.0 x.1) (inside i (enclosed_or_none m) from us)
empty-inside None h m from us = tt
empty-inside (Some p) h m from us = or-none-sound p h m us

-- an argument, or none where none begins
pub data IsArgument (us : List Spot) : Option (List Pattern) → List Spot → Type 0 where
  present : {ts : List Pattern} {rest : List Spot} → IsPargs1 us ts rest → IsArgument us (Some ts) rest
  absent : pargs_begin (front_of us) ≡ false → IsArgument us None us

module _ (inner : Inner) (sound : InnerSound inner) where
  square-atom : (p : Place) (us rest : List Spot) (ts : List Pattern) → Closed mark.CloseSquare us ts rest ⊎ Empty mark.CloseSquare us ts rest → IsPatom1 (sign mark.OpenSquare p ∷ us) (pat.List ts) rest
  square-atom p us rest ts (inl h) = s.list h.1
  square-atom p us rest ts (inr h) = rw (h.1, h.2) s.no_list

  pub patom-sound : (us : List Spot) → Begins us → Reads IsPatom us (patom_by inner us (front_of us))
  patom-sound us v.a_literal = s.simple s.lit
  patom-sound us (v.a_square {p} {us = vs}) = and-holds (λ x. Closed mark.CloseSquare vs x.0 x.1 ⊎ Empty mark.CloseSquare vs x.0 x.1) (λ y. IsPatom us y.0 y.1) (inside inner (enclosed_or_none mark.CloseSquare) us vs) _ (empty-inside inner sound mark.CloseSquare us vs) (λ x h. s.simple (square-atom p vs x.1 x.0 h))
  patom-sound us (v.a_round {p} {us = vs}) = and-holds (λ x. Closed mark.CloseRound vs x.0 x.1) (λ y. IsPatom us y.0 y.1) (inside inner (enclosed mark.CloseRound) us vs) _ (closed-inside inner sound mark.CloseRound us vs) (λ x h. bracket-atom p h.0 vs x.1 x.0 h.1)
  patom-sound us v.a_name = tt
  patom-sound us v.a_tyvar = tt
  patom-sound us v.a_wild = s.simple s.any
  patom-sound us v.a_let = tt
  patom-sound us v.a_not = tt
  patom-sound us v.a_line = tt
  patom-sound us (v.another e) = rw e tt

  pub argument-sound : (us : List Spot) → Begins us → Holds (λ x. IsArgument us x.0 x.1) (pargument_by inner us (front_of us))
  argument-sound us v.a_literal = present (s.an_atom s.lit)
  argument-sound us v.a_name = and-holds (λ x. IsLong us x.0 x.1) (λ y. IsArgument us y.0 y.1) (long_at us) _ (long-sound us) (λ x h. present (s.a_long h))
  argument-sound us (v.a_square {p} {us = vs}) = and-holds (λ x. Closed mark.CloseSquare vs x.0 x.1 ⊎ Empty mark.CloseSquare vs x.0 x.1) (λ y. IsArgument us y.0 y.1) (inside inner (enclosed_or_none mark.CloseSquare) us vs) _ (empty-inside inner sound mark.CloseSquare us vs) (λ x h. present (s.an_atom (square-atom p vs x.1 x.0 h)))
  argument-sound us (v.a_round {p} {us = vs}) = and-holds (λ x. Closed mark.CloseRound vs x.0 x.1) (λ y. IsArgument us y.0 y.1) (inside inner (enclosed mark.CloseRound) us vs) _ (closed-inside inner sound mark.CloseRound us vs) (λ x h. present (s.bracketed h.1))
  argument-sound us v.a_tyvar = absent refl
  argument-sound us v.a_wild = present (s.an_atom s.any)
  argument-sound us v.a_let = absent refl
  argument-sound us v.a_not = absent refl
  argument-sound us v.a_line = absent refl
  argument-sound us (v.another e) = rw e (absent (rw e refl))

  applied-sound : (us vs rest : List Spot) (l : Long) (a : Option (List Pattern)) → IsLong us l vs → IsArgument vs a rest → IsPapp us (applied_pat l a) rest
  applied-sound us vs rest l _ h (present r) = s.applied h r
  applied-sound us vs rest l _ h (absent e) = s.name h e

  pub papp-sound : (us : List Spot) → Begins us → Reads IsPapp us (papp inner us)
  papp-sound us v.a_name = and-holds (λ x. IsLong us x.0 x.1) (λ y. IsPapp us y.0 y.1) (long_at us) _ (long-sound us)
      (λ x h. and-holds (λ y. IsArgument x.1 y.0 y.1) (λ z. IsPapp us z.0 z.1) (pargument inner x.1) _ (argument-sound x.1 (begins x.1)) (λ y g. applied-sound us x.1 y.1 x.0 y.0 h g))
  papp-sound us (v.a_literal {l} {p} {us = vs}) = s.atom (s.simple s.lit)
  papp-sound us (v.a_square {p} {us = vs}) = holds-map (λ x. IsPatom us x.0 x.1) (λ x. IsPapp us x.0 x.1) (patom_by inner us front.Square) (patom-sound us v.a_square) (λ x h. s.atom h)
  papp-sound us (v.a_round {p} {us = vs}) = holds-map (λ x. IsPatom us x.0 x.1) (λ x. IsPapp us x.0 x.1) (patom_by inner us front.Round) (patom-sound us v.a_round) (λ x h. s.atom h)
  papp-sound us v.a_tyvar = tt
  papp-sound us v.a_wild = s.atom (s.simple s.any)
  papp-sound us v.a_let = tt
  papp-sound us v.a_not = tt
  papp-sound us v.a_line = tt
  papp-sound us (v.another e) = rw e tt

  -- the items of a chain
  data IsChain (us : List Spot) : List Pattern → List Spot → Type 0 where
    links : {vs rest : List Spot} {t : Pattern} {ts : List Pattern} → IsPapp us t vs → IsPapps vs ts rest → IsChain us (t ∷ ts) rest

  chain-sound : (us rest : List Spot) (ts : List Pattern) → IsChain us ts rest → IsPcons us (chain_pat ts) rest
  chain-sound us rest _ (links a b) = s.chain a b

  pub tails-sound : (us : List Spot) → Reads IsPapps us (repeated (after mark.TwoColons) (papp inner) us)
  tails-sound = tail-sound mark.TwoColons (papp inner) IsPapp IsPapps (λ us e. s.no_papp e) (λ q us vs rest t ts a b. s.more_papps a b) (λ us rest t r. short-papp r) (λ us. papp-sound us (begins us))

  pub pcons-sound : (us : List Spot) → Reads IsPcons us (pcons inner us)
  pcons-sound us = and-holds (λ x. IsChain us x.0 x.1) (λ z. IsPcons us z.0 z.1) (separated (after mark.TwoColons) (papp inner) us) _
      (separated-sound mark.TwoColons (papp inner) IsPapp IsPapps (λ us e. s.no_papp e) (λ q us vs rest t ts a b. s.more_papps a b) (λ us rest t r. short-papp r) (λ us. papp-sound us (begins us)) IsChain (λ us vs rest t ts a b. links a b) us)
      (λ x h. chain-sound us x.1 x.0 h)

  pub unbound-is : (us : List Spot) → binder_at us ≡ None → bound_pat inner us ≡ pcons inner us
  unbound-is us e = rw (e, bound_pat) refl

  bound-by : (us : List Spot) → v.Binds us → Reads IsPat us (bound_pat inner us)
  bound-by us (v.an_as {us = vs}) = and-holds (λ x. IsPcons vs x.0 x.1) (λ z. IsPat us z.0 z.1) (pcons inner vs) _ (pcons-sound vs) (λ x h. s.bound h)
  bound-by us (v.no_as e) = rw (unbound-is us (binder-none us e)) (holds-map (λ x. IsPcons us x.0 x.1) (λ x. IsPat us x.0 x.1) (pcons inner us) (pcons-sound us) (λ x h. s.unbound e h))

  pub bound-sound : (us : List Spot) → Reads IsPat us (bound_pat inner us)
  bound-sound us = bound-by us (v.binds us)

pub pat-sound : (n : ℕ) (us : List Spot) → Reads IsPat us (pat_at n us)
pat-sound zero us = rw (pat_level zero us) (bound-sound None tt us)
pat-sound (suc n) us = rw (pat_level (suc n) us) (bound-sound (Some (pat_at n)) (pat-sound n) us)
