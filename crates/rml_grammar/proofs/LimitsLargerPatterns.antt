-- Patterns read with larger limits.
use Rattle.std.proofs.Common.{◌≡◌, ℕ, zero, suc, ◌<◌, List, length, refl, arith, Option, Some, None, Ok}
use Rattle.rml_syntax.specs.declared.token.Spot.{Spot}
use Rattle.rml_syntax.specs.declared.token.Mark.TheVariants as mark
use Rattle.rml_syntax.specs.declared.rules.Pattern.{Pattern}
use Rattle.rml_grammar.proofs.Lacks.{binder-none}
use Rattle.rml_grammar.specs.declared.front.Front.{Front}
use Rattle.rml_grammar.specs.declared.front.Front.TheVariants as front
use Rattle.rml_grammar.specs.Tokens.{sign, front_of}
use Rattle.rml_grammar.specs.Reading.{Parser, enclosed, enclosed_or_none}
use Rattle.rml_grammar.specs.Trees.{listed}
use Rattle.rml_grammar.specs.Patterns.{Inner, patom_by, pargument_by, papp, pcons, bound_pat, pat_at, inner_pat, papps_at, papp_at, pargs_by, pargs_at, pseq_inside, pseq_by, pseq_at}
use Rattle.rml_grammar.proofs.Levels.{pat_level}
use Rattle.rml_grammar.proofs.Fine.{Within, Fine, bind-within, within-more, fine-enclosed, fine-enclosed-or-none}
use Rattle.rml_grammar.proofs.FinePatterns.{pat-fine}
use Rattle.rml_grammar.proofs.Views as v
use Rattle.rml_grammar.proofs.Views.{Begins, begins, Binds, binds, Has, has}
use Rattle.rml_grammar.proofs.LimitsLarger.{Steps, and-steps, steps-within, end-steps, unexpected-steps, skip, Climbs, signs-climb, more-climb, enclosed-climbs, or-none-climbs, Higher, first, further, inside-steps, long-climbs}

module _ (i j : Inner) (h : Higher i j) where
  patom-by : (us : List Spot) → Begins us → Steps (length us) (patom_by i us (front_of us)) (patom_by j us (front_of us))
  patom-by us (v.another e) = rw e unexpected-steps
  patom-by us v.a_literal = skip end-steps
  patom-by us v.a_wild = skip end-steps
  patom-by us (v.a_square {p = o} {us = vs}) = and-steps (inside-steps (sign mark.OpenSquare o) vs (enclosed_or_none mark.CloseSquare) (enclosed_or_none mark.CloseSquare) h (λ q f. (fine-enclosed-or-none mark.CloseSquare q f).within vs) (λ p q c. or-none-climbs mark.CloseSquare p q c vs)) (λ x. end-steps)
  patom-by us (v.a_round {p = o} {us = vs}) = and-steps (inside-steps (sign mark.OpenRound o) vs (enclosed mark.CloseRound) (enclosed mark.CloseRound) h (λ q f. (fine-enclosed mark.CloseRound q f).within vs) (λ p q c. enclosed-climbs mark.CloseRound p q c vs)) (λ x. end-steps)
  patom-by us _ = unexpected-steps

  argument-by : (us : List Spot) → Begins us → Steps (length us) (pargument_by i us (front_of us)) (pargument_by j us (front_of us))
  argument-by us (v.another e) = rw e end-steps
  argument-by us v.a_literal = skip end-steps
  argument-by us v.a_wild = skip end-steps
  argument-by us v.a_name = and-steps (long-climbs us) (λ x. end-steps)
  argument-by us (v.a_square {p = o} {us = vs}) = and-steps (inside-steps (sign mark.OpenSquare o) vs (enclosed_or_none mark.CloseSquare) (enclosed_or_none mark.CloseSquare) h (λ q f. (fine-enclosed-or-none mark.CloseSquare q f).within vs) (λ p q c. or-none-climbs mark.CloseSquare p q c vs)) (λ x. end-steps)
  argument-by us (v.a_round {p = o} {us = vs}) = and-steps (inside-steps (sign mark.OpenRound o) vs (enclosed mark.CloseRound) (enclosed mark.CloseRound) h (λ q f. (fine-enclosed mark.CloseRound q f).within vs) (λ p q c. enclosed-climbs mark.CloseRound p q c vs)) (λ x. end-steps)
  argument-by us _ = end-steps

  papp-by : (us : List Spot) → Begins us → Steps (length us) (papp i us) (papp j us)
  papp-by us (v.another e) = rw e unexpected-steps
  papp-by us v.a_name = and-steps (long-climbs us) (λ x. and-steps (argument-by x.1 (begins x.1)) (λ y. end-steps))
  papp-by us b = patom-by us b

  papp-climbs : Climbs (papp i) (papp j)
  papp-climbs us = papp-by us (begins us)

  pcons-climbs : Climbs (pcons i) (pcons j)
  pcons-climbs us = and-steps (signs-climb mark.TwoColons (papp i) (papp j) papp-climbs us) (λ x. end-steps)

  bound-by : (us : List Spot) → Binds us → Steps (length us) (bound_pat i us) (bound_pat j us)
  bound-by us (v.an_as {us = vs}) = skip (skip (and-steps (pcons-climbs vs) (λ x. end-steps)))
  bound-by us (v.no_as e) = rw (binder-none us e, bound_pat) (pcons-climbs us)

  bound-climbs : Climbs (bound_pat i) (bound_pat j)
  bound-climbs us = bound-by us (binds us)

  pargs-by : (us : List Spot) → Begins us → Steps (length us) (pargs_by i us (front_of us)) (pargs_by j us (front_of us))
  pargs-by us (v.another e) = rw e end-steps
  pargs-by us (v.a_round {p = o} {us = vs}) = inside-steps (sign mark.OpenRound o) vs (enclosed_or_none mark.CloseRound) (enclosed_or_none mark.CloseRound) h (λ q f. (fine-enclosed-or-none mark.CloseRound q f).within vs) (λ p q c. or-none-climbs mark.CloseRound p q c vs)
  pargs-by us b = and-steps {f = λ (x : Option (List Pattern) × List Spot). Ok (listed x.0, x.1)} {g = λ (x : Option (List Pattern) × List Spot). Ok (listed x.0, x.1)} (argument-by us b) (λ x. end-steps)

pub pat-climbs : (n m : ℕ) → n < m → Climbs (pat_at n) (pat_at m)
pat-climbs zero zero l us = absurd (omega arith)
pat-climbs (suc n) zero l us = absurd (omega arith)
pat-climbs zero (suc m) l us = rw (pat_level zero us, pat_level (suc m) us) (bound-climbs None (Some (pat_at m)) (first (pat-fine m)) us)
pat-climbs (suc n) (suc m) l us = rw (pat_level (suc n) us, pat_level (suc m) us) (bound-climbs (Some (pat_at n)) (Some (pat_at m)) (further (pat-climbs n m (omega arith))) us)

inner-higher : (n m : ℕ) → n < m → Higher (inner_pat n) (inner_pat m)
inner-higher zero zero l = absurd (omega arith)
inner-higher (suc n) zero l = absurd (omega arith)
inner-higher zero (suc m) l = first (pat-fine m)
inner-higher (suc n) (suc m) l = further (pat-climbs n m (omega arith))

pub pargs-climbs : (n m : ℕ) → n < m → Climbs (pargs_at n) (pargs_at m)
pargs-climbs n m l us = pargs-by (inner_pat n) (inner_pat m) (inner-higher n m l) us (begins us)

module _ (n m : ℕ) (l : n < m) where
  papps-climb : Climbs (papps_at n) (papps_at m)
  papps-climb = more-climb mark.TwoColons (papp_at n) (papp_at m) (papp-climbs (inner_pat n) (inner_pat m) (inner-higher n m l))

  behind-round : (p q : Parser Pattern) → Climbs p q → (us : List Spot) → Has mark.CloseRound us → Steps (length us) (pseq_inside n p us) (pseq_inside m q us)
  behind-round p q h us v.there = skip end-steps
  behind-round p q h us (v.lacking e) = rw (e, pseq_inside) (and-steps (enclosed-climbs mark.CloseRound p q h us) (λ x. and-steps (papps-climb x.1) (λ y. end-steps)))

  behind-within : (q : Parser Pattern) → Fine q → (us : List Spot) → Has mark.CloseRound us → Within (length us) (pseq_inside m q us)
  behind-within q f us v.there = omega arith
  behind-within q f us (v.lacking e) = rw (e, pseq_inside) (bind-within (length us) (enclosed mark.CloseRound q us) _ ((fine-enclosed mark.CloseRound q f).within us)
      (λ x le. within-more (length x.1) (length us) _ le (steps-within (and-steps (papps-climb x.1) (λ y. end-steps)))))

  other-pseq : (us : List Spot) (f : Front) → (f ≡ front.Round → ⊥) → Steps (length us) (pseq_by n us f) (pseq_by m us f)
  other-pseq us front.Round h = absurd (h refl)
  other-pseq us _ h = and-steps (pat-climbs n m l us) (λ x. end-steps)

  pseq-by : (us : List Spot) → Begins us → Steps (length us) (pseq_at n us) (pseq_at m us)
  pseq-by us (v.another o) = other-pseq us (front_of us) (λ h. cc)
  pseq-by us (v.a_round {p = o} {us = vs}) = inside-steps (sign mark.OpenRound o) vs (pseq_inside n) (pseq_inside m) (inner-higher n m l) (λ q f. behind-within q f vs (has mark.CloseRound vs)) (λ p q c. behind-round p q c vs (has mark.CloseRound vs))
  pseq-by us _ = other-pseq us (front_of us) (λ h. cc)

  pub pseq-climbs : Climbs (pseq_at n) (pseq_at m)
  pseq-climbs us = pseq-by us (begins us)
