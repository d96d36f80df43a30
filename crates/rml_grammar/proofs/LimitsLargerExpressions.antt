-- Expressions read with larger limits.
use Rattle.std.proofs.Common.{◌≡◌, ℕ, zero, suc, ◌<◌, List, length, refl, arith, Option, Some, None, Ok}
use Rattle.rml_syntax.specs.declared.token.Spot.{Spot}
use Rattle.rml_syntax.specs.declared.token.Mark.TheVariants as mark
use Rattle.rml_syntax.specs.declared.rules.Exp.{Exp}
use Rattle.rml_grammar.specs.declared.front.Front.{Front}
use Rattle.rml_grammar.specs.declared.front.Front.TheVariants as front
use Rattle.rml_grammar.specs.Tokens.{sign, front_of}
use Rattle.rml_grammar.specs.Reading.{Parser, enclosed, enclosed_or_none}
use Rattle.rml_grammar.specs.Trees.{listed}
use Rattle.rml_grammar.specs.Expressions.{Inner, eatom_by, eargument_by, eapp, chained_exp, exp_at, inner_exp, eapps_at, eapp_at, eargs_by, eargs_at, eseq_inside, eseq_by, eseq_at}
use Rattle.rml_grammar.proofs.Levels.{exp_level}
use Rattle.rml_grammar.proofs.Fine.{Within, Fine, bind-within, within-more, fine-enclosed, fine-enclosed-or-none}
use Rattle.rml_grammar.proofs.FineExpressions.{exp-fine}
use Rattle.rml_grammar.proofs.Views as v
use Rattle.rml_grammar.proofs.Views.{Begins, begins, Has, has}
use Rattle.rml_grammar.proofs.LimitsLarger.{Steps, and-steps, steps-within, end-steps, unexpected-steps, skip, Climbs, signs-climb, more-climb, enclosed-climbs, or-none-climbs, Higher, first, further, inside-steps, long-climbs}

module _ (i j : Inner) (h : Higher i j) where
  eatom-by : (us : List Spot) → Begins us → Steps (length us) (eatom_by i us (front_of us)) (eatom_by j us (front_of us))
  eatom-by us (v.another e) = rw e unexpected-steps
  eatom-by us v.a_literal = skip end-steps
  eatom-by us (v.a_square {p = o} {us = vs}) = and-steps (inside-steps (sign mark.OpenSquare o) vs (enclosed_or_none mark.CloseSquare) (enclosed_or_none mark.CloseSquare) h (λ q f. (fine-enclosed-or-none mark.CloseSquare q f).within vs) (λ p q c. or-none-climbs mark.CloseSquare p q c vs)) (λ x. end-steps)
  eatom-by us (v.a_round {p = o} {us = vs}) = and-steps (inside-steps (sign mark.OpenRound o) vs (enclosed mark.CloseRound) (enclosed mark.CloseRound) h (λ q f. (fine-enclosed mark.CloseRound q f).within vs) (λ p q c. enclosed-climbs mark.CloseRound p q c vs)) (λ x. end-steps)
  eatom-by us _ = unexpected-steps

  argument-by : (us : List Spot) → Begins us → Steps (length us) (eargument_by i us (front_of us)) (eargument_by j us (front_of us))
  argument-by us (v.another e) = rw e end-steps
  argument-by us v.a_literal = skip end-steps
  argument-by us v.a_name = and-steps (long-climbs us) (λ x. end-steps)
  argument-by us (v.a_square {p = o} {us = vs}) = and-steps (inside-steps (sign mark.OpenSquare o) vs (enclosed_or_none mark.CloseSquare) (enclosed_or_none mark.CloseSquare) h (λ q f. (fine-enclosed-or-none mark.CloseSquare q f).within vs) (λ p q c. or-none-climbs mark.CloseSquare p q c vs)) (λ x. end-steps)
  argument-by us (v.a_round {p = o} {us = vs}) = and-steps (inside-steps (sign mark.OpenRound o) vs (enclosed mark.CloseRound) (enclosed mark.CloseRound) h (λ q f. (fine-enclosed mark.CloseRound q f).within vs) (λ p q c. enclosed-climbs mark.CloseRound p q c vs)) (λ x. end-steps)
  argument-by us _ = end-steps

  eapp-by : (us : List Spot) → Begins us → Steps (length us) (eapp i us) (eapp j us)
  eapp-by us (v.another e) = rw e unexpected-steps
  eapp-by us v.a_name = and-steps (long-climbs us) (λ x. and-steps (argument-by x.1 (begins x.1)) (λ y. end-steps))
  eapp-by us b = eatom-by us b

  eapp-climbs : Climbs (eapp i) (eapp j)
  eapp-climbs us = eapp-by us (begins us)

  chained-climbs : Climbs (chained_exp i) (chained_exp j)
  chained-climbs us = and-steps (signs-climb mark.TwoColons (eapp i) (eapp j) eapp-climbs us) (λ x. end-steps)

  eargs-by : (us : List Spot) → Begins us → Steps (length us) (eargs_by i us (front_of us)) (eargs_by j us (front_of us))
  eargs-by us (v.another e) = rw e end-steps
  eargs-by us (v.a_round {p = o} {us = vs}) = inside-steps (sign mark.OpenRound o) vs (enclosed_or_none mark.CloseRound) (enclosed_or_none mark.CloseRound) h (λ q f. (fine-enclosed-or-none mark.CloseRound q f).within vs) (λ p q c. or-none-climbs mark.CloseRound p q c vs)
  eargs-by us b = and-steps {f = λ (x : Option (List Exp) × List Spot). Ok (listed x.0, x.1)} {g = λ (x : Option (List Exp) × List Spot). Ok (listed x.0, x.1)} (argument-by us b) (λ x. end-steps)

pub exp-climbs : (n m : ℕ) → n < m → Climbs (exp_at n) (exp_at m)
exp-climbs zero zero l us = absurd (omega arith)
exp-climbs (suc n) zero l us = absurd (omega arith)
exp-climbs zero (suc m) l us = rw (exp_level zero us, exp_level (suc m) us) (chained-climbs None (Some (exp_at m)) (first (exp-fine m)) us)
exp-climbs (suc n) (suc m) l us = rw (exp_level (suc n) us, exp_level (suc m) us) (chained-climbs (Some (exp_at n)) (Some (exp_at m)) (further (exp-climbs n m (omega arith))) us)

inner-higher : (n m : ℕ) → n < m → Higher (inner_exp n) (inner_exp m)
inner-higher zero zero l = absurd (omega arith)
inner-higher (suc n) zero l = absurd (omega arith)
inner-higher zero (suc m) l = first (exp-fine m)
inner-higher (suc n) (suc m) l = further (exp-climbs n m (omega arith))

pub eargs-climbs : (n m : ℕ) → n < m → Climbs (eargs_at n) (eargs_at m)
eargs-climbs n m l us = eargs-by (inner_exp n) (inner_exp m) (inner-higher n m l) us (begins us)

module _ (n m : ℕ) (l : n < m) where
  eapps-climb : Climbs (eapps_at n) (eapps_at m)
  eapps-climb = more-climb mark.TwoColons (eapp_at n) (eapp_at m) (eapp-climbs (inner_exp n) (inner_exp m) (inner-higher n m l))

  behind-round : (p q : Parser Exp) → Climbs p q → (us : List Spot) → Has mark.CloseRound us → Steps (length us) (eseq_inside n p us) (eseq_inside m q us)
  behind-round p q h us v.there = skip end-steps
  behind-round p q h us (v.lacking e) = rw (e, eseq_inside) (and-steps (enclosed-climbs mark.CloseRound p q h us) (λ x. and-steps (eapps-climb x.1) (λ y. end-steps)))

  behind-within : (q : Parser Exp) → Fine q → (us : List Spot) → Has mark.CloseRound us → Within (length us) (eseq_inside m q us)
  behind-within q f us v.there = omega arith
  behind-within q f us (v.lacking e) = rw (e, eseq_inside) (bind-within (length us) (enclosed mark.CloseRound q us) _ ((fine-enclosed mark.CloseRound q f).within us)
      (λ x le. within-more (length x.1) (length us) _ le (steps-within (and-steps (eapps-climb x.1) (λ y. end-steps)))))

  other-eseq : (us : List Spot) (f : Front) → (f ≡ front.Round → ⊥) → Steps (length us) (eseq_by n us f) (eseq_by m us f)
  other-eseq us front.Round h = absurd (h refl)
  other-eseq us _ h = and-steps (exp-climbs n m l us) (λ x. end-steps)

  eseq-by : (us : List Spot) → Begins us → Steps (length us) (eseq_at n us) (eseq_at m us)
  eseq-by us (v.another o) = other-eseq us (front_of us) (λ h. cc)
  eseq-by us (v.a_round {p = o} {us = vs}) = inside-steps (sign mark.OpenRound o) vs (eseq_inside n) (eseq_inside m) (inner-higher n m l) (λ q f. behind-within q f vs (has mark.CloseRound vs)) (λ p q c. behind-round p q c vs (has mark.CloseRound vs))
  eseq-by us _ = other-eseq us (front_of us) (λ h. cc)

  pub eseq-climbs : Climbs (eseq_at n) (eseq_at m)
  eseq-climbs us = eseq-by us (begins us)
