-- Readings of expressions keep the limits.
use Rattle.std.proofs.Common.{◌≡◌, ℕ, zero, suc, ◌+◌, List, refl, arith, Option, Some, None, Ok}
use Rattle.rml_syntax.specs.declared.token.Spot.{Spot}
use Rattle.rml_syntax.specs.declared.token.Mark.TheVariants as mark
use Rattle.rml_syntax.specs.declared.rules.Exp.{Exp}
use Rattle.rml_grammar.specs.declared.front.Front.{Front}
use Rattle.rml_grammar.specs.declared.front.Front.TheVariants as front
use Rattle.rml_grammar.specs.Tokens.{front_of}
use Rattle.rml_grammar.specs.Reading.{Parser, enclosed, enclosed_or_none}
use Rattle.rml_grammar.specs.Trees.{listed}
use Rattle.rml_grammar.specs.Expressions.{Inner, eatom_by, eargument_by, eapp, chained_exp, exp_at, inner_exp, eapps_at, eapp_at, eargs_by, eargs_at, eseq_inside, eseq_by, eseq_at}
use Rattle.rml_grammar.proofs.Levels.{exp_level}
use Rattle.rml_grammar.proofs.Views as v
use Rattle.rml_grammar.proofs.Views.{Begins, begins, Has, has, same-sign}
use Rattle.rml_grammar.proofs.LimitsReading.{Whole, At, Ends, went, and-ends, unexpected-ends, Keeps, KeepsInner, full, further, inside-ends, over, leave, repeated-keeps, separated-keeps, enclosed-end, or-none-end, long-keeps}

module _ {w : Whole} {d r : ℕ} (inner : Inner) (k : KeepsInner w d r inner) where
  eatom-by : (us : List Spot) → Begins us → At w d r us → Ends w (λ x. At w d r x.1) (eatom_by inner us (front_of us))
  eatom-by us (v.another e) a = rw e (unexpected-ends a)
  eatom-by us v.a_literal a = went (over tt a)
  eatom-by us v.a_square a = and-ends (inside-ends (enclosed_or_none mark.CloseSquare) k tt a (λ p h b. or-none-end mark.CloseSquare tt p h _ b)) (λ x b. went b)
  eatom-by us v.a_round a = and-ends (inside-ends (enclosed mark.CloseRound) k tt a (λ p h b. enclosed-end mark.CloseRound tt p h _ b)) (λ x b. went b)
  eatom-by us _ a = unexpected-ends a

  argument-by : (us : List Spot) → Begins us → At w d r us → Ends w (λ x. At w d r x.1) (eargument_by inner us (front_of us))
  argument-by us (v.another e) a = rw e (went a)
  argument-by us v.a_literal a = went (over tt a)
  argument-by us v.a_name a = and-ends (long-keeps us a) (λ x b. went b)
  argument-by us v.a_square a = and-ends (inside-ends (enclosed_or_none mark.CloseSquare) k tt a (λ p h b. or-none-end mark.CloseSquare tt p h _ b)) (λ x b. went b)
  argument-by us v.a_round a = and-ends (inside-ends (enclosed mark.CloseRound) k tt a (λ p h b. enclosed-end mark.CloseRound tt p h _ b)) (λ x b. went b)
  argument-by us _ a = went a

  eapp-by : (us : List Spot) → Begins us → At w d r us → Ends w (λ x. At w d r x.1) (eapp inner us)
  eapp-by us (v.another e) a = rw e (unexpected-ends a)
  eapp-by us v.a_name a = and-ends (long-keeps us a) (λ x b. and-ends (argument-by x.1 (begins x.1) b) (λ y c. went c))
  eapp-by us b a = eatom-by us b a

  eapp-keeps : Keeps w d r (eapp inner)
  eapp-keeps us a = eapp-by us (begins us) a

  chained-keeps : Keeps w d r (chained_exp inner)
  chained-keeps us a = and-ends (separated-keeps mark.TwoColons tt (eapp inner) eapp-keeps us a) (λ x b. went b)

  eargs-by : (us : List Spot) → Begins us → At w d r us → Ends w (λ x. At w d r x.1) (eargs_by inner us (front_of us))
  eargs-by us (v.another e) a = rw e (went a)
  eargs-by us v.a_round a = inside-ends (enclosed_or_none mark.CloseRound) k tt a (λ p h b. or-none-end mark.CloseRound tt p h _ b)
  eargs-by us b a = and-ends {f = λ (x : Option (List Exp) × List Spot). Ok (listed x.0, x.1)} (argument-by us b a) (λ x c. went c)

pub exp-keeps : {w : Whole} {d r : ℕ} (n : ℕ) → d + n ≡ w.depth → Keeps w d r (exp_at n)
exp-keeps {w} {d} {r} zero e us a = rw (exp_level zero us) (chained-keeps None (full (omega arith)) us a)
exp-keeps {w} {d} {r} (suc n) e us a = rw (exp_level (suc n) us) (chained-keeps (Some (exp_at n)) (further (omega arith) (exp-keeps n (omega arith))) us a)

inner-keeps : {w : Whole} {d r : ℕ} (n : ℕ) → d + n ≡ w.depth → KeepsInner w d r (inner_exp n)
inner-keeps zero e = full (omega arith)
inner-keeps (suc n) e = further (omega arith) (exp-keeps n (omega arith))

pub eargs-keeps : {w : Whole} {d r : ℕ} (n : ℕ) → d + n ≡ w.depth → Keeps w d r (eargs_at n)
eargs-keeps n e us a = eargs-by (inner_exp n) (inner-keeps n e) us (begins us) a

module _ {w : Whole} {d r : ℕ} (n : ℕ) (e : d + n ≡ w.depth) where
  eapps-keeps : Keeps w d r (eapps_at n)
  eapps-keeps = repeated-keeps mark.TwoColons tt (eapp_at n) (eapp-keeps (inner_exp n) (inner-keeps n e))

  behind-round : (p : Parser Exp) → Keeps w (suc d) r p → (us : List Spot) → Has mark.CloseRound us → At w (suc d) r us → Ends w (λ x. At w d r x.1) (eseq_inside n p us)
  behind-round p h us (v.there {p = q}) a = went (leave mark.CloseRound q tt a)
  behind-round p h us (v.lacking l) a = rw (l, eseq_inside) (and-ends (enclosed-end mark.CloseRound tt p h us a) (λ x b. and-ends (eapps-keeps x.1 b) (λ y c. went c)))

  other-eseq : (us : List Spot) (f : Front) → (f ≡ front.Round → ⊥) → At w d r us → Ends w (λ x. At w d r x.1) (eseq_by n us f)
  other-eseq us front.Round h a = absurd (h refl)
  other-eseq us _ h a = and-ends (exp-keeps n e us a) (λ x b. went b)

  eseq-by : (us : List Spot) → Begins us → At w d r us → Ends w (λ x. At w d r x.1) (eseq_at n us)
  eseq-by us (v.another o) a = other-eseq us (front_of us) (λ h. cc) a
  eseq-by us (v.a_round {us = vs}) a = inside-ends (eseq_inside n) (inner-keeps n e) tt a (λ p h b. behind-round p h vs (has mark.CloseRound vs) b)
  eseq-by us _ a = other-eseq us (front_of us) (λ h. cc) a

  pub eseq-keeps : Keeps w d r (eseq_at n)
  eseq-keeps us a = eseq-by us (begins us) a
