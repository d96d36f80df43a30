-- Readings of patterns keep the limits.
use Rattle.std.proofs.Common.{◌≡◌, ℕ, zero, suc, ◌+◌, List, refl, arith, Option, Some, None, Ok}
use Rattle.rml_syntax.specs.declared.token.Spot.{Spot}
use Rattle.rml_syntax.specs.declared.token.Mark.TheVariants as mark
use Rattle.rml_syntax.specs.declared.rules.Pattern.{Pattern}
use Rattle.rml_grammar.proofs.Lacks.{binder-none}
use Rattle.rml_grammar.specs.declared.front.Front.{Front}
use Rattle.rml_grammar.specs.declared.front.Front.TheVariants as front
use Rattle.rml_grammar.specs.Tokens.{front_of}
use Rattle.rml_grammar.specs.Reading.{Parser, enclosed, enclosed_or_none}
use Rattle.rml_grammar.specs.Trees.{listed}
use Rattle.rml_grammar.specs.Patterns.{Inner, patom_by, pargument_by, papp, pcons, bound_pat, pat_at, inner_pat, papps_at, papp_at, pargs_by, pargs_at, pseq_inside, pseq_by, pseq_at}
use Rattle.rml_grammar.proofs.Levels.{pat_level}
use Rattle.rml_grammar.proofs.Views as v
use Rattle.rml_grammar.proofs.Views.{Begins, begins, Binds, binds, Has, has, same-sign}
use Rattle.rml_grammar.proofs.LimitsReading.{Whole, At, Ends, went, and-ends, unexpected-ends, Keeps, KeepsInner, full, further, inside-ends, over, leave, repeated-keeps, separated-keeps, enclosed-end, or-none-end, long-keeps}

module _ {w : Whole} {d r : ℕ} (inner : Inner) (k : KeepsInner w d r inner) where
  patom-by : (us : List Spot) → Begins us → At w d r us → Ends w (λ x. At w d r x.1) (patom_by inner us (front_of us))
  patom-by us (v.another e) a = rw e (unexpected-ends a)
  patom-by us v.a_literal a = went (over tt a)
  patom-by us v.a_wild a = went (over tt a)
  patom-by us v.a_square a = and-ends (inside-ends (enclosed_or_none mark.CloseSquare) k tt a (λ p h b. or-none-end mark.CloseSquare tt p h _ b)) (λ x b. went b)
  patom-by us v.a_round a = and-ends (inside-ends (enclosed mark.CloseRound) k tt a (λ p h b. enclosed-end mark.CloseRound tt p h _ b)) (λ x b. went b)
  patom-by us _ a = unexpected-ends a

  argument-by : (us : List Spot) → Begins us → At w d r us → Ends w (λ x. At w d r x.1) (pargument_by inner us (front_of us))
  argument-by us (v.another e) a = rw e (went a)
  argument-by us v.a_literal a = went (over tt a)
  argument-by us v.a_wild a = went (over tt a)
  argument-by us v.a_name a = and-ends (long-keeps us a) (λ x b. went b)
  argument-by us v.a_square a = and-ends (inside-ends (enclosed_or_none mark.CloseSquare) k tt a (λ p h b. or-none-end mark.CloseSquare tt p h _ b)) (λ x b. went b)
  argument-by us v.a_round a = and-ends (inside-ends (enclosed mark.CloseRound) k tt a (λ p h b. enclosed-end mark.CloseRound tt p h _ b)) (λ x b. went b)
  argument-by us _ a = went a

  papp-by : (us : List Spot) → Begins us → At w d r us → Ends w (λ x. At w d r x.1) (papp inner us)
  papp-by us (v.another e) a = rw e (unexpected-ends a)
  papp-by us v.a_name a = and-ends (long-keeps us a) (λ x b. and-ends (argument-by x.1 (begins x.1) b) (λ y c. went c))
  papp-by us b a = patom-by us b a

  papp-keeps : Keeps w d r (papp inner)
  papp-keeps us a = papp-by us (begins us) a

  pcons-keeps : Keeps w d r (pcons inner)
  pcons-keeps us a = and-ends (separated-keeps mark.TwoColons tt (papp inner) papp-keeps us a) (λ x b. went b)

  bound-by : (us : List Spot) → Binds us → At w d r us → Ends w (λ x. At w d r x.1) (bound_pat inner us)
  bound-by us (v.an_as {us = vs}) a = and-ends (pcons-keeps vs (over tt (over tt a))) (λ x b. went b)
  bound-by us (v.no_as e) a = rw (binder-none us e, bound_pat) (pcons-keeps us a)

  bound-keeps : Keeps w d r (bound_pat inner)
  bound-keeps us a = bound-by us (binds us) a

  pargs-by : (us : List Spot) → Begins us → At w d r us → Ends w (λ x. At w d r x.1) (pargs_by inner us (front_of us))
  pargs-by us (v.another e) a = rw e (went a)
  pargs-by us v.a_round a = inside-ends (enclosed_or_none mark.CloseRound) k tt a (λ p h b. or-none-end mark.CloseRound tt p h _ b)
  pargs-by us b a = and-ends {f = λ (x : Option (List Pattern) × List Spot). Ok (listed x.0, x.1)} (argument-by us b a) (λ x c. went c)

pub pat-keeps : {w : Whole} {d r : ℕ} (n : ℕ) → d + n ≡ w.depth → Keeps w d r (pat_at n)
pat-keeps {w} {d} {r} zero e us a = rw (pat_level zero us) (bound-keeps None (full (omega arith)) us a)
pat-keeps {w} {d} {r} (suc n) e us a = rw (pat_level (suc n) us) (bound-keeps (Some (pat_at n)) (further (omega arith) (pat-keeps n (omega arith))) us a)

inner-keeps : {w : Whole} {d r : ℕ} (n : ℕ) → d + n ≡ w.depth → KeepsInner w d r (inner_pat n)
inner-keeps zero e = full (omega arith)
inner-keeps (suc n) e = further (omega arith) (pat-keeps n (omega arith))

pub pargs-keeps : {w : Whole} {d r : ℕ} (n : ℕ) → d + n ≡ w.depth → Keeps w d r (pargs_at n)
pargs-keeps n e us a = pargs-by (inner_pat n) (inner-keeps n e) us (begins us) a

module _ {w : Whole} {d r : ℕ} (n : ℕ) (e : d + n ≡ w.depth) where
  papps-keeps : Keeps w d r (papps_at n)
  papps-keeps = repeated-keeps mark.TwoColons tt (papp_at n) (papp-keeps (inner_pat n) (inner-keeps n e))

  behind-round : (p : Parser Pattern) → Keeps w (suc d) r p → (us : List Spot) → Has mark.CloseRound us → At w (suc d) r us → Ends w (λ x. At w d r x.1) (pseq_inside n p us)
  behind-round p h us (v.there {p = q}) a = went (leave mark.CloseRound q tt a)
  behind-round p h us (v.lacking l) a = rw (l, pseq_inside) (and-ends (enclosed-end mark.CloseRound tt p h us a) (λ x b. and-ends (papps-keeps x.1 b) (λ y c. went c)))

  other-pseq : (us : List Spot) (f : Front) → (f ≡ front.Round → ⊥) → At w d r us → Ends w (λ x. At w d r x.1) (pseq_by n us f)
  other-pseq us front.Round h a = absurd (h refl)
  other-pseq us _ h a = and-ends (pat-keeps n e us a) (λ x b. went b)

  pseq-by : (us : List Spot) → Begins us → At w d r us → Ends w (λ x. At w d r x.1) (pseq_at n us)
  pseq-by us (v.another o) a = other-pseq us (front_of us) (λ h. cc) a
  pseq-by us (v.a_round {us = vs}) a = inside-ends (pseq_inside n) (inner-keeps n e) tt a (λ p h b. behind-round p h vs (has mark.CloseRound vs) b)
  pseq-by us _ a = other-pseq us (front_of us) (λ h. cc) a

  pub pseq-keeps : Keeps w d r (pseq_at n)
  pseq-keeps us a = pseq-by us (begins us) a
