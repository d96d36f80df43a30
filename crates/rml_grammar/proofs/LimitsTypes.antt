-- Readings of types and signatures keep the limits.
use Rattle.std.proofs.Common.{◌≡◌, ℕ, zero, suc, ◌+◌, List, [], ◌∷◌, refl, subst, arith, Some, None}
use Rattle.rml_syntax.specs.declared.token.Spot.{Spot}
use Rattle.rml_syntax.specs.declared.token.Mark.TheVariants as mark
use Rattle.rml_syntax.specs.declared.rules.Long.{Long}
use Rattle.rml_syntax.specs.declared.types.TypeExp.{TypeExp}
use Rattle.rml_grammar.specs.declared.front.Front.{Front}
use Rattle.rml_grammar.specs.declared.front.Front.TheVariants as front
use Rattle.rml_grammar.specs.declared.types.Bracket.{Bracket}
use Rattle.rml_grammar.specs.declared.types.Bracket.TheVariants as bracket
use Rattle.rml_grammar.specs.declared.types.Types.{Types}
use Rattle.rml_grammar.specs.declared.types.Types.TheVariants as types
use Rattle.rml_grammar.specs.Tokens.{after, front_of}
use Rattle.rml_grammar.specs.Reading.{Parser, long_at}
use Rattle.rml_grammar.specs.Types.{Inner, name_next, longs_at, bracket_type, tatom, product, one_from, tseq_from, tseq_inside, tseq_by, tseq, outputs, signature, bracket_from, bracket_by, in_bracket, bracket_at, inner_bracket, tatom_at, type_at, sig_at}
use Rattle.rml_grammar.proofs.Levels.{bracket_level}
use Rattle.rml_grammar.proofs.Views as v
use Rattle.rml_grammar.proofs.Views.{Begins, begins, Has, has}
use Rattle.rml_grammar.proofs.LimitsReading.{Whole, At, Ends, went, and-ends, unexpected-ends, Keeps, Further, full, further, inside-ends, over, leave, and-sign, and-close, repeated-end, repeated-keeps, separated-keeps, long-keeps}

-- a name that stands first is not passed
pub name-stays : (us vs : List Spot) → Begins us → name_next us ≡ Some vs → us ≡ vs
name-stays us vs v.a_name e = cc
name-stays us vs (v.another o) e = absurd (cc (rw o at e))
name-stays us vs _ e = absurd (cc)

longs-keeps : {w : Whole} {d r : ℕ} → Keeps w d r longs_at
longs-keeps {w} {d} {r} us a = repeated-end (At w d r) name_next long_at (λ us vs e b. subst (λ (zs : List Spot). At w d r zs) (name-stays us vs (begins us) e) b) long-keeps us a

type-ends : {w : Whole} {d r : ℕ} (us : List Spot) (b : Bracket) (ls : List Long) → At w d r us → Ends w (λ x. At w d r x.1) (bracket_type us b ls)
type-ends us (bracket.Sig s) ls a = went a
type-ends us (bracket.Types (x ∷ [])) ls a = went a
type-ends us (bracket.Types []) [] a = unexpected-ends a
type-ends us (bracket.Types []) (l ∷ ls) a = went a
type-ends us (bracket.Types (x ∷ y ∷ xs)) [] a = unexpected-ends a
type-ends us (bracket.Types (x ∷ y ∷ xs)) (l ∷ ls) a = went a

-- the reading of what stands in a bracket, and of the closing one
abbrev Closes : Whole → ℕ → ℕ → Parser Bracket → Type 0
Closes w d r p = (us : List Spot) → At w (suc d) r us → Ends w (λ x. At w d r x.1) (p us)

module _ {w : Whole} {d r : ℕ} (inner : Inner) (k : Further w d (Closes w d r) inner) where
  tatom-by : (us : List Spot) → Begins us → At w d r us → Ends w (λ x. At w d r x.1) (tatom inner us)
  tatom-by us (v.another e) a = rw e (unexpected-ends a)
  tatom-by us (v.a_tyvar {us = vs}) a = and-ends (longs-keeps vs (over tt a)) (λ x b. went b)
  tatom-by us v.a_name a = and-ends (long-keeps us a) (λ x b. and-ends (longs-keeps x.1 b) (λ y c. went c))
  tatom-by us (v.a_round {us = vs}) a = and-ends (inside-ends (λ p. p) k tt a (λ p h b. h vs b)) (λ x b. and-ends (longs-keeps x.1 b) (λ y c. type-ends y.1 x.0 y.0 c))
  tatom-by us _ a = unexpected-ends a

  tatom-keeps : Keeps w d r (tatom inner)
  tatom-keeps us a = tatom-by us (begins us) a

  product-keeps : Keeps w d r (product inner)
  product-keeps us a = and-ends (separated-keeps mark.Star tt (tatom inner) tatom-keeps us a) (λ x b. went b)

  one-ends : (x : TypeExp × List Spot) → At w d r x.1 → Ends w (λ y. At w d r y.1) (one_from inner x)
  one-ends x a = and-ends (repeated-keeps mark.Star tt (tatom inner) tatom-keeps x.1 a) (λ y b. went b)

  seq-from : (us : List Spot) (b : Bracket) (ls : List Long) → At w d r us → Ends w (λ x. At w d r x.1) (tseq_from inner us b ls)
  seq-from us (bracket.Types (x ∷ y ∷ xs)) [] a = went a
  seq-from us b ls a = and-ends {f = one_from inner} (type-ends us b ls a) one-ends

  seq-inside : (p : Parser Bracket) → Closes w d r p → (us : List Spot) → Has mark.CloseRound us → At w (suc d) r us → Ends w (λ x. At w d r x.1) (tseq_inside inner p us)
  seq-inside p h us (v.there {p = q}) a = went (leave mark.CloseRound q tt a)
  seq-inside p h us (v.lacking l) a = rw (l, tseq_inside) (and-ends (h us a) (λ x b. and-ends (longs-keeps x.1 b) (λ y c. seq-from y.1 x.0 y.0 c)))

  other-seq : (us : List Spot) (f : Front) → (f ≡ front.Round → ⊥) → At w d r us → Ends w (λ x. At w d r x.1) (tseq_by inner us f)
  other-seq us front.Round h a = absurd (h refl)
  other-seq us _ h a = and-ends (product-keeps us a) (λ x b. went b)

  seq-by : (us : List Spot) → Begins us → At w d r us → Ends w (λ x. At w d r x.1) (tseq inner us)
  seq-by us (v.another o) a = other-seq us (front_of us) (λ h. cc) a
  seq-by us (v.a_round {us = vs}) a = inside-ends (tseq_inside inner) k tt a (λ p h b. seq-inside p h vs (has mark.CloseRound vs) b)
  seq-by us _ a = other-seq us (front_of us) (λ h. cc) a

  seq-keeps : Keeps w d r (tseq inner)
  seq-keeps us a = seq-by us (begins us) a

  outputs-keeps : (ins : Types) → Keeps w d r (outputs inner ins)
  outputs-keeps ins us a = and-ends (seq-keeps us a) (λ x b. went b)

  signature-keeps : Keeps w d r (signature inner)
  signature-keeps us a = and-ends (and-ends (seq-keeps us a) (λ x b. and-sign mark.Arrow tt x b)) (λ x b. outputs-keeps x.0 x.1 b)

module _ {w : Whole} {d r : ℕ} (inner : Inner) (k : Further w (suc d) (Closes w (suc d) r) inner) where
  from-ends : (ins : Types) (us : List Spot) → At w (suc d) r us → Ends w (λ x. At w d r x.1) (bracket_from inner ins us)
  from-ends (types.Bare ts) us a = unexpected-ends a
  from-ends (types.One t) us a = and-ends (and-ends (repeated-keeps mark.Comma tt (product inner) (product-keeps inner k) us a) (λ x b. and-close mark.CloseRound tt x b)) (λ x b. went b)

  by-ends : (ins : Types) (us : List Spot) → Has mark.Arrow us → At w (suc d) r us → Ends w (λ x. At w d r x.1) (bracket_by inner ins us (after mark.Arrow us))
  by-ends ins us (v.there {us = vs}) a = and-ends (and-ends (outputs-keeps inner k ins vs (over tt a)) (λ x b. and-close mark.CloseRound tt x b)) (λ x b. went b)
  by-ends ins us (v.lacking l) a = rw l (from-ends ins us a)

  in-bracket-closes : Closes w d r (in_bracket inner)
  in-bracket-closes us a = and-ends (seq-keeps inner k us a) (λ x b. by-ends x.0 x.1 (has mark.Arrow x.1) b)

bracket-closes : {w : Whole} {d r : ℕ} (n : ℕ) → suc d + n ≡ w.depth → Closes w d r (bracket_at n)
bracket-closes zero e us a = rw (bracket_level zero us) (in-bracket-closes None (full (omega arith)) us a)
bracket-closes (suc n) e us a = rw (bracket_level (suc n) us) (in-bracket-closes (Some (bracket_at n)) (further (omega arith) (bracket-closes n (omega arith))) us a)

inner-closes : {w : Whole} {d r : ℕ} (n : ℕ) → d + n ≡ w.depth → Further w d (Closes w d r) (inner_bracket n)
inner-closes zero e = full (omega arith)
inner-closes (suc n) e = further (omega arith) (bracket-closes n (omega arith))

module _ {w : Whole} {d r : ℕ} (n : ℕ) (e : d + n ≡ w.depth) where
  pub tatom-at-keeps : Keeps w d r (tatom_at n)
  tatom-at-keeps = tatom-keeps (inner_bracket n) (inner-closes n e)

  pub type-keeps : Keeps w d r (type_at n)
  type-keeps = product-keeps (inner_bracket n) (inner-closes n e)

  pub sig-keeps : Keeps w d r (sig_at n)
  sig-keeps = signature-keeps (inner_bracket n) (inner-closes n e)
