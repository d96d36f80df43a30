-- Types and signatures read with larger limits.
use Rattle.std.proofs.Common.{◌≡◌, ℕ, zero, suc, ◌<◌, List, [], ◌∷◌, length, refl, ap, arith, Some, None}
use Rattle.rml_syntax.specs.declared.token.Spot.{Spot}
use Rattle.rml_syntax.specs.declared.token.Mark.TheVariants as mark
use Rattle.rml_syntax.specs.declared.rules.Long.{Long}
use Rattle.rml_syntax.specs.declared.types.TypeExp.{TypeExp}
use Rattle.rml_grammar.specs.declared.front.Front.{Front}
use Rattle.rml_grammar.specs.declared.front.Front.TheVariants as front
use Rattle.rml_grammar.specs.declared.types.Bracket.{Bracket}
use Rattle.rml_grammar.specs.declared.types.Bracket.TheVariants as bracket
use Rattle.rml_grammar.specs.declared.types.Types.{Types}
use Rattle.rml_grammar.specs.declared.types.Types.TheVariants as types
use Rattle.rml_grammar.specs.Tokens.{sign, after, front_of}
use Rattle.rml_grammar.specs.Reading.{Parser, long_at}
use Rattle.rml_grammar.specs.Types.{Inner, name_next, longs_at, bracket_type, tatom, product, one_from, tseq_from, tseq_inside, tseq_by, tseq, outputs, signature, bracket_from, bracket_by, in_bracket, bracket_at, inner_bracket, tatom_at, type_at, sig_at}
use Rattle.rml_grammar.proofs.Levels.{bracket_level}
use Rattle.rml_grammar.proofs.Fine.{Within, Fine, bind-within, within-more}
use Rattle.rml_grammar.proofs.FineTypes.{bracket-fine}
use Rattle.rml_grammar.proofs.Views as v
use Rattle.rml_grammar.proofs.Views.{Begins, begins, Has, has}
use Rattle.rml_grammar.proofs.LimitsTypes.{name-stays}
use Rattle.rml_grammar.proofs.LimitsLarger.{Steps, and-steps, steps-within, end-steps, unexpected-steps, skip, Climbs, sign-steps, repeated-climbs, signs-climb, more-climb, Higher, first, further, inside-steps, long-climbs}

longs-climb : Climbs longs_at longs_at
longs-climb us = repeated-climbs name_next long_at long_at (λ us vs e. let h = ap length (name-stays us vs (begins us) e) in omega arith) long-climbs us

type-steps : (us : List Spot) (b : Bracket) (ls : List Long) → Steps (length us) (bracket_type us b ls) (bracket_type us b ls)
type-steps us (bracket.Sig s) ls = end-steps
type-steps us (bracket.Types (x ∷ [])) ls = end-steps
type-steps us (bracket.Types []) [] = unexpected-steps
type-steps us (bracket.Types []) (l ∷ ls) = end-steps
type-steps us (bracket.Types (x ∷ y ∷ xs)) [] = unexpected-steps
type-steps us (bracket.Types (x ∷ y ∷ xs)) (l ∷ ls) = end-steps

module _ (i j : Inner) (h : Higher i j) where
  tatom-by : (us : List Spot) → Begins us → Steps (length us) (tatom i us) (tatom j us)
  tatom-by us (v.another e) = rw e unexpected-steps
  tatom-by us (v.a_tyvar {us = vs}) = skip (and-steps (longs-climb vs) (λ x. end-steps))
  tatom-by us v.a_name = and-steps (long-climbs us) (λ x. and-steps (longs-climb x.1) (λ y. end-steps))
  tatom-by us (v.a_round {p = o} {us = vs}) = and-steps (inside-steps (sign mark.OpenRound o) vs (λ p. p) (λ p. p) h (λ q f. f.within vs) (λ p q c. c vs)) (λ x. and-steps (longs-climb x.1) (λ y. type-steps y.1 x.0 y.0))
  tatom-by us _ = unexpected-steps

  pub tatom-climbs : Climbs (tatom i) (tatom j)
  tatom-climbs us = tatom-by us (begins us)

  pub product-climbs : Climbs (product i) (product j)
  product-climbs us = and-steps (signs-climb mark.Star (tatom i) (tatom j) tatom-climbs us) (λ x. end-steps)

  one-steps : (x : TypeExp × List Spot) → Steps (length x.1) (one_from i x) (one_from j x)
  one-steps x = and-steps (more-climb mark.Star (tatom i) (tatom j) tatom-climbs x.1) (λ y. end-steps)

  seq-from : (us : List Spot) (b : Bracket) (ls : List Long) → Steps (length us) (tseq_from i us b ls) (tseq_from j us b ls)
  seq-from us (bracket.Types (x ∷ y ∷ xs)) [] = end-steps
  seq-from us b ls = and-steps {f = one_from i} {g = one_from j} (type-steps us b ls) one-steps

  seq-inside : (p q : Parser Bracket) → Climbs p q → (us : List Spot) → Has mark.CloseRound us → Steps (length us) (tseq_inside i p us) (tseq_inside j q us)
  seq-inside p q c us v.there = skip end-steps
  seq-inside p q c us (v.lacking l) = rw (l, tseq_inside) (and-steps (c us) (λ x. and-steps (longs-climb x.1) (λ y. seq-from y.1 x.0 y.0)))

  inside-within : (q : Parser Bracket) → Fine q → (us : List Spot) → Has mark.CloseRound us → Within (length us) (tseq_inside j q us)
  inside-within q f us v.there = omega arith
  inside-within q f us (v.lacking l) = rw (l, tseq_inside) (bind-within (length us) (q us) _ (f.within us)
      (λ x le. within-more (length x.1) (length us) _ le (steps-within (and-steps (longs-climb x.1) (λ y. seq-from y.1 x.0 y.0)))))

  other-seq : (us : List Spot) (f : Front) → (f ≡ front.Round → ⊥) → Steps (length us) (tseq_by i us f) (tseq_by j us f)
  other-seq us front.Round d = absurd (d refl)
  other-seq us _ d = and-steps (product-climbs us) (λ x. end-steps)

  seq-by : (us : List Spot) → Begins us → Steps (length us) (tseq i us) (tseq j us)
  seq-by us (v.another o) = other-seq us (front_of us) (λ d. cc)
  seq-by us (v.a_round {p = o} {us = vs}) = inside-steps (sign mark.OpenRound o) vs (tseq_inside i) (tseq_inside j) h (λ q f. inside-within q f vs (has mark.CloseRound vs)) (λ p q c. seq-inside p q c vs (has mark.CloseRound vs))
  seq-by us _ = other-seq us (front_of us) (λ d. cc)

  seq-climbs : Climbs (tseq i) (tseq j)
  seq-climbs us = seq-by us (begins us)

  outputs-climb : (ins : Types) → Climbs (outputs i ins) (outputs j ins)
  outputs-climb ins us = and-steps (seq-climbs us) (λ x. end-steps)

  pub signature-climbs : Climbs (signature i) (signature j)
  signature-climbs us = and-steps (and-steps (seq-climbs us) (λ x. sign-steps mark.Arrow x)) (λ x. outputs-climb x.0 x.1)

  from-steps : (ins : Types) (us : List Spot) → Steps (length us) (bracket_from i ins us) (bracket_from j ins us)
  from-steps (types.Bare ts) us = unexpected-steps
  from-steps (types.One t) us = and-steps (and-steps (more-climb mark.Comma (product i) (product j) product-climbs us) (λ x. sign-steps mark.CloseRound x)) (λ x. end-steps)

  by-steps : (ins : Types) (us : List Spot) → Has mark.Arrow us → Steps (length us) (bracket_by i ins us (after mark.Arrow us)) (bracket_by j ins us (after mark.Arrow us))
  by-steps ins us (v.there {us = vs}) = skip (and-steps (and-steps (outputs-climb ins vs) (λ x. sign-steps mark.CloseRound x)) (λ x. end-steps))
  by-steps ins us (v.lacking l) = rw l (from-steps ins us)

  in-bracket-climbs : Climbs (in_bracket i) (in_bracket j)
  in-bracket-climbs us = and-steps (seq-climbs us) (λ x. by-steps x.0 x.1 (has mark.Arrow x.1))

bracket-climbs : (n m : ℕ) → n < m → Climbs (bracket_at n) (bracket_at m)
bracket-climbs zero zero l us = absurd (omega arith)
bracket-climbs (suc n) zero l us = absurd (omega arith)
bracket-climbs zero (suc m) l us = rw (bracket_level zero us, bracket_level (suc m) us) (in-bracket-climbs None (Some (bracket_at m)) (first (bracket-fine m)) us)
bracket-climbs (suc n) (suc m) l us = rw (bracket_level (suc n) us, bracket_level (suc m) us) (in-bracket-climbs (Some (bracket_at n)) (Some (bracket_at m)) (further (bracket-climbs n m (omega arith))) us)

inner-higher : (n m : ℕ) → n < m → Higher (inner_bracket n) (inner_bracket m)
inner-higher zero zero l = absurd (omega arith)
inner-higher (suc n) zero l = absurd (omega arith)
inner-higher zero (suc m) l = first (bracket-fine m)
inner-higher (suc n) (suc m) l = further (bracket-climbs n m (omega arith))

module _ (n m : ℕ) (l : n < m) where
  pub tatom-at-climbs : Climbs (tatom_at n) (tatom_at m)
  tatom-at-climbs = tatom-climbs (inner_bracket n) (inner_bracket m) (inner-higher n m l)

  pub type-climbs : Climbs (type_at n) (type_at m)
  type-climbs = product-climbs (inner_bracket n) (inner_bracket m) (inner-higher n m l)

  pub sig-climbs : Climbs (sig_at n) (sig_at m)
  sig-climbs = signature-climbs (inner_bracket n) (inner_bracket m) (inner-higher n m l)
