-- The arguments of calls and the results of rules are read, and what is read are these.
use Rattle.std.proofs.Common.{◌≡◌, ℕ, zero, suc, ◌≤◌, List, [], ◌∷◌, length, refl, ap, arith, ◌⊎◌, inl, inr, Option, Some, None, Ok, true, false}
use Rattle.rml_base.specs.declared.place.Place.{Place}
use Rattle.rml_syntax.specs.declared.token.Spot.{Spot}
use Rattle.rml_syntax.specs.declared.token.Mark.TheVariants as mark
use Rattle.rml_syntax.specs.declared.rules.Exp.{Exp}
use Rattle.rml_syntax.specs.declared.rules.Exp.TheVariants as exp
use Rattle.rml_grammar.specs.declared.front.Front.{Front}
use Rattle.rml_grammar.specs.declared.front.Front.TheVariants as front
use Rattle.rml_grammar.specs.Tokens.{sign, after, front_of}
use Rattle.rml_grammar.specs.Reading.{◌>>=◌, enclosed, enclosed_or_none, inside}
use Rattle.rml_grammar.specs.Trees.{results_exp, listed}
use Rattle.rml_grammar.specs.Expressions.{eargument_by, exp_at, inner_exp, eapps_at, eargument_at, eargs_by, eargs_at, eseq_inside, eseq_by, eseq_at}
use Rattle.rml_grammar.specs.SpelledExpressions as s
use Rattle.rml_grammar.specs.SpelledExpressions.{IsExp, IsEapps, IsEatom1, IsEargs1, IsExpTuple, IsExps, IsMoreExps, IsEargs, IsEseq, eargs_begin}
use Rattle.rml_grammar.proofs.Views as v
use Rattle.rml_grammar.proofs.Views.{Begins, begins, Has, has, same-sign}
use Rattle.rml_grammar.proofs.Holds.{Reads, and-holds, holds-map}
use Rattle.rml_grammar.specs.Laws.{Agrees}
use Rattle.rml_grammar.proofs.Agree.{and-agrees, agrees-is, only-one, long-front}
use Rattle.rml_grammar.proofs.ShortExpressions.{short-eapp, short-eapps}
use Rattle.rml_grammar.proofs.SoundExpressions.{InnerSound, IsArgument, present, absent, Closed, Empty, empty-inside, exp-sound, enclosed-sound, tails-sound, argument-sound}
use Rattle.rml_grammar.proofs.CompleteExpressions.{exp-complete, exps-complete, begins-exp, enclosed-agrees, argument-complete, eapps-complete, or-none-none, begins-exps, not-round, none-by}

pub inner-sound : (n : ℕ) → InnerSound (inner_exp n)
inner-sound zero = tt
inner-sound (suc n) = exp-sound n

-- arguments
listed-sound : (us rest : List Spot) (a : Option (List Exp)) → IsArgument us a rest → IsEargs us (listed a) rest
listed-sound us rest _ (present r) = s.eargs1 r
listed-sound us rest _ (absent e) = s.no_eargs e

listed-reads : (n : ℕ) (us : List Spot) → Begins us → Reads IsEargs us (eargument_at n us >>= λ a. Ok (listed a.0, a.1))
listed-reads n us b = and-holds (λ x. IsArgument us x.0 x.1) (λ y. IsEargs us y.0 y.1) (eargument_at n us) _ (argument-sound (inner_exp n) (inner-sound n) us b) (λ x h. listed-sound us x.1 x.0 h)

round-args : (p : Place) (us rest : List Spot) (ts : List Exp) → Closed mark.CloseRound us ts rest ⊎ Empty mark.CloseRound us ts rest → IsEargs (sign mark.OpenRound p ∷ us) ts rest
round-args p us rest ts (inl h) = s.eargs1 (s.bracketed h.1)
round-args p us rest ts (inr h) = rw (h.1, h.2) s.empty_eargs

eargs-by : (n : ℕ) (us : List Spot) → Begins us → Reads IsEargs us (eargs_at n us)
eargs-by n us (v.a_round {p} {us = vs}) = holds-map (λ x. Closed mark.CloseRound vs x.0 x.1 ⊎ Empty mark.CloseRound vs x.0 x.1) (λ x. IsEargs us x.0 x.1) (inside (inner_exp n) (enclosed_or_none mark.CloseRound) us vs) (empty-inside (inner_exp n) (inner-sound n) mark.CloseRound us vs) (λ x h. round-args p vs x.1 x.0 h)
eargs-by n us v.a_literal = listed-reads n us v.a_literal
eargs-by n us v.a_name = listed-reads n us v.a_name
eargs-by n us v.a_square = listed-reads n us v.a_square
eargs-by n us v.a_tyvar = listed-reads n us v.a_tyvar
eargs-by n us v.a_wild = listed-reads n us v.a_wild
eargs-by n us v.a_let = listed-reads n us v.a_let
eargs-by n us v.a_not = listed-reads n us v.a_not
eargs-by n us v.a_line = listed-reads n us v.a_line
eargs-by n us (v.another e) = rw e (s.no_eargs {us = us} (rw e refl))

pub eargs-sound : (n : ℕ) (us : List Spot) → Reads IsEargs us (eargs_at n us)
eargs-sound n us = eargs-by n us (begins us)

-- no bracket: the arguments are those of eargument
eargs-is : (n : ℕ) (us : List Spot) (f : Front) → (f ≡ front.Round → ⊥) → eargs_by (inner_exp n) us f ≡ (eargument_by (inner_exp n) us f >>= λ a. Ok (listed a.0, a.1))
eargs-is n us front.Round differs = absurd (differs refl)
eargs-is n us f differs = refl

eargs-plain : (n : ℕ) (us rest : List Spot) (f : Front) (a : Option (List Exp)) → (f ≡ front.Round → ⊥) → Agrees (eargument_by (inner_exp n) us f) (a, rest) → Agrees (eargs_by (inner_exp n) us f) (listed a, rest)
eargs-plain n us rest f a differs h = rw (eargs-is n us f differs) (and-agrees (eargument_by (inner_exp n) us f) _ (a, rest) (listed a, rest) h refl)

none-front : (f : Front) → eargs_begin f ≡ false → f ≡ front.Round → ⊥
none-front f e is = cc

atom-front : {us rest : List Spot} {t : Exp} → IsEatom1 us t rest → front_of us ≡ front.Round → ⊥
atom-front s.lit e = cc
atom-front s.no_list e = cc
atom-front (s.list a) e = cc

pub eargs-complete : {us rest : List Spot} {ts : List Exp} → IsEargs us ts rest → (n : ℕ) → Agrees (eargs_at n us) (ts, rest)
eargs-complete (s.no_eargs {us} e) n = eargs-plain n us us (front_of us) None (none-front (front_of us) e) (agrees-is _ (None, us) (none-by (inner_exp n) us (front_of us) e))
eargs-complete s.empty_eargs zero = tt
eargs-complete s.empty_eargs (suc n) = refl
eargs-complete (s.eargs1 (s.bracketed a)) zero = tt
eargs-complete (s.eargs1 (s.bracketed {us} {rest} {p} {q} {ts} a)) (suc n) = rw (or-none-none (exp_at n) mark.CloseRound us (not-round us (has mark.CloseRound us) (begins-exps a))) (enclosed-agrees (exp_at n) mark.CloseRound q us rest ts (exps-complete a n))
eargs-complete (s.eargs1 (s.an_atom {us} {rest} {t} a)) n = eargs-plain n us rest (front_of us) (Some (t ∷ [])) (atom-front a) (argument-complete (s.an_atom a) n)
eargs-complete (s.eargs1 (s.a_long {us} {rest} {l} a)) n = eargs-plain n us rest (front_of us) (Some (exp.Name l ∷ [])) (let e = long-front a in λ is. (cc)) (argument-complete (s.a_long a) n)

-- results
tuple-closed : {us rest : List Spot} {p : Place} {ts : List Exp} → IsExpTuple (sign mark.OpenRound p ∷ us) ts rest → Closed mark.CloseRound us ts rest × (2 ≤ length ts)
tuple-closed (s.two_exps {r} a b c) = ((r, s.some_exps a (s.more_exps b c)), omega arith)

eseq-from : (p q : Place) (us ws rest : List Spot) (xs ys : List Exp) → IsExps us xs (sign mark.CloseRound q ∷ ws) → ((y : List Exp × List Spot) → Closed mark.CloseRound us y.0 y.1 → (xs, ws) ≡ y) → IsEapps ws ys rest
    → IsEseq (sign mark.OpenRound p ∷ us) (results_exp xs ys) rest
eseq-from p q us ws rest _ ys (s.some_exps {t} a (s.no_more_exps e)) alone d =
    s.one_exp (s.chain (s.atom (s.bracket a)) d) (λ ts tup. (let k = tuple-closed tup in let same = alone (ts, rest) k.0 in let l = ap (λ (z : List Exp × List Spot). length z.0) same in absurd (omega (arith, k.1))))
eseq-from p q us ws rest _ _ (s.some_exps a (s.more_exps b c)) alone (s.no_eapp e) = s.exps (s.two_exps a b c) e
eseq-from p q us ws rest _ _ (s.some_exps a (s.more_exps b c)) alone (s.more_eapps f g) =
    s.one_exp (s.chain (s.atom (s.tuple (s.two_exps a b c))) (s.more_eapps f g))
    (λ ts tup. (let k = tuple-closed tup in let same = alone (ts, rest) k.0 in let l = ap (λ (z : List Exp × List Spot). length z.1) same in let x = short-eapp f in let y = short-eapps g in absurd (omega arith)))

closed-complete : (n : ℕ) (us : List Spot) (y : List Exp × List Spot) → Closed mark.CloseRound us y.0 y.1 → Agrees (enclosed mark.CloseRound (exp_at n) us) y
closed-complete n us y h = enclosed-agrees (exp_at n) mark.CloseRound h.0 us y.1 y.0 (exps-complete h.1 n)

module _ (n m : ℕ) (p : Place) where
  behind-none : (us : List Spot) → after mark.CloseRound us ≡ None → eseq_inside n (exp_at m) us ≡ (enclosed mark.CloseRound (exp_at m) us >>= λ xs. eapps_at n xs.1 >>= λ ys. Ok (results_exp xs.0 ys.0, ys.1))
  behind-none us e = rw (e, eseq_inside) refl

  behind-round : (us : List Spot) → Has mark.CloseRound us → Reads IsEseq (sign mark.OpenRound p ∷ us) (eseq_inside n (exp_at m) us)
  behind-round us v.there = s.no_exps
  behind-round us (v.lacking e) = rw (behind-none us e)
      (and-holds (λ x. Closed mark.CloseRound us x.0 x.1 × ((y : List Exp × List Spot) → Closed mark.CloseRound us y.0 y.1 → x ≡ y)) (λ z. IsEseq (sign mark.OpenRound p ∷ us) z.0 z.1) (enclosed mark.CloseRound (exp_at m) us) _
      (only-one (λ x. Closed mark.CloseRound us x.0 x.1) (λ y. Closed mark.CloseRound us y.0 y.1) (enclosed mark.CloseRound (exp_at m) us) (enclosed-sound (exp_at m) (exp-sound m) mark.CloseRound us) (closed-complete m us))
      (λ x h. and-holds (λ y. IsEapps x.1 y.0 y.1) (λ z. IsEseq (sign mark.OpenRound p ∷ us) z.0 z.1) (eapps_at n x.1) _ (tails-sound (inner_exp n) (inner-sound n) x.1)
      (λ y g. eseq-from p h.0.0 us x.1 y.1 x.0 y.0 h.0.1 h.1 g)))

round-tuple : {us rest : List Spot} {ts : List Exp} → IsExpTuple us ts rest → front_of us ≡ front.Round
round-tuple (s.two_exps a b c) = refl

one-reads : (n : ℕ) (us : List Spot) → (front_of us ≡ front.Round → ⊥) → Reads IsEseq us (exp_at n us >>= λ t. Ok (t.0 ∷ [], t.1))
one-reads n us differs = and-holds (λ x. IsExp us x.0 x.1) (λ y. IsEseq us y.0 y.1) (exp_at n us) _ (exp-sound n us) (λ x h. s.one_exp h (λ ts tup. differs (round-tuple tup)))

other-eseq : (n : ℕ) (us : List Spot) → front_of us ≡ front.Other → eseq_at n us ≡ (exp_at n us >>= λ t. Ok (t.0 ∷ [], t.1))
other-eseq n us e = rw e refl

eseq-by : (n : ℕ) (us : List Spot) → Begins us → Reads IsEseq us (eseq_at n us)
eseq-by zero us (v.a_round {p} {us = vs}) = tt
eseq-by (suc n) us (v.a_round {p} {us = vs}) = behind-round (suc n) n p vs (has mark.CloseRound vs)
eseq-by n us v.a_literal = one-reads n us (λ e. cc)
eseq-by n us v.a_name = one-reads n us (λ e. cc)
eseq-by n us v.a_square = one-reads n us (λ e. cc)
eseq-by n us v.a_tyvar = one-reads n us (λ e. cc)
eseq-by n us v.a_wild = one-reads n us (λ e. cc)
eseq-by n us v.a_let = one-reads n us (λ e. cc)
eseq-by n us v.a_not = one-reads n us (λ e. cc)
eseq-by n us v.a_line = one-reads n us (λ e. cc)
eseq-by n us (v.another e) = rw (other-eseq n us e) (one-reads n us (λ h. cc))

pub eseq-sound : (n : ℕ) (us : List Spot) → Reads IsEseq us (eseq_at n us)
eseq-sound n us = eseq-by n us (begins us)

-- results are read
other-front : (n : ℕ) (us : List Spot) (f : Front) → (f ≡ front.Round → ⊥) → eseq_by n us f ≡ (exp_at n us >>= λ t. Ok (t.0 ∷ [], t.1))
other-front n us front.Round differs = absurd (differs refl)
other-front n us f differs = refl

one-plain : (n : ℕ) (us rest : List Spot) (t : Exp) → (front_of us ≡ front.Round → ⊥) → IsExp us t rest → Agrees (eseq_at n us) (t ∷ [], rest)
one-plain n us rest t differs a = rw (other-front n us (front_of us) differs) (and-agrees (exp_at n us) _ (t, rest) (t ∷ [], rest) (exp-complete a n) refl)

-- what a bracket with these items, and a chain that goes on, give
behind-agrees : (n : ℕ) (p : Place) (us ws rest : List Spot) (xs ys : List Exp) → eargs_begin (front_of us) ≡ true → Agrees (enclosed mark.CloseRound (exp_at n) us) (xs, ws) → IsEapps ws ys rest → Agrees (eseq_at (suc n) (sign mark.OpenRound p ∷ us)) (results_exp xs ys, rest)
behind-agrees n p us ws rest xs ys e h d = rw (behind-none (suc n) n p us (not-round us (has mark.CloseRound us) e))
    (and-agrees (enclosed mark.CloseRound (exp_at n) us) _ (xs, ws) (results_exp xs ys, rest) h (and-agrees (eapps_at (suc n) ws) _ (ys, rest) (results_exp xs ys, rest) (eapps-complete d (suc n) (length ws) (omega arith)) refl))

tuple-gives : (n : ℕ) {us vs ws rest : List Spot} {q r : Place} {t u : Exp} {ts : List Exp} → IsExp us t (sign mark.Comma q ∷ vs) → IsExp vs u ws → IsMoreExps ws ts (sign mark.CloseRound r ∷ rest) → Agrees (enclosed mark.CloseRound (exp_at n) us) (t ∷ u ∷ ts, rest)
tuple-gives n {us} {vs} {ws} {rest} {q} {r} {t} {u} {ts} a b c = enclosed-agrees (exp_at n) mark.CloseRound r us rest (t ∷ u ∷ ts) (exps-complete (s.some_exps a (s.more_exps b c)) n)

pub eseq-complete : {us rest : List Spot} {ts : List Exp} → IsEseq us ts rest → (n : ℕ) → Agrees (eseq_at n us) (ts, rest)
eseq-complete s.no_exps zero = tt
eseq-complete s.no_exps (suc n) = refl
eseq-complete (s.exps (s.two_exps a b c) e) zero = tt
eseq-complete (s.exps (s.two_exps {us} {rest} {p} {t} {u} {ts} a b c) e) (suc n) = behind-agrees n p us rest rest (t ∷ u ∷ ts) [] (begins-exp a) (tuple-gives n a b c) (s.no_eapp e)
eseq-complete (s.one_exp {us} {rest} {t} (s.chain (s.name l e) d) h) n = one-plain n us rest t (let f = long-front l in λ is. (cc)) (s.chain (s.name l e) d)
eseq-complete (s.one_exp {us} {rest} {t} (s.chain (s.applied l b) d) h) n = one-plain n us rest t (let f = long-front l in λ is. (cc)) (s.chain (s.applied l b) d)
eseq-complete (s.one_exp {us} {rest} {t} (s.chain (s.atom (s.simple a)) d) h) n = one-plain n us rest t (atom-front a) (s.chain (s.atom (s.simple a)) d)
eseq-complete (s.one_exp (s.chain (s.atom (s.bracket a)) d) h) zero = tt
eseq-complete (s.one_exp {rest} (s.chain {vs} {ts} (s.atom (s.bracket {us} {p} {q} {t} a)) d) h) (suc n) = behind-agrees n p us vs rest (t ∷ []) ts (begins-exp a)
    (enclosed-agrees (exp_at n) mark.CloseRound q us vs (t ∷ []) (exps-complete (s.some_exps a (s.no_more_exps refl)) n)) d
eseq-complete (s.one_exp (s.chain (s.atom (s.tuple (s.two_exps a b c))) (s.no_eapp e)) h) n = absurd (h _ (s.two_exps a b c))
eseq-complete (s.one_exp (s.chain (s.atom (s.tuple (s.two_exps a b c))) (s.more_eapps f g)) h) zero = tt
eseq-complete (s.one_exp {rest} (s.chain {vs = xs} (s.atom (s.tuple (s.two_exps {us} {p} {t} {u} {ts} a b c))) (s.more_eapps {t = y} {ts = ys} f g)) h) (suc n) =
    behind-agrees n p us xs rest (t ∷ u ∷ ts) (y ∷ ys) (begins-exp a) (tuple-gives n a b c) (s.more_eapps f g)
