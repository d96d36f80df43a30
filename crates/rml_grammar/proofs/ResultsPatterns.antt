-- The arguments of calls and the results of rules are read, and what is read are these.
use Rattle.std.proofs.Common.{◌≡◌, ℕ, zero, suc, ◌≤◌, List, [], ◌∷◌, length, refl, ap, arith, ◌⊎◌, inl, inr, Option, Some, None, Ok, true, false}
use Rattle.rml_base.specs.declared.place.Place.{Place}
use Rattle.rml_syntax.specs.declared.token.Spot.{Spot}
use Rattle.rml_syntax.specs.declared.token.Mark.TheVariants as mark
use Rattle.rml_syntax.specs.declared.rules.Pattern.{Pattern}
use Rattle.rml_syntax.specs.declared.rules.Pattern.TheVariants as pat
use Rattle.rml_grammar.specs.declared.front.Front.{Front}
use Rattle.rml_grammar.specs.declared.front.Front.TheVariants as front
use Rattle.rml_grammar.specs.Tokens.{sign, after, front_of}
use Rattle.rml_grammar.specs.Reading.{◌>>=◌, enclosed, enclosed_or_none, inside}
use Rattle.rml_grammar.specs.Trees.{results_pat, listed}
use Rattle.rml_grammar.specs.Patterns.{pargument_by, pat_at, inner_pat, papps_at, pargument_at, pargs_by, pargs_at, pseq_inside, pseq_by, pseq_at}
use Rattle.rml_grammar.specs.SpelledPatterns as s
use Rattle.rml_grammar.specs.SpelledPatterns.{IsPat, IsPapps, IsPatom1, IsPargs1, IsPatTuple, IsPats, IsMorePats, IsPargs, IsPseq, pargs_begin}
use Rattle.rml_grammar.proofs.Views as v
use Rattle.rml_grammar.proofs.Views.{Begins, begins, Has, has, same-sign}
use Rattle.rml_grammar.proofs.Holds.{Reads, and-holds, holds-map}
use Rattle.rml_grammar.specs.Laws.{Agrees}
use Rattle.rml_grammar.proofs.Agree.{and-agrees, agrees-is, only-one, long-front}
use Rattle.rml_grammar.proofs.ShortPatterns.{short-papp, short-papps}
use Rattle.rml_grammar.proofs.SoundPatterns.{InnerSound, IsArgument, present, absent, Closed, Empty, empty-inside, pat-sound, enclosed-sound, tails-sound, argument-sound}
use Rattle.rml_grammar.proofs.CompletePatterns.{pat-complete, pats-complete, begins-pat, enclosed-agrees, argument-complete, papps-complete, or-none-none, begins-pats, not-round, none-by}

pub inner-sound : (n : ℕ) → InnerSound (inner_pat n)
inner-sound zero = tt
inner-sound (suc n) = pat-sound n

-- arguments
listed-sound : (us rest : List Spot) (a : Option (List Pattern)) → IsArgument us a rest → IsPargs us (listed a) rest
listed-sound us rest _ (present r) = s.pargs1 r
listed-sound us rest _ (absent e) = s.no_pargs e

listed-reads : (n : ℕ) (us : List Spot) → Begins us → Reads IsPargs us (pargument_at n us >>= λ a. Ok (listed a.0, a.1))
listed-reads n us b = and-holds (λ x. IsArgument us x.0 x.1) (λ y. IsPargs us y.0 y.1) (pargument_at n us) _ (argument-sound (inner_pat n) (inner-sound n) us b) (λ x h. listed-sound us x.1 x.0 h)

round-args : (p : Place) (us rest : List Spot) (ts : List Pattern) → Closed mark.CloseRound us ts rest ⊎ Empty mark.CloseRound us ts rest → IsPargs (sign mark.OpenRound p ∷ us) ts rest
round-args p us rest ts (inl h) = s.pargs1 (s.bracketed h.1)
round-args p us rest ts (inr h) = rw (h.1, h.2) s.empty_pargs

pargs-by : (n : ℕ) (us : List Spot) → Begins us → Reads IsPargs us (pargs_at n us)
pargs-by n us (v.a_round {p} {us = vs}) = holds-map (λ x. Closed mark.CloseRound vs x.0 x.1 ⊎ Empty mark.CloseRound vs x.0 x.1) (λ x. IsPargs us x.0 x.1) (inside (inner_pat n) (enclosed_or_none mark.CloseRound) us vs) (empty-inside (inner_pat n) (inner-sound n) mark.CloseRound us vs) (λ x h. round-args p vs x.1 x.0 h)
pargs-by n us v.a_literal = listed-reads n us v.a_literal
pargs-by n us v.a_name = listed-reads n us v.a_name
pargs-by n us v.a_square = listed-reads n us v.a_square
pargs-by n us v.a_tyvar = listed-reads n us v.a_tyvar
pargs-by n us v.a_wild = listed-reads n us v.a_wild
pargs-by n us v.a_let = listed-reads n us v.a_let
pargs-by n us v.a_not = listed-reads n us v.a_not
pargs-by n us v.a_line = listed-reads n us v.a_line
pargs-by n us (v.another e) = rw e (s.no_pargs {us = us} (rw e refl))

pub pargs-sound : (n : ℕ) (us : List Spot) → Reads IsPargs us (pargs_at n us)
pargs-sound n us = pargs-by n us (begins us)

-- no bracket: the arguments are those of pargument
pargs-is : (n : ℕ) (us : List Spot) (f : Front) → (f ≡ front.Round → ⊥) → pargs_by (inner_pat n) us f ≡ (pargument_by (inner_pat n) us f >>= λ a. Ok (listed a.0, a.1))
pargs-is n us front.Round differs = absurd (differs refl)
pargs-is n us f differs = refl

pargs-plain : (n : ℕ) (us rest : List Spot) (f : Front) (a : Option (List Pattern)) → (f ≡ front.Round → ⊥) → Agrees (pargument_by (inner_pat n) us f) (a, rest) → Agrees (pargs_by (inner_pat n) us f) (listed a, rest)
pargs-plain n us rest f a differs h = rw (pargs-is n us f differs) (and-agrees (pargument_by (inner_pat n) us f) _ (a, rest) (listed a, rest) h refl)

none-front : (f : Front) → pargs_begin f ≡ false → f ≡ front.Round → ⊥
none-front f e is = cc

atom-front : {us rest : List Spot} {t : Pattern} → IsPatom1 us t rest → front_of us ≡ front.Round → ⊥
atom-front s.any e = cc
atom-front s.lit e = cc
atom-front s.no_list e = cc
atom-front (s.list a) e = cc

pub pargs-complete : {us rest : List Spot} {ts : List Pattern} → IsPargs us ts rest → (n : ℕ) → Agrees (pargs_at n us) (ts, rest)
pargs-complete (s.no_pargs {us} e) n = pargs-plain n us us (front_of us) None (none-front (front_of us) e) (agrees-is _ (None, us) (none-by (inner_pat n) us (front_of us) e))
pargs-complete s.empty_pargs zero = tt
pargs-complete s.empty_pargs (suc n) = refl
pargs-complete (s.pargs1 (s.bracketed a)) zero = tt
pargs-complete (s.pargs1 (s.bracketed {us} {rest} {p} {q} {ts} a)) (suc n) = rw (or-none-none (pat_at n) mark.CloseRound us (not-round us (has mark.CloseRound us) (begins-pats a))) (enclosed-agrees (pat_at n) mark.CloseRound q us rest ts (pats-complete a n))
pargs-complete (s.pargs1 (s.an_atom {us} {rest} {t} a)) n = pargs-plain n us rest (front_of us) (Some (t ∷ [])) (atom-front a) (argument-complete (s.an_atom a) n)
pargs-complete (s.pargs1 (s.a_long {us} {rest} {l} a)) n = pargs-plain n us rest (front_of us) (Some (pat.Name l ∷ [])) (let e = long-front a in λ is. (cc)) (argument-complete (s.a_long a) n)

-- results
tuple-closed : {us rest : List Spot} {p : Place} {ts : List Pattern} → IsPatTuple (sign mark.OpenRound p ∷ us) ts rest → Closed mark.CloseRound us ts rest × (2 ≤ length ts)
tuple-closed (s.two_pats {r} a b c) = ((r, s.some_pats a (s.more_pats b c)), omega arith)

pseq-from : (p q : Place) (us ws rest : List Spot) (xs ys : List Pattern) → IsPats us xs (sign mark.CloseRound q ∷ ws) → ((y : List Pattern × List Spot) → Closed mark.CloseRound us y.0 y.1 → (xs, ws) ≡ y) → IsPapps ws ys rest
    → IsPseq (sign mark.OpenRound p ∷ us) (results_pat xs ys) rest
pseq-from p q us ws rest _ ys (s.some_pats {t} a (s.no_more_pats e)) alone d =
    s.one_pat (s.unbound tt (s.chain (s.atom (s.bracket a)) d)) (λ ts tup. (let k = tuple-closed tup in let same = alone (ts, rest) k.0 in let l = ap (λ (z : List Pattern × List Spot). length z.0) same in absurd (omega (arith, k.1))))
pseq-from p q us ws rest _ _ (s.some_pats a (s.more_pats b c)) alone (s.no_papp e) = s.pats (s.two_pats a b c) e
pseq-from p q us ws rest _ _ (s.some_pats a (s.more_pats b c)) alone (s.more_papps f g) =
    s.one_pat (s.unbound tt (s.chain (s.atom (s.tuple (s.two_pats a b c))) (s.more_papps f g)))
    (λ ts tup. (let k = tuple-closed tup in let same = alone (ts, rest) k.0 in let l = ap (λ (z : List Pattern × List Spot). length z.1) same in let x = short-papp f in let y = short-papps g in absurd (omega arith)))

closed-complete : (n : ℕ) (us : List Spot) (y : List Pattern × List Spot) → Closed mark.CloseRound us y.0 y.1 → Agrees (enclosed mark.CloseRound (pat_at n) us) y
closed-complete n us y h = enclosed-agrees (pat_at n) mark.CloseRound h.0 us y.1 y.0 (pats-complete h.1 n)

module _ (n m : ℕ) (p : Place) where
  behind-none : (us : List Spot) → after mark.CloseRound us ≡ None → pseq_inside n (pat_at m) us ≡ (enclosed mark.CloseRound (pat_at m) us >>= λ xs. papps_at n xs.1 >>= λ ys. Ok (results_pat xs.0 ys.0, ys.1))
  behind-none us e = rw (e, pseq_inside) refl

  behind-round : (us : List Spot) → Has mark.CloseRound us → Reads IsPseq (sign mark.OpenRound p ∷ us) (pseq_inside n (pat_at m) us)
  behind-round us v.there = s.no_pats
  behind-round us (v.lacking e) = rw (behind-none us e)
      (and-holds (λ x. Closed mark.CloseRound us x.0 x.1 × ((y : List Pattern × List Spot) → Closed mark.CloseRound us y.0 y.1 → x ≡ y)) (λ z. IsPseq (sign mark.OpenRound p ∷ us) z.0 z.1) (enclosed mark.CloseRound (pat_at m) us) _
      (only-one (λ x. Closed mark.CloseRound us x.0 x.1) (λ y. Closed mark.CloseRound us y.0 y.1) (enclosed mark.CloseRound (pat_at m) us) (enclosed-sound (pat_at m) (pat-sound m) mark.CloseRound us) (closed-complete m us))
      (λ x h. and-holds (λ y. IsPapps x.1 y.0 y.1) (λ z. IsPseq (sign mark.OpenRound p ∷ us) z.0 z.1) (papps_at n x.1) _ (tails-sound (inner_pat n) (inner-sound n) x.1)
      (λ y g. pseq-from p h.0.0 us x.1 y.1 x.0 y.0 h.0.1 h.1 g)))

round-tuple : {us rest : List Spot} {ts : List Pattern} → IsPatTuple us ts rest → front_of us ≡ front.Round
round-tuple (s.two_pats a b c) = refl

one-reads : (n : ℕ) (us : List Spot) → (front_of us ≡ front.Round → ⊥) → Reads IsPseq us (pat_at n us >>= λ t. Ok (t.0 ∷ [], t.1))
one-reads n us differs = and-holds (λ x. IsPat us x.0 x.1) (λ y. IsPseq us y.0 y.1) (pat_at n us) _ (pat-sound n us) (λ x h. s.one_pat h (λ ts tup. differs (round-tuple tup)))

other-pseq : (n : ℕ) (us : List Spot) → front_of us ≡ front.Other → pseq_at n us ≡ (pat_at n us >>= λ t. Ok (t.0 ∷ [], t.1))
other-pseq n us e = rw e refl

pseq-by : (n : ℕ) (us : List Spot) → Begins us → Reads IsPseq us (pseq_at n us)
pseq-by zero us (v.a_round {p} {us = vs}) = tt
pseq-by (suc n) us (v.a_round {p} {us = vs}) = behind-round (suc n) n p vs (has mark.CloseRound vs)
pseq-by n us v.a_literal = one-reads n us (λ e. cc)
pseq-by n us v.a_name = one-reads n us (λ e. cc)
pseq-by n us v.a_square = one-reads n us (λ e. cc)
pseq-by n us v.a_tyvar = one-reads n us (λ e. cc)
pseq-by n us v.a_wild = one-reads n us (λ e. cc)
pseq-by n us v.a_let = one-reads n us (λ e. cc)
pseq-by n us v.a_not = one-reads n us (λ e. cc)
pseq-by n us v.a_line = one-reads n us (λ e. cc)
pseq-by n us (v.another e) = rw (other-pseq n us e) (one-reads n us (λ h. cc))

pub pseq-sound : (n : ℕ) (us : List Spot) → Reads IsPseq us (pseq_at n us)
pseq-sound n us = pseq-by n us (begins us)

-- results are read
other-front : (n : ℕ) (us : List Spot) (f : Front) → (f ≡ front.Round → ⊥) → pseq_by n us f ≡ (pat_at n us >>= λ t. Ok (t.0 ∷ [], t.1))
other-front n us front.Round differs = absurd (differs refl)
other-front n us f differs = refl

one-plain : (n : ℕ) (us rest : List Spot) (t : Pattern) → (front_of us ≡ front.Round → ⊥) → IsPat us t rest → Agrees (pseq_at n us) (t ∷ [], rest)
one-plain n us rest t differs a = rw (other-front n us (front_of us) differs) (and-agrees (pat_at n us) _ (t, rest) (t ∷ [], rest) (pat-complete a n) refl)

-- what a bracket with these items, and a chain that goes on, give
behind-agrees : (n : ℕ) (p : Place) (us ws rest : List Spot) (xs ys : List Pattern) → pargs_begin (front_of us) ≡ true → Agrees (enclosed mark.CloseRound (pat_at n) us) (xs, ws) → IsPapps ws ys rest → Agrees (pseq_at (suc n) (sign mark.OpenRound p ∷ us)) (results_pat xs ys, rest)
behind-agrees n p us ws rest xs ys e h d = rw (behind-none (suc n) n p us (not-round us (has mark.CloseRound us) e))
    (and-agrees (enclosed mark.CloseRound (pat_at n) us) _ (xs, ws) (results_pat xs ys, rest) h (and-agrees (papps_at (suc n) ws) _ (ys, rest) (results_pat xs ys, rest) (papps-complete d (suc n) (length ws) (omega arith)) refl))

tuple-gives : (n : ℕ) {us vs ws rest : List Spot} {q r : Place} {t u : Pattern} {ts : List Pattern} → IsPat us t (sign mark.Comma q ∷ vs) → IsPat vs u ws → IsMorePats ws ts (sign mark.CloseRound r ∷ rest) → Agrees (enclosed mark.CloseRound (pat_at n) us) (t ∷ u ∷ ts, rest)
tuple-gives n {us} {vs} {ws} {rest} {q} {r} {t} {u} {ts} a b c = enclosed-agrees (pat_at n) mark.CloseRound r us rest (t ∷ u ∷ ts) (pats-complete (s.some_pats a (s.more_pats b c)) n)

pub pseq-complete : {us rest : List Spot} {ts : List Pattern} → IsPseq us ts rest → (n : ℕ) → Agrees (pseq_at n us) (ts, rest)
pseq-complete s.no_pats zero = tt
pseq-complete s.no_pats (suc n) = refl
pseq-complete (s.pats (s.two_pats a b c) e) zero = tt
pseq-complete (s.pats (s.two_pats {us} {rest} {p} {t} {u} {ts} a b c) e) (suc n) = behind-agrees n p us rest rest (t ∷ u ∷ ts) [] (begins-pat a) (tuple-gives n a b c) (s.no_papp e)
pseq-complete (s.one_pat {us} {rest} {t} (s.bound a) h) n = one-plain n us rest t (λ is. (cc)) (s.bound a)
pseq-complete (s.one_pat {us} {rest} {t} (s.unbound nb (s.chain (s.name l e) d)) h) n = one-plain n us rest t (let f = long-front l in λ is. (cc)) (s.unbound nb (s.chain (s.name l e) d))
pseq-complete (s.one_pat {us} {rest} {t} (s.unbound nb (s.chain (s.applied l b) d)) h) n = one-plain n us rest t (let f = long-front l in λ is. (cc)) (s.unbound nb (s.chain (s.applied l b) d))
pseq-complete (s.one_pat {us} {rest} {t} (s.unbound nb (s.chain (s.atom (s.simple a)) d)) h) n = one-plain n us rest t (atom-front a) (s.unbound nb (s.chain (s.atom (s.simple a)) d))
pseq-complete (s.one_pat (s.unbound nb (s.chain (s.atom (s.bracket a)) d)) h) zero = tt
pseq-complete (s.one_pat {rest} (s.unbound nb (s.chain {vs} {ts} (s.atom (s.bracket {us} {p} {q} {t} a)) d)) h) (suc n) = behind-agrees n p us vs rest (t ∷ []) ts (begins-pat a)
    (enclosed-agrees (pat_at n) mark.CloseRound q us vs (t ∷ []) (pats-complete (s.some_pats a (s.no_more_pats refl)) n)) d
pseq-complete (s.one_pat (s.unbound nb (s.chain (s.atom (s.tuple (s.two_pats a b c))) (s.no_papp e))) h) n = absurd (h _ (s.two_pats a b c))
pseq-complete (s.one_pat (s.unbound nb (s.chain (s.atom (s.tuple (s.two_pats a b c))) (s.more_papps f g))) h) zero = tt
pseq-complete (s.one_pat {rest} (s.unbound nb (s.chain {vs = xs} (s.atom (s.tuple (s.two_pats {us} {p} {t} {u} {ts} a b c))) (s.more_papps {t = y} {ts = ys} f g))) h) (suc n) =
    behind-agrees n p us xs rest (t ∷ u ∷ ts) (y ∷ ys) (begins-pat a) (tuple-gives n a b c) (s.more_papps f g)
