-- A pattern is read, unless a limit is met.
use Rattle.std.proofs.Common.{◌≡◌, ℕ, zero, suc, ◌≤◌, List, [], ◌∷◌, length, refl, arith, Some, None, Ok, true, false}
use Rattle.rml_base.specs.declared.place.Place.{Place}
use Rattle.rml_syntax.specs.declared.token.Spot.{Spot}
use Rattle.rml_syntax.specs.declared.token.Key.TheVariants as key
use Rattle.rml_syntax.specs.declared.token.Mark.{Mark}
use Rattle.rml_syntax.specs.declared.token.Mark.TheVariants as mark
use Rattle.rml_syntax.specs.declared.rules.Long.{Long}
use Rattle.rml_syntax.specs.declared.rules.Pattern.{Pattern}
use Rattle.rml_syntax.specs.declared.rules.Pattern.TheVariants as pat
use Rattle.rml_grammar.proofs.Lacks.{binder-none}
use Rattle.rml_grammar.specs.declared.front.Front.{Front}
use Rattle.rml_grammar.specs.declared.front.Front.TheVariants as front
use Rattle.rml_grammar.specs.Tokens.{named, word, sign, after, front_of}
use Rattle.rml_grammar.specs.Reading.{◌>>=◌, Parser, follows, separated, enclosed, enclosed_or_none, long_at}
use Rattle.rml_grammar.specs.Trees.{chain_pat, applied_pat}
use Rattle.rml_grammar.specs.Patterns.{Inner, patom_by, pargument_by, pargument, papp, pcons, bound_pat, binder_at, pcons_at, pat_at, inner_pat, papp_at, patom_at, pargument_at}
use Rattle.rml_grammar.specs.SpelledNames.{IsLong}
use Rattle.rml_grammar.specs.SpelledPatterns as s
use Rattle.rml_grammar.specs.SpelledPatterns.{IsPat, IsPcons, IsPapps, IsPapp, IsPargs1, IsPatom, IsPatTuple, IsPatom1, IsPats, IsMorePats, IsPargs, IsPseq, pargs_begin}
use Rattle.rml_grammar.proofs.Levels.{pat_level}
use Rattle.rml_grammar.proofs.Views as v
use Rattle.rml_grammar.proofs.Views.{Has, has, same-sign}
use Rattle.rml_grammar.specs.Laws.{Agrees}
use Rattle.rml_grammar.proofs.Agree.{and-agrees, agrees-is, long-complete, long-front, sign-agrees, tail-none, tail-more, separated-agrees}
use Rattle.rml_grammar.proofs.ShortPatterns.{short-pat, short-papp}

-- what a pattern begins with
begins-long : {us rest : List Spot} {l : Long} → IsLong us l rest → pargs_begin (front_of us) ≡ true
begins-long a = rw (long-front a) refl

begins-patom1 : {us rest : List Spot} {t : Pattern} → IsPatom1 us t rest → pargs_begin (front_of us) ≡ true
begins-patom1 s.any = refl
begins-patom1 s.lit = refl
begins-patom1 s.no_list = refl
begins-patom1 (s.list a) = refl

begins-patom : {us rest : List Spot} {t : Pattern} → IsPatom us t rest → pargs_begin (front_of us) ≡ true
begins-patom (s.simple a) = begins-patom1 a
begins-patom (s.bracket a) = refl
begins-patom (s.tuple (s.two_pats a b c)) = refl

begins-papp : {us rest : List Spot} {t : Pattern} → IsPapp us t rest → pargs_begin (front_of us) ≡ true
begins-papp (s.name a e) = begins-long a
begins-papp (s.applied a b) = begins-long a
begins-papp (s.atom a) = begins-patom a

pub begins-pat : {us rest : List Spot} {t : Pattern} → IsPat us t rest → pargs_begin (front_of us) ≡ true
begins-pat (s.bound a) = refl
begins-pat (s.unbound e (s.chain a b)) = begins-papp a

pub begins-pats : {us rest : List Spot} {ts : List Pattern} → IsPats us ts rest → pargs_begin (front_of us) ≡ true
begins-pats (s.some_pats a b) = begins-pat a

pub not-round : (us : List Spot) → Has mark.CloseRound us → pargs_begin (front_of us) ≡ true → after mark.CloseRound us ≡ None
not-round us v.there e = absurd (cc e)
not-round us (v.lacking h) e = h

not-square : (us : List Spot) → Has mark.CloseSquare us → pargs_begin (front_of us) ≡ true → after mark.CloseSquare us ≡ None
not-square us v.there e = absurd (cc e)
not-square us (v.lacking h) e = h

module _ (p : Parser Pattern) where
  pub or-none-none : (m : Mark) (us : List Spot) → after m us ≡ None → enclosed_or_none m p us ≡ enclosed m p us
  or-none-none m us e = rw (e, enclosed_or_none) refl

  pub enclosed-agrees : (m : Mark) (q : Place) (us rest : List Spot) (ts : List Pattern) → Agrees (separated (after mark.Comma) p us) (ts, sign m q ∷ rest) → Agrees (enclosed m p us) (ts, rest)
  enclosed-agrees m q us rest ts h = and-agrees (separated (after mark.Comma) p us) _ (ts, sign m q ∷ rest) (ts, rest) h (agrees-is _ (ts, rest) (sign-agrees m ts q rest))

  list-agrees : (q : Place) (us rest : List Spot) (ts : List Pattern) → pargs_begin (front_of us) ≡ true → Agrees (separated (after mark.Comma) p us) (ts, sign mark.CloseSquare q ∷ rest) → Agrees (enclosed_or_none mark.CloseSquare p us) (ts, rest)
  list-agrees q us rest ts e h = rw (or-none-none mark.CloseSquare us (not-square us (has mark.CloseSquare us) e)) (enclosed-agrees mark.CloseSquare q us rest ts h)

  pub tuple-agrees : (o q r : Place) (us vs ws rest : List Spot) (t u : Pattern) (ts : List Pattern) → Agrees (p us) (t, sign mark.Comma q ∷ vs) → Agrees (p vs) (u, ws) → Agrees (follows (after mark.Comma) p (length vs) ws) (ts, sign mark.CloseRound r ∷ rest)
      → Agrees (enclosed mark.CloseRound p us) (t ∷ u ∷ ts, rest)
  tuple-agrees o q r us vs ws rest t u ts a b c = enclosed-agrees mark.CloseRound r us rest (t ∷ u ∷ ts)
      (separated-agrees (after mark.Comma) p us (sign mark.Comma q ∷ vs) (sign mark.CloseRound r ∷ rest) t (u ∷ ts) a
      (and-agrees (p vs) _ (u, ws) (u ∷ ts, sign mark.CloseRound r ∷ rest) b (and-agrees (follows (after mark.Comma) p (length vs) ws) _ (ts, sign mark.CloseRound r ∷ rest) (u ∷ ts, sign mark.CloseRound r ∷ rest) c refl)))

module _ (inner : Inner) where
  unbound-is : (us : List Spot) → binder_at us ≡ None → bound_pat inner us ≡ pcons inner us
  unbound-is us e = rw (e, bound_pat) refl

  papp-named : (us : List Spot) → front_of us ≡ front.Named → papp inner us ≡ (long_at us >>= λ l. pargument inner l.1 >>= λ a. Ok (applied_pat l.0 a.0, a.1))
  papp-named us e = rw e refl

  pargument-named : (us : List Spot) → front_of us ≡ front.Named → pargument inner us ≡ (long_at us >>= λ l. Ok (Some (pat.Name l.0 ∷ []), l.1))
  pargument-named us e = rw e refl

  papp-atom : {us rest : List Spot} {t : Pattern} → IsPatom us t rest → papp inner us ≡ patom_by inner us (front_of us)
  papp-atom (s.simple s.any) = refl
  papp-atom (s.simple s.lit) = refl
  papp-atom (s.simple s.no_list) = refl
  papp-atom (s.simple (s.list a)) = refl
  papp-atom (s.bracket a) = refl
  papp-atom (s.tuple (s.two_pats a b c)) = refl

  pub none-by : (us : List Spot) (f : Front) → pargs_begin f ≡ false → pargument_by inner us f ≡ Ok (None, us)
  none-by us (front.Literal l) e = absurd (cc e)
  none-by us front.Named e = absurd (cc e)
  none-by us front.Round e = absurd (cc e)
  none-by us front.Square e = absurd (cc e)
  none-by us front.Wild e = absurd (cc e)
  none-by us f e = refl

mutual
  pub pat-complete : {us rest : List Spot} {t : Pattern} → IsPat us t rest → (n : ℕ) → Agrees (pat_at n us) (t, rest)
  pat-complete (s.bound {us} {rest} {n = m} {p} {q} {t} a) n = rw (pat_level n (named m p ∷ word key.KAs q ∷ us)) (and-agrees (pcons_at n us) _ (t, rest) (pat.Bind m p t, rest) (pcons-complete a n) refl)
  pat-complete (s.unbound {us} {rest} {t} e a) n = rw (pat_level n us, unbound-is (inner_pat n) us (binder-none us e)) (pcons-complete a n)

  pub pcons-complete : {us rest : List Spot} {t : Pattern} → IsPcons us t rest → (n : ℕ) → Agrees (pcons_at n us) (t, rest)
  pcons-complete (s.chain {us} {vs} {rest} {t} {ts} a b) n =
      (and-agrees (separated (after mark.TwoColons) (papp_at n) us) _ (t ∷ ts, rest) (chain_pat (t ∷ ts), rest)
      (separated-agrees (after mark.TwoColons) (papp_at n) us vs rest t ts (papp-complete a n) (papps-complete b n (length vs) (omega arith))) refl)

  pub papps-complete : {us rest : List Spot} {ts : List Pattern} → IsPapps us ts rest → (n k : ℕ) → length us ≤ k → Agrees (follows (after mark.TwoColons) (papp_at n) k us) (ts, rest)
  papps-complete (s.no_papp {us} e) n k le = tail-none (after mark.TwoColons) (papp_at n) k us e
  papps-complete (s.more_papps {us} {vs} {rest} {p} {t} {ts} a b) n k le = tail-more (after mark.TwoColons) (papp_at n) k (sign mark.TwoColons p ∷ us) us vs rest t ts refl le (omega arith) (papp-complete a n)
      (λ j e. papps-complete b n j (let h = short-papp a in omega arith))

  papp-complete : {us rest : List Spot} {t : Pattern} → IsPapp us t rest → (n : ℕ) → Agrees (papp_at n us) (t, rest)
  papp-complete (s.name {us} {rest} {l} a e) n = rw (papp-named (inner_pat n) us (long-front a))
      (and-agrees (long_at us) _ (l, rest) (pat.Name l, rest) (agrees-is _ (l, rest) (long-complete a)) (and-agrees (pargument_at n rest) _ (None, rest) (pat.Name l, rest) (agrees-is _ (None, rest) (none-by (inner_pat n) rest (front_of rest) e)) refl))
  papp-complete (s.applied {us} {vs} {rest} {l} {ts} a b) n = rw (papp-named (inner_pat n) us (long-front a))
      (and-agrees (long_at us) _ (l, vs) (pat.App l ts, rest) (agrees-is _ (l, vs) (long-complete a)) (and-agrees (pargument_at n vs) _ (Some ts, rest) (pat.App l ts, rest) (argument-complete b n) refl))
  papp-complete (s.atom {us} a) n = rw (papp-atom (inner_pat n) a) (patom-complete a n)

  pub argument-complete : {us rest : List Spot} {ts : List Pattern} → IsPargs1 us ts rest → (n : ℕ) → Agrees (pargument_at n us) (Some ts, rest)
  argument-complete (s.bracketed a) zero = tt
  argument-complete (s.bracketed {us} {rest} {p} {q} {ts} a) (suc n) = and-agrees (enclosed mark.CloseRound (pat_at n) us) _ (ts, rest) (Some ts, rest) (enclosed-agrees (pat_at n) mark.CloseRound q us rest ts (pats-complete a n)) refl
  argument-complete (s.an_atom s.any) n = refl
  argument-complete (s.an_atom s.lit) n = refl
  argument-complete (s.an_atom s.no_list) zero = tt
  argument-complete (s.an_atom s.no_list) (suc n) = refl
  argument-complete (s.an_atom (s.list a)) zero = tt
  argument-complete (s.an_atom (s.list {us} {rest} {p} {q} {ts} a)) (suc n) = and-agrees (enclosed_or_none mark.CloseSquare (pat_at n) us) _ (ts, rest) (Some (pat.List ts ∷ []), rest) (list-agrees (pat_at n) q us rest ts (begins-pats a) (pats-complete a n)) refl
  argument-complete (s.a_long {us} {rest} {l} a) n = rw (pargument-named (inner_pat n) us (long-front a)) (and-agrees (long_at us) _ (l, rest) (Some (pat.Name l ∷ []), rest) (agrees-is _ (l, rest) (long-complete a)) refl)

  patom-complete : {us rest : List Spot} {t : Pattern} → IsPatom us t rest → (n : ℕ) → Agrees (patom_at n us) (t, rest)
  patom-complete (s.simple s.any) n = refl
  patom-complete (s.simple s.lit) n = refl
  patom-complete (s.simple s.no_list) zero = tt
  patom-complete (s.simple s.no_list) (suc n) = refl
  patom-complete (s.simple (s.list a)) zero = tt
  patom-complete (s.simple (s.list {us} {rest} {p} {q} {ts} a)) (suc n) = and-agrees (enclosed_or_none mark.CloseSquare (pat_at n) us) _ (ts, rest) (pat.List ts, rest) (list-agrees (pat_at n) q us rest ts (begins-pats a) (pats-complete a n)) refl
  patom-complete (s.bracket a) zero = tt
  patom-complete (s.bracket {us} {rest} {p} {q} {t} a) (suc n) = and-agrees (enclosed mark.CloseRound (pat_at n) us) _ (t ∷ [], rest) (t, rest)
      (enclosed-agrees (pat_at n) mark.CloseRound q us rest (t ∷ []) (separated-agrees (after mark.Comma) (pat_at n) us (sign mark.CloseRound q ∷ rest) (sign mark.CloseRound q ∷ rest) t [] (pat-complete a n) refl)) refl
  patom-complete (s.tuple (s.two_pats a b c)) zero = tt
  patom-complete (s.tuple (s.two_pats {us} {vs} {ws} {rest} {p} {q} {r} {t} {u} {ts} a b c)) (suc n) = and-agrees (enclosed mark.CloseRound (pat_at n) us) _ (t ∷ u ∷ ts, rest) (pat.Tuple (t ∷ u ∷ ts), rest)
      (tuple-agrees (pat_at n) p q r us vs ws rest t u ts (pat-complete a n) (pat-complete b n) (more-complete c n (length vs) (let h = short-pat b in omega arith))) refl

  pub pats-complete : {us rest : List Spot} {ts : List Pattern} → IsPats us ts rest → (n : ℕ) → Agrees (separated (after mark.Comma) (pat_at n) us) (ts, rest)
  pats-complete (s.some_pats {us} {vs} {rest} {t} {ts} a b) n = separated-agrees (after mark.Comma) (pat_at n) us vs rest t ts (pat-complete a n) (more-complete b n (length vs) (omega arith))

  more-complete : {us rest : List Spot} {ts : List Pattern} → IsMorePats us ts rest → (n k : ℕ) → length us ≤ k → Agrees (follows (after mark.Comma) (pat_at n) k us) (ts, rest)
  more-complete (s.no_more_pats {us} e) n k le = tail-none (after mark.Comma) (pat_at n) k us e
  more-complete (s.more_pats {us} {vs} {rest} {p} {t} {ts} a b) n k le = tail-more (after mark.Comma) (pat_at n) k (sign mark.Comma p ∷ us) us vs rest t ts refl le (omega arith) (pat-complete a n)
      (λ j e. more-complete b n j (let h = short-pat a in omega arith))
