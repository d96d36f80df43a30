-- An expression is read, unless a limit is met.
use Rattle.std.proofs.Common.{◌≡◌, ℕ, zero, suc, ◌≤◌, List, [], ◌∷◌, length, refl, arith, Some, None, Ok, true, false}
use Rattle.rml_base.specs.declared.place.Place.{Place}
use Rattle.rml_syntax.specs.declared.token.Spot.{Spot}
use Rattle.rml_syntax.specs.declared.token.Mark.{Mark}
use Rattle.rml_syntax.specs.declared.token.Mark.TheVariants as mark
use Rattle.rml_syntax.specs.declared.rules.Long.{Long}
use Rattle.rml_syntax.specs.declared.rules.Exp.{Exp}
use Rattle.rml_syntax.specs.declared.rules.Exp.TheVariants as exp
use Rattle.rml_grammar.specs.declared.front.Front.{Front}
use Rattle.rml_grammar.specs.declared.front.Front.TheVariants as front
use Rattle.rml_grammar.specs.Tokens.{sign, after, front_of}
use Rattle.rml_grammar.specs.Reading.{◌>>=◌, Parser, follows, separated, enclosed, enclosed_or_none, long_at}
use Rattle.rml_grammar.specs.Trees.{chain_exp, applied_exp}
use Rattle.rml_grammar.specs.Expressions.{Inner, eatom_by, eargument_by, eargument, eapp, exp_at, inner_exp, eapp_at, eatom_at, eargument_at}
use Rattle.rml_grammar.specs.SpelledNames.{IsLong}
use Rattle.rml_grammar.specs.SpelledExpressions as s
use Rattle.rml_grammar.specs.SpelledExpressions.{IsExp, IsEapps, IsEapp, IsEargs1, IsEatom, IsExpTuple, IsEatom1, IsExps, IsMoreExps, IsEargs, IsEseq, eargs_begin}
use Rattle.rml_grammar.proofs.Levels.{exp_level}
use Rattle.rml_grammar.proofs.Views as v
use Rattle.rml_grammar.proofs.Views.{Has, has, same-sign}
use Rattle.rml_grammar.specs.Laws.{Agrees}
use Rattle.rml_grammar.proofs.Agree.{and-agrees, agrees-is, long-complete, long-front, sign-agrees, tail-none, tail-more, separated-agrees}
use Rattle.rml_grammar.proofs.ShortExpressions.{short-exp, short-eapp}

-- what an expression begins with
begins-long : {us rest : List Spot} {l : Long} → IsLong us l rest → eargs_begin (front_of us) ≡ true
begins-long a = rw (long-front a) refl

begins-eatom1 : {us rest : List Spot} {t : Exp} → IsEatom1 us t rest → eargs_begin (front_of us) ≡ true
begins-eatom1 s.lit = refl
begins-eatom1 s.no_list = refl
begins-eatom1 (s.list a) = refl

begins-eatom : {us rest : List Spot} {t : Exp} → IsEatom us t rest → eargs_begin (front_of us) ≡ true
begins-eatom (s.simple a) = begins-eatom1 a
begins-eatom (s.bracket a) = refl
begins-eatom (s.tuple (s.two_exps a b c)) = refl

begins-eapp : {us rest : List Spot} {t : Exp} → IsEapp us t rest → eargs_begin (front_of us) ≡ true
begins-eapp (s.name a e) = begins-long a
begins-eapp (s.applied a b) = begins-long a
begins-eapp (s.atom a) = begins-eatom a

pub begins-exp : {us rest : List Spot} {t : Exp} → IsExp us t rest → eargs_begin (front_of us) ≡ true
begins-exp (s.chain a b) = begins-eapp a

pub begins-exps : {us rest : List Spot} {ts : List Exp} → IsExps us ts rest → eargs_begin (front_of us) ≡ true
begins-exps (s.some_exps a b) = begins-exp a

pub not-round : (us : List Spot) → Has mark.CloseRound us → eargs_begin (front_of us) ≡ true → after mark.CloseRound us ≡ None
not-round us v.there e = absurd (cc e)
not-round us (v.lacking h) e = h

not-square : (us : List Spot) → Has mark.CloseSquare us → eargs_begin (front_of us) ≡ true → after mark.CloseSquare us ≡ None
not-square us v.there e = absurd (cc e)
not-square us (v.lacking h) e = h

module _ (p : Parser Exp) where
  pub or-none-none : (m : Mark) (us : List Spot) → after m us ≡ None → enclosed_or_none m p us ≡ enclosed m p us
  or-none-none m us e = rw (e, enclosed_or_none) refl

  pub enclosed-agrees : (m : Mark) (q : Place) (us rest : List Spot) (ts : List Exp) → Agrees (separated (after mark.Comma) p us) (ts, sign m q ∷ rest) → Agrees (enclosed m p us) (ts, rest)
  enclosed-agrees m q us rest ts h = and-agrees (separated (after mark.Comma) p us) _ (ts, sign m q ∷ rest) (ts, rest) h (agrees-is _ (ts, rest) (sign-agrees m ts q rest))

  list-agrees : (q : Place) (us rest : List Spot) (ts : List Exp) → eargs_begin (front_of us) ≡ true → Agrees (separated (after mark.Comma) p us) (ts, sign mark.CloseSquare q ∷ rest) → Agrees (enclosed_or_none mark.CloseSquare p us) (ts, rest)
  list-agrees q us rest ts e h = rw (or-none-none mark.CloseSquare us (not-square us (has mark.CloseSquare us) e)) (enclosed-agrees mark.CloseSquare q us rest ts h)

  pub tuple-agrees : (o q r : Place) (us vs ws rest : List Spot) (t u : Exp) (ts : List Exp) → Agrees (p us) (t, sign mark.Comma q ∷ vs) → Agrees (p vs) (u, ws) → Agrees (follows (after mark.Comma) p (length vs) ws) (ts, sign mark.CloseRound r ∷ rest)
      → Agrees (enclosed mark.CloseRound p us) (t ∷ u ∷ ts, rest)
  tuple-agrees o q r us vs ws rest t u ts a b c = enclosed-agrees mark.CloseRound r us rest (t ∷ u ∷ ts)
      (separated-agrees (after mark.Comma) p us (sign mark.Comma q ∷ vs) (sign mark.CloseRound r ∷ rest) t (u ∷ ts) a
      (and-agrees (p vs) _ (u, ws) (u ∷ ts, sign mark.CloseRound r ∷ rest) b (and-agrees (follows (after mark.Comma) p (length vs) ws) _ (ts, sign mark.CloseRound r ∷ rest) (u ∷ ts, sign mark.CloseRound r ∷ rest) c refl)))

module _ (inner : Inner) where
  eapp-named : (us : List Spot) → front_of us ≡ front.Named → eapp inner us ≡ (long_at us >>= λ l. eargument inner l.1 >>= λ a. Ok (applied_exp l.0 a.0, a.1))
  eapp-named us e = rw e refl

  eargument-named : (us : List Spot) → front_of us ≡ front.Named → eargument inner us ≡ (long_at us >>= λ l. Ok (Some (exp.Name l.0 ∷ []), l.1))
  eargument-named us e = rw e refl

  eapp-atom : {us rest : List Spot} {t : Exp} → IsEatom us t rest → eapp inner us ≡ eatom_by inner us (front_of us)
  eapp-atom (s.simple s.lit) = refl
  eapp-atom (s.simple s.no_list) = refl
  eapp-atom (s.simple (s.list a)) = refl
  eapp-atom (s.bracket a) = refl
  eapp-atom (s.tuple (s.two_exps a b c)) = refl

  pub none-by : (us : List Spot) (f : Front) → eargs_begin f ≡ false → eargument_by inner us f ≡ Ok (None, us)
  none-by us (front.Literal l) e = absurd (cc e)
  none-by us front.Named e = absurd (cc e)
  none-by us front.Round e = absurd (cc e)
  none-by us front.Square e = absurd (cc e)
  none-by us f e = refl

mutual
  pub exp-complete : {us rest : List Spot} {t : Exp} → IsExp us t rest → (n : ℕ) → Agrees (exp_at n us) (t, rest)
  exp-complete (s.chain {us} {vs} {rest} {t} {ts} a b) n = rw (exp_level n us)
      (and-agrees (separated (after mark.TwoColons) (eapp_at n) us) _ (t ∷ ts, rest) (chain_exp (t ∷ ts), rest)
      (separated-agrees (after mark.TwoColons) (eapp_at n) us vs rest t ts (eapp-complete a n) (eapps-complete b n (length vs) (omega arith))) refl)

  pub eapps-complete : {us rest : List Spot} {ts : List Exp} → IsEapps us ts rest → (n k : ℕ) → length us ≤ k → Agrees (follows (after mark.TwoColons) (eapp_at n) k us) (ts, rest)
  eapps-complete (s.no_eapp {us} e) n k le = tail-none (after mark.TwoColons) (eapp_at n) k us e
  eapps-complete (s.more_eapps {us} {vs} {rest} {p} {t} {ts} a b) n k le = tail-more (after mark.TwoColons) (eapp_at n) k (sign mark.TwoColons p ∷ us) us vs rest t ts refl le (omega arith) (eapp-complete a n)
      (λ j e. eapps-complete b n j (let h = short-eapp a in omega arith))

  eapp-complete : {us rest : List Spot} {t : Exp} → IsEapp us t rest → (n : ℕ) → Agrees (eapp_at n us) (t, rest)
  eapp-complete (s.name {us} {rest} {l} a e) n = rw (eapp-named (inner_exp n) us (long-front a))
      (and-agrees (long_at us) _ (l, rest) (exp.Name l, rest) (agrees-is _ (l, rest) (long-complete a)) (and-agrees (eargument_at n rest) _ (None, rest) (exp.Name l, rest) (agrees-is _ (None, rest) (none-by (inner_exp n) rest (front_of rest) e)) refl))
  eapp-complete (s.applied {us} {vs} {rest} {l} {ts} a b) n = rw (eapp-named (inner_exp n) us (long-front a))
      (and-agrees (long_at us) _ (l, vs) (exp.App l ts, rest) (agrees-is _ (l, vs) (long-complete a)) (and-agrees (eargument_at n vs) _ (Some ts, rest) (exp.App l ts, rest) (argument-complete b n) refl))
  eapp-complete (s.atom {us} a) n = rw (eapp-atom (inner_exp n) a) (eatom-complete a n)

  pub argument-complete : {us rest : List Spot} {ts : List Exp} → IsEargs1 us ts rest → (n : ℕ) → Agrees (eargument_at n us) (Some ts, rest)
  argument-complete (s.bracketed a) zero = tt
  argument-complete (s.bracketed {us} {rest} {p} {q} {ts} a) (suc n) = and-agrees (enclosed mark.CloseRound (exp_at n) us) _ (ts, rest) (Some ts, rest) (enclosed-agrees (exp_at n) mark.CloseRound q us rest ts (exps-complete a n)) refl
  argument-complete (s.an_atom s.lit) n = refl
  argument-complete (s.an_atom s.no_list) zero = tt
  argument-complete (s.an_atom s.no_list) (suc n) = refl
  argument-complete (s.an_atom (s.list a)) zero = tt
  argument-complete (s.an_atom (s.list {us} {rest} {p} {q} {ts} a)) (suc n) = and-agrees (enclosed_or_none mark.CloseSquare (exp_at n) us) _ (ts, rest) (Some (exp.List ts ∷ []), rest) (list-agrees (exp_at n) q us rest ts (begins-exps a) (exps-complete a n)) refl
  argument-complete (s.a_long {us} {rest} {l} a) n = rw (eargument-named (inner_exp n) us (long-front a)) (and-agrees (long_at us) _ (l, rest) (Some (exp.Name l ∷ []), rest) (agrees-is _ (l, rest) (long-complete a)) refl)

  eatom-complete : {us rest : List Spot} {t : Exp} → IsEatom us t rest → (n : ℕ) → Agrees (eatom_at n us) (t, rest)
  eatom-complete (s.simple s.lit) n = refl
  eatom-complete (s.simple s.no_list) zero = tt
  eatom-complete (s.simple s.no_list) (suc n) = refl
  eatom-complete (s.simple (s.list a)) zero = tt
  eatom-complete (s.simple (s.list {us} {rest} {p} {q} {ts} a)) (suc n) = and-agrees (enclosed_or_none mark.CloseSquare (exp_at n) us) _ (ts, rest) (exp.List ts, rest) (list-agrees (exp_at n) q us rest ts (begins-exps a) (exps-complete a n)) refl
  eatom-complete (s.bracket a) zero = tt
  eatom-complete (s.bracket {us} {rest} {p} {q} {t} a) (suc n) = and-agrees (enclosed mark.CloseRound (exp_at n) us) _ (t ∷ [], rest) (t, rest)
      (enclosed-agrees (exp_at n) mark.CloseRound q us rest (t ∷ []) (separated-agrees (after mark.Comma) (exp_at n) us (sign mark.CloseRound q ∷ rest) (sign mark.CloseRound q ∷ rest) t [] (exp-complete a n) refl)) refl
  eatom-complete (s.tuple (s.two_exps a b c)) zero = tt
  eatom-complete (s.tuple (s.two_exps {us} {vs} {ws} {rest} {p} {q} {r} {t} {u} {ts} a b c)) (suc n) = and-agrees (enclosed mark.CloseRound (exp_at n) us) _ (t ∷ u ∷ ts, rest) (exp.Tuple (t ∷ u ∷ ts), rest)
      (tuple-agrees (exp_at n) p q r us vs ws rest t u ts (exp-complete a n) (exp-complete b n) (more-complete c n (length vs) (let h = short-exp b in omega arith))) refl

  pub exps-complete : {us rest : List Spot} {ts : List Exp} → IsExps us ts rest → (n : ℕ) → Agrees (separated (after mark.Comma) (exp_at n) us) (ts, rest)
  exps-complete (s.some_exps {us} {vs} {rest} {t} {ts} a b) n = separated-agrees (after mark.Comma) (exp_at n) us vs rest t ts (exp-complete a n) (more-complete b n (length vs) (omega arith))

  more-complete : {us rest : List Spot} {ts : List Exp} → IsMoreExps us ts rest → (n k : ℕ) → length us ≤ k → Agrees (follows (after mark.Comma) (exp_at n) k us) (ts, rest)
  more-complete (s.no_more_exps {us} e) n k le = tail-none (after mark.Comma) (exp_at n) k us e
  more-complete (s.more_exps {us} {vs} {rest} {p} {t} {ts} a b) n k le = tail-more (after mark.Comma) (exp_at n) k (sign mark.Comma p ∷ us) us vs rest t ts refl le (omega arith) (exp-complete a n)
      (λ j e. more-complete b n j (let h = short-exp a in omega arith))
