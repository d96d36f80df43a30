-- A type or a signature is read, unless a limit is met.
use Rattle.std.proofs.Common.{◌≡◌, ℕ, zero, suc, ◌≤◌, List, [], ◌∷◌, length, refl, ap, arith, Some, None, Result, Ok, Err}
use Rattle.rml_base.specs.declared.place.Place.{Place}
use Rattle.rml_syntax.specs.declared.token.Spot.{Spot}
use Rattle.rml_syntax.specs.declared.token.Mark.TheVariants as mark
use Rattle.rml_syntax.specs.declared.rules.Long.{Long}
use Rattle.rml_syntax.specs.declared.types.TypeExp.{TypeExp}
use Rattle.rml_syntax.specs.declared.types.TypeExp.TheVariants as type
use Rattle.rml_syntax.specs.declared.types.Sig.{Sig}
use Rattle.rml_grammar.proofs.Lacks.{name-none}
use Rattle.rml_grammar.specs.declared.front.Front.TheVariants as front
use Rattle.rml_grammar.specs.declared.types.Bracket.{Bracket}
use Rattle.rml_grammar.specs.declared.types.Bracket.TheVariants as bracket
use Rattle.rml_grammar.specs.declared.types.Types.{Types}
use Rattle.rml_grammar.specs.declared.types.Types.TheVariants as types
use Rattle.rml_grammar.specs.declared.fault.Fault.{Fault}
use Rattle.rml_grammar.specs.Tokens.{sign, after, front_of}
use Rattle.rml_grammar.specs.Lacks.{LacksName}
use Rattle.rml_grammar.specs.Reading.{◌>>=◌, Parser, follows, repeated, separated, before, unexpected, long_at}
use Rattle.rml_grammar.specs.Trees.{named_type, product_type}
use Rattle.rml_grammar.specs.Types.{Inner, name_next, longs_at, bracket_type, tatom, product, one_from, tseq_from, tseq_inside, tseq, types_of, outputs, bracket_at, inner_bracket, tatom_at, type_at, tseq_at, sig_at}
use Rattle.rml_grammar.specs.SpelledNames.{IsLong}
use Rattle.rml_grammar.specs.SpelledTypes as s
use Rattle.rml_grammar.specs.SpelledTypes.{IsLongs, IsSig, IsTseq, IsTypeTuple, IsMoreTypes, IsType, IsFactors, IsTatom, IsTbase}
use Rattle.rml_grammar.proofs.Levels.{bracket_level}
use Rattle.rml_grammar.proofs.Views as v
use Rattle.rml_grammar.proofs.Views.{Has, has, same-sign}
use Rattle.rml_grammar.specs.Laws.{Agrees}
use Rattle.rml_grammar.proofs.Agree.{and-agrees, agrees-is, long-complete, long-front, sign-agrees, tail-none, tail-more, separated-agrees}
use Rattle.rml_grammar.proofs.ShortTypes.{shorter-long, short-type, short-tatom}
use Rattle.rml_grammar.proofs.SoundTypes.{seq-is}

-- names
opens-long : {us rest : List Spot} {l : Long} → IsLong us l rest → name_next us ≡ Some us
opens-long a = rw (long-front a) refl

longs-turns : {us rest : List Spot} {ls : List Long} → IsLongs us ls rest → (k : ℕ) → length us ≤ k → Agrees (follows name_next long_at k us) (ls, rest)
longs-turns (s.no_long {us} e) k le = tail-none name_next long_at k us (name-none us e)
longs-turns (s.more_longs {us} {vs} {rest} {l} {ls} a b) k le = tail-more name_next long_at k us us vs rest l ls (opens-long a) le (let h = shorter-long a in omega arith) (agrees-is _ (l, vs) (long-complete a))
    (λ j e. longs-turns b j (let h = shorter-long a in omega arith))

pub longs-complete : {us rest : List Spot} {ls : List Long} → IsLongs us ls rest → Agrees (longs_at us) (ls, rest)
longs-complete {us} a = longs-turns a (length us) (omega arith)

-- no type begins with a closing bracket
closed-bracket : (n : ℕ) (p : Place) (us : List Spot) → bracket_at n (sign mark.CloseRound p ∷ us) ≡ unexpected (sign mark.CloseRound p ∷ us)
closed-bracket n p us = rw (bracket_level n (sign mark.CloseRound p ∷ us)) refl

abbrev Refuses : Parser Bracket → Type 0
Refuses p = (q : Place) (vs : List Spot) → p (sign mark.CloseRound q ∷ vs) ≡ unexpected (sign mark.CloseRound q ∷ vs)

-- a tatom behind a bracket is where the types of a signature go on from
module _ (inner : Inner) where
  from-is : (rest : List Spot) (b : Bracket) (ls : List Long) (t : TypeExp) (us : List Spot) → Agrees (bracket_type rest b ls) (t, us) → (bracket_type rest b ls ≡ Ok (t, us)) × (tseq_from inner rest b ls ≡ (bracket_type rest b ls >>= one_from inner))
  from-is rest (bracket.Sig x) ls t us h = (ap Ok h, refl)
  from-is rest (bracket.Types []) [] t us h = absurd h
  from-is rest (bracket.Types []) (l ∷ ls) t us h = (ap Ok h, refl)
  from-is rest (bracket.Types (x ∷ [])) [] t us h = (ap Ok h, refl)
  from-is rest (bracket.Types (x ∷ [])) (l ∷ ls) t us h = (ap Ok h, refl)
  from-is rest (bracket.Types (x ∷ y ∷ xs)) [] t us h = absurd h
  from-is rest (bracket.Types (x ∷ y ∷ xs)) (l ∷ ls) t us h = (ap Ok h, refl)

  inside-none : (p : Parser Bracket) (us : List Spot) → after mark.CloseRound us ≡ None → tseq_inside inner p us ≡ (p us >>= λ b. longs_at b.1 >>= λ ls. tseq_from inner ls.1 b.0 ls.0)
  inside-none p us e = rw (e, tseq_inside) refl

  -- by what the bracket and the names behind it gave
  by-longs : (b : Bracket) (r : Result (List Long × List Spot) Fault) (t : TypeExp) (ws : List Spot) (y : Types × List Spot) → Agrees (r >>= λ ls. bracket_type ls.1 b ls.0) (t, ws) → Agrees (one_from inner (t, ws)) y → Agrees (r >>= λ ls. tseq_from inner ls.1 b ls.0) y
  by-longs b (Err f) t ws y h g = h
  by-longs b (Ok ls) t ws y h g = let k = from-is ls.1 b ls.0 t ws h in rw (k.1, k.0) g

  by-bracket : (r : Result (Bracket × List Spot) Fault) (t : TypeExp) (ws : List Spot) (y : Types × List Spot) → Agrees (r >>= λ b. longs_at b.1 >>= λ ls. bracket_type ls.1 b.0 ls.0) (t, ws) → Agrees (one_from inner (t, ws)) y
      → Agrees (r >>= λ b. longs_at b.1 >>= λ ls. tseq_from inner ls.1 b.0 ls.0) y
  by-bracket (Err f) t ws y h g = h
  by-bracket (Ok b) t ws y h g = by-longs b.0 (longs_at b.1) t ws y h g

  not-closed : {B : Type 0} (p : Parser Bracket) (us : List Spot) (f : Bracket × List Spot → Result (B × List Spot) Fault) (y : B × List Spot) → Refuses p → Has mark.CloseRound us → Agrees (p us >>= f) y → after mark.CloseRound us ≡ None
  not-closed p us f y never (v.there {p = q} {us = vs}) h = absurd (rw (never q vs) at h)
  not-closed p us f y never (v.lacking e) h = e

  seq-behind : (p : Parser Bracket) → Refuses p → (vs : List Spot) (t : TypeExp) (ws : List Spot) (y : Types × List Spot) → Agrees (p vs >>= λ b. longs_at b.1 >>= λ ls. bracket_type ls.1 b.0 ls.0) (t, ws) → Agrees (one_from inner (t, ws)) y
      → Agrees (tseq_inside inner p vs) y
  seq-behind p never vs t ws y h g = rw (inside-none p vs (not-closed p vs (λ b. longs_at b.1 >>= λ ls. bracket_type ls.1 b.0 ls.0) (t, ws) never (has mark.CloseRound vs) h)) (by-bracket (p vs) t ws y h g)

  bare-behind : (p : Parser Bracket) → Refuses p → (us rest : List Spot) (t u : TypeExp) (ts : List TypeExp) → Agrees (p us) (bracket.Types (t ∷ u ∷ ts), rest) → LacksName rest → Agrees (tseq_inside inner p us) (types.Bare (t ∷ u ∷ ts), rest)
  bare-behind p never us rest t u ts a e = rw (inside-none p us (not-closed p us (λ b. Ok b) (bracket.Types (t ∷ u ∷ ts), rest) never (has mark.CloseRound us) (and-agrees (p us) (λ b. Ok b) (bracket.Types (t ∷ u ∷ ts), rest) (bracket.Types (t ∷ u ∷ ts), rest) a refl)))
      (and-agrees (p us) _ (bracket.Types (t ∷ u ∷ ts), rest) (types.Bare (t ∷ u ∷ ts), rest) a (and-agrees (longs_at rest) _ ([], rest) (types.Bare (t ∷ u ∷ ts), rest) (longs-complete (s.no_long e)) refl))

abbrev InnerRefuses : Inner → Type 0
InnerRefuses None = Unit {0}
InnerRefuses (Some p) = Refuses p

inner-refuses : (n : ℕ) → InnerRefuses (inner_bracket n)
inner-refuses zero = tt
inner-refuses (suc n) = closed-bracket n

-- one type, where a bracket begins it
round-seq : (inner : Inner) → InnerRefuses inner → (o : Place) (vs : List Spot) (t : TypeExp) (ws : List Spot) (y : Types × List Spot) → Agrees (tatom inner (sign mark.OpenRound o ∷ vs)) (t, ws) → Agrees (one_from inner (t, ws)) y
    → Agrees (tseq inner (sign mark.OpenRound o ∷ vs)) y
round-seq None never o vs t ws y h g = tt
round-seq (Some p) never o vs t ws y h g = seq-behind (Some p) p never vs t ws y h g

-- one type, where none does
plain-seq : (inner : Inner) (us : List Spot) (t : TypeExp) (rest : List Spot) → (front_of us ≡ front.Round → ⊥) → Agrees (product inner us) (t, rest) → Agrees (tseq inner us) (types.One t, rest)
plain-seq inner us t rest differs h = rw (seq-is inner us (front_of us) differs) (and-agrees (product inner us) _ (t, rest) (types.One t, rest) h refl)

one-agrees : (inner : Inner) (t : TypeExp) (ts : List TypeExp) (vs rest : List Spot) → Agrees (repeated (after mark.Star) (tatom inner) vs) (ts, rest) → Agrees (one_from inner (t, vs)) (types.One (product_type (t ∷ ts)), rest)
one-agrees inner t ts vs rest h = and-agrees (repeated (after mark.Star) (tatom inner) vs) _ (ts, rest) (types.One (product_type (t ∷ ts)), rest) h refl

product-agrees : (inner : Inner) (t : TypeExp) (ts : List TypeExp) (us vs rest : List Spot) → Agrees (tatom inner us) (t, vs) → Agrees (repeated (after mark.Star) (tatom inner) vs) (ts, rest) → Agrees (product inner us) (product_type (t ∷ ts), rest)
product-agrees inner t ts us vs rest a b = and-agrees (separated (after mark.Star) (tatom inner) us) _ (t ∷ ts, rest) (product_type (t ∷ ts), rest) (separated-agrees (after mark.Star) (tatom inner) us vs rest t ts a b) refl

tatom-named : (inner : Inner) (us : List Spot) → front_of us ≡ front.Named → tatom inner us ≡ (long_at us >>= λ l. longs_at l.1 >>= λ ls. Ok (type.App [] (l.0 ∷ ls.0), ls.1))
tatom-named inner us e = rw e refl

-- whether a bracket begins it
data Shape : List Spot → Type 0 where
  a_bracket : {p : Place} {us : List Spot} → Shape (sign mark.OpenRound p ∷ us)
  no_bracket : {us : List Spot} → (front_of us ≡ front.Round → ⊥) → Shape us

shape-long : {us rest : List Spot} {l : Long} → IsLong us l rest → Shape us
shape-long {us} a = let e = long-front a in no_bracket (λ h. cc)

shape-tatom : {us rest : List Spot} {t : TypeExp} → IsTatom us t rest → Shape us
shape-tatom (s.based s.var l) = no_bracket (λ h. cc)
shape-tatom (s.based (s.bracket a) l) = a_bracket
shape-tatom (s.based (s.relation a) l) = a_bracket
shape-tatom (s.name a l) = shape-long a
shape-tatom (s.arguments (s.two_types a b c) l ls) = a_bracket

seq-by : (n : ℕ) (us vs rest : List Spot) (t : TypeExp) (ts : List TypeExp) → Shape us → Agrees (tatom_at n us) (t, vs) → Agrees (repeated (after mark.Star) (tatom_at n) vs) (ts, rest) → Agrees (tseq_at n us) (types.One (product_type (t ∷ ts)), rest)
seq-by n _ vs rest t ts (a_bracket {p} {us}) a b = round-seq (inner_bracket n) (inner-refuses n) p us t vs (types.One (product_type (t ∷ ts)), rest) a (one-agrees (inner_bracket n) t ts vs rest b)
seq-by n us vs rest t ts (no_bracket differs) a b = plain-seq (inner_bracket n) us (product_type (t ∷ ts)) rest differs (product-agrees (inner_bracket n) t ts us vs rest a b)

-- what a bracket gives
module _ (n : ℕ) where
  -- types behind the first
  types-agree : (us vs rest : List Spot) (q : Place) (t : TypeExp) (ts : List TypeExp) → Agrees (tseq_at n us) (types.One t, vs) → after mark.Arrow vs ≡ None → Agrees (repeated (after mark.Comma) (type_at n) vs) (ts, sign mark.CloseRound q ∷ rest) → Agrees (bracket_at n us) (bracket.Types (t ∷ ts), rest)
  types-agree us vs rest q t ts a e b = rw (bracket_level n us)
      (and-agrees (tseq_at n us) _ (types.One t, vs) (bracket.Types (t ∷ ts), rest) a
      (rw e (and-agrees (repeated (after mark.Comma) (type_at n) vs >>= before (after mark.CloseRound)) _ (ts, rest) (bracket.Types (t ∷ ts), rest)
      (and-agrees (repeated (after mark.Comma) (type_at n) vs) _ (ts, sign mark.CloseRound q ∷ rest) (ts, rest) b (agrees-is _ (ts, rest) (sign-agrees mark.CloseRound ts q rest))) refl)))

  outputs-agree : (ins outs : Types) (vs rest : List Spot) → Agrees (tseq_at n vs) (outs, rest) → Agrees (outputs (inner_bracket n) ins vs) (record { inputs = types_of ins; outputs = types_of outs }, rest)
  outputs-agree ins outs vs rest h = and-agrees (tseq_at n vs) _ (outs, rest) (record { inputs = types_of ins; outputs = types_of outs }, rest) h refl

  sig-agrees : (us vs rest : List Spot) (p q : Place) (ins outs : Types) → Agrees (tseq_at n us) (ins, sign mark.Arrow p ∷ vs) → Agrees (tseq_at n vs) (outs, sign mark.CloseRound q ∷ rest)
      → Agrees (bracket_at n us) (bracket.Sig (record { inputs = types_of ins; outputs = types_of outs }), rest)
  sig-agrees us vs rest p q ins outs a b = rw (bracket_level n us)
      (and-agrees (tseq_at n us) _ (ins, sign mark.Arrow p ∷ vs) (bracket.Sig (record { inputs = types_of ins; outputs = types_of outs }), rest) a
      (and-agrees (outputs (inner_bracket n) ins vs >>= before (after mark.CloseRound)) _ (record { inputs = types_of ins; outputs = types_of outs }, rest) (bracket.Sig (record { inputs = types_of ins; outputs = types_of outs }), rest)
      (and-agrees (outputs (inner_bracket n) ins vs) _ (record { inputs = types_of ins; outputs = types_of outs }, sign mark.CloseRound q ∷ rest) (record { inputs = types_of ins; outputs = types_of outs }, rest) (outputs-agree ins outs vs (sign mark.CloseRound q ∷ rest) b)
      (agrees-is _ _ (sign-agrees mark.CloseRound (record { inputs = types_of ins; outputs = types_of outs }) q rest))) refl))

  -- a type behind a bracket, with the names behind it
  atom-agrees : (o : Place) (us vs rest : List Spot) (b : Bracket) (ls : List Long) (t : TypeExp) → Agrees (bracket_at n us) (b, vs) → IsLongs vs ls rest → Agrees (bracket_type rest b ls) (t, rest) → Agrees (tatom_at (suc n) (sign mark.OpenRound o ∷ us)) (t, rest)
  atom-agrees o us vs rest b ls t a l h = and-agrees (bracket_at n us) _ (b, vs) (t, rest) a (and-agrees (longs_at vs) _ (ls, rest) (t, rest) (longs-complete l) h)

-- inputs or outputs that are read
record SeqAgrees (n : ℕ) (us : List Spot) (ts : List TypeExp) (rest : List Spot) : Type 0 where
  seq : Types
  gives : types_of seq ≡ ts
  agrees : Agrees (tseq_at n us) (seq, rest)

mutual
  pub sig-complete : {us rest : List Spot} {t : Sig} → IsSig us t rest → (n : ℕ) → Agrees (sig_at n us) (t, rest)
  sig-complete (s.arrow {us} {vs} {rest} {p} {ins} {outs} a b) n =
      let x = tseq-complete a n in let y = tseq-complete b n in
      rw (← x.gives, ← y.gives) (and-agrees (tseq_at n us >>= before (after mark.Arrow)) _ (x.seq, vs) (record { inputs = types_of x.seq; outputs = types_of y.seq }, rest)
      (and-agrees (tseq_at n us) _ (x.seq, sign mark.Arrow p ∷ vs) (x.seq, vs) x.agrees refl) (outputs-agree n x.seq y.seq vs rest y.agrees))

  tseq-complete : {us rest : List Spot} {ts : List TypeExp} → IsTseq us ts rest → (n : ℕ) → SeqAgrees n us ts rest
  tseq-complete s.no_types zero = record { seq = types.Bare []; gives = refl; agrees = tt }
  tseq-complete s.no_types (suc n) = record { seq = types.Bare []; gives = refl; agrees = refl }
  tseq-complete (s.types {ts} (s.two_types a b c) e) zero = record { seq = types.Bare ts; gives = refl; agrees = tt }
  tseq-complete (s.types (s.two_types {us} {vs} {ws} {rest} {p} {q} {r} {t} {u} {ts} a b c) e) (suc n) = record {
    seq = types.Bare (t ∷ u ∷ ts);
    gives = refl;
    agrees = bare-behind (inner_bracket (suc n)) (bracket_at n) (closed-bracket n) us rest t u ts (types-agree n us (sign mark.Comma q ∷ vs) rest r t (u ∷ ts) (seq-complete a n) refl
        (tail-more (after mark.Comma) (type_at n) (suc (length vs)) (sign mark.Comma q ∷ vs) vs ws (sign mark.CloseRound r ∷ rest) u ts refl (omega arith) (omega arith) (type-complete b n) (λ j e. more-complete c n j (let h = short-type b in omega arith)))) e;
  }
  tseq-complete (s.one_type {us} {rest} {t} a) n = record { seq = types.One t; gives = refl; agrees = seq-complete a n }

  more-complete : {us rest : List Spot} {ts : List TypeExp} → IsMoreTypes us ts rest → (n k : ℕ) → length us ≤ k → Agrees (follows (after mark.Comma) (type_at n) k us) (ts, rest)
  more-complete (s.no_more_types {us} e) n k le = tail-none (after mark.Comma) (type_at n) k us e
  more-complete (s.more_types {us} {vs} {rest} {p} {t} {ts} a b) n k le = tail-more (after mark.Comma) (type_at n) k (sign mark.Comma p ∷ us) us vs rest t ts refl le (omega arith) (type-complete a n)
      (λ j e. more-complete b n j (let h = short-type a in omega arith))

  pub type-complete : {us rest : List Spot} {t : TypeExp} → IsType us t rest → (n : ℕ) → Agrees (type_at n us) (t, rest)
  type-complete (s.product {us} {vs} {rest} {t} {ts} a b) n = product-agrees (inner_bracket n) t ts us vs rest (tatom-complete a n) (factors-complete b n (length vs) (omega arith))

  pub factors-complete : {us rest : List Spot} {ts : List TypeExp} → IsFactors us ts rest → (n k : ℕ) → length us ≤ k → Agrees (follows (after mark.Star) (tatom_at n) k us) (ts, rest)
  factors-complete (s.no_factor {us} e) n k le = tail-none (after mark.Star) (tatom_at n) k us e
  factors-complete (s.more_factors {us} {vs} {rest} {p} {t} {ts} a b) n k le = tail-more (after mark.Star) (tatom_at n) k (sign mark.Star p ∷ us) us vs rest t ts refl le (omega arith) (tatom-complete a n)
      (λ j e. factors-complete b n j (let h = short-tatom a in omega arith))

  pub tatom-complete : {us rest : List Spot} {t : TypeExp} → IsTatom us t rest → (n : ℕ) → Agrees (tatom_at n us) (t, rest)
  tatom-complete (s.based {vs} {rest} {ls} (s.var {v} {p}) l) n = and-agrees (longs_at vs) _ (ls, rest) (named_type (type.Var v p) ls, rest) (longs-complete l) refl
  tatom-complete (s.based (s.bracket a) l) zero = tt
  tatom-complete (s.based {vs} {rest} {t} {ls} (s.bracket {us} {p} {q} a) l) (suc n) = atom-agrees n p us vs rest (bracket.Types (t ∷ [])) ls (named_type t ls) (types-agree n us (sign mark.CloseRound q ∷ vs) vs q t [] (seq-complete a n) refl refl) l refl
  tatom-complete (s.based (s.relation a) l) zero = tt
  tatom-complete (s.based {vs} {rest} {ls} (s.relation {us} {p} {q} (s.arrow {vs = ws} {p = r} a b)) l) (suc n) =
      let x = tseq-complete a n in let y = tseq-complete b n in
      rw (← x.gives, ← y.gives) (atom-agrees n p us vs rest (bracket.Sig (record { inputs = types_of x.seq; outputs = types_of y.seq })) ls (named_type (type.Rel (record { inputs = types_of x.seq; outputs = types_of y.seq })) ls)
      (sig-agrees n us ws vs r q x.seq y.seq x.agrees y.agrees) l refl)
  tatom-complete (s.name {us} {vs} {rest} {l} {ls} a b) n = rw (tatom-named (inner_bracket n) us (long-front a))
      (and-agrees (long_at us) _ (l, vs) (type.App [] (l ∷ ls), rest) (agrees-is _ (l, vs) (long-complete a)) (and-agrees (longs_at vs) _ (ls, rest) (type.App [] (l ∷ ls), rest) (longs-complete b) refl))
  tatom-complete (s.arguments (s.two_types a b c) l ls) zero = tt
  tatom-complete (s.arguments {vs} {ws = xs} {rest} {l} {ls} (s.two_types {us} {vs = ys} {ws} {p} {q} {r} {t} {u} {ts} a b c) d e) (suc n) = atom-agrees n p us vs rest (bracket.Types (t ∷ u ∷ ts)) (l ∷ ls) (type.App (t ∷ u ∷ ts) (l ∷ ls))
      (types-agree n us (sign mark.Comma q ∷ ys) vs r t (u ∷ ts) (seq-complete a n) refl
      (tail-more (after mark.Comma) (type_at n) (suc (length ys)) (sign mark.Comma q ∷ ys) ys ws (sign mark.CloseRound r ∷ vs) u ts refl (omega arith) (omega arith) (type-complete b n) (λ j e. more-complete c n j (let h = short-type b in omega arith))))
      (s.more_longs d e) refl

  seq-complete : {us rest : List Spot} {t : TypeExp} → IsType us t rest → (n : ℕ) → Agrees (tseq_at n us) (types.One t, rest)
  seq-complete (s.product {us} {vs} {rest} {t} {ts} a b) n = seq-by n us vs rest t ts (shape-tatom a) (tatom-complete a n) (factors-complete b n (length vs) (omega arith))
