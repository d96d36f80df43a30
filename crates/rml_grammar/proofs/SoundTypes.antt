-- What is read as a type or a signature is one.
use Rattle.std.proofs.Common.{◌≡◌, ℕ, zero, suc, ◌<◌, List, [], ◌∷◌, length, refl, subst, Some, None, Ok}
use Rattle.rml_base.specs.declared.place.Place.{Place}
use Rattle.rml_syntax.specs.declared.token.Spot.{Spot}
use Rattle.rml_syntax.specs.declared.token.Mark.TheVariants as mark
use Rattle.rml_syntax.specs.declared.rules.Long.{Long}
use Rattle.rml_syntax.specs.declared.types.TypeExp.{TypeExp}
use Rattle.rml_syntax.specs.declared.types.Sig.{Sig}
use Rattle.rml_grammar.proofs.Lacks.{name-lacks}
use Rattle.rml_grammar.specs.declared.front.Front.{Front}
use Rattle.rml_grammar.specs.declared.front.Front.TheVariants as front
use Rattle.rml_grammar.specs.declared.types.Bracket.{Bracket}
use Rattle.rml_grammar.specs.declared.types.Bracket.TheVariants as bracket
use Rattle.rml_grammar.specs.declared.types.Types.{Types}
use Rattle.rml_grammar.specs.declared.types.Types.TheVariants as types
use Rattle.rml_grammar.specs.Tokens.{sign, after, front_of}
use Rattle.rml_grammar.specs.Lacks.{LacksName}
use Rattle.rml_grammar.specs.Reading.{◌>>=◌, Parser, repeated, separated, before, inside, long_at}
use Rattle.rml_grammar.specs.Trees.{product_type}
use Rattle.rml_grammar.specs.Types.{Inner, name_by, name_next, longs_at, bracket_type, tatom, product, one_from, tseq_from, tseq_inside, tseq_by, tseq, types_of, outputs, signature, bracket_from, bracket_by, in_bracket, bracket_at, inner_bracket}
use Rattle.rml_grammar.specs.SpelledNames.{IsLong}
use Rattle.rml_grammar.specs.SpelledTypes as s
use Rattle.rml_grammar.specs.SpelledTypes.{IsLongs, IsSig, IsTseq, IsTypeTuple, IsMoreTypes, IsType, IsFactors, IsTatom, IsTbase}
use Rattle.rml_grammar.proofs.Levels.{bracket_level}
use Rattle.rml_grammar.proofs.Views as v
use Rattle.rml_grammar.proofs.Views.{Begins, begins, Has, has, same-sign}
use Rattle.rml_grammar.proofs.Holds.{Reads, and-holds, holds-map, sign-holds, long-sound, repeated-sound, tail-sound, separated-sound}
use Rattle.rml_grammar.proofs.ShortTypes.{shorter-long, short-type, short-tatom}

-- names
same-by : (us vs : List Spot) (f : Front) → name_by us f ≡ Some vs → us ≡ vs
same-by us vs front.Named e = cc
same-by us vs f e = absurd (cc e)

pub same-name : (us vs : List Spot) → name_next us ≡ Some vs → us ≡ vs
same-name us vs e = same-by us vs (front_of us) e

pub longs-sound : (us : List Spot) → Reads IsLongs us (longs_at us)
longs-sound = repeated-sound name_next long_at IsLongs refl (λ us e. s.no_long (name-lacks us e))
    (λ us vs e. rw (same-name us vs e) (holds-map (λ x. IsLong vs x.0 x.1) (λ x. (length x.1 < length vs) × ((ts : List Long) (rest : List Spot) → IsLongs x.1 ts rest → IsLongs vs (x.0 ∷ ts) rest)) (long_at vs) (long-sound vs)
    (λ x h. (shorter-long h, λ ts rest g. s.more_longs h g))))

-- what stands in a bracket, up to the closing one
pub data IsBracket : List Spot → Bracket → List Spot → Type 0 where
  b_sig : {us rest : List Spot} {q : Place} {t : Sig} → IsSig us t (sign mark.CloseRound q ∷ rest) → IsBracket us (bracket.Sig t) rest
  b_types : {us vs rest : List Spot} {q : Place} {t : TypeExp} {ts : List TypeExp} → IsType us t vs → IsMoreTypes vs ts (sign mark.CloseRound q ∷ rest) → IsBracket us (bracket.Types (t ∷ ts)) rest

-- inputs or outputs
pub data IsSeq : List Spot → Types → List Spot → Type 0 where
  q_none : {p q : Place} {rest : List Spot} → IsSeq (sign mark.OpenRound p ∷ sign mark.CloseRound q ∷ rest) (types.Bare []) rest
  q_bare : {us rest : List Spot} {ts : List TypeExp} → IsTypeTuple us ts rest → LacksName rest → IsSeq us (types.Bare ts) rest
  q_one : {us rest : List Spot} {t : TypeExp} → IsType us t rest → IsSeq us (types.One t) rest

pub seq-tseq : {us rest : List Spot} {t : Types} → IsSeq us t rest → IsTseq us (types_of t) rest
seq-tseq q_none = s.no_types
seq-tseq (q_bare a e) = s.types a e
seq-tseq (q_one a) = s.one_type a

seq-one : {us rest : List Spot} {t : TypeExp} → IsSeq us (types.One t) rest → IsType us t rest
seq-one (q_one a) = a

bracket-type-sound : {us ws rest : List Spot} {b : Bracket} {ls : List Long} (p : Place) → IsBracket us b ws → IsLongs ws ls rest → Reads IsTatom (sign mark.OpenRound p ∷ us) (bracket_type rest b ls)
bracket-type-sound p (b_sig a) l = s.based (s.relation a) l
bracket-type-sound p (b_types a (s.no_more_types e)) l = s.based (s.bracket a) l
bracket-type-sound p (b_types a (s.more_types b c)) (s.no_long e) = tt
bracket-type-sound p (b_types a (s.more_types b c)) (s.more_longs l ls) = s.arguments (s.two_types a b c) l ls

-- the factors of a type
data IsProduct : List Spot → List TypeExp → List Spot → Type 0 where
  joined : {us vs rest : List Spot} {t : TypeExp} {ts : List TypeExp} → IsTatom us t vs → IsFactors vs ts rest → IsProduct us (t ∷ ts) rest

joined-sound : (us rest : List Spot) (ts : List TypeExp) → IsProduct us ts rest → IsType us (product_type ts) rest
joined-sound us rest _ (joined a b) = s.product a b

abbrev pub InnerSound : Inner → Type 0
InnerSound None = Unit {0}
InnerSound (Some p) = (us : List Spot) → Reads IsBracket us (p us)

bracket-inside : (i : Inner) → InnerSound i → (from us : List Spot) → Reads IsBracket us (inside i (λ p. p) from us)
bracket-inside None h from us = tt
bracket-inside (Some p) h from us = h us

-- inputs or outputs that no bracket begins are one type
pub seq-is : (inner : Inner) (us : List Spot) (f : Front) → (f ≡ front.Round → ⊥) → tseq_by inner us f ≡ (product inner us >>= λ t. Ok (types.One t.0, t.1))
seq-is inner us front.Round differs = absurd (differs refl)
seq-is inner us f differs = refl

module _ (inner : Inner) (sound : InnerSound inner) where
  pub tatom-sound : (us : List Spot) → Begins us → Reads IsTatom us (tatom inner us)
  tatom-sound us (v.a_tyvar {n} {p} {us = vs}) = and-holds (λ x. IsLongs vs x.0 x.1) (λ y. IsTatom us y.0 y.1) (longs_at vs) _ (longs-sound vs) (λ x h. s.based s.var h)
  tatom-sound us v.a_name = and-holds (λ x. IsLong us x.0 x.1) (λ y. IsTatom us y.0 y.1) (long_at us) _ (long-sound us)
      (λ x h. and-holds (λ y. IsLongs x.1 y.0 y.1) (λ z. IsTatom us z.0 z.1) (longs_at x.1) _ (longs-sound x.1) (λ y g. s.name h g))
  tatom-sound us (v.a_round {p} {us = vs}) = and-holds (λ x. IsBracket vs x.0 x.1) (λ y. IsTatom us y.0 y.1) (inside inner (λ p. p) us vs) _ (bracket-inside inner sound us vs)
      (λ x h. and-holds (λ y. IsLongs x.1 y.0 y.1) (λ z. IsTatom us z.0 z.1) (longs_at x.1) _ (longs-sound x.1) (λ y g. bracket-type-sound p h g))
  tatom-sound us v.a_literal = tt
  tatom-sound us v.a_square = tt
  tatom-sound us v.a_wild = tt
  tatom-sound us v.a_let = tt
  tatom-sound us v.a_not = tt
  tatom-sound us v.a_line = tt
  tatom-sound us (v.another e) = rw e tt

  pub factors-sound : (us : List Spot) → Reads IsFactors us (repeated (after mark.Star) (tatom inner) us)
  factors-sound = tail-sound mark.Star (tatom inner) IsTatom IsFactors (λ us e. s.no_factor e) (λ q us vs rest t ts a b. s.more_factors a b) (λ us rest t r. short-tatom r) (λ us. tatom-sound us (begins us))

  pub product-sound : (us : List Spot) → Reads IsType us (product inner us)
  product-sound us = and-holds (λ x. IsProduct us x.0 x.1) (λ z. IsType us z.0 z.1) (separated (after mark.Star) (tatom inner) us) _
      (separated-sound mark.Star (tatom inner) IsTatom IsFactors (λ us e. s.no_factor e) (λ q us vs rest t ts a b. s.more_factors a b) (λ us rest t r. short-tatom r) (λ us. tatom-sound us (begins us)) IsProduct (λ us vs rest t ts a b. joined a b) us)
      (λ x h. joined-sound us x.1 x.0 h)

  pub more-sound : (us : List Spot) → Reads IsMoreTypes us (repeated (after mark.Comma) (product inner) us)
  more-sound = tail-sound mark.Comma (product inner) IsType IsMoreTypes (λ us e. s.no_more_types e) (λ q us vs rest t ts a b. s.more_types a b) (λ us rest t r. short-type r) product-sound

  one-sound : (us ws : List Spot) (t : TypeExp) → IsTatom us t ws → Reads IsSeq us (one_from inner (t, ws))
  one-sound us ws t a = and-holds (λ x. IsFactors ws x.0 x.1) (λ y. IsSeq us y.0 y.1) (repeated (after mark.Star) (tatom inner) ws) _ (factors-sound ws) (λ x h. q_one (s.product a h))

  tatom-seq : (us rest : List Spot) (b : Bracket) (ls : List Long) → Reads IsTatom us (bracket_type rest b ls) → Reads IsSeq us (bracket_type rest b ls >>= one_from inner)
  tatom-seq us rest b ls h = and-holds (λ x. IsTatom us x.0 x.1) (λ y. IsSeq us y.0 y.1) (bracket_type rest b ls) (one_from inner) h (λ x g. one-sound us x.1 x.0 g)

  seq-from-sound : {us ws rest : List Spot} {b : Bracket} {ls : List Long} (p : Place) → IsBracket us b ws → IsLongs ws ls rest → Reads IsSeq (sign mark.OpenRound p ∷ us) (tseq_from inner rest b ls)
  seq-from-sound {us} {ws} {rest} {b} {ls} p (b_sig {t} a) l = tatom-seq (sign mark.OpenRound p ∷ us) rest (bracket.Sig t) ls (s.based (s.relation a) l)
  seq-from-sound {us} {ws} {rest} {b} {ls} p (b_types {t} a (s.no_more_types e)) l = tatom-seq (sign mark.OpenRound p ∷ us) rest (bracket.Types (t ∷ [])) ls (s.based (s.bracket a) l)
  seq-from-sound p (b_types a (s.more_types b c)) (s.no_long e) = q_bare (s.two_types a b c) e
  seq-from-sound {us} {ws} {rest} p (b_types {t} a (s.more_types {t = u} {ts} b c)) (s.more_longs {l} {ls} h g) = tatom-seq (sign mark.OpenRound p ∷ us) rest (bracket.Types (t ∷ u ∷ ts)) (l ∷ ls) (s.arguments (s.two_types a b c) h g)

  inside-none : (p : Parser Bracket) (us : List Spot) → after mark.CloseRound us ≡ None → tseq_inside inner p us ≡ (p us >>= λ b. longs_at b.1 >>= λ ls. tseq_from inner ls.1 b.0 ls.0)
  inside-none p us e = rw (e, tseq_inside) refl

  seq-behind : (o : Place) (p : Parser Bracket) → ((us : List Spot) → Reads IsBracket us (p us)) → (us : List Spot) → Has mark.CloseRound us → Reads IsSeq (sign mark.OpenRound o ∷ us) (tseq_inside inner p us)
  seq-behind o p h us v.there = q_none
  seq-behind o p h us (v.lacking e) = rw (inside-none p us e) (and-holds (λ x. IsBracket us x.0 x.1) (λ y. IsSeq (sign mark.OpenRound o ∷ us) y.0 y.1) (p us) _ (h us)
      (λ x g. and-holds (λ y. IsLongs x.1 y.0 y.1) (λ z. IsSeq (sign mark.OpenRound o ∷ us) z.0 z.1) (longs_at x.1) _ (longs-sound x.1) (λ y k. seq-from-sound o g k)))

  seq-inside : (o : Place) (i : Inner) → InnerSound i → (us : List Spot) → Reads IsSeq (sign mark.OpenRound o ∷ us) (inside i (tseq_inside inner) (sign mark.OpenRound o ∷ us) us)
  seq-inside o None h us = tt
  seq-inside o (Some p) h us = seq-behind o p h us (has mark.CloseRound us)

  one-reads : (us : List Spot) → Reads IsSeq us (product inner us >>= λ t. Ok (types.One t.0, t.1))
  one-reads us = and-holds (λ x. IsType us x.0 x.1) (λ y. IsSeq us y.0 y.1) (product inner us) _ (product-sound us) (λ x h. q_one h)

  other-seq : (us : List Spot) → front_of us ≡ front.Other → tseq inner us ≡ (product inner us >>= λ t. Ok (types.One t.0, t.1))
  other-seq us e = seq-is inner us (front_of us) (λ r. cc)

  pub seq-sound : (us : List Spot) → Begins us → Reads IsSeq us (tseq inner us)
  seq-sound us (v.a_round {p} {us = vs}) = seq-inside p inner sound vs
  seq-sound us v.a_literal = one-reads us
  seq-sound us v.a_name = one-reads us
  seq-sound us v.a_tyvar = one-reads us
  seq-sound us v.a_square = one-reads us
  seq-sound us v.a_wild = one-reads us
  seq-sound us v.a_let = one-reads us
  seq-sound us v.a_not = one-reads us
  seq-sound us v.a_line = one-reads us
  seq-sound us (v.another e) = rw (other-seq us e) (one-reads us)

  outputs-sound : (us vs : List Spot) (q : Place) (ins : Types) → IsSeq us ins (sign mark.Arrow q ∷ vs) → Reads IsSig us (outputs inner ins vs)
  outputs-sound us vs q ins a = and-holds (λ x. IsSeq vs x.0 x.1) (λ y. IsSig us y.0 y.1) (tseq inner vs) _ (seq-sound vs (begins vs)) (λ x h. s.arrow (seq-tseq a) (seq-tseq h))

  pub sig-sound : (us : List Spot) → Reads IsSig us (signature inner us)
  sig-sound us = and-holds (λ x. (q : Place) × IsSeq us x.0 (sign mark.Arrow q ∷ x.1)) (λ y. IsSig us y.0 y.1) (tseq inner us >>= before (after mark.Arrow)) _
      (and-holds (λ x. IsSeq us x.0 x.1) (λ y. (q : Place) × IsSeq us y.0 (sign mark.Arrow q ∷ y.1)) (tseq inner us) _ (seq-sound us (begins us))
      (λ x h. sign-holds mark.Arrow (λ y. (q : Place) × IsSeq us y.0 (sign mark.Arrow q ∷ y.1)) x.0 x.1 (λ q ws e. (q, subst (λ (zs : List Spot). IsSeq us x.0 zs) e h))))
      (λ x h. outputs-sound us x.1 h.0 x.0 h.1)

  from-sound : (us vs : List Spot) (ins : Types) → IsSeq us ins vs → Reads IsBracket us (bracket_from inner ins vs)
  from-sound us vs (types.Bare ts) a = tt
  from-sound us vs (types.One t) a = and-holds (λ x. (q : Place) × IsMoreTypes vs x.0 (sign mark.CloseRound q ∷ x.1)) (λ y. IsBracket us y.0 y.1) (repeated (after mark.Comma) (product inner) vs >>= before (after mark.CloseRound)) _
      (and-holds (λ x. IsMoreTypes vs x.0 x.1) (λ y. (q : Place) × IsMoreTypes vs y.0 (sign mark.CloseRound q ∷ y.1)) (repeated (after mark.Comma) (product inner) vs) _ (more-sound vs)
      (λ x h. sign-holds mark.CloseRound (λ y. (q : Place) × IsMoreTypes vs y.0 (sign mark.CloseRound q ∷ y.1)) x.0 x.1 (λ q ws e. (q, subst (λ (zs : List Spot). IsMoreTypes vs x.0 zs) e h))))
      (λ x h. b_types (seq-one a) h.1)

  by-sound : (us vs : List Spot) (ins : Types) → IsSeq us ins vs → Has mark.Arrow vs → Reads IsBracket us (bracket_by inner ins vs (after mark.Arrow vs))
  by-sound us _ ins a (v.there {p = o} {us = vs}) = and-holds (λ x. (q : Place) × IsSig us x.0 (sign mark.CloseRound q ∷ x.1)) (λ y. IsBracket us y.0 y.1) (outputs inner ins vs >>= before (after mark.CloseRound)) _
      (and-holds (λ x. IsSig us x.0 x.1) (λ y. (q : Place) × IsSig us y.0 (sign mark.CloseRound q ∷ y.1)) (outputs inner ins vs) _ (outputs-sound us vs o ins a)
      (λ x h. sign-holds mark.CloseRound (λ y. (q : Place) × IsSig us y.0 (sign mark.CloseRound q ∷ y.1)) x.0 x.1 (λ q ws e. (q, subst (λ (zs : List Spot). IsSig us x.0 zs) e h))))
      (λ x h. b_sig h.1)
  by-sound us vs ins a (v.lacking e) = rw e (from-sound us vs ins a)

  pub in-bracket-sound : (us : List Spot) → Reads IsBracket us (in_bracket inner us)
  in-bracket-sound us = and-holds (λ x. IsSeq us x.0 x.1) (λ y. IsBracket us y.0 y.1) (tseq inner us) _ (seq-sound us (begins us)) (λ x h. by-sound us x.1 x.0 h (has mark.Arrow x.1))

pub bracket-sound : (n : ℕ) (us : List Spot) → Reads IsBracket us (bracket_at n us)
bracket-sound zero us = rw (bracket_level zero us) (in-bracket-sound None tt us)
bracket-sound (suc n) us = rw (bracket_level (suc n) us) (in-bracket-sound (Some (bracket_at n)) (bracket-sound n) us)

pub inner-sound : (n : ℕ) → InnerSound (inner_bracket n)
inner-sound zero = tt
inner-sound (suc n) = bracket-sound n
