-- What is printed of a type or a signature is read as that type or signature, in each seat.
use Rattle.std.proofs.Common.{◌≡◌, ℕ, List, [], ◌∷◌, ◌++◌, map, refl, ap, sym, ◌∙◌, Option, Some, None}
use Rattle.std.specs.List.{flat_map}
use Rattle.rml_base.specs.declared.place.Place.{Place}
use Rattle.rml_syntax.specs.declared.token.Spot.{Spot}
use Rattle.rml_syntax.specs.declared.token.Token.{Token}
use Rattle.rml_syntax.specs.declared.token.Token.TheVariants as token
use Rattle.rml_syntax.specs.declared.token.Mark.TheVariants as mark
use Rattle.rml_syntax.specs.declared.rules.Long.{Long}
use Rattle.rml_syntax.specs.declared.types.TypeExp.{TypeExp}
use Rattle.rml_syntax.specs.declared.types.TypeExp.TheVariants as type
use Rattle.rml_syntax.specs.declared.types.Sig.{Sig}
use Rattle.rml_grammar.specs.Tokens.{sign, Lacks}
use Rattle.rml_grammar.specs.SpelledNames.{IsLong}
use Rattle.rml_grammar.specs.SpelledTypes as s
use Rattle.rml_grammar.specs.SpelledTypes.{IsLongs, IsSig, IsTseq, IsTypeTuple, IsMoreTypes, IsType, IsFactors, IsTatom, IsTbase}
use Rattle.rml_print.specs.declared.seats.Seat.TheVariants.{Free, Factor, OnlyArgument}
use Rattle.rml_print.specs.Parts.{Printed, in_round, listed, tupled, long_by, long_tokens}
use Rattle.rml_print.specs.Types.{argument_tokens, sequence_tokens, type_at, sig_at, type_tokens, sig_tokens}
use Rattle.rml_print.specs.Plain.{plain_long, plain_type_at, plain_sig_at, plain_type, plain_sig}
use Rattle.rml_print.proofs.Shown.{Shows, ended, shown, cut, InRound, in_round_brackets, round-shown, Stops, stops-star, Closes, closes-comma, closes-arrow, Encloses, encloses-round, Again, ReadsAgain, Each, none, also, each-map, together, First, separated-again, listed-shown, long-again}
use Rattle.rml_grammar.proofs.Callers as fold

abbrev free_tokens : TypeExp → List Token
free_tokens t = type_tokens t Free

abbrev factor_tokens : TypeExp → List Token
factor_tokens t = type_tokens t Factor

abbrev only_tokens : TypeExp → List Token
only_tokens t = type_tokens t OnlyArgument

-- before anything
abbrev Anything : List Spot → Type 0
Anything us = Unit {0}

-- what is printed of it is read again, in each seat
pub record TypeReads (t : TypeExp) : Type 0 where
  pub free : ReadsAgain plain_type IsType free_tokens Closes t
  pub factor : ReadsAgain plain_type IsTatom factor_tokens Stops t
  pub argument : ReadsAgain plain_type IsTbase only_tokens Anything t

pub record SigReads (g : Sig) : Type 0 where
  pub whole : ReadsAgain plain_sig IsSig sig_tokens Closes g

-- ---- the same but for places

same-App : (ts us : List TypeExp) (ls ms : List Long) → map plain_type ts ≡ map plain_type us → map plain_long ls ≡ map plain_long ms → plain_type (type.App ts ls) ≡ plain_type (type.App us ms)
same-App ts us ls ms p q = fold.type-App TypeExp Sig plain_type_at plain_sig_at ts ls ∙ ap (λ (x : List TypeExp). type.App x (map plain_long ls)) p ∙ ap (λ (x : List Long). type.App (map plain_type us) x) q ∙ sym (fold.type-App TypeExp Sig plain_type_at plain_sig_at us ms)

same-Tuple : (ts us : List TypeExp) → map plain_type ts ≡ map plain_type us → plain_type (type.Tuple ts) ≡ plain_type (type.Tuple us)
same-Tuple ts us p = fold.type-Tuple TypeExp Sig plain_type_at plain_sig_at ts ∙ ap (λ (x : List TypeExp). type.Tuple x) p ∙ sym (fold.type-Tuple TypeExp Sig plain_type_at plain_sig_at us)

same-Rel : (g h : Sig) → plain_sig g ≡ plain_sig h → plain_type (type.Rel g) ≡ plain_type (type.Rel h)
same-Rel g h p = fold.type-Rel TypeExp Sig plain_type_at plain_sig_at g ∙ ap (λ (x : Sig). type.Rel x) p ∙ sym (fold.type-Rel TypeExp Sig plain_type_at plain_sig_at h)

same-Var : (v : ℕ) (p q : Place) → plain_type (type.Var v p) ≡ plain_type (type.Var v q)
same-Var v p q = fold.type-Var TypeExp Sig plain_type_at plain_sig_at v p ∙ sym (fold.type-Var TypeExp Sig plain_type_at plain_sig_at v q)

abbrev sig_of : List TypeExp → List TypeExp → Sig
sig_of ins outs = record { inputs = ins; outputs = outs }

same-Sig : (g h : Sig) → map plain_type g.inputs ≡ map plain_type h.inputs → map plain_type g.outputs ≡ map plain_type h.outputs → plain_sig g ≡ plain_sig h
same-Sig g h p q = fold.sig-is TypeExp Sig plain_type_at plain_sig_at g ∙ ap (λ (x : List TypeExp). sig_of x (map plain_type g.outputs)) p ∙ ap (λ (x : List TypeExp). sig_of (map plain_type h.inputs) x) q ∙ sym (fold.sig-is TypeExp Sig plain_type_at plain_sig_at h)

-- ---- names behind a type

long-starts : (m : Option ℕ) (n : ℕ) (ts : List Token) {us rest : List Spot} → Shows (long_by m n ++ ts) us rest → Lacks mark.Dot us
long-starts None n ts (shown x) = refl
long-starts (Some m) n ts (shown x) = refl

longs-start : (ls : List Long) {us rest : List Spot} → Shows (flat_map long_tokens ls) us rest → Stops rest → Lacks mark.Dot us
longs-start [] ended c = c.dot
longs-start (l ∷ ls) x c = long-starts l.module l.name (flat_map long_tokens ls) x

more-longs : {l : Long} {ls : List Long} {us vs rest : List Spot} → Again plain_long IsLong l us vs → Again (map plain_long) IsLongs ls vs rest → Again (map plain_long) IsLongs (l ∷ ls) us rest
more-longs a b = record { tree = a.tree ∷ b.tree; reads = s.more_longs a.reads b.reads; same = together a.same b.same }

longs-again : (ls : List Long) {us rest : List Spot} → Shows (flat_map long_tokens ls) us rest → Stops rest → Again (map plain_long) IsLongs ls us rest
longs-again [] ended c = record { tree = []; reads = s.no_long c.name; same = refl }
longs-again (l ∷ ls) {us} x c =
    let k = cut (long_tokens l) x in
    more-longs (long-again l us k.between k.first (longs-start ls k.second c)) (longs-again ls k.second c)

first-long : (l : Long) (ls : List Long) {us rest : List Spot} → Shows (flat_map long_tokens (l ∷ ls)) us rest → Stops rest → First plain_long IsLong IsLongs l ls us rest
first-long l ls {us} x c =
    let k = cut (long_tokens l) x in
    record { between = k.between; first = long-again l us k.between k.first (longs-start ls k.second c); others = longs-again ls k.second c }

-- ---- one tree from what is printed of it

-- a factor alone is a type
alone : {t : TypeExp} {us rest : List Spot} → Closes rest → Again plain_type IsTatom t us rest → Again plain_type IsType t us rest
alone c a = record { tree = a.tree; reads = s.product a.reads (s.no_factor c.factor); same = a.same }

-- what has no names behind it is a factor
base-alone : {t : TypeExp} {us rest : List Spot} → Stops rest → Again plain_type IsTbase t us rest → Again plain_type IsTatom t us rest
base-alone c a = record { tree = a.tree; reads = s.based a.reads (s.no_long c.name); same = a.same }

-- a type in brackets
bracket-base : {t : TypeExp} {us rest : List Spot} {ts : List Token} → ((vs others : List Spot) → Shows ts vs others → Closes others → Again plain_type IsType t vs others) → InRound ts us rest → Again plain_type IsTbase t us rest
bracket-base h (in_round_brackets {q} {us} {rest} x) =
    let a = h us (sign mark.CloseRound q ∷ rest) x (encloses-round q rest).closes in
    record { tree = a.tree; reads = s.bracket a.reads; same = a.same }

-- what prints the same in each seat, and wants no names behind it
even : (t : TypeExp) (p : Printed) → type_tokens t ≡ p → p Free ≡ p OnlyArgument → p Factor ≡ p OnlyArgument → ((us rest : List Spot) → Shows (p OnlyArgument) us rest → Again plain_type IsTbase t us rest) → TypeReads t
even t p e f g reads =
    let free_is : free_tokens t ≡ p OnlyArgument = ap (λ (q : Printed). q Free) e ∙ f in
    let factor_is : factor_tokens t ≡ p OnlyArgument = ap (λ (q : Printed). q Factor) e ∙ g in
    let only_is : only_tokens t ≡ p OnlyArgument = ap (λ (q : Printed). q OnlyArgument) e in
    record {
      free = λ us rest x c. alone c (base-alone c.stops (reads us rest (rw free_is at x)));
      factor = λ us rest x c. base-alone c (reads us rest (rw factor_is at x));
      argument = λ us rest x c. reads us rest (rw only_is at x);
    }

var-again : (v : ℕ) (at : Place) (us rest : List Spot) → Shows (token.TyVar v ∷ []) us rest → Again plain_type IsTbase (type.Var v at) us rest
var-again v at _ _ (shown {p} ended) = record { tree = type.Var v p; reads = s.var; same = same-Var v p at }

var-reads : (v : ℕ) (at : Place) → TypeReads (type.Var v at)
var-reads v at = even (type.Var v at) _ (fold.type-Var Printed (List Token) type_at sig_at v at) refl refl (var-again v at)

-- types with commas between them, and a bracket behind them
types-again : {t : TypeExp} {ts : List TypeExp} {us rest : List Spot} → TypeReads t → Each TypeReads ts → Shows (listed mark.Comma Free (map type_tokens (t ∷ ts))) us rest → Encloses rest → First plain_type IsType IsMoreTypes t ts us rest
types-again {t} {ts} r rs x c =
    separated-again plain_type IsType IsMoreTypes free_tokens (token.Sign mark.Comma) Closes Encloses
    (λ us e. s.no_more_types e.comma) (λ us vs rest p t ts a b. s.more_types a b) (λ us e. e.closes) closes-comma
    t ts r.free (each-map (λ y h. h.free) rs) (listed-shown mark.Comma Free type_tokens (t ∷ ts) x) c

-- more types than one
tuple-by : {t u : TypeExp} {ts xs : List TypeExp} {us vs rest : List Spot} {p q : Place} → Again plain_type IsType t us vs → IsMoreTypes vs xs (sign mark.CloseRound q ∷ rest) → map plain_type xs ≡ map plain_type (u ∷ ts) → Again (map plain_type) IsTypeTuple (t ∷ u ∷ ts) (sign mark.OpenRound p ∷ us) rest
tuple-by a (s.no_more_types e) q = absurd (cc q)
tuple-by a (s.more_types {t = x} {ts = xs} b c) q = record { tree = a.tree ∷ x ∷ xs; reads = s.two_types a.reads b c; same = together a.same q }

tuple-from : {t u : TypeExp} {ts : List TypeExp} {us rest : List Spot} → TypeReads t → TypeReads u → Each TypeReads ts → InRound (listed mark.Comma Free (map type_tokens (t ∷ u ∷ ts))) us rest → Again (map plain_type) IsTypeTuple (t ∷ u ∷ ts) us rest
tuple-from r v rs (in_round_brackets {q} {rest} x) = let f = types-again r (also v rs) x (encloses-round q rest) in tuple-by f.first f.others.reads f.others.same

tuple-again : {t u : TypeExp} {ts : List TypeExp} {us rest : List Spot} → TypeReads t → TypeReads u → Each TypeReads ts → Shows (tupled (map type_tokens (t ∷ u ∷ ts))) us rest → Again (map plain_type) IsTypeTuple (t ∷ u ∷ ts) us rest
tuple-again {t} {u} {ts} r v rs x = tuple-from r v rs (round-shown (listed mark.Comma Free (map type_tokens (t ∷ u ∷ ts))) x)

-- names behind arguments
app-again : (ts : List TypeExp) (l : Long) (ls : List Long) → Each TypeReads ts → (us rest : List Spot) → Shows (argument_tokens (map type_tokens ts) ++ flat_map long_tokens (l ∷ ls)) us rest → Stops rest → Again plain_type IsTatom (type.App ts (l ∷ ls)) us rest
app-again [] l ls e us rest x c =
    let f = first-long l ls x c in
    record { tree = type.App [] (f.first.tree ∷ f.others.tree); reads = s.name f.first.reads f.others.reads; same = same-App [] [] (f.first.tree ∷ f.others.tree) (l ∷ ls) refl (together f.first.same f.others.same) }
app-again (t ∷ []) l ls (also r e) us rest x c =
    let k = cut (only_tokens t) x in
    let a = r.argument us k.between k.first tt in
    let f = first-long l ls k.second c in
    record {
      tree = type.App (a.tree ∷ []) (f.first.tree ∷ f.others.tree);
      reads = s.based a.reads (s.more_longs f.first.reads f.others.reads);
      same = same-App (a.tree ∷ []) (t ∷ []) (f.first.tree ∷ f.others.tree) (l ∷ ls) (together a.same refl) (together f.first.same f.others.same);
    }
app-again (t ∷ u ∷ ts) l ls (also r (also v rs)) us rest x c =
    let k = cut (tupled (map type_tokens (t ∷ u ∷ ts))) x in
    let a = tuple-again r v rs k.first in
    let f = first-long l ls k.second c in
    record {
      tree = type.App a.tree (f.first.tree ∷ f.others.tree);
      reads = s.arguments a.reads f.first.reads f.others.reads;
      same = same-App a.tree (t ∷ u ∷ ts) (f.first.tree ∷ f.others.tree) (l ∷ ls) a.same (together f.first.same f.others.same);
    }

app-reads : (ts : List TypeExp) (l : Long) (ls : List Long) → Each TypeReads ts → TypeReads (type.App ts (l ∷ ls))
app-reads ts l ls rs =
    let e = fold.type-App Printed (List Token) type_at sig_at ts (l ∷ ls) in
    let all : List Token = argument_tokens (map type_tokens ts) ++ flat_map long_tokens (l ∷ ls) in
    let free_is : free_tokens (type.App ts (l ∷ ls)) ≡ all = ap (λ (q : Printed). q Free) e in
    let factor_is : factor_tokens (type.App ts (l ∷ ls)) ≡ all = ap (λ (q : Printed). q Factor) e in
    let only_is : only_tokens (type.App ts (l ∷ ls)) ≡ in_round all = ap (λ (q : Printed). q OnlyArgument) e in
    record {
      free = λ us rest x c. alone c (app-again ts l ls rs us rest (rw free_is at x) c.stops);
      factor = λ us rest x c. app-again ts l ls rs us rest (rw factor_is at x) c;
      argument = λ us rest x c. bracket-base (λ vs others y d. alone d (app-again ts l ls rs vs others y d.stops)) (round-shown all (rw only_is at x));
    }

-- a tuple type
product-by : {t : TypeExp} (u : TypeExp) (ts : List TypeExp) {xs : List TypeExp} {us vs rest : List Spot} → Again plain_type IsTatom t us vs → IsFactors vs xs rest → map plain_type xs ≡ map plain_type (u ∷ ts) → Again plain_type IsType (type.Tuple (t ∷ u ∷ ts)) us rest
product-by u ts a (s.no_factor e) q = absurd (cc q)
product-by {t} u ts a (s.more_factors {t = x} {ts = xs} b c) q = record { tree = type.Tuple (a.tree ∷ x ∷ xs); reads = s.product a.reads (s.more_factors b c); same = same-Tuple (a.tree ∷ x ∷ xs) (t ∷ u ∷ ts) (together a.same q) }

-- factors with `*` between them
pub factors-again : {t : TypeExp} {ts : List TypeExp} {us rest : List Spot} → TypeReads t → Each TypeReads ts → Shows (listed mark.Star Factor (map type_tokens (t ∷ ts))) us rest → Closes rest → First plain_type IsTatom IsFactors t ts us rest
factors-again {t} {ts} r rs x c =
    separated-again plain_type IsTatom IsFactors factor_tokens (token.Sign mark.Star) Stops Closes
    (λ us e. s.no_factor e.factor) (λ us vs rest p t ts a b. s.more_factors a b) (λ us e. e.stops) stops-star
    t ts r.factor (each-map (λ y h. h.factor) rs) (listed-shown mark.Star Factor type_tokens (t ∷ ts) x) c

product-again : {t u : TypeExp} {ts : List TypeExp} → TypeReads t → TypeReads u → Each TypeReads ts → (us rest : List Spot) → Shows (listed mark.Star Factor (map type_tokens (t ∷ u ∷ ts))) us rest → Closes rest → Again plain_type IsType (type.Tuple (t ∷ u ∷ ts)) us rest
product-again {u} {ts} r v rs us rest x c = let f = factors-again r (also v rs) x c in product-by u ts f.first f.others.reads f.others.same

product-reads : {t u : TypeExp} {ts : List TypeExp} → TypeReads t → TypeReads u → Each TypeReads ts → TypeReads (type.Tuple (t ∷ u ∷ ts))
product-reads {t} {u} {ts} r v rs =
    let e = fold.type-Tuple Printed (List Token) type_at sig_at (t ∷ u ∷ ts) in
    let all : List Token = listed mark.Star Factor (map type_tokens (t ∷ u ∷ ts)) in
    let free_is : free_tokens (type.Tuple (t ∷ u ∷ ts)) ≡ all = ap (λ (q : Printed). q Free) e in
    let factor_is : factor_tokens (type.Tuple (t ∷ u ∷ ts)) ≡ in_round all = ap (λ (q : Printed). q Factor) e in
    let only_is : only_tokens (type.Tuple (t ∷ u ∷ ts)) ≡ in_round all = ap (λ (q : Printed). q OnlyArgument) e in
    record {
      free = λ us rest x c. product-again r v rs us rest (rw free_is at x) c;
      factor = λ us rest x c. base-alone c (bracket-base (product-again r v rs) (round-shown all (rw factor_is at x)));
      argument = λ us rest x c. bracket-base (product-again r v rs) (round-shown all (rw only_is at x));
    }

-- a signature
tseq-again : (ts : List TypeExp) {us rest : List Spot} → Each TypeReads ts → Shows (sequence_tokens (map type_tokens ts)) us rest → Closes rest → Again (map plain_type) IsTseq ts us rest
tseq-again [] e (shown (shown ended)) c = record { tree = []; reads = s.no_types; same = refl }
tseq-again (t ∷ []) {us} {rest} (also r e) x c = let a = r.free us rest x c in record { tree = a.tree ∷ []; reads = s.one_type a.reads; same = together a.same refl }
tseq-again (t ∷ u ∷ ts) (also r (also v rs)) x c = let a = tuple-again r v rs x in record { tree = a.tree; reads = s.types a.reads c.stops.name; same = a.same }

sig-by : {ins outs : List TypeExp} {us vs rest : List Spot} → Each TypeReads ins → Each TypeReads outs → Shows (sequence_tokens (map type_tokens ins)) us vs → Shows (token.Sign mark.Arrow ∷ sequence_tokens (map type_tokens outs)) vs rest → Closes rest → Again plain_sig IsSig (sig_of ins outs) us rest
sig-by {ins} {outs} r w x (shown {p} {us = ws} y) c =
    let a = tseq-again ins r x (closes-arrow p ws) in
    let b = tseq-again outs w y c in
    record { tree = sig_of a.tree b.tree; reads = s.arrow a.reads b.reads; same = same-Sig (sig_of a.tree b.tree) (sig_of ins outs) a.same b.same }

sig-of-reads : (ins outs : List TypeExp) → Each TypeReads ins → Each TypeReads outs → SigReads (sig_of ins outs)
sig-of-reads ins outs r w =
    let e = fold.sig-is Printed (List Token) type_at sig_at (sig_of ins outs) in
    let begins : List Token = sequence_tokens (map type_tokens ins) in
    let is : sig_tokens (sig_of ins outs) ≡ begins ++ token.Sign mark.Arrow ∷ sequence_tokens (map type_tokens outs) = e in
    record { whole = λ us rest x c. let k = cut begins (rw is at x) in sig-by r w k.first k.second c }

-- a relation type
rel-by : {g : Sig} {us rest : List Spot} → SigReads g → InRound (sig_tokens g) us rest → Again plain_type IsTbase (type.Rel g) us rest
rel-by {g} r (in_round_brackets {q} {us} {rest} x) =
    let a = r.whole us (sign mark.CloseRound q ∷ rest) x (encloses-round q rest).closes in
    record { tree = type.Rel a.tree; reads = s.relation a.reads; same = same-Rel a.tree g a.same }

rel-reads : (g : Sig) → SigReads g → TypeReads (type.Rel g)
rel-reads g r = even (type.Rel g) _ (fold.type-Rel Printed (List Token) type_at sig_at g) refl refl (λ us rest x. rel-by r (round-shown (sig_tokens g) x))

-- ---- each type and signature that derives

mutual
  pub sig-reads : {us rest : List Spot} {g : Sig} → IsSig us g rest → SigReads g
  sig-reads (s.arrow {ins} {outs} a b) = sig-of-reads ins outs (tseq-read a) (tseq-read b)

  tseq-read : {us rest : List Spot} {ts : List TypeExp} → IsTseq us ts rest → Each TypeReads ts
  tseq-read s.no_types = none
  tseq-read (s.types a e) = tuple-read a
  tseq-read (s.one_type a) = also (type-reads a) none

  tuple-read : {us rest : List Spot} {ts : List TypeExp} → IsTypeTuple us ts rest → Each TypeReads ts
  tuple-read (s.two_types a b c) = also (type-reads a) (also (type-reads b) (more-types-read c))

  more-types-read : {us rest : List Spot} {ts : List TypeExp} → IsMoreTypes us ts rest → Each TypeReads ts
  more-types-read (s.no_more_types e) = none
  more-types-read (s.more_types a b) = also (type-reads a) (more-types-read b)

  pub type-reads : {us rest : List Spot} {t : TypeExp} → IsType us t rest → TypeReads t
  type-reads (s.product a (s.no_factor e)) = tatom-reads a
  type-reads (s.product a (s.more_factors b c)) = product-reads (tatom-reads a) (tatom-reads b) (factors-read c)

  pub factors-read : {us rest : List Spot} {ts : List TypeExp} → IsFactors us ts rest → Each TypeReads ts
  factors-read (s.no_factor e) = none
  factors-read (s.more_factors a b) = also (tatom-reads a) (factors-read b)

  pub tatom-reads : {us rest : List Spot} {t : TypeExp} → IsTatom us t rest → TypeReads t
  tatom-reads (s.based a (s.no_long e)) = tbase-reads a
  tatom-reads (s.based {t} a (s.more_longs {l} {ls} b c)) = app-reads (t ∷ []) l ls (also (tbase-reads a) none)
  tatom-reads (s.name {l} {ls} a b) = app-reads [] l ls none
  tatom-reads (s.arguments {ts} {l} {ls} a b c) = app-reads ts l ls (tuple-read a)

  tbase-reads : {us rest : List Spot} {t : TypeExp} → IsTbase us t rest → TypeReads t
  tbase-reads (s.var {v} {p}) = var-reads v p
  tbase-reads (s.bracket a) = type-reads a
  tbase-reads (s.relation {s = g} a) = rel-reads g (sig-reads a)
