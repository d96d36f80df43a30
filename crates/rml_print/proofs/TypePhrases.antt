-- A type or a signature of printable tokens is printed as a phrase, and a star can stand behind a type.
use Rattle.std.proofs.Common.{ℕ, Bool, true, false, List, [], ◌∷◌, ◌++◌, map, refl, append-nil}
use Rattle.std.specs.Prelude.{if◌then◌else◌}
use Rattle.rml_base.specs.declared.place.Place.{Place}
use Rattle.rml_syntax.specs.declared.token.Spot.{Spot}
use Rattle.rml_syntax.specs.declared.token.Mark.TheVariants as mark
use Rattle.rml_syntax.specs.declared.token.Token.{Token}
use Rattle.rml_syntax.specs.declared.token.Token.TheVariants as token
use Rattle.rml_syntax.specs.declared.rules.Long.{Long}
use Rattle.rml_syntax.specs.declared.types.Sig.{Sig}
use Rattle.rml_syntax.specs.declared.types.TypeExp.{TypeExp}
use Rattle.rml_syntax.specs.declared.types.TypeExp.TheVariants as type
use Rattle.rml_syntax.specs.declared.types.TypeExp.TheOpen.{TypeExp-F}
use Rattle.rml_grammar.specs.Trees.{named_type, product_type}
use Rattle.rml_grammar.specs.SpelledTypes as s
use Rattle.rml_grammar.specs.SpelledTypes.{IsSig, IsTseq, IsTypeTuple, IsMoreTypes, IsType, IsFactors, IsTatom, IsTbase}
use Rattle.rml_print.specs.declared.seats.Seat.{Seat}
use Rattle.rml_print.specs.declared.seats.Seat.TheVariants.{Factor, Free, OnlyArgument}
use Rattle.rml_print.specs.Parts.{Printed, in_round, led, listed}
use Rattle.rml_print.specs.Printable.{ArePrintable, IsPrintable}
use Rattle.rml_print.specs.Seats.{is_bracketed, type_shape_at}
use Rattle.rml_print.specs.Source.{IsSigOfSomeText}
use Rattle.rml_print.specs.Types.{argument_tokens, bare_type, sequence_tokens, sig_at, sig_tokens, type_at, type_tokens}
use Rattle.rml_grammar.proofs.Callers.{sig-is, type-App, type-Rel, type-Tuple, type-Var}
use Rattle.rml_print.proofs.NamePhrases.{AllLongs, Good, all-longs, behind-front, first, long-closed, longs-closed, others, spots-printable}
use Rattle.rml_print.proofs.Phrases.{AllFine, Closed, Phrase, both, closed-both, closed-round, nothing, one, printable, put, round, starred, tupled-phrase}

module _ (names : List (List ℕ)) where
  -- in any seat a star can stand behind it
  pub record Firm (p : Printed) : Type 0 where
    pub at : (seat : Seat) → Closed names (p seat)

  abbrev pub AllFirm : List Printed → Type 0
  AllFirm [] = Unit {0}
  AllFirm (p ∷ ps) = Firm p × AllFirm ps

  pub fine-all : (ps : List Printed) → AllFirm ps → AllFine names ps
  fine-all [] h = tt
  fine-all (p ∷ ps) h = (record { at = λ seat. (let f = h.0 in let c = f.at seat in c.phrase) }, fine-all ps h.1)

  abbrev pub FirmType : TypeExp → Type 0
  FirmType t = Firm (type_tokens t)

  abbrev pub FirmTypes : List TypeExp → Type 0
  FirmTypes ts = AllFirm (map type_tokens ts)

  bracketed : (b : Bool) (ts : List Token) → Closed names ts → Closed names (if b then in_round ts else ts)
  bracketed true ts c = closed-round names c.phrase
  bracketed false ts c = c

  seated : (t : TypeExp-F Printed (List Token)) → Closed names (bare_type t) → Firm (type_at t)
  seated t c = record { at = λ seat. bracketed (is_bracketed seat (type_shape_at t)) (bare_type t) c }

  -- factors
  abbrev AllClosed : List (List Token) → Type 0
  AllClosed [] = Unit {0}
  AllClosed (x ∷ xs) = Closed names x × AllClosed xs

  stars : (x : List Token) (xs : List (List Token)) → Closed names x → AllClosed xs → Closed names (x ++ led (token.Sign mark.Star) xs)
  stars x [] h all = rw append-nil h
  stars x (y ∷ ys) h all = starred names h (stars y ys all.0 all.1)

  in-seat : (seat : Seat) (ps : List Printed) → AllFirm ps → AllClosed (map (λ p. p seat) ps)
  in-seat seat [] h = tt
  in-seat seat (p ∷ ps) h = ((let f = h.0 in f.at seat), in-seat seat ps h.1)

  pub factors-closed : (p : Printed) (ps : List Printed) → AllFirm (p ∷ ps) → Closed names (listed mark.Star Factor (p ∷ ps))
  factors-closed p ps h = stars (p Factor) (map (λ q. q Factor) ps) (let f = h.0 in f.at Factor) (in-seat Factor ps h.1)

  -- each form of a type
  arguments-phrase : (ps : List Printed) → AllFirm ps → Phrase names (argument_tokens ps)
  arguments-phrase [] h = nothing names
  arguments-phrase (p ∷ []) h = let f = h.0 in let c = f.at OnlyArgument in c.phrase
  arguments-phrase (p ∷ q ∷ ps) h = tupled-phrase names (p ∷ q ∷ ps) (fine-all (p ∷ q ∷ ps) h)

  sequence-phrase : (ps : List Printed) → AllFirm ps → Phrase names (sequence_tokens ps)
  sequence-phrase [] h = round names (nothing names)
  sequence-phrase (p ∷ []) h = let f = h.0 in let c = f.at Free in c.phrase
  sequence-phrase (p ∷ q ∷ ps) h = tupled-phrase names (p ∷ q ∷ ps) (fine-all (p ∷ q ∷ ps) h)

  var-firm : (v : ℕ) (p : Place) → IsPrintable names (token.TyVar v) → FirmType (type.Var v p)
  var-firm v p h = rw (type-Var Printed (List Token) type_at sig_at v p) (seated (TypeExp-F.Var v p) (record { phrase = one names (token.TyVar v) h refl; ends = λ t. refl }))

  app-firm : (ts : List TypeExp) (l : Long) (ls : List Long) → FirmTypes ts → AllLongs names (l ∷ ls) → FirmType (type.App ts (l ∷ ls))
  app-firm ts l ls h longs =
      rw (type-App Printed (List Token) type_at sig_at ts (l ∷ ls))
      (seated (TypeExp-F.App (map type_tokens ts) (l ∷ ls)) (closed-both names (arguments-phrase (map type_tokens ts) h) (longs-closed names l ls longs)))

  product-firm : (t : TypeExp) (ts : List TypeExp) → FirmTypes (t ∷ ts) → FirmType (product_type (t ∷ ts))
  product-firm t [] h = h.0
  product-firm t (u ∷ ts) h =
      rw (type-Tuple Printed (List Token) type_at sig_at (t ∷ u ∷ ts))
      (seated (TypeExp-F.Tuple (map type_tokens (t ∷ u ∷ ts))) (factors-closed (type_tokens t) (map type_tokens (u ∷ ts)) h))

  relation-firm : (s : Sig) → Phrase names (sig_tokens s) → FirmType (type.Rel s)
  relation-firm s p = rw (type-Rel Printed (List Token) type_at sig_at s) (seated (TypeExp-F.Rel (sig_tokens s)) (closed-round names p))

  named-firm : (t : TypeExp) (ls : List Long) → FirmType t → AllLongs names ls → FirmType (named_type t ls)
  named-firm t [] h longs = h
  named-firm t (l ∷ ls) h longs = app-firm (t ∷ []) l ls (h, tt) longs

  arrow-phrase : (ins outs : List TypeExp) → FirmTypes ins → FirmTypes outs → Phrase names (sig_tokens (record { inputs = ins; outputs = outs }))
  arrow-phrase ins outs h k =
      rw (sig-is Printed (List Token) type_at sig_at (record { inputs = ins; outputs = outs }))
      (both names (sequence-phrase (map type_tokens ins) h) (put names (token.Sign mark.Arrow) tt refl (sequence-phrase (map type_tokens outs) k)))

  mutual
    pub sig-phrase : {us rest : List Spot} {s : Sig} → IsSig us s rest → Good names us → Phrase names (sig_tokens s) × Good names rest
    sig-phrase (s.arrow {ins = ins} {outs = outs} a b) h = let x = tseq-firm a h in let y = tseq-firm b (others names x.1) in (arrow-phrase ins outs x.0 y.0, y.1)

    tseq-firm : {us rest : List Spot} {ts : List TypeExp} → IsTseq us ts rest → Good names us → FirmTypes ts × Good names rest
    tseq-firm s.no_types h = (tt, others names (others names h))
    tseq-firm (s.types a e) h = pair-firm a h
    tseq-firm (s.one_type a) h = let x = type-firm a h in ((x.0, tt), x.1)

    pair-firm : {us rest : List Spot} {ts : List TypeExp} → IsTypeTuple us ts rest → Good names us → FirmTypes ts × Good names rest
    pair-firm (s.two_types a b c) h =
        let x = type-firm a (others names h) in
        let y = type-firm b (others names x.1) in
        let z = more-firm c y.1 in
        ((x.0, (y.0, z.0)), others names z.1)

    more-firm : {us rest : List Spot} {ts : List TypeExp} → IsMoreTypes us ts rest → Good names us → FirmTypes ts × Good names rest
    more-firm (s.no_more_types e) h = (tt, h)
    more-firm (s.more_types a b) h = let x = type-firm a (others names h) in let y = more-firm b x.1 in ((x.0, y.0), y.1)

    pub type-firm : {us rest : List Spot} {t : TypeExp} → IsType us t rest → Good names us → FirmType t × Good names rest
    type-firm (s.product {t = t} {ts = ts} a b) h = let x = tatom-firm a h in let y = factors-firm b x.1 in (product-firm t ts (x.0, y.0), y.1)

    pub factors-firm : {us rest : List Spot} {ts : List TypeExp} → IsFactors us ts rest → Good names us → FirmTypes ts × Good names rest
    factors-firm (s.no_factor e) h = (tt, h)
    factors-firm (s.more_factors a b) h = let x = tatom-firm a (others names h) in let y = factors-firm b x.1 in ((x.0, y.0), y.1)

    pub tatom-firm : {us rest : List Spot} {t : TypeExp} → IsTatom us t rest → Good names us → FirmType t × Good names rest
    tatom-firm (s.based {t = t} {ls = ls} a b) h = let x = tbase-firm a h in let y = all-longs names b x.1 in (named-firm t ls x.0 y.0, y.1)
    tatom-firm (s.name {l = l} {ls = ls} a b) h = let x = long-closed names a h in let y = all-longs names b x.1 in (app-firm [] l ls tt (x.0, y.0), y.1)
    tatom-firm (s.arguments {ts = ts} {l = l} {ls = ls} a b c) h =
        let x = pair-firm a h in
        let y = long-closed names b x.1 in
        let z = all-longs names c y.1 in
        (app-firm ts l ls x.0 (y.0, z.0), z.1)

    tbase-firm : {us rest : List Spot} {t : TypeExp} → IsTbase us t rest → Good names us → FirmType t × Good names rest
    tbase-firm (s.var {v} {p}) h = (var-firm v p (first names h), others names h)
    tbase-firm (s.bracket a) h = let x = type-firm a (others names h) in (x.0, others names x.1)
    tbase-firm (s.relation {s = s} a) h = let x = sig-phrase a (others names h) in (relation-firm s x.0, others names x.1)

  pub sig-printable : (s : Sig) → IsSigOfSomeText names s → ArePrintable names (sig_tokens s)
  sig-printable s h = printable names (sig-phrase h.derived (behind-front names h.front h.spots (spots-printable names (h.front ++ h.spots) h.spelled))).0
