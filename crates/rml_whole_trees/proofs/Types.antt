-- A type of formed tokens is formed so, production by production.
use Rattle.std.proofs.Common.{◌≡◌, ℕ, Bool, true, List, [], ◌∷◌, refl, ◌∙◌, arith}
use Rattle.std.specs.List.{list_all}
use Rattle.rml_syntax.specs.declared.token.Spot.{Spot}
use Rattle.rml_syntax.specs.declared.rules.Long.{Long}
use Rattle.rml_syntax.specs.declared.types.TypeExp.{TypeExp}
use Rattle.rml_syntax.specs.declared.types.TypeExp.TheVariants as type
use Rattle.rml_syntax.specs.declared.types.Sig.{Sig}
use Rattle.rml_grammar.specs.SpelledTypes as s
use Rattle.rml_grammar.specs.SpelledTypes.{IsFactors, IsLongs, IsMoreTypes, IsSig, IsTatom, IsTbase, IsTseq, IsType, IsTypeTuple}
use Rattle.rml_grammar.specs.Trees.{named_type, product_type}
use Rattle.rml_grammar.proofs.Callers.{sig-is, type-App, type-Rel, type-Tuple, type-Var}
use Rattle.rml_whole.specs.Parts.{long_is_formed}
use Rattle.rml_whole.specs.Types.{sig_formed_at, sig_is_formed, type_formed_at, type_is_formed}
use Rattle.rml_whole_trees.proofs.Tokens.{AreFormed, long-formed, longs-formed}
use Rattle.rml_whole_trees.proofs.Words.{all-of, cons-of, some-of, two-of}

module _ (n : ℕ) where
  abbrev is : TypeExp → Bool
  is = type_is_formed n

  app-formed : (ts : List TypeExp) (l : Long) (ls : List Long) → list_all is ts ≡ true → list_all (long_is_formed n) (l ∷ ls) ≡ true → is (type.App ts (l ∷ ls)) ≡ true
  app-formed ts l ls h k = type-App Bool Bool (type_formed_at n) sig_formed_at ts (l ∷ ls) ∙ rw (all-of is ts h, some-of (long_is_formed n) (l ∷ ls) (omega arith) k) refl

  product-formed : (t : TypeExp) (ts : List TypeExp) → is t ≡ true → list_all is ts ≡ true → is (product_type (t ∷ ts)) ≡ true
  product-formed t [] h k = h
  product-formed t (u ∷ ts) h k = type-Tuple Bool Bool (type_formed_at n) sig_formed_at (t ∷ u ∷ ts) ∙ two-of is (t ∷ u ∷ ts) (omega arith) (cons-of is t (u ∷ ts) h k)

  named-formed : (t : TypeExp) (ls : List Long) → is t ≡ true → list_all (long_is_formed n) ls ≡ true → is (named_type t ls) ≡ true
  named-formed t [] h k = h
  named-formed t (l ∷ ls) h k = app-formed (t ∷ []) l ls (cons-of is t [] h refl) k

  sig-formed-of : (i o : List TypeExp) → list_all is i ≡ true → list_all is o ≡ true → sig_is_formed n (record { inputs = i; outputs = o }) ≡ true
  sig-formed-of i o h k = sig-is Bool Bool (type_formed_at n) sig_formed_at (record { inputs = i; outputs = o }) ∙ rw (all-of is i h, all-of is o k) refl

  mutual
    pub sig-formed : {us rest : List Spot} {t : Sig} → IsSig us t rest → AreFormed n us → (sig_is_formed n t ≡ true) × AreFormed n rest
    sig-formed (s.arrow {ins} {outs} a b) h = let x = tseq-formed a h in let y = tseq-formed b x.1.1 in (sig-formed-of ins outs x.0 y.0, y.1)

    tseq-formed : {us rest : List Spot} {ts : List TypeExp} → IsTseq us ts rest → AreFormed n us → (list_all is ts ≡ true) × AreFormed n rest
    tseq-formed s.no_types h = (refl, h.1.1)
    tseq-formed (s.types a e) h = type_tuple-formed a h
    tseq-formed (s.one_type {t} a) h = let x = type-formed a h in (cons-of is t [] x.0 refl, x.1)

    type_tuple-formed : {us rest : List Spot} {ts : List TypeExp} → IsTypeTuple us ts rest → AreFormed n us → (list_all is ts ≡ true) × AreFormed n rest
    type_tuple-formed (s.two_types {t} {u} {ts} a b c) h =
        let x = type-formed a h.1 in
        let y = type-formed b x.1.1 in
        let z = more_types-formed c y.1 in
        (cons-of is t (u ∷ ts) x.0 (cons-of is u ts y.0 z.0), z.1.1)

    more_types-formed : {us rest : List Spot} {ts : List TypeExp} → IsMoreTypes us ts rest → AreFormed n us → (list_all is ts ≡ true) × AreFormed n rest
    more_types-formed (s.no_more_types e) h = (refl, h)
    more_types-formed (s.more_types {t} {ts} a b) h = let x = type-formed a h.1 in let y = more_types-formed b x.1 in (cons-of is t ts x.0 y.0, y.1)

    pub type-formed : {us rest : List Spot} {t : TypeExp} → IsType us t rest → AreFormed n us → (is t ≡ true) × AreFormed n rest
    type-formed (s.product {t} {ts} a b) h = let x = tatom-formed a h in let y = factors-formed b x.1 in (product-formed t ts x.0 y.0, y.1)

    pub factors-formed : {us rest : List Spot} {ts : List TypeExp} → IsFactors us ts rest → AreFormed n us → (list_all is ts ≡ true) × AreFormed n rest
    factors-formed (s.no_factor e) h = (refl, h)
    factors-formed (s.more_factors {t} {ts} a b) h = let x = tatom-formed a h.1 in let y = factors-formed b x.1 in (cons-of is t ts x.0 y.0, y.1)

    pub tatom-formed : {us rest : List Spot} {t : TypeExp} → IsTatom us t rest → AreFormed n us → (is t ≡ true) × AreFormed n rest
    tatom-formed (s.based {t} {ls} a b) h = let x = tbase-formed a h in let y = longs-formed n b x.1 in (named-formed t ls x.0 y.0, y.1)
    tatom-formed (s.name {l} {ls} a b) h = let x = long-formed n a h in let y = longs-formed n b x.1 in (app-formed [] l ls refl (cons-of (long_is_formed n) l ls x.0 y.0), y.1)
    tatom-formed (s.arguments {ts} {l} {ls} a b c) h =
        let x = type_tuple-formed a h in
        let y = long-formed n b x.1 in
        let z = longs-formed n c y.1 in
        (app-formed ts l ls x.0 (cons-of (long_is_formed n) l ls y.0 z.0), z.1)

    tbase-formed : {us rest : List Spot} {t : TypeExp} → IsTbase us t rest → AreFormed n us → (is t ≡ true) × AreFormed n rest
    tbase-formed (s.var {v} {p}) h = (type-Var Bool Bool (type_formed_at n) sig_formed_at v p ∙ h.0, h.1)
    tbase-formed (s.bracket a) h = let x = type-formed a h.1 in (x.0, x.1.1)
    tbase-formed (s.relation {s = t} a) h = let x = sig-formed a h.1 in (type-Rel Bool Bool (type_formed_at n) sig_formed_at t ∙ x.0, x.1.1)
