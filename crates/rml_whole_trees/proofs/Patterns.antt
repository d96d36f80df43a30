-- A pattern of formed tokens is formed so, production by production.
use Rattle.std.proofs.Common.{◌≡◌, ℕ, ◌≤◌, Bool, true, List, [], ◌∷◌, length, refl, ◌∙◌, arith}
use Rattle.std.specs.Prelude.{nat_lt}
use Rattle.std.specs.List.{list_all}
use Rattle.rml_base.specs.declared.place.Place.{Place}
use Rattle.rml_syntax.specs.declared.token.Spot.{Spot}
use Rattle.rml_syntax.specs.declared.rules.Long.{Long}
use Rattle.rml_syntax.specs.declared.rules.Pattern.{Pattern}
use Rattle.rml_syntax.specs.declared.rules.Pattern.TheVariants as pat
use Rattle.rml_grammar.specs.SpelledPatterns as s
use Rattle.rml_grammar.specs.SpelledPatterns.{IsMorePats, IsPapp, IsPapps, IsPargs, IsPargs1, IsPat, IsPatTuple, IsPatom, IsPatom1, IsPats, IsPcons, IsPseq}
use Rattle.rml_grammar.specs.Trees.{chain_pat}
use Rattle.rml_grammar.proofs.Callers.{pattern-Any, pattern-App, pattern-Bind, pattern-Cons, pattern-List, pattern-Lit, pattern-Name, pattern-Tuple}
use Rattle.rml_whole.specs.Parts.{long_is_formed}
use Rattle.rml_whole.specs.Rules.{pattern_formed_at, pattern_is_formed}
use Rattle.rml_whole_trees.proofs.Tokens.{AreFormed, long-formed}
use Rattle.rml_whole_trees.proofs.Words.{all-of, cons-of, some-of, two-of}

module _ (n : ℕ) where
  abbrev is : Pattern → Bool
  is = pattern_is_formed n

  name-formed : (l : Long) → long_is_formed n l ≡ true → is (pat.Name l) ≡ true
  name-formed l h = pattern-Name Bool (pattern_formed_at n) l ∙ h

  app-formed : (l : Long) (es : List Pattern) → long_is_formed n l ≡ true → 1 ≤ length es → list_all is es ≡ true → is (pat.App l es) ≡ true
  app-formed l es h i k = pattern-App Bool (pattern_formed_at n) l es ∙ rw (h, some-of is es i k) refl

  tuple-formed : (es : List Pattern) → 2 ≤ length es → list_all is es ≡ true → is (pat.Tuple es) ≡ true
  tuple-formed es i k = pattern-Tuple Bool (pattern_formed_at n) es ∙ two-of is es i k

  chain-formed : (e : Pattern) (es : List Pattern) → is e ≡ true → list_all is es ≡ true → is (chain_pat (e ∷ es)) ≡ true
  chain-formed e [] h k = h
  chain-formed e (f ∷ es) h k = pattern-Cons Bool (pattern_formed_at n) (e ∷ f ∷ es) ∙ two-of is (e ∷ f ∷ es) (omega arith) (cons-of is e (f ∷ es) h k)

  list-formed : (es : List Pattern) → list_all is es ≡ true → is (pat.List es) ≡ true
  list-formed es h = pattern-List Bool (pattern_formed_at n) es ∙ all-of is es h

  bind-formed : (x : ℕ) (at : Place) (p : Pattern) → nat_lt x n ≡ true → is p ≡ true → is (pat.Bind x at p) ≡ true
  bind-formed x at p h k = pattern-Bind Bool (pattern_formed_at n) x at p ∙ rw (h, k) refl

  mutual
    pub pat-formed : {us rest : List Spot} {e : Pattern} → IsPat us e rest → AreFormed n us → (is e ≡ true) × AreFormed n rest
    pat-formed (s.bound {n = x} {p} {t} a) h = let y = pcons-formed a h.1.1 in (bind-formed x p t h.0 y.0, y.1)
    pat-formed (s.unbound e a) h = pcons-formed a h

    pcons-formed : {us rest : List Spot} {e : Pattern} → IsPcons us e rest → AreFormed n us → (is e ≡ true) × AreFormed n rest
    pcons-formed (s.chain {t} {ts} a b) h = let x = papp-formed a h in let y = papps-formed b x.1 in (chain-formed t ts x.0 y.0, y.1)

    papps-formed : {us rest : List Spot} {es : List Pattern} → IsPapps us es rest → AreFormed n us → (list_all is es ≡ true) × AreFormed n rest
    papps-formed (s.no_papp e) h = (refl, h)
    papps-formed (s.more_papps {t} {ts} a b) h = let x = papp-formed a h.1 in let y = papps-formed b x.1 in (cons-of is t ts x.0 y.0, y.1)

    papp-formed : {us rest : List Spot} {e : Pattern} → IsPapp us e rest → AreFormed n us → (is e ≡ true) × AreFormed n rest
    papp-formed (s.name {l} a e) h = let x = long-formed n a h in (name-formed l x.0, x.1)
    papp-formed (s.applied {l} {ts} a b) h = let x = long-formed n a h in let y = pargs1-formed b x.1 in (app-formed l ts x.0 y.0 y.1, y.2)
    papp-formed (s.atom a) h = patom-formed a h

    pub pargs1-formed : {us rest : List Spot} {es : List Pattern} → IsPargs1 us es rest → AreFormed n us → (1 ≤ length es) × (list_all is es ≡ true) × AreFormed n rest
    pargs1-formed (s.bracketed a) h = let x = pats-formed a h.1 in (x.0, x.1, x.2.1)
    pargs1-formed (s.an_atom {t} a) h = let x = patom1-formed a h in (omega arith, cons-of is t [] x.0 refl, x.1)
    pargs1-formed (s.a_long {l} a) h = let x = long-formed n a h in (omega arith, cons-of is (pat.Name l) [] (name-formed l x.0) refl, x.1)

    patom-formed : {us rest : List Spot} {e : Pattern} → IsPatom us e rest → AreFormed n us → (is e ≡ true) × AreFormed n rest
    patom-formed (s.simple a) h = patom1-formed a h
    patom-formed (s.bracket a) h = let x = pat-formed a h.1 in (x.0, x.1.1)
    patom-formed (s.tuple {ts} a) h = let x = pat_tuple-formed a h in (tuple-formed ts x.0 x.1, x.2)

    pub pat_tuple-formed : {us rest : List Spot} {es : List Pattern} → IsPatTuple us es rest → AreFormed n us → (2 ≤ length es) × (list_all is es ≡ true) × AreFormed n rest
    pat_tuple-formed (s.two_pats {t} {u} {ts} a b c) h =
        let x = pat-formed a h.1 in
        let y = pat-formed b x.1.1 in
        let z = more_pats-formed c y.1 in
        (omega arith, cons-of is t (u ∷ ts) x.0 (cons-of is u ts y.0 z.0), z.1.1)

    patom1-formed : {us rest : List Spot} {e : Pattern} → IsPatom1 us e rest → AreFormed n us → (is e ≡ true) × AreFormed n rest
    patom1-formed s.any h = (pattern-Any Bool (pattern_formed_at n), h.1)
    patom1-formed (s.lit {l}) h = (pattern-Lit Bool (pattern_formed_at n) l ∙ h.0, h.1)
    patom1-formed s.no_list h = (list-formed [] refl, h.1.1)
    patom1-formed (s.list {ts} a) h = let x = pats-formed a h.1 in (list-formed ts x.1, x.2.1)

    pats-formed : {us rest : List Spot} {es : List Pattern} → IsPats us es rest → AreFormed n us → (1 ≤ length es) × (list_all is es ≡ true) × AreFormed n rest
    pats-formed (s.some_pats {t} {ts} a b) h = let x = pat-formed a h in let y = more_pats-formed b x.1 in (omega arith, cons-of is t ts x.0 y.0, y.1)

    more_pats-formed : {us rest : List Spot} {es : List Pattern} → IsMorePats us es rest → AreFormed n us → (list_all is es ≡ true) × AreFormed n rest
    more_pats-formed (s.no_more_pats e) h = (refl, h)
    more_pats-formed (s.more_pats {t} {ts} a b) h = let x = pat-formed a h.1 in let y = more_pats-formed b x.1 in (cons-of is t ts x.0 y.0, y.1)

  pub pargs-formed : {us rest : List Spot} {es : List Pattern} → IsPargs us es rest → AreFormed n us → (list_all is es ≡ true) × AreFormed n rest
  pargs-formed (s.no_pargs e) h = (refl, h)
  pargs-formed s.empty_pargs h = (refl, h.1.1)
  pargs-formed (s.pargs1 a) h = let x = pargs1-formed a h in (x.1, x.2)

  pub pseq-formed : {us rest : List Spot} {es : List Pattern} → IsPseq us es rest → AreFormed n us → (list_all is es ≡ true) × AreFormed n rest
  pseq-formed s.no_pats h = (refl, h.1.1)
  pseq-formed (s.pats a e) h = let x = pat_tuple-formed a h in (x.1, x.2)
  pseq-formed (s.one_pat {t} a e) h = let x = pat-formed a h in (cons-of is t [] x.0 refl, x.1)
