-- An expression of formed tokens is formed so, production by production.
use Rattle.std.proofs.Common.{◌≡◌, ℕ, ◌≤◌, Bool, true, List, [], ◌∷◌, length, refl, ◌∙◌, arith}
use Rattle.std.specs.List.{list_all}
use Rattle.rml_syntax.specs.declared.token.Spot.{Spot}
use Rattle.rml_syntax.specs.declared.rules.Long.{Long}
use Rattle.rml_syntax.specs.declared.rules.Exp.{Exp}
use Rattle.rml_syntax.specs.declared.rules.Exp.TheVariants as exp
use Rattle.rml_grammar.specs.SpelledExpressions as s
use Rattle.rml_grammar.specs.SpelledExpressions.{IsEapp, IsEapps, IsEargs, IsEargs1, IsEatom, IsEatom1, IsEseq, IsExp, IsExpTuple, IsExps, IsMoreExps}
use Rattle.rml_grammar.specs.Trees.{chain_exp}
use Rattle.rml_grammar.proofs.Callers.{exp-App, exp-Cons, exp-List, exp-Lit, exp-Name, exp-Tuple}
use Rattle.rml_whole.specs.Parts.{long_is_formed}
use Rattle.rml_whole.specs.Rules.{exp_formed_at, exp_is_formed}
use Rattle.rml_whole_trees.proofs.Tokens.{AreFormed, long-formed}
use Rattle.rml_whole_trees.proofs.Words.{all-of, cons-of, some-of, two-of}

module _ (n : ℕ) where
  abbrev is : Exp → Bool
  is = exp_is_formed n

  name-formed : (l : Long) → long_is_formed n l ≡ true → is (exp.Name l) ≡ true
  name-formed l h = exp-Name Bool (exp_formed_at n) l ∙ h

  app-formed : (l : Long) (es : List Exp) → long_is_formed n l ≡ true → 1 ≤ length es → list_all is es ≡ true → is (exp.App l es) ≡ true
  app-formed l es h i k = exp-App Bool (exp_formed_at n) l es ∙ rw (h, some-of is es i k) refl

  tuple-formed : (es : List Exp) → 2 ≤ length es → list_all is es ≡ true → is (exp.Tuple es) ≡ true
  tuple-formed es i k = exp-Tuple Bool (exp_formed_at n) es ∙ two-of is es i k

  chain-formed : (e : Exp) (es : List Exp) → is e ≡ true → list_all is es ≡ true → is (chain_exp (e ∷ es)) ≡ true
  chain-formed e [] h k = h
  chain-formed e (f ∷ es) h k = exp-Cons Bool (exp_formed_at n) (e ∷ f ∷ es) ∙ two-of is (e ∷ f ∷ es) (omega arith) (cons-of is e (f ∷ es) h k)

  list-formed : (es : List Exp) → list_all is es ≡ true → is (exp.List es) ≡ true
  list-formed es h = exp-List Bool (exp_formed_at n) es ∙ all-of is es h

  mutual
    pub exp-formed : {us rest : List Spot} {e : Exp} → IsExp us e rest → AreFormed n us → (is e ≡ true) × AreFormed n rest
    exp-formed (s.chain {t} {ts} a b) h = let x = eapp-formed a h in let y = eapps-formed b x.1 in (chain-formed t ts x.0 y.0, y.1)

    eapps-formed : {us rest : List Spot} {es : List Exp} → IsEapps us es rest → AreFormed n us → (list_all is es ≡ true) × AreFormed n rest
    eapps-formed (s.no_eapp e) h = (refl, h)
    eapps-formed (s.more_eapps {t} {ts} a b) h = let x = eapp-formed a h.1 in let y = eapps-formed b x.1 in (cons-of is t ts x.0 y.0, y.1)

    eapp-formed : {us rest : List Spot} {e : Exp} → IsEapp us e rest → AreFormed n us → (is e ≡ true) × AreFormed n rest
    eapp-formed (s.name {l} a e) h = let x = long-formed n a h in (name-formed l x.0, x.1)
    eapp-formed (s.applied {l} {ts} a b) h = let x = long-formed n a h in let y = eargs1-formed b x.1 in (app-formed l ts x.0 y.0 y.1, y.2)
    eapp-formed (s.atom a) h = eatom-formed a h

    pub eargs1-formed : {us rest : List Spot} {es : List Exp} → IsEargs1 us es rest → AreFormed n us → (1 ≤ length es) × (list_all is es ≡ true) × AreFormed n rest
    eargs1-formed (s.bracketed a) h = let x = exps-formed a h.1 in (x.0, x.1, x.2.1)
    eargs1-formed (s.an_atom {t} a) h = let x = eatom1-formed a h in (omega arith, cons-of is t [] x.0 refl, x.1)
    eargs1-formed (s.a_long {l} a) h = let x = long-formed n a h in (omega arith, cons-of is (exp.Name l) [] (name-formed l x.0) refl, x.1)

    eatom-formed : {us rest : List Spot} {e : Exp} → IsEatom us e rest → AreFormed n us → (is e ≡ true) × AreFormed n rest
    eatom-formed (s.simple a) h = eatom1-formed a h
    eatom-formed (s.bracket a) h = let x = exp-formed a h.1 in (x.0, x.1.1)
    eatom-formed (s.tuple {ts} a) h = let x = exp_tuple-formed a h in (tuple-formed ts x.0 x.1, x.2)

    pub exp_tuple-formed : {us rest : List Spot} {es : List Exp} → IsExpTuple us es rest → AreFormed n us → (2 ≤ length es) × (list_all is es ≡ true) × AreFormed n rest
    exp_tuple-formed (s.two_exps {t} {u} {ts} a b c) h =
        let x = exp-formed a h.1 in
        let y = exp-formed b x.1.1 in
        let z = more_exps-formed c y.1 in
        (omega arith, cons-of is t (u ∷ ts) x.0 (cons-of is u ts y.0 z.0), z.1.1)

    eatom1-formed : {us rest : List Spot} {e : Exp} → IsEatom1 us e rest → AreFormed n us → (is e ≡ true) × AreFormed n rest
    eatom1-formed (s.lit {l}) h = (exp-Lit Bool (exp_formed_at n) l ∙ h.0, h.1)
    eatom1-formed s.no_list h = (list-formed [] refl, h.1.1)
    eatom1-formed (s.list {ts} a) h = let x = exps-formed a h.1 in (list-formed ts x.1, x.2.1)

    exps-formed : {us rest : List Spot} {es : List Exp} → IsExps us es rest → AreFormed n us → (1 ≤ length es) × (list_all is es ≡ true) × AreFormed n rest
    exps-formed (s.some_exps {t} {ts} a b) h = let x = exp-formed a h in let y = more_exps-formed b x.1 in (omega arith, cons-of is t ts x.0 y.0, y.1)

    more_exps-formed : {us rest : List Spot} {es : List Exp} → IsMoreExps us es rest → AreFormed n us → (list_all is es ≡ true) × AreFormed n rest
    more_exps-formed (s.no_more_exps e) h = (refl, h)
    more_exps-formed (s.more_exps {t} {ts} a b) h = let x = exp-formed a h.1 in let y = more_exps-formed b x.1 in (cons-of is t ts x.0 y.0, y.1)

  pub eargs-formed : {us rest : List Spot} {es : List Exp} → IsEargs us es rest → AreFormed n us → (list_all is es ≡ true) × AreFormed n rest
  eargs-formed (s.no_eargs e) h = (refl, h)
  eargs-formed s.empty_eargs h = (refl, h.1.1)
  eargs-formed (s.eargs1 a) h = let x = eargs1-formed a h in (x.1, x.2)

  pub eseq-formed : {us rest : List Spot} {es : List Exp} → IsEseq us es rest → AreFormed n us → (list_all is es ≡ true) × AreFormed n rest
  eseq-formed s.no_exps h = (refl, h.1.1)
  eseq-formed (s.exps a e) h = let x = exp_tuple-formed a h in (x.1, x.2)
  eseq-formed (s.one_exp {t} a e) h = let x = exp-formed a h in (cons-of is t [] x.0 refl, x.1)
