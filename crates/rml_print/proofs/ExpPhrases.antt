-- An expression of printable tokens is printed as a phrase.
use Rattle.std.proofs.Common.{ℕ, List, [], ◌∷◌, map, refl}
use Rattle.rml_syntax.specs.declared.token.Spot.{Spot}
use Rattle.rml_syntax.specs.declared.token.Lit.{Lit}
use Rattle.rml_syntax.specs.declared.token.Token.TheVariants as token
use Rattle.rml_syntax.specs.declared.token.Mark.TheVariants as mark
use Rattle.rml_syntax.specs.declared.rules.Exp.{Exp}
use Rattle.rml_syntax.specs.declared.rules.Exp.TheVariants as exp
use Rattle.rml_syntax.specs.declared.rules.Exp.TheOpen.{Exp-F}
use Rattle.rml_syntax.specs.declared.rules.Long.{Long}
use Rattle.rml_grammar.specs.Trees.{chain_exp}
use Rattle.rml_grammar.specs.SpelledExpressions as s
use Rattle.rml_grammar.specs.SpelledExpressions.{IsExp, IsEapps, IsEapp, IsEargs1, IsEatom, IsExpTuple, IsEatom1, IsExps, IsMoreExps, IsEargs, IsEseq}
use Rattle.rml_print.specs.declared.seats.Seat.TheVariants.{Free, Item}
use Rattle.rml_print.specs.Expressions.{bare_exp, exp_at, exp_tokens}
use Rattle.rml_print.specs.Parts.{Printed, long_tokens}
use Rattle.rml_print.specs.Printable.{IsPrintable}
use Rattle.rml_print.specs.Seats.{exp_shape_at}
use Rattle.rml_grammar.proofs.Callers.{exp-App, exp-Cons, exp-List, exp-Lit, exp-Name, exp-Tuple}
use Rattle.rml_print.proofs.NamePhrases.{Good, first, long-closed, others}
use Rattle.rml_print.proofs.Phrases.{AllFine, Closed, Fine, Phrase, both, fine, listed-phrase, one, square, tupled-phrase}

module _ (names : List (List ℕ)) where
  abbrev pub FineExp : Exp → Type 0
  FineExp e = Fine names (exp_tokens e)

  abbrev pub FineExps : List Exp → Type 0
  FineExps es = AllFine names (map exp_tokens es)

  seated : (e : Exp-F Printed) → Phrase names (bare_exp e) → Fine names (exp_at e)
  seated e p = fine names (exp_shape_at {A = Printed} e) (bare_exp e) p

  lit-fine : (l : Lit) → IsPrintable names (token.Lit l) → FineExp (exp.Lit l)
  lit-fine l h = rw (exp-Lit Printed exp_at l) (seated (Exp-F.Lit l) (one names (token.Lit l) h refl))

  name-fine : (l : Long) → Closed names (long_tokens l) → FineExp (exp.Name l)
  name-fine l h = rw (exp-Name Printed exp_at l) (seated (Exp-F.Name l) h.phrase)

  app-fine : (l : Long) (es : List Exp) → Closed names (long_tokens l) → FineExps es → FineExp (exp.App l es)
  app-fine l es h all = rw (exp-App Printed exp_at l es) (seated (Exp-F.App l (map exp_tokens es)) (both names h.phrase (tupled-phrase names (map exp_tokens es) all)))

  tuple-fine : (es : List Exp) → FineExps es → FineExp (exp.Tuple es)
  tuple-fine es all = rw (exp-Tuple Printed exp_at es) (seated (Exp-F.Tuple (map exp_tokens es)) (tupled-phrase names (map exp_tokens es) all))

  list-fine : (es : List Exp) → FineExps es → FineExp (exp.List es)
  list-fine es all = rw (exp-List Printed exp_at es) (seated (Exp-F.List (map exp_tokens es)) (square names (listed-phrase names mark.Comma Free (map exp_tokens es) refl all)))

  chain-fine : (e : Exp) (es : List Exp) → FineExps (e ∷ es) → FineExp (chain_exp (e ∷ es))
  chain-fine e [] all = all.0
  chain-fine e (f ∷ es) all =
      let fs : List Exp = e ∷ f ∷ es in
      rw (exp-Cons Printed exp_at fs) (seated (Exp-F.Cons (map exp_tokens fs)) (listed-phrase names mark.TwoColons Item (map exp_tokens fs) refl all))

  mutual
    pub exp-fine : {us rest : List Spot} {e : Exp} → IsExp us e rest → Good names us → FineExp e × Good names rest
    exp-fine (s.chain {t = e} {ts = es} a b) h = let x = eapp-fine a h in let y = eapps-fine b x.1 in (chain-fine e es (x.0, y.0), y.1)

    eapps-fine : {us rest : List Spot} {es : List Exp} → IsEapps us es rest → Good names us → FineExps es × Good names rest
    eapps-fine (s.no_eapp e) h = (tt, h)
    eapps-fine (s.more_eapps a b) h = let x = eapp-fine a (others names h) in let y = eapps-fine b x.1 in ((x.0, y.0), y.1)

    eapp-fine : {us rest : List Spot} {e : Exp} → IsEapp us e rest → Good names us → FineExp e × Good names rest
    eapp-fine (s.name {l = l} a e) h = let x = long-closed names a h in (name-fine l x.0, x.1)
    eapp-fine (s.applied {l = l} {ts = es} a b) h =
        let x = long-closed names a h in
        let y = eargs1-fine b x.1 in
        (app-fine l es x.0 y.0, y.1)
    eapp-fine (s.atom a) h = eatom-fine a h

    eargs1-fine : {us rest : List Spot} {es : List Exp} → IsEargs1 us es rest → Good names us → FineExps es × Good names rest
    eargs1-fine (s.bracketed a) h = let x = exps-fine a (others names h) in (x.0, others names x.1)
    eargs1-fine (s.an_atom a) h = let x = eatom1-fine a h in ((x.0, tt), x.1)
    eargs1-fine (s.a_long {l = l} a) h = let x = long-closed names a h in ((name-fine l x.0, tt), x.1)

    eatom-fine : {us rest : List Spot} {e : Exp} → IsEatom us e rest → Good names us → FineExp e × Good names rest
    eatom-fine (s.simple a) h = eatom1-fine a h
    eatom-fine (s.bracket a) h = let x = exp-fine a (others names h) in (x.0, others names x.1)
    eatom-fine (s.tuple {ts = es} a) h = let x = pair-fine a h in (tuple-fine es x.0, x.1)

    pair-fine : {us rest : List Spot} {es : List Exp} → IsExpTuple us es rest → Good names us → FineExps es × Good names rest
    pair-fine (s.two_exps a b c) h =
        let x = exp-fine a (others names h) in
        let y = exp-fine b (others names x.1) in
        let z = more-fine c y.1 in
        ((x.0, (y.0, z.0)), others names z.1)

    eatom1-fine : {us rest : List Spot} {e : Exp} → IsEatom1 us e rest → Good names us → FineExp e × Good names rest
    eatom1-fine (s.lit {l}) h = (lit-fine l (first names h), others names h)
    eatom1-fine s.no_list h = (list-fine [] tt, others names (others names h))
    eatom1-fine (s.list {ts = es} a) h =
        let x = exps-fine a (others names h) in
        (list-fine es x.0, others names x.1)

    exps-fine : {us rest : List Spot} {es : List Exp} → IsExps us es rest → Good names us → FineExps es × Good names rest
    exps-fine (s.some_exps a b) h = let x = exp-fine a h in let y = more-fine b x.1 in ((x.0, y.0), y.1)

    more-fine : {us rest : List Spot} {es : List Exp} → IsMoreExps us es rest → Good names us → FineExps es × Good names rest
    more-fine (s.no_more_exps e) h = (tt, h)
    more-fine (s.more_exps a b) h = let x = exp-fine a (others names h) in let y = more-fine b x.1 in ((x.0, y.0), y.1)

  pub eargs-fine : {us rest : List Spot} {es : List Exp} → IsEargs us es rest → Good names us → FineExps es × Good names rest
  eargs-fine (s.no_eargs e) h = (tt, h)
  eargs-fine s.empty_eargs h = (tt, others names (others names h))
  eargs-fine (s.eargs1 a) h = eargs1-fine a h

  pub eseq-fine : {us rest : List Spot} {es : List Exp} → IsEseq us es rest → Good names us → FineExps es × Good names rest
  eseq-fine s.no_exps h = (tt, others names (others names h))
  eseq-fine (s.exps a e) h = pair-fine a h
  eseq-fine (s.one_exp a e) h = let x = exp-fine a h in ((x.0, tt), x.1)
