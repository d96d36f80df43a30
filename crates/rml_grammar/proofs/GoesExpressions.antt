-- Expressions can be finished.
use Rattle.std.proofs.Common.{◌≡◌, ℕ, zero, suc, List, [], ◌∷◌, length, refl, sym, ap, subst, ◌∙◌, arith, Option, Some, None, Result, Ok}
use Rattle.rml_base.specs.declared.place.Place.{Place}
use Rattle.rml_syntax.specs.declared.token.Spot.{Spot}
use Rattle.rml_syntax.specs.declared.token.Mark.TheVariants as mark
use Rattle.rml_syntax.specs.declared.rules.Long.{Long}
use Rattle.rml_syntax.specs.declared.rules.Exp.{Exp}
use Rattle.rml_syntax.specs.declared.rules.Exp.TheVariants as exp
use Rattle.rml_grammar.specs.declared.fault.Fault.{Fault}
use Rattle.rml_grammar.specs.declared.fault.ParseKind.TheVariants as kind
use Rattle.rml_grammar.specs.declared.front.Front.{Front}
use Rattle.rml_grammar.specs.declared.front.Front.TheVariants as front
use Rattle.rml_grammar.specs.Tokens.{named, sign, after, front_of}
use Rattle.rml_grammar.specs.Reading.{◌>>=◌, Parser, enclosed, enclosed_or_none, inside, qualified, separated}
use Rattle.rml_grammar.specs.Trees.{applied_exp, chain_exp, listed, results_exp, tuple_exp}
use Rattle.rml_grammar.specs.Expressions.{Inner, chained_exp, eapp, eapp_at, eapps_at, eargs_at, eargument, eatom_by, eseq_at, eseq_inside, exp_at, inner_exp}
use Rattle.rml_grammar.proofs.Levels.{exp_level}
use Rattle.rml_grammar.proofs.Fine.{fine-front, sign-decides}
use Rattle.rml_grammar.proofs.FineExpressions as fine
use Rattle.rml_grammar.proofs.Goes.{Anything, Wide, narrow, closed, closed_square, Goes, Next, Branch, behind, like, at, wide-all, ok-is, bind-ok, fine-within-ok, goes-give, goes-map, goes-then, goes-first, goes-by, goes-is, goes-repeated, goes-separated, goes-enclosed, goes-or-none, next-enclosed, next-or-none, closes, none-repeats, never-sign, next-give, next-map, passes, refuses}
use Rattle.rml_grammar.proofs.GoesNames.{Quiet, ByName, quiet-next, quiet-anywhere, named-next, quiet-then, quiet-map, named-map, is-name, goes-qualified, quiet-qualified, long-behind}

wide-chain : (z : List Spot) → Wide z → after mark.TwoColons z ≡ None
wide-chain z w = wide-all (λ us. after mark.TwoColons us ≡ None) refl (λ p us. refl) (λ p us. refl) (λ n p us. refl) (λ p us. refl) (λ p us. refl) (λ p us. refl) z w

-- what stands in brackets
pub record Encloses (p : Parser Exp) : Type 0 where
  pub goes : Goes Wide p
  pub next : Next Anything Wide p

abbrev pub InnerGoes : Inner → Type 0
InnerGoes None = Unit {0}
InnerGoes (Some p) = Encloses p

inner-is-fine : (inner : Inner) → InnerGoes inner → fine.InnerFine inner
inner-is-fine None h = tt
inner-is-fine (Some p) h = h.goes.fine

ready-round : (z : List Spot) → Wide (sign mark.CloseRound at ∷ z)
ready-round z = narrow closed

ready-square : (z : List Spot) → Wide (sign mark.CloseSquare at ∷ z)
ready-square z = narrow closed_square

-- behind a bracket that opens: P reads it, and f makes a tree of the items
module _ {B : Type 0} (P : Parser B) (f : List Exp → B) (y : Spot) where
  in-round : (inner : Inner) → InnerGoes inner → ((us : List Spot) → P (y ∷ us) ≡ (inside inner (enclosed mark.CloseRound) (y ∷ us) us >>= λ xs. Ok (f xs.0, xs.1))) → Branch Wide P y
  in-round None h e = refuses Wide P y kind.TooDeep e
  in-round (Some p) h e = behind (λ us. enclosed mark.CloseRound p us >>= λ xs. Ok (f xs.0, xs.1)) (goes-map Wide (enclosed mark.CloseRound p) f (goes-enclosed p h.goes h.next Wide mark.CloseRound ready-round))
      (next-map Anything Wide (enclosed mark.CloseRound p) f (next-enclosed p h.goes h.next Wide mark.CloseRound ready-round)) e

  in-list : (inner : Inner) → InnerGoes inner → ((us : List Spot) → P (y ∷ us) ≡ (inside inner (enclosed_or_none mark.CloseSquare) (y ∷ us) us >>= λ xs. Ok (f xs.0, xs.1))) → Branch Wide P y
  in-list None h e = refuses Wide P y kind.TooDeep e
  in-list (Some p) h e = behind (λ us. enclosed_or_none mark.CloseSquare p us >>= λ xs. Ok (f xs.0, xs.1)) (goes-map Wide (enclosed_or_none mark.CloseSquare p) f (goes-or-none p h.goes h.next Wide mark.CloseSquare ready-square))
      (next-map Anything Wide (enclosed_or_none mark.CloseSquare p) f (next-or-none p h.goes h.next Wide mark.CloseSquare ready-square)) e

in-args : (P : Parser (List Exp)) (y : Spot) (inner : Inner) → InnerGoes inner → ((us : List Spot) → P (y ∷ us) ≡ inside inner (enclosed_or_none mark.CloseRound) (y ∷ us) us) → Branch Wide P y
in-args P y None h e = refuses Wide P y kind.TooDeep e
in-args P y (Some p) h e = behind (enclosed_or_none mark.CloseRound p) (goes-or-none p h.goes h.next Wide mark.CloseRound ready-round) (next-or-none p h.goes h.next Wide mark.CloseRound ready-round) e

none-given : {A : Type 0} (a : Option A) → ◌≡◌ {A = Result (Option A × List Spot) Fault} (Ok (None, [])) (Ok (a, [])) → None ≡ a
none-given {A} a e = ap (λ (w : Option A × List Spot). w.0) (ok-is (None, []) (a, []) e)

module _ (inner : Inner) (goes : InnerGoes inner) where
  abbrev eatom : Parser Exp
  eatom us = eatom_by inner us (front_of us)

  by-eatom : (y : Spot) (f : Front) → front_of (y ∷ []) ≡ f → Branch Wide eatom y
  by-eatom y (front.Literal l) e = behind (λ us. Ok (exp.Lit l, us)) (goes-give Wide (exp.Lit l)) (next-give Anything Wide (exp.Lit l) (λ z s. tt)) (λ us. rw e refl)
  by-eatom y front.Square e = in-list eatom (λ xs. exp.List xs) y inner goes (λ us. rw e refl)
  by-eatom y front.Round e = in-round eatom (λ xs. tuple_exp xs) y inner goes (λ us. rw e refl)
  by-eatom y f e = refuses Wide eatom y kind.Unexpected (λ us. rw e refl)

  eatom-goes : Goes Wide eatom
  eatom-goes = goes-first Wide eatom (fine-front (eatom_by inner) (fine.eatom-fine inner (inner-is-fine inner goes))) (λ a h z s. absurd (cc h)) (λ y. by-eatom y (front_of (y ∷ [])) refl)

  no-argument : (z : List Spot) → Wide z → eargument inner z ≡ Ok (None, z)
  no-argument z w = wide-all (λ us. eargument inner us ≡ Ok (None, us)) refl (λ p us. refl) (λ p us. refl) (λ n p us. refl) (λ p us. refl) (λ p us. refl) (λ p us. refl) z w

  argument-named : (n : ℕ) (p : Place) (us : List Spot) → eargument inner (named n p ∷ us) ≡ (qualified (n, p) us (after mark.Dot us) >>= λ l. Ok (Some (exp.Name l.0 ∷ []), l.1))
  argument-named n p us = rw (long-behind n p us) refl

  by-argument : (y : Spot) (f : Front) → front_of (y ∷ []) ≡ f → Branch Wide (eargument inner) y
  by-argument y (front.Literal l) e = behind (λ us. Ok (Some (exp.Lit l ∷ []), us)) (goes-give Wide (Some (exp.Lit l ∷ []))) (next-give Anything Wide (Some (exp.Lit l ∷ [])) (λ z s. tt)) (λ us. rw e refl)
  by-argument y front.Named e =
      let i = is-name y e in
      let q = λ (us : List Spot). qualified (i.0, y.place) us (after mark.Dot us) in
      let f = λ (l : Long). Some (exp.Name l ∷ []) in
      subst (λ (s : Spot). Branch Wide (eargument inner) s) (sym i.1) (behind (λ us. q us >>= λ l. Ok (f l.0, l.1)) (goes-map Wide q f (goes-qualified (i.0, y.place)))
      (quiet-anywhere Anything Wide (λ us. q us >>= λ l. Ok (f l.0, l.1)) (λ z s. tt) (quiet-map Wide q f (quiet-qualified (i.0, y.place)))) (argument-named i.0 y.place))
  by-argument y front.Square e = in-list (eargument inner) (λ xs. Some (exp.List xs ∷ [])) y inner goes (λ us. rw e refl)
  by-argument y front.Round e = in-round (eargument inner) (λ xs. Some xs) y inner goes (λ us. rw e refl)
  by-argument y f e = passes Wide (eargument inner) y None (λ us. rw e refl) no-argument

  argument-goes : Goes Wide (eargument inner)
  argument-goes = goes-first Wide (eargument inner) (fine.arguments-fine inner (inner-is-fine inner goes)) (λ a h z s. no-argument z s ∙ ap (λ (b : Option (List Exp)). Ok (b, z)) (none-given a h)) (λ y. by-argument y (front_of (y ∷ [])) refl)

  -- a name and its argument
  behind-name : ℕ → Place → Parser Exp
  behind-name n p us = qualified (n, p) us (after mark.Dot us) >>= λ l. eargument inner l.1 >>= λ a. Ok (applied_exp l.0 a.0, a.1)

  module _ (n : ℕ) (p : Place) where
    abbrev dotted : Parser Long
    dotted us = qualified (n, p) us (after mark.Dot us)

    abbrev applied : Long → Parser Exp
    applied l us = eargument inner us >>= λ a. Ok (applied_exp l a.0, a.1)

    applied-quiet : (l : Long) → Quiet Wide (applied l)
    applied-quiet l = record { gives = applied_exp l None; reads = λ z s. (rw (no-argument z s) refl) }

    name-goes : Goes Wide (behind-name n p)
    unfolding behind-name
    name-goes = goes-then Wide Wide dotted applied (goes-qualified (n, p)) (λ l. goes-map Wide (eargument inner) (λ a. applied_exp l a) argument-goes) (λ l. quiet-next Wide (applied l) (applied-quiet l)) (λ a b rest e z s. s)

    name-quiet : Quiet Wide (behind-name n p)
    unfolding behind-name
    name-quiet = quiet-then Wide dotted applied (quiet-qualified (n, p)) applied-quiet

    app-named : (us : List Spot) → eapp inner (named n p ∷ us) ≡ behind-name n p us
    unfolding behind-name
    app-named us = rw (long-behind n p us) refl

  same-atom : (z : List Spot) → Wide z → eapp inner z ≡ eatom z
  same-atom z w = wide-all (λ us. eapp inner us ≡ eatom us) refl (λ p us. refl) (λ p us. refl) (λ n p us. refl) (λ p us. refl) (λ p us. refl) (λ p us. refl) z w

  as-atom : (y : Spot) → ((us : List Spot) → eapp inner (y ∷ us) ≡ eatom (y ∷ us)) → Branch Wide (eapp inner) y
  as-atom y e = like eatom eatom-goes e (λ us a h z s. same-atom z s ∙ eatom-goes.ends [] (y ∷ us) a h z s)

  by-eapp : (y : Spot) (f : Front) → front_of (y ∷ []) ≡ f → Branch Wide (eapp inner) y
  by-eapp y front.Named e =
      let i = is-name y e in
      subst (λ (s : Spot). Branch Wide (eapp inner) s) (sym i.1) (behind (behind-name i.0 y.place) (name-goes i.0 y.place) (quiet-anywhere Anything Wide (behind-name i.0 y.place) (λ z s. tt) (name-quiet i.0 y.place)) (app-named i.0 y.place))
  by-eapp y f e = as-atom y (λ us. rw e refl)

  pub eapp-goes : Goes Wide (eapp inner)
  eapp-goes = goes-first Wide (eapp inner) (fine.eapp-fine inner (inner-is-fine inner goes)) (λ a h z s. absurd (cc h)) (λ y. by-eapp y (front_of (y ∷ [])) refl)

  pub eapp-by-name : ByName Wide (eapp inner)
  eapp-by-name = let q = name-quiet 0 at in record { gives = q.gives; reads = λ z s. (app-named 0 at z ∙ q.reads z s) }

  chained-goes : Goes Wide (chained_exp inner)
  chained-goes = goes-map Wide (separated (after mark.TwoColons) (eapp inner)) (λ xs. chain_exp xs)
      (goes-separated Wide (after mark.TwoColons) (eapp inner) (sign-decides mark.TwoColons) eapp-goes (named-next Wide (eapp inner) eapp-by-name) wide-chain (λ y us e. never-sign mark.TwoColons (eapp inner) y us e))

  chained-by-name : ByName Wide (chained_exp inner)
  chained-by-name = record { gives = chain_exp (eapp-by-name.gives ∷ []); reads = λ z s. (rw (eapp-by-name.reads z s, none-repeats (after mark.TwoColons) (eapp inner) z (wide-chain z s)) refl) }

mutual
  pub exp-goes : (n : ℕ) → Goes Wide (exp_at n)
  exp-goes zero = goes-is Wide (exp_at zero) (chained_exp None) (exp_level zero) (chained-goes None tt)
  exp-goes (suc n) = goes-is Wide (exp_at (suc n)) (chained_exp (Some (exp_at n))) (exp_level (suc n)) (chained-goes (Some (exp_at n)) (record { goes = exp-goes n; next = named-next Wide (exp_at n) (exp-by-name n) }))

  pub exp-by-name : (n : ℕ) → ByName Wide (exp_at n)
  exp-by-name zero = let q = chained-by-name None tt in record { gives = q.gives; reads = λ z s. (exp_level zero (named 0 at ∷ z) ∙ q.reads z s) }
  exp-by-name (suc n) = let q = chained-by-name (Some (exp_at n)) (record { goes = exp-goes n; next = named-next Wide (exp_at n) (exp-by-name n) }) in record { gives = q.gives; reads = λ z s. (exp_level (suc n) (named 0 at ∷ z) ∙ q.reads z s) }

pub inner-goes : (n : ℕ) → InnerGoes (inner_exp n)
inner-goes zero = tt
inner-goes (suc n) = record { goes = exp-goes n; next = named-next Wide (exp_at n) (exp-by-name n) }

-- arguments that may be left out
module _ (n : ℕ) where
  abbrev given : Parser (List Exp)
  given us = eargument (inner_exp n) us >>= λ a. Ok (listed a.0, a.1)

  given-goes : Goes Wide given
  given-goes = goes-map Wide (eargument (inner_exp n)) (λ a. listed a) (argument-goes (inner_exp n) (inner-goes n))

  no-args : (z : List Spot) → Wide z → eargs_at n z ≡ Ok ([], z)
  no-args z w = wide-all (λ us. eargs_at n us ≡ Ok ([], us)) refl (λ p us. refl) (λ p us. refl) (λ k p us. refl) (λ p us. refl) (λ p us. refl) (λ p us. refl) z w

  none-given-is : (z : List Spot) → Wide z → given z ≡ Ok ([], z)
  none-given-is z w = rw (no-argument (inner_exp n) (inner-goes n) z w) refl

  as-given : (y : Spot) → ((us : List Spot) → eargs_at n (y ∷ us) ≡ given (y ∷ us)) → Branch Wide (eargs_at n) y
  as-given y e = like given given-goes e (λ us a h z s. no-args z s ∙ sym (none-given-is z s) ∙ given-goes.ends [] (y ∷ us) a h z s)

  by-args : (y : Spot) (f : Front) → front_of (y ∷ []) ≡ f → Branch Wide (eargs_at n) y
  by-args y front.Round e = in-args (eargs_at n) y (inner_exp n) (inner-goes n) (λ us. rw e refl)
  by-args y f e = as-given y (λ us. rw e refl)

  pub eargs-goes : Goes Wide (eargs_at n)
  eargs-goes = goes-first Wide (eargs_at n) (fine.eargs-at-fine n) (λ a h z s. no-args z s ∙ ap (λ (b : List Exp). Ok (b, z)) (ap (λ (w : List Exp × List Spot). w.0) (ok-is ([], []) (a, []) h))) (λ y. by-args y (front_of (y ∷ [])) refl)

  pub quiet-eargs : Quiet Wide (eargs_at n)
  quiet-eargs = record { gives = []; reads = no-args }

-- results
module _ (n : ℕ) where
  chain-goes : Goes Wide (eapps_at n)
  chain-goes = goes-repeated Wide (after mark.TwoColons) (eapp_at n) (sign-decides mark.TwoColons) (eapp-goes (inner_exp n) (inner-goes n)) (named-next Wide (eapp_at n) (eapp-by-name (inner_exp n) (inner-goes n))) wide-chain (λ y us e. never-sign mark.TwoColons (eapp_at n) y us e)

  abbrev chained-on : List Exp → Parser (List Exp)
  chained-on xs us = eapps_at n us >>= λ ys. Ok (results_exp xs ys.0, ys.1)

  on-goes : (xs : List Exp) → Goes Wide (chained-on xs)
  on-goes xs = goes-map Wide (eapps_at n) (λ ys. results_exp xs ys) chain-goes

  on-quiet : (xs : List Exp) → Quiet Wide (chained-on xs)
  on-quiet xs = record { gives = results_exp xs []; reads = λ z s. (rw (none-repeats (after mark.TwoColons) (eapp_at n) z (wide-chain z s)) refl) }

  module _ (p : Parser Exp) (h : Encloses p) where
    seq-by : List Spot → Option (List Spot) → Result (List Exp × List Spot) Fault
    seq-by us None = enclosed mark.CloseRound p us >>= λ xs. eapps_at n xs.1 >>= λ ys. Ok (results_exp xs.0 ys.0, ys.1)
    seq-by us (Some vs) = Ok ([], vs)

    seq-is : (us : List Spot) (o : Option (List Spot)) → after mark.CloseRound us ≡ o → eseq_inside n p us ≡ seq-by us (after mark.CloseRound us)
    unfolding seq-by
    seq-is us None e = rw (e, eseq_inside) refl
    seq-is us (Some vs) e = rw (e, eseq_inside) refl

    enclosed-goes : Goes Anything (enclosed mark.CloseRound p)
    enclosed-goes = goes-enclosed p h.goes h.next Anything mark.CloseRound ready-round

    some-goes : Goes Wide (λ us. enclosed mark.CloseRound p us >>= λ xs. chained-on xs.0 xs.1)
    some-goes = goes-then Anything Wide (enclosed mark.CloseRound p) chained-on enclosed-goes on-goes (λ xs. quiet-anywhere Anything Wide (chained-on xs) (λ z s. tt) (on-quiet xs)) (λ a b rest e z s. tt)

    not-empty : (rest : List Spot) (a : List Exp) → (enclosed mark.CloseRound p rest >>= λ xs. chained-on xs.0 xs.1) ≡ Ok (a, rest) → ⊥
    not-empty rest a e =
        let i = bind-ok (enclosed mark.CloseRound p rest) (λ xs. chained-on xs.0 xs.1) (a, rest) e in
        let l = closes p h.goes h.next Anything mark.CloseRound ready-round rest i.0.1 i.0.0 i.1 in
        let m = fine-within-ok (length i.0.1) (chained-on i.0.0 i.0.1) a rest ((on-goes i.0.0).fine.within i.0.1) i.2 in
        omega arith

    inside-goes : Goes Wide (eseq_inside n p)
    unfolding seq-by
    inside-goes = goes-is Wide (eseq_inside n p) (λ us. seq-by us (after mark.CloseRound us)) (λ us. seq-is us (after mark.CloseRound us) refl)
        (goes-by Wide (after mark.CloseRound) seq-by (λ us. Ok ([], us)) (sign-decides mark.CloseRound) (λ us vs. refl) some-goes (goes-give Wide []) (next-give Anything Wide [] (λ z s. tt)) (λ rest a e z s. absurd (not-empty rest a e))
        (λ y us e. never-sign {A = List Exp} mark.CloseRound (λ vs. Ok ([], vs)) y us e))

    inside-next : Next Anything Wide (eseq_inside n p)
    inside-next = record { more = sign mark.CloseRound at ∷ []; gives = []; allowed = λ z s. tt; reads = λ z s. refl }

abbrev one-exp : ℕ → Parser (List Exp)
one-exp n us = exp_at n us >>= λ t. Ok (t.0 ∷ [], t.1)

same-one : (n : ℕ) (z : List Spot) → Wide z → eseq_at n z ≡ one-exp n z
same-one n z w = wide-all (λ us. eseq_at n us ≡ one-exp n us) refl (λ p us. refl) (λ p us. refl) (λ k p us. refl) (λ p us. refl) (λ p us. refl) (λ p us. refl) z w

one-goes : (n : ℕ) → Goes Wide (one-exp n)
one-goes n = goes-map Wide (exp_at n) (λ t. t ∷ []) (exp-goes n)

as-one : (n : ℕ) (y : Spot) → ((us : List Spot) → eseq_at n (y ∷ us) ≡ one-exp n (y ∷ us)) → Branch Wide (eseq_at n) y
as-one n y e = like (one-exp n) (one-goes n) e (λ us a h z s. same-one n z s ∙ (one-goes n).ends [] (y ∷ us) a h z s)

by-eseq : (n : ℕ) (y : Spot) (f : Front) → front_of (y ∷ []) ≡ f → Branch Wide (eseq_at n) y
by-eseq zero y front.Round e = refuses Wide (eseq_at zero) y kind.TooDeep (λ us. rw e refl)
by-eseq (suc n) y front.Round e =
    let h : Encloses (exp_at n) = record { goes = exp-goes n; next = named-next Wide (exp_at n) (exp-by-name n) } in
    behind (eseq_inside (suc n) (exp_at n)) (inside-goes (suc n) (exp_at n) h) (inside-next (suc n) (exp_at n) h) (λ us. rw e refl)
by-eseq n y f e = as-one n y (λ us. rw e refl)

pub eseq-goes : (n : ℕ) → Goes Wide (eseq_at n)
eseq-goes n = goes-first Wide (eseq_at n) (fine.eseq-at-fine n) (λ a h z s. same-one n z s ∙ (one-goes n).ends [] [] a h z s) (λ y. by-eseq n y (front_of (y ∷ [])) refl)

pub eseq-by-name : (n : ℕ) → ByName Wide (eseq_at n)
eseq-by-name n = let q = named-map Wide (exp_at n) (λ t. t ∷ []) (exp-by-name n) in record { gives = q.gives; reads = λ z s. q.reads z s }
