-- Patterns can be finished.
use Rattle.std.proofs.Common.{◌≡◌, ℕ, zero, suc, List, [], ◌∷◌, length, refl, sym, ap, subst, ◌∙◌, arith, Option, Some, None, Result, Ok}
use Rattle.rml_base.specs.declared.place.Place.{Place}
use Rattle.rml_syntax.specs.declared.token.Spot.{Spot}
use Rattle.rml_syntax.specs.declared.token.Token.{Token}
use Rattle.rml_syntax.specs.declared.token.Token.TheVariants as token
use Rattle.rml_syntax.specs.declared.token.Key.TheVariants as key
use Rattle.rml_syntax.specs.declared.token.Mark.TheVariants as mark
use Rattle.rml_syntax.specs.declared.rules.Long.{Long}
use Rattle.rml_syntax.specs.declared.rules.Pattern.{Pattern}
use Rattle.rml_syntax.specs.declared.rules.Pattern.TheVariants as pat
use Rattle.rml_grammar.specs.declared.fault.Fault.{Fault}
use Rattle.rml_grammar.specs.declared.fault.ParseKind.TheVariants as kind
use Rattle.rml_grammar.specs.declared.front.Front.{Front}
use Rattle.rml_grammar.specs.declared.front.Front.TheVariants as front
use Rattle.rml_grammar.specs.Tokens.{named, sign, after, after_word, front_of}
use Rattle.rml_grammar.specs.Reading.{◌>>=◌, Parser, enclosed, enclosed_or_none, inside, qualified, separated}
use Rattle.rml_grammar.specs.Trees.{applied_pat, chain_pat, listed, results_pat, tuple_pat}
use Rattle.rml_grammar.specs.Patterns.{Inner, bound_pat, inner_pat, papp, papp_at, papps_at, pargs_at, pargument, pat_at, patom_by, pcons, pseq_at, pseq_inside}
use Rattle.rml_grammar.proofs.Levels.{pat_level}
use Rattle.rml_grammar.proofs.Fine.{fine-front, sign-decides, word-decides}
use Rattle.rml_grammar.proofs.FinePatterns as fine
use Rattle.rml_grammar.proofs.Goes.{Anything, Wide, narrow, closed, closed_square, Goes, Next, Branch, behind, like, at, wide-all, ok-is, bind-ok, fine-within-ok, goes-give, goes-map, goes-then, goes-behind, goes-first, goes-by, goes-is, goes-repeated, goes-separated, goes-enclosed, goes-or-none, next-enclosed, next-or-none, closes, none-repeats, lacks-quiet, never-sign, never-word, next-give, next-map, passes, refuses}
use Rattle.rml_grammar.proofs.GoesNames.{Quiet, ByName, quiet-next, quiet-anywhere, named-next, quiet-then, quiet-map, named-map, is-name, goes-qualified, quiet-qualified, long-behind}

wide-chain : (z : List Spot) → Wide z → after mark.TwoColons z ≡ None
wide-chain z w = wide-all (λ us. after mark.TwoColons us ≡ None) refl (λ p us. refl) (λ p us. refl) (λ n p us. refl) (λ p us. refl) (λ p us. refl) (λ p us. refl) z w

-- what stands in brackets
pub record Encloses (p : Parser Pattern) : Type 0 where
  pub goes : Goes Wide p
  pub next : Next Anything Wide p

abbrev pub InnerGoes : Inner → Type 0
InnerGoes None = Unit {0}
InnerGoes (Some p) = Encloses p

inner-is-fine : (inner : Inner) → InnerGoes inner → fine.InnerFine inner
inner-is-fine None h = tt
inner-is-fine (Some p) h = h.goes.fine

ready-round : (z : List Spot) → Wide (sign mark.CloseRound at ∷ z)
ready-round z = narrow closed

ready-square : (z : List Spot) → Wide (sign mark.CloseSquare at ∷ z)
ready-square z = narrow closed_square

-- behind a bracket that opens: P reads it, and f makes a tree of the items
module _ {B : Type 0} (P : Parser B) (f : List Pattern → B) (y : Spot) where
  in-round : (inner : Inner) → InnerGoes inner → ((us : List Spot) → P (y ∷ us) ≡ (inside inner (enclosed mark.CloseRound) (y ∷ us) us >>= λ xs. Ok (f xs.0, xs.1))) → Branch Wide P y
  in-round None h e = refuses Wide P y kind.TooDeep e
  in-round (Some p) h e = behind (λ us. enclosed mark.CloseRound p us >>= λ xs. Ok (f xs.0, xs.1)) (goes-map Wide (enclosed mark.CloseRound p) f (goes-enclosed p h.goes h.next Wide mark.CloseRound ready-round))
      (next-map Anything Wide (enclosed mark.CloseRound p) f (next-enclosed p h.goes h.next Wide mark.CloseRound ready-round)) e

  in-list : (inner : Inner) → InnerGoes inner → ((us : List Spot) → P (y ∷ us) ≡ (inside inner (enclosed_or_none mark.CloseSquare) (y ∷ us) us >>= λ xs. Ok (f xs.0, xs.1))) → Branch Wide P y
  in-list None h e = refuses Wide P y kind.TooDeep e
  in-list (Some p) h e = behind (λ us. enclosed_or_none mark.CloseSquare p us >>= λ xs. Ok (f xs.0, xs.1)) (goes-map Wide (enclosed_or_none mark.CloseSquare p) f (goes-or-none p h.goes h.next Wide mark.CloseSquare ready-square))
      (next-map Anything Wide (enclosed_or_none mark.CloseSquare p) f (next-or-none p h.goes h.next Wide mark.CloseSquare ready-square)) e

in-args : (P : Parser (List Pattern)) (y : Spot) (inner : Inner) → InnerGoes inner → ((us : List Spot) → P (y ∷ us) ≡ inside inner (enclosed_or_none mark.CloseRound) (y ∷ us) us) → Branch Wide P y
in-args P y None h e = refuses Wide P y kind.TooDeep e
in-args P y (Some p) h e = behind (enclosed_or_none mark.CloseRound p) (goes-or-none p h.goes h.next Wide mark.CloseRound ready-round) (next-or-none p h.goes h.next Wide mark.CloseRound ready-round) e

none-given : {A : Type 0} (a : Option A) → ◌≡◌ {A = Result (Option A × List Spot) Fault} (Ok (None, [])) (Ok (a, [])) → None ≡ a
none-given {A} a e = ap (λ (w : Option A × List Spot). w.0) (ok-is (None, []) (a, []) e)

module _ (inner : Inner) (goes : InnerGoes inner) where
  abbrev patom : Parser Pattern
  patom us = patom_by inner us (front_of us)

  by-patom : (y : Spot) (f : Front) → front_of (y ∷ []) ≡ f → Branch Wide patom y
  by-patom y (front.Literal l) e = behind (λ us. Ok (pat.Lit l, us)) (goes-give Wide (pat.Lit l)) (next-give Anything Wide (pat.Lit l) (λ z s. tt)) (λ us. rw e refl)
  by-patom y front.Wild e = behind (λ us. Ok (pat.Any, us)) (goes-give Wide pat.Any) (next-give Anything Wide pat.Any (λ z s. tt)) (λ us. rw e refl)
  by-patom y front.Square e = in-list patom (λ xs. pat.List xs) y inner goes (λ us. rw e refl)
  by-patom y front.Round e = in-round patom (λ xs. tuple_pat xs) y inner goes (λ us. rw e refl)
  by-patom y f e = refuses Wide patom y kind.Unexpected (λ us. rw e refl)

  patom-goes : Goes Wide patom
  patom-goes = goes-first Wide patom (fine-front (patom_by inner) (fine.patom-fine inner (inner-is-fine inner goes))) (λ a h z s. absurd (cc h)) (λ y. by-patom y (front_of (y ∷ [])) refl)

  no-argument : (z : List Spot) → Wide z → pargument inner z ≡ Ok (None, z)
  no-argument z w = wide-all (λ us. pargument inner us ≡ Ok (None, us)) refl (λ p us. refl) (λ p us. refl) (λ n p us. refl) (λ p us. refl) (λ p us. refl) (λ p us. refl) z w

  argument-named : (n : ℕ) (p : Place) (us : List Spot) → pargument inner (named n p ∷ us) ≡ (qualified (n, p) us (after mark.Dot us) >>= λ l. Ok (Some (pat.Name l.0 ∷ []), l.1))
  argument-named n p us = rw (long-behind n p us) refl

  by-argument : (y : Spot) (f : Front) → front_of (y ∷ []) ≡ f → Branch Wide (pargument inner) y
  by-argument y (front.Literal l) e = behind (λ us. Ok (Some (pat.Lit l ∷ []), us)) (goes-give Wide (Some (pat.Lit l ∷ []))) (next-give Anything Wide (Some (pat.Lit l ∷ [])) (λ z s. tt)) (λ us. rw e refl)
  by-argument y front.Wild e = behind (λ us. Ok (Some (pat.Any ∷ []), us)) (goes-give Wide (Some (pat.Any ∷ []))) (next-give Anything Wide (Some (pat.Any ∷ [])) (λ z s. tt)) (λ us. rw e refl)
  by-argument y front.Named e =
      let i = is-name y e in
      let q = λ (us : List Spot). qualified (i.0, y.place) us (after mark.Dot us) in
      let f = λ (l : Long). Some (pat.Name l ∷ []) in
      subst (λ (s : Spot). Branch Wide (pargument inner) s) (sym i.1) (behind (λ us. q us >>= λ l. Ok (f l.0, l.1)) (goes-map Wide q f (goes-qualified (i.0, y.place)))
      (quiet-anywhere Anything Wide (λ us. q us >>= λ l. Ok (f l.0, l.1)) (λ z s. tt) (quiet-map Wide q f (quiet-qualified (i.0, y.place)))) (argument-named i.0 y.place))
  by-argument y front.Square e = in-list (pargument inner) (λ xs. Some (pat.List xs ∷ [])) y inner goes (λ us. rw e refl)
  by-argument y front.Round e = in-round (pargument inner) (λ xs. Some xs) y inner goes (λ us. rw e refl)
  by-argument y f e = passes Wide (pargument inner) y None (λ us. rw e refl) no-argument

  argument-goes : Goes Wide (pargument inner)
  argument-goes = goes-first Wide (pargument inner) (fine.arguments-fine inner (inner-is-fine inner goes)) (λ a h z s. no-argument z s ∙ ap (λ (b : Option (List Pattern)). Ok (b, z)) (none-given a h)) (λ y. by-argument y (front_of (y ∷ [])) refl)

  -- a name and its argument
  behind-name : ℕ → Place → Parser Pattern
  behind-name n p us = qualified (n, p) us (after mark.Dot us) >>= λ l. pargument inner l.1 >>= λ a. Ok (applied_pat l.0 a.0, a.1)

  module _ (n : ℕ) (p : Place) where
    abbrev dotted : Parser Long
    dotted us = qualified (n, p) us (after mark.Dot us)

    abbrev applied : Long → Parser Pattern
    applied l us = pargument inner us >>= λ a. Ok (applied_pat l a.0, a.1)

    applied-quiet : (l : Long) → Quiet Wide (applied l)
    applied-quiet l = record { gives = applied_pat l None; reads = λ z s. (rw (no-argument z s) refl) }

    name-goes : Goes Wide (behind-name n p)
    unfolding behind-name
    name-goes = goes-then Wide Wide dotted applied (goes-qualified (n, p)) (λ l. goes-map Wide (pargument inner) (λ a. applied_pat l a) argument-goes) (λ l. quiet-next Wide (applied l) (applied-quiet l)) (λ a b rest e z s. s)

    name-quiet : Quiet Wide (behind-name n p)
    unfolding behind-name
    name-quiet = quiet-then Wide dotted applied (quiet-qualified (n, p)) applied-quiet

    app-named : (us : List Spot) → papp inner (named n p ∷ us) ≡ behind-name n p us
    unfolding behind-name
    app-named us = rw (long-behind n p us) refl

  same-atom : (z : List Spot) → Wide z → papp inner z ≡ patom z
  same-atom z w = wide-all (λ us. papp inner us ≡ patom us) refl (λ p us. refl) (λ p us. refl) (λ n p us. refl) (λ p us. refl) (λ p us. refl) (λ p us. refl) z w

  as-atom : (y : Spot) → ((us : List Spot) → papp inner (y ∷ us) ≡ patom (y ∷ us)) → Branch Wide (papp inner) y
  as-atom y e = like patom patom-goes e (λ us a h z s. same-atom z s ∙ patom-goes.ends [] (y ∷ us) a h z s)

  by-papp : (y : Spot) (f : Front) → front_of (y ∷ []) ≡ f → Branch Wide (papp inner) y
  by-papp y front.Named e =
      let i = is-name y e in
      subst (λ (s : Spot). Branch Wide (papp inner) s) (sym i.1) (behind (behind-name i.0 y.place) (name-goes i.0 y.place) (quiet-anywhere Anything Wide (behind-name i.0 y.place) (λ z s. tt) (name-quiet i.0 y.place)) (app-named i.0 y.place))
  by-papp y f e = as-atom y (λ us. rw e refl)

  pub papp-goes : Goes Wide (papp inner)
  papp-goes = goes-first Wide (papp inner) (fine.papp-fine inner (inner-is-fine inner goes)) (λ a h z s. absurd (cc h)) (λ y. by-papp y (front_of (y ∷ [])) refl)

  pub papp-by-name : ByName Wide (papp inner)
  papp-by-name = let q = name-quiet 0 at in record { gives = q.gives; reads = λ z s. (app-named 0 at z ∙ q.reads z s) }

  cons-goes : Goes Wide (pcons inner)
  cons-goes = goes-map Wide (separated (after mark.TwoColons) (papp inner)) (λ xs. chain_pat xs)
      (goes-separated Wide (after mark.TwoColons) (papp inner) (sign-decides mark.TwoColons) papp-goes (named-next Wide (papp inner) papp-by-name) wide-chain (λ y us e. never-sign mark.TwoColons (papp inner) y us e))

  -- a name alone
  cons-quiet : (n : ℕ) (p : Place) → Quiet Wide (λ us. pcons inner (named n p ∷ us))
  cons-quiet n p = let q = name-quiet n p in record { gives = chain_pat (q.gives ∷ []); reads = λ z s. (rw (app-named n p z, q.reads z s, none-repeats (after mark.TwoColons) (papp inner) z (wide-chain z s)) refl) }

  cons-by-name : ByName Wide (pcons inner)
  cons-by-name = let q = cons-quiet 0 at in record { gives = q.gives; reads = q.reads }

  -- behind a name: an `as`, or what a pattern goes on with there
  module _ (n : ℕ) (p : Place) where
    after-name : Goes Wide (λ us. pcons inner (named n p ∷ us))
    after-name = goes-behind Wide (pcons inner) (named n p) cons-goes (fine.pcons-after inner (inner-is-fine inner goes) n p)

    name-by : List Spot → Option (List Spot) → Result (Pattern × List Spot) Fault
    name-by us None = pcons inner (named n p ∷ us)
    name-by us (Some vs) = pcons inner vs >>= λ t. Ok (pat.Bind n p t.0, t.1)

    name-is : (us : List Spot) (o : Option (List Spot)) → after_word key.KAs us ≡ o → bound_pat inner (named n p ∷ us) ≡ name-by us (after_word key.KAs us)
    unfolding name-by
    name-is us None e = rw (e, bound_pat) refl
    name-is us (Some vs) e = rw (e, bound_pat) refl

    wide-as : (z : List Spot) → Wide z → after_word key.KAs z ≡ None
    wide-as z w = wide-all (λ us. after_word key.KAs us ≡ None) refl (λ q us. refl) (λ q us. refl) (λ k q us. refl) (λ q us. refl) (λ q us. refl) (λ q us. refl) z w

    named-goes : Goes Wide (λ us. bound_pat inner (named n p ∷ us))
    unfolding name-by
    named-goes = goes-is Wide (λ us. bound_pat inner (named n p ∷ us)) (λ us. name-by us (after_word key.KAs us)) (λ us. name-is us (after_word key.KAs us) refl)
        (goes-by Wide (after_word key.KAs) name-by (λ us. pcons inner us >>= λ t. Ok (pat.Bind n p t.0, t.1)) (word-decides key.KAs) (λ us vs. refl) after-name (goes-map Wide (pcons inner) (λ t. pat.Bind n p t) cons-goes)
        (next-map Anything Wide (pcons inner) (λ t. pat.Bind n p t) (named-next Wide (pcons inner) cons-by-name)) (lacks-quiet Wide (after_word key.KAs) name-by after-name wide-as)
        (λ y us e. never-word {A = Pattern} key.KAs (λ vs. pcons inner vs >>= λ t. Ok (pat.Bind n p t.0, t.1)) y us e))

    named-quiet : Quiet Wide (λ us. bound_pat inner (named n p ∷ us))
    unfolding name-by
    named-quiet = let q = cons-quiet n p in record { gives = q.gives; reads = λ z s. (name-is z (after_word key.KAs z) refl ∙ (rw (wide-as z s) (q.reads z s))) }

  same-cons : (z : List Spot) → Wide z → bound_pat inner z ≡ pcons inner z
  same-cons z w = wide-all (λ us. bound_pat inner us ≡ pcons inner us) refl (λ p us. refl) (λ p us. refl) (λ n p us. refl) (λ p us. refl) (λ p us. refl) (λ p us. refl) z w

  as-cons : (y : Spot) → ((us : List Spot) → bound_pat inner (y ∷ us) ≡ pcons inner (y ∷ us)) → Branch Wide (bound_pat inner) y
  as-cons y e = like (pcons inner) cons-goes e (λ us a h z s. same-cons z s ∙ cons-goes.ends [] (y ∷ us) a h z s)

  bound-first : (t : Token) (p : Place) → Branch Wide (bound_pat inner) (record { token = t; place = p })
  bound-first (token.Name n) p = behind (λ us. bound_pat inner (named n p ∷ us)) (named-goes n p) (quiet-anywhere Anything Wide (λ us. bound_pat inner (named n p ∷ us)) (λ z s. tt) (named-quiet n p)) (λ us. refl)
  bound-first (token.Word k) p = as-cons (record { token = token.Word k; place = p }) (λ us. refl)
  bound-first (token.TyVar n) p = as-cons (record { token = token.TyVar n; place = p }) (λ us. refl)
  bound-first (token.Lit l) p = as-cons (record { token = token.Lit l; place = p }) (λ us. refl)
  bound-first (token.Sign m) p = as-cons (record { token = token.Sign m; place = p }) (λ us. refl)
  bound-first (token.Dashes n) p = as-cons (record { token = token.Dashes n; place = p }) (λ us. refl)

  chained-goes : Goes Wide (bound_pat inner)
  chained-goes = goes-first Wide (bound_pat inner) (fine.bound-fine inner (inner-is-fine inner goes)) (λ a h z s. absurd (cc h)) (λ y. bound-first y.token y.place)

  chained-by-name : ByName Wide (bound_pat inner)
  chained-by-name = let q = named-quiet 0 at in record { gives = q.gives; reads = q.reads }

mutual
  pub pat-goes : (n : ℕ) → Goes Wide (pat_at n)
  pat-goes zero = goes-is Wide (pat_at zero) (bound_pat None) (pat_level zero) (chained-goes None tt)
  pat-goes (suc n) = goes-is Wide (pat_at (suc n)) (bound_pat (Some (pat_at n))) (pat_level (suc n)) (chained-goes (Some (pat_at n)) (record { goes = pat-goes n; next = named-next Wide (pat_at n) (pat-by-name n) }))

  pub pat-by-name : (n : ℕ) → ByName Wide (pat_at n)
  pat-by-name zero = let q = chained-by-name None tt in record { gives = q.gives; reads = λ z s. (pat_level zero (named 0 at ∷ z) ∙ q.reads z s) }
  pat-by-name (suc n) = let q = chained-by-name (Some (pat_at n)) (record { goes = pat-goes n; next = named-next Wide (pat_at n) (pat-by-name n) }) in record { gives = q.gives; reads = λ z s. (pat_level (suc n) (named 0 at ∷ z) ∙ q.reads z s) }

pub inner-goes : (n : ℕ) → InnerGoes (inner_pat n)
inner-goes zero = tt
inner-goes (suc n) = record { goes = pat-goes n; next = named-next Wide (pat_at n) (pat-by-name n) }

-- arguments that may be left out
module _ (n : ℕ) where
  abbrev given : Parser (List Pattern)
  given us = pargument (inner_pat n) us >>= λ a. Ok (listed a.0, a.1)

  given-goes : Goes Wide given
  given-goes = goes-map Wide (pargument (inner_pat n)) (λ a. listed a) (argument-goes (inner_pat n) (inner-goes n))

  no-args : (z : List Spot) → Wide z → pargs_at n z ≡ Ok ([], z)
  no-args z w = wide-all (λ us. pargs_at n us ≡ Ok ([], us)) refl (λ p us. refl) (λ p us. refl) (λ k p us. refl) (λ p us. refl) (λ p us. refl) (λ p us. refl) z w

  none-given-is : (z : List Spot) → Wide z → given z ≡ Ok ([], z)
  none-given-is z w = rw (no-argument (inner_pat n) (inner-goes n) z w) refl

  as-given : (y : Spot) → ((us : List Spot) → pargs_at n (y ∷ us) ≡ given (y ∷ us)) → Branch Wide (pargs_at n) y
  as-given y e = like given given-goes e (λ us a h z s. no-args z s ∙ sym (none-given-is z s) ∙ given-goes.ends [] (y ∷ us) a h z s)

  by-args : (y : Spot) (f : Front) → front_of (y ∷ []) ≡ f → Branch Wide (pargs_at n) y
  by-args y front.Round e = in-args (pargs_at n) y (inner_pat n) (inner-goes n) (λ us. rw e refl)
  by-args y f e = as-given y (λ us. rw e refl)

  pub pargs-goes : Goes Wide (pargs_at n)
  pargs-goes = goes-first Wide (pargs_at n) (fine.pargs-at-fine n) (λ a h z s. no-args z s ∙ ap (λ (b : List Pattern). Ok (b, z)) (ap (λ (w : List Pattern × List Spot). w.0) (ok-is ([], []) (a, []) h))) (λ y. by-args y (front_of (y ∷ [])) refl)

  pub quiet-pargs : Quiet Wide (pargs_at n)
  quiet-pargs = record { gives = []; reads = no-args }

-- results
module _ (n : ℕ) where
  chain-goes : Goes Wide (papps_at n)
  chain-goes = goes-repeated Wide (after mark.TwoColons) (papp_at n) (sign-decides mark.TwoColons) (papp-goes (inner_pat n) (inner-goes n)) (named-next Wide (papp_at n) (papp-by-name (inner_pat n) (inner-goes n))) wide-chain (λ y us e. never-sign mark.TwoColons (papp_at n) y us e)

  abbrev chained-on : List Pattern → Parser (List Pattern)
  chained-on xs us = papps_at n us >>= λ ys. Ok (results_pat xs ys.0, ys.1)

  on-goes : (xs : List Pattern) → Goes Wide (chained-on xs)
  on-goes xs = goes-map Wide (papps_at n) (λ ys. results_pat xs ys) chain-goes

  on-quiet : (xs : List Pattern) → Quiet Wide (chained-on xs)
  on-quiet xs = record { gives = results_pat xs []; reads = λ z s. (rw (none-repeats (after mark.TwoColons) (papp_at n) z (wide-chain z s)) refl) }

  module _ (p : Parser Pattern) (h : Encloses p) where
    seq-by : List Spot → Option (List Spot) → Result (List Pattern × List Spot) Fault
    seq-by us None = enclosed mark.CloseRound p us >>= λ xs. papps_at n xs.1 >>= λ ys. Ok (results_pat xs.0 ys.0, ys.1)
    seq-by us (Some vs) = Ok ([], vs)

    seq-is : (us : List Spot) (o : Option (List Spot)) → after mark.CloseRound us ≡ o → pseq_inside n p us ≡ seq-by us (after mark.CloseRound us)
    unfolding seq-by
    seq-is us None e = rw (e, pseq_inside) refl
    seq-is us (Some vs) e = rw (e, pseq_inside) refl

    enclosed-goes : Goes Anything (enclosed mark.CloseRound p)
    enclosed-goes = goes-enclosed p h.goes h.next Anything mark.CloseRound ready-round

    some-goes : Goes Wide (λ us. enclosed mark.CloseRound p us >>= λ xs. chained-on xs.0 xs.1)
    some-goes = goes-then Anything Wide (enclosed mark.CloseRound p) chained-on enclosed-goes on-goes (λ xs. quiet-anywhere Anything Wide (chained-on xs) (λ z s. tt) (on-quiet xs)) (λ a b rest e z s. tt)

    not-empty : (rest : List Spot) (a : List Pattern) → (enclosed mark.CloseRound p rest >>= λ xs. chained-on xs.0 xs.1) ≡ Ok (a, rest) → ⊥
    not-empty rest a e =
        let i = bind-ok (enclosed mark.CloseRound p rest) (λ xs. chained-on xs.0 xs.1) (a, rest) e in
        let l = closes p h.goes h.next Anything mark.CloseRound ready-round rest i.0.1 i.0.0 i.1 in
        let m = fine-within-ok (length i.0.1) (chained-on i.0.0 i.0.1) a rest ((on-goes i.0.0).fine.within i.0.1) i.2 in
        omega arith

    inside-goes : Goes Wide (pseq_inside n p)
    unfolding seq-by
    inside-goes = goes-is Wide (pseq_inside n p) (λ us. seq-by us (after mark.CloseRound us)) (λ us. seq-is us (after mark.CloseRound us) refl)
        (goes-by Wide (after mark.CloseRound) seq-by (λ us. Ok ([], us)) (sign-decides mark.CloseRound) (λ us vs. refl) some-goes (goes-give Wide []) (next-give Anything Wide [] (λ z s. tt)) (λ rest a e z s. absurd (not-empty rest a e))
        (λ y us e. never-sign {A = List Pattern} mark.CloseRound (λ vs. Ok ([], vs)) y us e))

    inside-next : Next Anything Wide (pseq_inside n p)
    inside-next = record { more = sign mark.CloseRound at ∷ []; gives = []; allowed = λ z s. tt; reads = λ z s. refl }

abbrev one-pat : ℕ → Parser (List Pattern)
one-pat n us = pat_at n us >>= λ t. Ok (t.0 ∷ [], t.1)

same-one : (n : ℕ) (z : List Spot) → Wide z → pseq_at n z ≡ one-pat n z
same-one n z w = wide-all (λ us. pseq_at n us ≡ one-pat n us) refl (λ p us. refl) (λ p us. refl) (λ k p us. refl) (λ p us. refl) (λ p us. refl) (λ p us. refl) z w

one-goes : (n : ℕ) → Goes Wide (one-pat n)
one-goes n = goes-map Wide (pat_at n) (λ t. t ∷ []) (pat-goes n)

as-one : (n : ℕ) (y : Spot) → ((us : List Spot) → pseq_at n (y ∷ us) ≡ one-pat n (y ∷ us)) → Branch Wide (pseq_at n) y
as-one n y e = like (one-pat n) (one-goes n) e (λ us a h z s. same-one n z s ∙ (one-goes n).ends [] (y ∷ us) a h z s)

by-pseq : (n : ℕ) (y : Spot) (f : Front) → front_of (y ∷ []) ≡ f → Branch Wide (pseq_at n) y
by-pseq zero y front.Round e = refuses Wide (pseq_at zero) y kind.TooDeep (λ us. rw e refl)
by-pseq (suc n) y front.Round e =
    let h : Encloses (pat_at n) = record { goes = pat-goes n; next = named-next Wide (pat_at n) (pat-by-name n) } in
    behind (pseq_inside (suc n) (pat_at n)) (inside-goes (suc n) (pat_at n) h) (inside-next (suc n) (pat_at n) h) (λ us. rw e refl)
by-pseq n y f e = as-one n y (λ us. rw e refl)

pub pseq-goes : (n : ℕ) → Goes Wide (pseq_at n)
pseq-goes n = goes-first Wide (pseq_at n) (fine.pseq-at-fine n) (λ a h z s. same-one n z s ∙ (one-goes n).ends [] [] a h z s) (λ y. by-pseq n y (front_of (y ∷ [])) refl)

pub pseq-by-name : (n : ℕ) → ByName Wide (pseq_at n)
pseq-by-name n = let q = named-map Wide (pat_at n) (λ t. t ∷ []) (pat-by-name n) in record { gives = q.gives; reads = λ z s. q.reads z s }
