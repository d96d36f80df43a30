-- A pattern is refused at a token whatever follows that token.
use Rattle.std.proofs.Common.{◌≡◌, ℕ, zero, suc, ◌++◌, List, [], ◌∷◌, length, refl, arith, Option, Some, None, Result, Ok}
use Rattle.rml_syntax.specs.declared.token.Spot.{Spot}
use Rattle.rml_base.specs.declared.place.Place.{Place}
use Rattle.rml_syntax.specs.declared.token.Token.{Token}
use Rattle.rml_syntax.specs.declared.token.Token.TheVariants as token
use Rattle.rml_syntax.specs.declared.token.Key.TheVariants as key
use Rattle.rml_syntax.specs.declared.token.Mark.TheVariants as mark
use Rattle.rml_syntax.specs.declared.rules.Pattern.{Pattern}
use Rattle.rml_syntax.specs.declared.rules.Pattern.TheVariants as pat
use Rattle.rml_grammar.specs.declared.front.Front.{Front}
use Rattle.rml_grammar.specs.declared.front.Front.TheVariants as front
use Rattle.rml_grammar.specs.declared.fault.Fault.{Fault}
use Rattle.rml_grammar.specs.Tokens.{named, word, tyvar, literal, sign, dashes, after, after_word, rest_of}
use Rattle.rml_grammar.specs.Reading.{◌>>=◌, repeated, separated, enclosed, enclosed_or_none, inside, long_at, name_at, qualified}
use Rattle.rml_grammar.specs.Trees.{tuple_pat, chain_pat, applied_pat, results_pat, listed, short, within}
use Rattle.rml_grammar.specs.Patterns.{Inner, patom_by, pargument_by, pargument, papp_by, papp, pcons, bound_pat, pat_at, inner_pat, papp_at, papps_at, pargs_by, pargs_at, pseq_inside, pseq_by, pseq_at}
use Rattle.rml_grammar.proofs.Levels.{pat_level}
use Rattle.rml_grammar.proofs.Fine.{Fine, fine-give, fine-refused, fine-then, fine-map, fine-skip, fine-front, fine-by, fine-signs, fine-separated, fine-enclosed, fine-enclosed-or-none, fine-long, fine-name, sign-decides, word-decides, fine-is, Within, within-more, Keeps, late}

abbrev pub InnerFine : Inner → Type 0
InnerFine None = Unit {0}
InnerFine (Some p) = Fine p

inside-enclosed : (i : Inner) → InnerFine i → Fine (λ us. inside i (enclosed mark.CloseRound) us (rest_of us))
inside-enclosed None h = fine-refused _
inside-enclosed (Some p) h = fine-skip (enclosed mark.CloseRound p) (fine-enclosed mark.CloseRound p h)

inside-list : (i : Inner) → InnerFine i → Fine (λ us. inside i (enclosed_or_none mark.CloseSquare) us (rest_of us))
inside-list None h = fine-refused _
inside-list (Some p) h = fine-skip (enclosed_or_none mark.CloseSquare p) (fine-enclosed-or-none mark.CloseSquare p h)

inside-args : (i : Inner) → InnerFine i → Fine (λ us. inside i (enclosed_or_none mark.CloseRound) us (rest_of us))
inside-args None h = fine-refused _
inside-args (Some p) h = fine-skip (enclosed_or_none mark.CloseRound p) (fine-enclosed-or-none mark.CloseRound p h)

module _ (inner : Inner) (fine : InnerFine inner) where
  pub patom-fine : (f : Front) → Fine (λ us. patom_by inner us f)
  patom-fine (front.Literal l) = fine-skip (λ us. Ok (pat.Lit l, us)) (fine-give (pat.Lit l))
  patom-fine front.Wild = fine-skip (λ us. Ok (pat.Any, us)) (fine-give pat.Any)
  patom-fine front.Square = fine-map (λ us. inside inner (enclosed_or_none mark.CloseSquare) us (rest_of us)) (λ xs. pat.List xs) (inside-list inner fine)
  patom-fine front.Round = fine-map (λ us. inside inner (enclosed mark.CloseRound) us (rest_of us)) (λ xs. tuple_pat xs) (inside-enclosed inner fine)
  patom-fine f = fine-refused _

  argument-fine : (f : Front) → Fine (λ us. pargument_by inner us f)
  argument-fine (front.Literal l) = fine-skip (λ us. Ok (Some (pat.Lit l ∷ []), us)) (fine-give (Some (pat.Lit l ∷ [])))
  argument-fine front.Wild = fine-skip (λ us. Ok (Some (pat.Any ∷ []), us)) (fine-give (Some (pat.Any ∷ [])))
  argument-fine front.Named = fine-map long_at (λ l. Some (pat.Name l ∷ [])) fine-long
  argument-fine front.Square = fine-map (λ us. inside inner (enclosed_or_none mark.CloseSquare) us (rest_of us)) (λ xs. Some (pat.List xs ∷ [])) (inside-list inner fine)
  argument-fine front.Round = fine-map (λ us. inside inner (enclosed mark.CloseRound) us (rest_of us)) (λ xs. Some xs) (inside-enclosed inner fine)
  argument-fine f = fine-give None

  pub arguments-fine : Fine (pargument inner)
  arguments-fine = fine-front (pargument_by inner) argument-fine

  papp-by-fine : (f : Front) → Fine (λ us. papp_by inner us f)
  papp-by-fine front.Named = fine-then long_at (λ l us. pargument inner us >>= λ a. Ok (applied_pat l a.0, a.1)) fine-long (λ l. fine-map (pargument inner) (λ a. applied_pat l a) arguments-fine)
  papp-by-fine (front.Literal l) = patom-fine (front.Literal l)
  papp-by-fine front.Wild = patom-fine front.Wild
  papp-by-fine front.Square = patom-fine front.Square
  papp-by-fine front.Round = patom-fine front.Round
  papp-by-fine f = fine-refused _

  pub papp-fine : Fine (papp inner)
  papp-fine = fine-front (papp_by inner) papp-by-fine

  pub pcons-fine : Fine (pcons inner)
  pcons-fine = fine-map (separated (after mark.TwoColons) (papp inner)) (λ xs. chain_pat xs) (fine-separated mark.TwoColons (papp inner) papp-fine)

  -- behind a name
  papp-after : (n : ℕ) (p : Place) → Fine (λ us. papp inner (named n p ∷ us))
  unfolding long_at
  papp-after n p = fine-then (λ us. qualified (n, p) us (after mark.Dot us)) (λ l us. pargument inner us >>= λ a. Ok (applied_pat l a.0, a.1))
      (fine-by (after mark.Dot) (qualified (n, p)) (λ us. name_at us >>= λ m. Ok (within (n, p) m.0.0, m.1)) (sign-decides mark.Dot) (λ us vs. refl) (fine-give (short (n, p))) (fine-map name_at (λ m. within (n, p) m.0) fine-name))
      (λ l. fine-map (pargument inner) (λ a. applied_pat l a) arguments-fine)

  links-fine : Fine (repeated (after mark.TwoColons) (papp inner))
  links-fine = fine-signs mark.TwoColons (papp inner) papp-fine

  pub pcons-after : (n : ℕ) (p : Place) → Fine (λ us. pcons inner (named n p ∷ us))
  pcons-after n p = fine-map (λ us. papp inner (named n p ∷ us) >>= λ x. repeated (after mark.TwoColons) (papp inner) x.1 >>= λ xs. Ok (x.0 ∷ xs.0, xs.1)) (λ xs. chain_pat xs)
      (fine-then (λ us. papp inner (named n p ∷ us)) (λ x us. repeated (after mark.TwoColons) (papp inner) us >>= λ xs. Ok (x ∷ xs.0, xs.1)) (papp-after n p) (λ x. fine-map (repeated (after mark.TwoColons) (papp inner)) (λ xs. x ∷ xs) links-fine))

  after-binder : (n : ℕ) (p : Place) → Fine (λ us. pcons inner us >>= λ t. Ok (pat.Bind n p t.0, t.1))
  after-binder n p = fine-map (pcons inner) (λ t. pat.Bind n p t) pcons-fine

  name-by : ℕ → Place → List Spot → Option (List Spot) → Result (Pattern × List Spot) Fault
  name-by n p us None = pcons inner (named n p ∷ us)
  name-by n p us (Some vs) = pcons inner vs >>= λ t. Ok (pat.Bind n p t.0, t.1)

  name-is : (n : ℕ) (p : Place) (us : List Spot) (o : Option (List Spot)) → after_word key.KAs us ≡ o → bound_pat inner (named n p ∷ us) ≡ name-by n p us o
  unfolding name-by
  name-is n p us None e = rw (e, bound_pat) refl
  name-is n p us (Some vs) e = rw (e, bound_pat) refl

  named-fine : (n : ℕ) (p : Place) → Fine (λ us. name-by n p us (after_word key.KAs us))
  unfolding name-by
  named-fine n p = fine-by (after_word key.KAs) (name-by n p) (λ us. pcons inner us >>= λ t. Ok (pat.Bind n p t.0, t.1)) (word-decides key.KAs) (λ us vs. refl) (pcons-after n p) (after-binder n p)

  bound-after : (n : ℕ) (p : Place) → Fine (λ us. bound_pat inner (named n p ∷ us))
  bound-after n p = fine-is (λ us. bound_pat inner (named n p ∷ us)) (λ us. name-by n p us (after_word key.KAs us)) (λ us. name-is n p us (after_word key.KAs us) refl) (named-fine n p)

  bound-within : (t : Token) (p : Place) (us : List Spot) → Within (suc (length us)) (bound_pat inner (record { token = t; place = p } ∷ us))
  bound-within (token.Name n) p us = within-more (length us) (suc (length us)) (bound_pat inner (named n p ∷ us)) (omega arith) ((bound-after n p).within us)
  bound-within (token.Word k) p us = pcons-fine.within (word k p ∷ us)
  bound-within (token.TyVar n) p us = pcons-fine.within (tyvar n p ∷ us)
  bound-within (token.Lit l) p us = pcons-fine.within (literal l p ∷ us)
  bound-within (token.Sign m) p us = pcons-fine.within (sign m p ∷ us)
  bound-within (token.Dashes n) p us = pcons-fine.within (dashes n p ∷ us)

  bound-first : (t : Token) (p : Place) (tail other : List Spot) → Keeps (record { token = t; place = p }) tail other (bound_pat inner (record { token = t; place = p } ∷ tail)) (bound_pat inner (record { token = t; place = p } ∷ other))
  bound-first (token.Name n) p tail other = late (named n p) tail other (bound_pat inner (named n p ∷ tail)) (bound_pat inner (named n p ∷ other)) ((bound-after n p).within tail)
  bound-first (token.Word k) p tail other = pcons-fine.keeps (word k p) tail other []
  bound-first (token.TyVar n) p tail other = pcons-fine.keeps (tyvar n p) tail other []
  bound-first (token.Lit l) p tail other = pcons-fine.keeps (literal l p) tail other []
  bound-first (token.Sign m) p tail other = pcons-fine.keeps (sign m p) tail other []
  bound-first (token.Dashes n) p tail other = pcons-fine.keeps (dashes n p) tail other []

  bound-keeps : (t : Token) (p : Place) (x : Spot) (tail other c : List Spot) → Keeps x tail other (bound_pat inner (record { token = t; place = p } ∷ c ++ x ∷ tail)) (bound_pat inner (record { token = t; place = p } ∷ c ++ x ∷ other))
  bound-keeps (token.Name n) p x tail other c = (bound-after n p).keeps x tail other c
  bound-keeps (token.Word k) p x tail other c = pcons-fine.keeps x tail other (word k p ∷ c)
  bound-keeps (token.TyVar n) p x tail other c = pcons-fine.keeps x tail other (tyvar n p ∷ c)
  bound-keeps (token.Lit l) p x tail other c = pcons-fine.keeps x tail other (literal l p ∷ c)
  bound-keeps (token.Sign m) p x tail other c = pcons-fine.keeps x tail other (sign m p ∷ c)
  bound-keeps (token.Dashes n) p x tail other c = pcons-fine.keeps x tail other (dashes n p ∷ c)

  all-within : (us : List Spot) → Within (length us) (bound_pat inner us)
  all-within [] = pcons-fine.within []
  all-within (y ∷ us) = bound-within y.token y.place us

  all-keep : (x : Spot) (tail other c : List Spot) → Keeps x tail other (bound_pat inner (c ++ x ∷ tail)) (bound_pat inner (c ++ x ∷ other))
  all-keep x tail other [] = bound-first x.token x.place tail other
  all-keep x tail other (y ∷ c) = bound-keeps y.token y.place x tail other c

  pub bound-fine : Fine (bound_pat inner)
  bound-fine = record { within = all-within; keeps = all-keep }

  pub pargs-fine : (f : Front) → Fine (λ us. pargs_by inner us f)
  pargs-fine front.Round = inside-args inner fine
  pargs-fine (front.Literal l) = fine-map (λ us. pargument_by inner us (front.Literal l)) (λ a. listed a) (argument-fine (front.Literal l))
  pargs-fine front.Named = fine-map (λ us. pargument_by inner us front.Named) (λ a. listed a) (argument-fine front.Named)
  pargs-fine front.Wild = fine-map (λ us. pargument_by inner us front.Wild) (λ a. listed a) (argument-fine front.Wild)
  pargs-fine front.Square = fine-map (λ us. pargument_by inner us front.Square) (λ a. listed a) (argument-fine front.Square)
  pargs-fine f = fine-give []

pub pat-fine : (n : ℕ) → Fine (pat_at n)
pat-fine zero = fine-is (pat_at zero) (bound_pat None) (pat_level zero) (bound-fine None tt)
pat-fine (suc n) = fine-is (pat_at (suc n)) (bound_pat (Some (pat_at n))) (pat_level (suc n)) (bound-fine (Some (pat_at n)) (pat-fine n))

pub inner-fine : (n : ℕ) → InnerFine (inner_pat n)
inner-fine zero = tt
inner-fine (suc n) = pat-fine n

pub pargs-at-fine : (n : ℕ) → Fine (pargs_at n)
pargs-at-fine n = fine-front (pargs_by (inner_pat n)) (pargs-fine (inner_pat n) (inner-fine n))

papps-fine : (n : ℕ) → Fine (papps_at n)
papps-fine n = fine-signs mark.TwoColons (papp_at n) (papp-fine (inner_pat n) (inner-fine n))

behind-fine : (n m : ℕ) → Fine (pseq_inside n (pat_at m))
behind-fine n m = fine-by (after mark.CloseRound)
    (λ us o. elim o [ None ↦ enclosed mark.CloseRound (pat_at m) us >>= λ xs. papps_at n xs.1 >>= λ ys. Ok (results_pat xs.0 ys.0, ys.1) | Some vs ↦ Ok ([], vs) ])
    (λ us. Ok ([], us)) (sign-decides mark.CloseRound) (λ us vs. refl)
    (fine-then (enclosed mark.CloseRound (pat_at m)) (λ xs us. papps_at n us >>= λ ys. Ok (results_pat xs ys.0, ys.1)) (fine-enclosed mark.CloseRound (pat_at m) (pat-fine m)) (λ xs. fine-map (papps_at n) (λ ys. results_pat xs ys) (papps-fine n)))
    (fine-give [])

one-fine : (n : ℕ) → Fine (λ us. pat_at n us >>= λ t. Ok (t.0 ∷ [], t.1))
one-fine n = fine-map (pat_at n) (λ t. t ∷ []) (pat-fine n)

pseq-fine : (n : ℕ) (f : Front) → Fine (λ us. pseq_by n us f)
pseq-fine zero front.Round = fine-refused _
pseq-fine (suc n) front.Round = fine-skip (pseq_inside (suc n) (pat_at n)) (behind-fine (suc n) n)
pseq-fine n f = one-fine n

pub pseq-at-fine : (n : ℕ) → Fine (pseq_at n)
pseq-at-fine n = fine-front (pseq_by n) (pseq-fine n)
