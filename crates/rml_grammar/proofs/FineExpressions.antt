-- An expression is refused at a token whatever follows that token.
use Rattle.std.proofs.Common.{ℕ, zero, suc, [], ◌∷◌, refl, Some, None, Ok}
use Rattle.rml_syntax.specs.declared.token.Mark.TheVariants as mark
use Rattle.rml_syntax.specs.declared.rules.Exp.TheVariants as exp
use Rattle.rml_grammar.specs.declared.front.Front.{Front}
use Rattle.rml_grammar.specs.declared.front.Front.TheVariants as front
use Rattle.rml_grammar.specs.Tokens.{after, rest_of}
use Rattle.rml_grammar.specs.Reading.{◌>>=◌, separated, enclosed, enclosed_or_none, inside, long_at}
use Rattle.rml_grammar.specs.Trees.{tuple_exp, chain_exp, applied_exp, results_exp, listed}
use Rattle.rml_grammar.specs.Expressions.{Inner, eatom_by, eargument_by, eargument, eapp_by, eapp, chained_exp, exp_at, inner_exp, eapp_at, eapps_at, eargs_by, eargs_at, eseq_inside, eseq_by, eseq_at}
use Rattle.rml_grammar.proofs.Levels.{exp_level}
use Rattle.rml_grammar.proofs.Fine.{Fine, fine-give, fine-refused, fine-then, fine-map, fine-skip, fine-front, fine-by, fine-signs, fine-separated, fine-enclosed, fine-enclosed-or-none, fine-long, sign-decides, fine-is}

abbrev pub InnerFine : Inner → Type 0
InnerFine None = Unit {0}
InnerFine (Some p) = Fine p

inside-enclosed : (i : Inner) → InnerFine i → Fine (λ us. inside i (enclosed mark.CloseRound) us (rest_of us))
inside-enclosed None h = fine-refused _
inside-enclosed (Some p) h = fine-skip (enclosed mark.CloseRound p) (fine-enclosed mark.CloseRound p h)

inside-list : (i : Inner) → InnerFine i → Fine (λ us. inside i (enclosed_or_none mark.CloseSquare) us (rest_of us))
inside-list None h = fine-refused _
inside-list (Some p) h = fine-skip (enclosed_or_none mark.CloseSquare p) (fine-enclosed-or-none mark.CloseSquare p h)

inside-args : (i : Inner) → InnerFine i → Fine (λ us. inside i (enclosed_or_none mark.CloseRound) us (rest_of us))
inside-args None h = fine-refused _
inside-args (Some p) h = fine-skip (enclosed_or_none mark.CloseRound p) (fine-enclosed-or-none mark.CloseRound p h)

module _ (inner : Inner) (fine : InnerFine inner) where
  pub eatom-fine : (f : Front) → Fine (λ us. eatom_by inner us f)
  eatom-fine (front.Literal l) = fine-skip (λ us. Ok (exp.Lit l, us)) (fine-give (exp.Lit l))
  eatom-fine front.Square = fine-map (λ us. inside inner (enclosed_or_none mark.CloseSquare) us (rest_of us)) (λ xs. exp.List xs) (inside-list inner fine)
  eatom-fine front.Round = fine-map (λ us. inside inner (enclosed mark.CloseRound) us (rest_of us)) (λ xs. tuple_exp xs) (inside-enclosed inner fine)
  eatom-fine f = fine-refused _

  argument-fine : (f : Front) → Fine (λ us. eargument_by inner us f)
  argument-fine (front.Literal l) = fine-skip (λ us. Ok (Some (exp.Lit l ∷ []), us)) (fine-give (Some (exp.Lit l ∷ [])))
  argument-fine front.Named = fine-map long_at (λ l. Some (exp.Name l ∷ [])) fine-long
  argument-fine front.Square = fine-map (λ us. inside inner (enclosed_or_none mark.CloseSquare) us (rest_of us)) (λ xs. Some (exp.List xs ∷ [])) (inside-list inner fine)
  argument-fine front.Round = fine-map (λ us. inside inner (enclosed mark.CloseRound) us (rest_of us)) (λ xs. Some xs) (inside-enclosed inner fine)
  argument-fine f = fine-give None

  pub arguments-fine : Fine (eargument inner)
  arguments-fine = fine-front (eargument_by inner) argument-fine

  eapp-by-fine : (f : Front) → Fine (λ us. eapp_by inner us f)
  eapp-by-fine front.Named = fine-then long_at (λ l us. eargument inner us >>= λ a. Ok (applied_exp l a.0, a.1)) fine-long (λ l. fine-map (eargument inner) (λ a. applied_exp l a) arguments-fine)
  eapp-by-fine (front.Literal l) = eatom-fine (front.Literal l)
  eapp-by-fine front.Square = eatom-fine front.Square
  eapp-by-fine front.Round = eatom-fine front.Round
  eapp-by-fine f = fine-refused _

  pub eapp-fine : Fine (eapp inner)
  eapp-fine = fine-front (eapp_by inner) eapp-by-fine

  pub chained-fine : Fine (chained_exp inner)
  chained-fine = fine-map (separated (after mark.TwoColons) (eapp inner)) (λ xs. chain_exp xs) (fine-separated mark.TwoColons (eapp inner) eapp-fine)

  pub eargs-fine : (f : Front) → Fine (λ us. eargs_by inner us f)
  eargs-fine front.Round = inside-args inner fine
  eargs-fine (front.Literal l) = fine-map (λ us. eargument_by inner us (front.Literal l)) (λ a. listed a) (argument-fine (front.Literal l))
  eargs-fine front.Named = fine-map (λ us. eargument_by inner us front.Named) (λ a. listed a) (argument-fine front.Named)
  eargs-fine front.Square = fine-map (λ us. eargument_by inner us front.Square) (λ a. listed a) (argument-fine front.Square)
  eargs-fine f = fine-give []

pub exp-fine : (n : ℕ) → Fine (exp_at n)
exp-fine zero = fine-is (exp_at zero) (chained_exp None) (exp_level zero) (chained-fine None tt)
exp-fine (suc n) = fine-is (exp_at (suc n)) (chained_exp (Some (exp_at n))) (exp_level (suc n)) (chained-fine (Some (exp_at n)) (exp-fine n))

pub inner-fine : (n : ℕ) → InnerFine (inner_exp n)
inner-fine zero = tt
inner-fine (suc n) = exp-fine n

pub eargs-at-fine : (n : ℕ) → Fine (eargs_at n)
eargs-at-fine n = fine-front (eargs_by (inner_exp n)) (eargs-fine (inner_exp n) (inner-fine n))

eapps-fine : (n : ℕ) → Fine (eapps_at n)
eapps-fine n = fine-signs mark.TwoColons (eapp_at n) (eapp-fine (inner_exp n) (inner-fine n))

behind-fine : (n m : ℕ) → Fine (eseq_inside n (exp_at m))
behind-fine n m = fine-by (after mark.CloseRound)
    (λ us o. elim o [ None ↦ enclosed mark.CloseRound (exp_at m) us >>= λ xs. eapps_at n xs.1 >>= λ ys. Ok (results_exp xs.0 ys.0, ys.1) | Some vs ↦ Ok ([], vs) ])
    (λ us. Ok ([], us)) (sign-decides mark.CloseRound) (λ us vs. refl)
    (fine-then (enclosed mark.CloseRound (exp_at m)) (λ xs us. eapps_at n us >>= λ ys. Ok (results_exp xs ys.0, ys.1)) (fine-enclosed mark.CloseRound (exp_at m) (exp-fine m)) (λ xs. fine-map (eapps_at n) (λ ys. results_exp xs ys) (eapps-fine n)))
    (fine-give [])

one-fine : (n : ℕ) → Fine (λ us. exp_at n us >>= λ t. Ok (t.0 ∷ [], t.1))
one-fine n = fine-map (exp_at n) (λ t. t ∷ []) (exp-fine n)

eseq-fine : (n : ℕ) (f : Front) → Fine (λ us. eseq_by n us f)
eseq-fine zero front.Round = fine-refused _
eseq-fine (suc n) front.Round = fine-skip (eseq_inside (suc n) (exp_at n)) (behind-fine (suc n) n)
eseq-fine n f = one-fine n

pub eseq-at-fine : (n : ℕ) → Fine (eseq_at n)
eseq-at-fine n = fine-front (eseq_by n) (eseq-fine n)
