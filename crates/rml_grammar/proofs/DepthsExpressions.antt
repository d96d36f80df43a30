-- An expression is at most three deep for each bracket that may open in it, and three.
use Rattle.std.proofs.Common.{◌≡◌, ℕ, zero, suc, ◌+◌, ◌*◌, ◌≤◌, List, [], ◌∷◌, refl, arith, Option, Some, None, Result, Ok, Err}
use Rattle.std.specs.Prelude.{All}
use Rattle.std.proofs.lemmas.List.Elements.{All-cons, All-head, All-nil, All-weaker}
use Rattle.rml_syntax.specs.declared.token.Spot.{Spot}
use Rattle.rml_syntax.specs.declared.token.Mark.TheVariants as mark
use Rattle.rml_syntax.specs.declared.rules.Long.{Long}
use Rattle.rml_syntax.specs.declared.rules.Exp.{Exp}
use Rattle.rml_syntax.specs.declared.rules.Exp.TheVariants as exp
use Rattle.rml_grammar.specs.declared.front.Front.{Front}
use Rattle.rml_grammar.specs.declared.front.Front.TheVariants as front
use Rattle.rml_grammar.specs.declared.fault.Fault.{Fault}
use Rattle.rml_grammar.specs.Tokens.{after, front_of, rest_of}
use Rattle.rml_grammar.specs.Reading.{Parser, enclosed, enclosed_or_none, inside, long_at, separated}
use Rattle.rml_grammar.specs.Trees.{applied_exp, chain_exp, listed, results_exp, tuple_exp}
use Rattle.rml_grammar.specs.Expressions.{Inner, chained_exp, eapp, eapp_at, eapp_by, eapps_at, eargs_at, eargs_by, eargument, eargument_by, eatom_by, eseq_at, eseq_by, eseq_inside, exp_at, inner_exp}
use Rattle.rml_grammar.specs.Depths.{exp_depth, exp_depth_at, exps_depth}
use Rattle.rml_grammar.proofs.Folds.{exp-App, exp-Cons, exp-List, exp-Lit, exp-Name, exp-Tuple}
use Rattle.rml_grammar.proofs.Levels.{exp_level}
use Rattle.rml_grammar.proofs.Depths.{Always, Gives, Inside, Whatever, and-gives, anything, deepest-at-most, enclosed-gives, inside-gives, or-none-gives, repeated-gives, separated-gives}

-- no deeper than that
abbrev pub AtMost : ℕ → Exp → Type 0
AtMost k e = exp_depth e ≤ k

pub deeper : (j k : ℕ) (es : List Exp) → j ≤ k → All (AtMost j) es → All (AtMost k) es
deeper j k es le h = All-weaker (AtMost j) (AtMost k) (λ e x. omega arith) es h

pub exps-at-most : (k : ℕ) (es : List Exp) → All (AtMost k) es → exps_depth es ≤ k
exps-at-most k es h = deepest-at-most k exp_depth es h

list-at-most : (k : ℕ) (es : List Exp) → All (AtMost k) es → AtMost (1 + k) (exp.List es)
list-at-most k es h = omega (arith, exp-List ℕ exp_depth_at es, exps-at-most k es h)

applied-at-most : (k : ℕ) (l : Long) (a : Option (List Exp)) → All (AtMost k) (listed a) → AtMost (1 + k) (applied_exp l a)
applied-at-most k l None h = omega (arith, exp-Name ℕ exp_depth_at l)
applied-at-most k l (Some es) h = omega (arith, exp-App ℕ exp_depth_at l es, exps-at-most k es h)

tuple-at-most : (k : ℕ) (es : List Exp) → All (AtMost k) es → AtMost (1 + k) (tuple_exp es)
tuple-at-most k [] h = omega (arith, exp-Tuple ℕ exp_depth_at [])
tuple-at-most k (x ∷ []) h = let d = All-head (AtMost k) x [] h in omega arith
tuple-at-most k (x ∷ y ∷ es) h = omega (arith, exp-Tuple ℕ exp_depth_at (x ∷ y ∷ es), exps-at-most k (x ∷ y ∷ es) h)

chain-at-most : (k : ℕ) (es : List Exp) → All (AtMost k) es → AtMost (1 + k) (chain_exp es)
chain-at-most k [] h = omega (arith, exp-Cons ℕ exp_depth_at [])
chain-at-most k (x ∷ []) h = let d = All-head (AtMost k) x [] h in omega arith
chain-at-most k (x ∷ y ∷ es) h = omega (arith, exp-Cons ℕ exp_depth_at (x ∷ y ∷ es), exps-at-most k (x ∷ y ∷ es) h)

one : (k : ℕ) (e : Exp) → AtMost k e → All (AtMost k) (e ∷ [])
one k e h = All-cons (AtMost k) e [] h (All-nil (AtMost k))

weaker : (j k : ℕ) (r : Result (Exp × List Spot) Fault) → j ≤ k → Gives (AtMost j) r → Gives (AtMost k) r
weaker j k (Ok x) le h = omega arith
weaker j k (Err f) le h = tt

all-weaker : (j k : ℕ) (r : Result (List Exp × List Spot) Fault) → j ≤ k → Gives (All (AtMost j)) r → Gives (All (AtMost k)) r
all-weaker j k (Ok x) le h = deeper j k x.0 le h
all-weaker j k (Err f) le h = tt

module _ (inner : Inner) (d : ℕ) (deep : Inside (Always (AtMost d)) inner) where
  enclosed-deep : (us : List Spot) → Gives (All (AtMost d)) (inside inner (enclosed mark.CloseRound) us (rest_of us))
  enclosed-deep us = inside-gives (Always (AtMost d)) (All (AtMost d)) inner (enclosed mark.CloseRound) us (rest_of us) deep (λ p e. enclosed-gives (AtMost d) p e mark.CloseRound (rest_of us))

  list-deep : (us : List Spot) → Gives (All (AtMost d)) (inside inner (enclosed_or_none mark.CloseSquare) us (rest_of us))
  list-deep us = inside-gives (Always (AtMost d)) (All (AtMost d)) inner (enclosed_or_none mark.CloseSquare) us (rest_of us) deep (λ p e. or-none-gives (AtMost d) p e mark.CloseSquare (rest_of us))

  args-deep : (us : List Spot) → Gives (All (AtMost d)) (inside inner (enclosed_or_none mark.CloseRound) us (rest_of us))
  args-deep us = inside-gives (Always (AtMost d)) (All (AtMost d)) inner (enclosed_or_none mark.CloseRound) us (rest_of us) deep (λ p e. or-none-gives (AtMost d) p e mark.CloseRound (rest_of us))

  eatom-deep : (us : List Spot) (f : Front) → Gives (AtMost (1 + d)) (eatom_by inner us f)
  eatom-deep us (front.Literal l) = omega (arith, exp-Lit ℕ exp_depth_at l)
  eatom-deep us front.Square = and-gives (All (AtMost d)) (AtMost (1 + d)) (inside inner (enclosed_or_none mark.CloseSquare) us (rest_of us)) _ (list-deep us) (λ x h. list-at-most d x.0 h)
  eatom-deep us front.Round = and-gives (All (AtMost d)) (AtMost (1 + d)) (inside inner (enclosed mark.CloseRound) us (rest_of us)) _ (enclosed-deep us) (λ x h. tuple-at-most d x.0 h)
  eatom-deep us f = tt

  -- the arguments, if there are some
  abbrev AreAtMost : ℕ → Option (List Exp) → Type 0
  AreAtMost k a = All (AtMost k) (listed a)

  argument-deep : (us : List Spot) (f : Front) → Gives (AreAtMost (1 + d)) (eargument_by inner us f)
  argument-deep us (front.Literal l) = one (1 + d) (exp.Lit l) (omega (arith, exp-Lit ℕ exp_depth_at l))
  argument-deep us front.Named = and-gives Whatever (AreAtMost (1 + d)) (long_at us) _ (anything (long_at us)) (λ x h. one (1 + d) (exp.Name x.0) (omega (arith, exp-Name ℕ exp_depth_at x.0)))
  argument-deep us front.Square = and-gives (All (AtMost d)) (AreAtMost (1 + d)) (inside inner (enclosed_or_none mark.CloseSquare) us (rest_of us)) _ (list-deep us) (λ x h. one (1 + d) (exp.List x.0) (list-at-most d x.0 h))
  argument-deep us front.Round = and-gives (All (AtMost d)) (AreAtMost (1 + d)) (inside inner (enclosed mark.CloseRound) us (rest_of us)) _ (enclosed-deep us) (λ x h. deeper d (1 + d) x.0 (omega arith) h)
  argument-deep us f = All-nil (AtMost (1 + d))

  atom-deep : (us : List Spot) (f : Front) → Gives (AtMost (2 + d)) (eatom_by inner us f)
  atom-deep us f = weaker (1 + d) (2 + d) (eatom_by inner us f) (omega arith) (eatom-deep us f)

  eapp-by-deep : (us : List Spot) (f : Front) → Gives (AtMost (2 + d)) (eapp_by inner us f)
  eapp-by-deep us front.Named = and-gives Whatever (AtMost (2 + d)) (long_at us) _ (anything (long_at us))
      (λ x h. and-gives (AreAtMost (1 + d)) (AtMost (2 + d)) (eargument inner x.1) _ (argument-deep x.1 (front_of x.1)) (λ y g. (let a = applied-at-most (1 + d) x.0 y.0 g in omega arith)))
  eapp-by-deep us (front.Literal l) = omega (arith, exp-Lit ℕ exp_depth_at l)
  eapp-by-deep us front.Square = atom-deep us front.Square
  eapp-by-deep us front.Round = atom-deep us front.Round
  eapp-by-deep us f = tt

  eapp-deep : Always (AtMost (2 + d)) (eapp inner)
  eapp-deep us = eapp-by-deep us (front_of us)

  chained-deep : Always (AtMost (3 + d)) (chained_exp inner)
  chained-deep us = and-gives (All (AtMost (2 + d))) (AtMost (3 + d)) (separated (after mark.TwoColons) (eapp inner) us) _ (separated-gives (AtMost (2 + d)) (eapp inner) eapp-deep (after mark.TwoColons) us)
      (λ x h. (let c = chain-at-most (2 + d) x.0 h in omega arith))

  eargs-deep : (us : List Spot) (f : Front) → Gives (All (AtMost (1 + d))) (eargs_by inner us f)
  eargs-deep us front.Round = all-weaker d (1 + d) (inside inner (enclosed_or_none mark.CloseRound) us (rest_of us)) (omega arith) (args-deep us)
  eargs-deep us (front.Literal l) = and-gives (AreAtMost (1 + d)) (All (AtMost (1 + d))) (eargument_by inner us (front.Literal l)) (λ x. Ok (listed x.0, x.1)) (argument-deep us (front.Literal l)) (λ x h. h)
  eargs-deep us front.Named = and-gives (AreAtMost (1 + d)) (All (AtMost (1 + d))) (eargument_by inner us front.Named) (λ x. Ok (listed x.0, x.1)) (argument-deep us front.Named) (λ x h. h)
  eargs-deep us front.Square = and-gives (AreAtMost (1 + d)) (All (AtMost (1 + d))) (eargument_by inner us front.Square) (λ x. Ok (listed x.0, x.1)) (argument-deep us front.Square) (λ x h. h)
  eargs-deep us f = All-nil (AtMost (1 + d))

pub exp-deep : (n : ℕ) → Always (AtMost (3 * n + 3)) (exp_at n)
exp-deep zero us = rw (exp_level zero us) (weaker 3 (3 * 0 + 3) (chained_exp None us) (omega arith) (chained-deep None 0 tt us))
exp-deep (suc n) us = rw (exp_level (suc n) us) (weaker (3 + (3 * n + 3)) (3 * suc n + 3) (chained_exp (Some (exp_at n)) us) (omega arith) (chained-deep (Some (exp_at n)) (3 * n + 3) (exp-deep n) us))

pub inner-deep : (n : ℕ) → Inside (Always (AtMost (3 * n))) (inner_exp n)
inner-deep zero = tt
inner-deep (suc n) = λ us. weaker (3 * n + 3) (3 * suc n) (exp_at n us) (omega arith) (exp-deep n us)

pub eargs-at-deep : (n : ℕ) → Always (All (AtMost (1 + 3 * n))) (eargs_at n)
eargs-at-deep n us = eargs-deep (inner_exp n) (3 * n) (inner-deep n) us (front_of us)

eapps-deep : (n : ℕ) → Always (All (AtMost (2 + 3 * n))) (eapps_at n)
eapps-deep n us = repeated-gives (AtMost (2 + 3 * n)) (eapp_at n) (eapp-deep (inner_exp n) (3 * n) (inner-deep n)) (after mark.TwoColons) us

chained-result : (n : ℕ) (xs ys : List Exp) → All (AtMost (3 * n)) xs → All (AtMost (2 + 3 * n)) ys → All (AtMost (3 * n + 3)) (chain_exp (tuple_exp xs ∷ ys) ∷ [])
chained-result n xs ys h g =
    let t = tuple-at-most (3 * n) xs h in
    let c = chain-at-most (2 + 3 * n) (tuple_exp xs ∷ ys) (All-cons (AtMost (2 + 3 * n)) (tuple_exp xs) ys (omega arith) g) in
    one (3 * n + 3) (chain_exp (tuple_exp xs ∷ ys)) (omega arith)

-- results are the items of a tuple, or one chain
results-at-most : (n : ℕ) (xs ys : List Exp) → All (AtMost (3 * n)) xs → All (AtMost (2 + 3 * n)) ys → All (AtMost (3 * n + 3)) (results_exp xs ys)
results-at-most n (x ∷ y ∷ xs) [] h g = deeper (3 * n) (3 * n + 3) (x ∷ y ∷ xs) (omega arith) h
results-at-most n [] ys h g = chained-result n [] ys h g
results-at-most n (x ∷ []) ys h g = chained-result n (x ∷ []) ys h g
results-at-most n (x ∷ y ∷ xs) (z ∷ ys) h g = chained-result n (x ∷ y ∷ xs) (z ∷ ys) h g

behind-deep : (n : ℕ) (p : Parser Exp) (us : List Spot) (o : Option (List Spot)) → after mark.CloseRound us ≡ o → Always (AtMost (3 * n)) p → Gives (All (AtMost (3 * n + 3))) (eseq_inside n p us)
behind-deep n p us None e h = rw (e, eseq_inside) (and-gives (All (AtMost (3 * n))) (All (AtMost (3 * n + 3))) (enclosed mark.CloseRound p us) _ (enclosed-gives (AtMost (3 * n)) p h mark.CloseRound us)
    (λ x a. and-gives (All (AtMost (2 + 3 * n))) (All (AtMost (3 * n + 3))) (eapps_at n x.1) _ (eapps-deep n x.1) (λ y b. results-at-most n x.0 y.0 a b)))
behind-deep n p us (Some vs) e h = rw (e, eseq_inside) (All-nil (AtMost (3 * n + 3)))

eseq-deep : (n : ℕ) (us : List Spot) (f : Front) → Gives (All (AtMost (3 * n + 3))) (eseq_by n us f)
eseq-deep n us front.Round = inside-gives (Always (AtMost (3 * n))) (All (AtMost (3 * n + 3))) (inner_exp n) (eseq_inside n) us (rest_of us) (inner-deep n) (λ p h. behind-deep n p (rest_of us) (after mark.CloseRound (rest_of us)) refl h)
eseq-deep n us f = and-gives (AtMost (3 * n + 3)) (All (AtMost (3 * n + 3))) (exp_at n us) _ (exp-deep n us) (λ x h. one (3 * n + 3) x.0 h)

pub eseq-at-deep : (n : ℕ) → Always (All (AtMost (3 * n + 3))) (eseq_at n)
eseq-at-deep n us = eseq-deep n us (front_of us)
