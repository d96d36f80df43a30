-- A pattern is at most four deep for each bracket that may open in it, and four.
use Rattle.std.proofs.Common.{◌≡◌, ℕ, zero, suc, ◌+◌, ◌*◌, ◌≤◌, List, [], ◌∷◌, refl, arith, Option, Some, None, Result, Ok, Err}
use Rattle.std.specs.Prelude.{All}
use Rattle.std.proofs.lemmas.List.Elements.{All-cons, All-head, All-nil, All-weaker}
use Rattle.rml_base.specs.declared.place.Place.{Place}
use Rattle.rml_syntax.specs.declared.token.Spot.{Spot}
use Rattle.rml_syntax.specs.declared.token.Mark.TheVariants as mark
use Rattle.rml_syntax.specs.declared.rules.Long.{Long}
use Rattle.rml_syntax.specs.declared.rules.Pattern.{Pattern}
use Rattle.rml_syntax.specs.declared.rules.Pattern.TheVariants as pat
use Rattle.rml_grammar.specs.declared.front.Front.{Front}
use Rattle.rml_grammar.specs.declared.front.Front.TheVariants as front
use Rattle.rml_grammar.specs.declared.fault.Fault.{Fault}
use Rattle.rml_grammar.specs.Tokens.{after, front_of, rest_of}
use Rattle.rml_grammar.specs.Reading.{Parser, enclosed, enclosed_or_none, inside, long_at, separated}
use Rattle.rml_grammar.specs.Trees.{applied_pat, chain_pat, listed, results_pat, tuple_pat}
use Rattle.rml_grammar.specs.Patterns.{Inner, bound_pat, binder_at, inner_pat, papp, papp_at, papp_by, papps_at, pargs_at, pargs_by, pargument, pargument_by, pat_at, patom_by, pcons, pseq_at, pseq_by, pseq_inside}
use Rattle.rml_grammar.specs.Depths.{pattern_depth, pattern_depth_at, patterns_depth}
use Rattle.rml_grammar.proofs.Folds.{pattern-Any, pattern-App, pattern-Bind, pattern-Cons, pattern-List, pattern-Lit, pattern-Name, pattern-Tuple}
use Rattle.rml_grammar.proofs.Levels.{pat_level}
use Rattle.rml_grammar.proofs.Depths.{Always, Gives, Inside, Whatever, and-gives, anything, deepest-at-most, enclosed-gives, inside-gives, or-none-gives, repeated-gives, separated-gives}

-- no deeper than that
abbrev pub AtMost : ℕ → Pattern → Type 0
AtMost k e = pattern_depth e ≤ k

pub deeper : (j k : ℕ) (es : List Pattern) → j ≤ k → All (AtMost j) es → All (AtMost k) es
deeper j k es le h = All-weaker (AtMost j) (AtMost k) (λ e x. omega arith) es h

pub patterns-at-most : (k : ℕ) (es : List Pattern) → All (AtMost k) es → patterns_depth es ≤ k
patterns-at-most k es h = deepest-at-most k pattern_depth es h

list-at-most : (k : ℕ) (es : List Pattern) → All (AtMost k) es → AtMost (1 + k) (pat.List es)
list-at-most k es h = omega (arith, pattern-List ℕ pattern_depth_at es, patterns-at-most k es h)

applied-at-most : (k : ℕ) (l : Long) (a : Option (List Pattern)) → All (AtMost k) (listed a) → AtMost (1 + k) (applied_pat l a)
applied-at-most k l None h = omega (arith, pattern-Name ℕ pattern_depth_at l)
applied-at-most k l (Some es) h = omega (arith, pattern-App ℕ pattern_depth_at l es, patterns-at-most k es h)

tuple-at-most : (k : ℕ) (es : List Pattern) → All (AtMost k) es → AtMost (1 + k) (tuple_pat es)
tuple-at-most k [] h = omega (arith, pattern-Tuple ℕ pattern_depth_at [])
tuple-at-most k (x ∷ []) h = let d = All-head (AtMost k) x [] h in omega arith
tuple-at-most k (x ∷ y ∷ es) h = omega (arith, pattern-Tuple ℕ pattern_depth_at (x ∷ y ∷ es), patterns-at-most k (x ∷ y ∷ es) h)

chain-at-most : (k : ℕ) (es : List Pattern) → All (AtMost k) es → AtMost (1 + k) (chain_pat es)
chain-at-most k [] h = omega (arith, pattern-Cons ℕ pattern_depth_at [])
chain-at-most k (x ∷ []) h = let d = All-head (AtMost k) x [] h in omega arith
chain-at-most k (x ∷ y ∷ es) h = omega (arith, pattern-Cons ℕ pattern_depth_at (x ∷ y ∷ es), patterns-at-most k (x ∷ y ∷ es) h)

one : (k : ℕ) (e : Pattern) → AtMost k e → All (AtMost k) (e ∷ [])
one k e h = All-cons (AtMost k) e [] h (All-nil (AtMost k))

weaker : (j k : ℕ) (r : Result (Pattern × List Spot) Fault) → j ≤ k → Gives (AtMost j) r → Gives (AtMost k) r
weaker j k (Ok x) le h = omega arith
weaker j k (Err f) le h = tt

all-weaker : (j k : ℕ) (r : Result (List Pattern × List Spot) Fault) → j ≤ k → Gives (All (AtMost j)) r → Gives (All (AtMost k)) r
all-weaker j k (Ok x) le h = deeper j k x.0 le h
all-weaker j k (Err f) le h = tt

module _ (inner : Inner) (d : ℕ) (deep : Inside (Always (AtMost d)) inner) where
  enclosed-deep : (us : List Spot) → Gives (All (AtMost d)) (inside inner (enclosed mark.CloseRound) us (rest_of us))
  enclosed-deep us = inside-gives (Always (AtMost d)) (All (AtMost d)) inner (enclosed mark.CloseRound) us (rest_of us) deep (λ p e. enclosed-gives (AtMost d) p e mark.CloseRound (rest_of us))

  list-deep : (us : List Spot) → Gives (All (AtMost d)) (inside inner (enclosed_or_none mark.CloseSquare) us (rest_of us))
  list-deep us = inside-gives (Always (AtMost d)) (All (AtMost d)) inner (enclosed_or_none mark.CloseSquare) us (rest_of us) deep (λ p e. or-none-gives (AtMost d) p e mark.CloseSquare (rest_of us))

  args-deep : (us : List Spot) → Gives (All (AtMost d)) (inside inner (enclosed_or_none mark.CloseRound) us (rest_of us))
  args-deep us = inside-gives (Always (AtMost d)) (All (AtMost d)) inner (enclosed_or_none mark.CloseRound) us (rest_of us) deep (λ p e. or-none-gives (AtMost d) p e mark.CloseRound (rest_of us))

  patom-deep : (us : List Spot) (f : Front) → Gives (AtMost (1 + d)) (patom_by inner us f)
  patom-deep us (front.Literal l) = omega (arith, pattern-Lit ℕ pattern_depth_at l)
  patom-deep us front.Wild = omega (arith, pattern-Any ℕ pattern_depth_at)
  patom-deep us front.Square = and-gives (All (AtMost d)) (AtMost (1 + d)) (inside inner (enclosed_or_none mark.CloseSquare) us (rest_of us)) _ (list-deep us) (λ x h. list-at-most d x.0 h)
  patom-deep us front.Round = and-gives (All (AtMost d)) (AtMost (1 + d)) (inside inner (enclosed mark.CloseRound) us (rest_of us)) _ (enclosed-deep us) (λ x h. tuple-at-most d x.0 h)
  patom-deep us f = tt

  -- the arguments, if there are some
  abbrev AreAtMost : ℕ → Option (List Pattern) → Type 0
  AreAtMost k a = All (AtMost k) (listed a)

  argument-deep : (us : List Spot) (f : Front) → Gives (AreAtMost (1 + d)) (pargument_by inner us f)
  argument-deep us (front.Literal l) = one (1 + d) (pat.Lit l) (omega (arith, pattern-Lit ℕ pattern_depth_at l))
  argument-deep us front.Wild = one (1 + d) pat.Any (omega (arith, pattern-Any ℕ pattern_depth_at))
  argument-deep us front.Named = and-gives Whatever (AreAtMost (1 + d)) (long_at us) _ (anything (long_at us)) (λ x h. one (1 + d) (pat.Name x.0) (omega (arith, pattern-Name ℕ pattern_depth_at x.0)))
  argument-deep us front.Square = and-gives (All (AtMost d)) (AreAtMost (1 + d)) (inside inner (enclosed_or_none mark.CloseSquare) us (rest_of us)) _ (list-deep us) (λ x h. one (1 + d) (pat.List x.0) (list-at-most d x.0 h))
  argument-deep us front.Round = and-gives (All (AtMost d)) (AreAtMost (1 + d)) (inside inner (enclosed mark.CloseRound) us (rest_of us)) _ (enclosed-deep us) (λ x h. deeper d (1 + d) x.0 (omega arith) h)
  argument-deep us f = All-nil (AtMost (1 + d))

  atom-deep : (us : List Spot) (f : Front) → Gives (AtMost (2 + d)) (patom_by inner us f)
  atom-deep us f = weaker (1 + d) (2 + d) (patom_by inner us f) (omega arith) (patom-deep us f)

  papp-by-deep : (us : List Spot) (f : Front) → Gives (AtMost (2 + d)) (papp_by inner us f)
  papp-by-deep us front.Named = and-gives Whatever (AtMost (2 + d)) (long_at us) _ (anything (long_at us))
      (λ x h. and-gives (AreAtMost (1 + d)) (AtMost (2 + d)) (pargument inner x.1) _ (argument-deep x.1 (front_of x.1)) (λ y g. (let a = applied-at-most (1 + d) x.0 y.0 g in omega arith)))
  papp-by-deep us (front.Literal l) = omega (arith, pattern-Lit ℕ pattern_depth_at l)
  papp-by-deep us front.Wild = omega (arith, pattern-Any ℕ pattern_depth_at)
  papp-by-deep us front.Square = atom-deep us front.Square
  papp-by-deep us front.Round = atom-deep us front.Round
  papp-by-deep us f = tt

  papp-deep : Always (AtMost (2 + d)) (papp inner)
  papp-deep us = papp-by-deep us (front_of us)

  pcons-deep : Always (AtMost (3 + d)) (pcons inner)
  pcons-deep us = and-gives (All (AtMost (2 + d))) (AtMost (3 + d)) (separated (after mark.TwoColons) (papp inner) us) _ (separated-gives (AtMost (2 + d)) (papp inner) papp-deep (after mark.TwoColons) us)
      (λ x h. (let c = chain-at-most (2 + d) x.0 h in omega arith))

  bound-by : (us : List Spot) (o : Option ((ℕ × Place) × List Spot)) → binder_at us ≡ o → Gives (AtMost (4 + d)) (bound_pat inner us)
  bound-by us None e = rw (e, bound_pat) (weaker (3 + d) (4 + d) (pcons inner us) (omega arith) (pcons-deep us))
  bound-by us (Some x) e = rw (e, bound_pat) (and-gives (AtMost (3 + d)) (AtMost (4 + d)) (pcons inner x.1) _ (pcons-deep x.1) (λ y h. omega (arith, pattern-Bind ℕ pattern_depth_at x.0.0 x.0.1 y.0)))

  bound-deep : Always (AtMost (4 + d)) (bound_pat inner)
  bound-deep us = bound-by us (binder_at us) refl

  pargs-deep : (us : List Spot) (f : Front) → Gives (All (AtMost (1 + d))) (pargs_by inner us f)
  pargs-deep us front.Round = all-weaker d (1 + d) (inside inner (enclosed_or_none mark.CloseRound) us (rest_of us)) (omega arith) (args-deep us)
  pargs-deep us (front.Literal l) = and-gives (AreAtMost (1 + d)) (All (AtMost (1 + d))) (pargument_by inner us (front.Literal l)) (λ x. Ok (listed x.0, x.1)) (argument-deep us (front.Literal l)) (λ x h. h)
  pargs-deep us front.Wild = and-gives (AreAtMost (1 + d)) (All (AtMost (1 + d))) (pargument_by inner us front.Wild) (λ x. Ok (listed x.0, x.1)) (argument-deep us front.Wild) (λ x h. h)
  pargs-deep us front.Named = and-gives (AreAtMost (1 + d)) (All (AtMost (1 + d))) (pargument_by inner us front.Named) (λ x. Ok (listed x.0, x.1)) (argument-deep us front.Named) (λ x h. h)
  pargs-deep us front.Square = and-gives (AreAtMost (1 + d)) (All (AtMost (1 + d))) (pargument_by inner us front.Square) (λ x. Ok (listed x.0, x.1)) (argument-deep us front.Square) (λ x h. h)
  pargs-deep us f = All-nil (AtMost (1 + d))

pub pat-deep : (n : ℕ) → Always (AtMost (4 * n + 4)) (pat_at n)
pat-deep zero us = rw (pat_level zero us) (weaker 4 (4 * 0 + 4) (bound_pat None us) (omega arith) (bound-deep None 0 tt us))
pat-deep (suc n) us = rw (pat_level (suc n) us) (weaker (4 + (4 * n + 4)) (4 * suc n + 4) (bound_pat (Some (pat_at n)) us) (omega arith) (bound-deep (Some (pat_at n)) (4 * n + 4) (pat-deep n) us))

pub inner-deep : (n : ℕ) → Inside (Always (AtMost (4 * n))) (inner_pat n)
inner-deep zero = tt
inner-deep (suc n) = λ us. weaker (4 * n + 4) (4 * suc n) (pat_at n us) (omega arith) (pat-deep n us)

pub pargs-at-deep : (n : ℕ) → Always (All (AtMost (1 + 4 * n))) (pargs_at n)
pargs-at-deep n us = pargs-deep (inner_pat n) (4 * n) (inner-deep n) us (front_of us)

papps-deep : (n : ℕ) → Always (All (AtMost (2 + 4 * n))) (papps_at n)
papps-deep n us = repeated-gives (AtMost (2 + 4 * n)) (papp_at n) (papp-deep (inner_pat n) (4 * n) (inner-deep n)) (after mark.TwoColons) us

chained-result : (n : ℕ) (xs ys : List Pattern) → All (AtMost (4 * n)) xs → All (AtMost (2 + 4 * n)) ys → All (AtMost (4 * n + 4)) (chain_pat (tuple_pat xs ∷ ys) ∷ [])
chained-result n xs ys h g =
    let t = tuple-at-most (4 * n) xs h in
    let c = chain-at-most (2 + 4 * n) (tuple_pat xs ∷ ys) (All-cons (AtMost (2 + 4 * n)) (tuple_pat xs) ys (omega arith) g) in
    one (4 * n + 4) (chain_pat (tuple_pat xs ∷ ys)) (omega arith)

-- results are the items of a tuple, or one chain
results-at-most : (n : ℕ) (xs ys : List Pattern) → All (AtMost (4 * n)) xs → All (AtMost (2 + 4 * n)) ys → All (AtMost (4 * n + 4)) (results_pat xs ys)
results-at-most n (x ∷ y ∷ xs) [] h g = deeper (4 * n) (4 * n + 4) (x ∷ y ∷ xs) (omega arith) h
results-at-most n [] ys h g = chained-result n [] ys h g
results-at-most n (x ∷ []) ys h g = chained-result n (x ∷ []) ys h g
results-at-most n (x ∷ y ∷ xs) (z ∷ ys) h g = chained-result n (x ∷ y ∷ xs) (z ∷ ys) h g

behind-deep : (n : ℕ) (p : Parser Pattern) (us : List Spot) (o : Option (List Spot)) → after mark.CloseRound us ≡ o → Always (AtMost (4 * n)) p → Gives (All (AtMost (4 * n + 4))) (pseq_inside n p us)
behind-deep n p us None e h = rw (e, pseq_inside) (and-gives (All (AtMost (4 * n))) (All (AtMost (4 * n + 4))) (enclosed mark.CloseRound p us) _ (enclosed-gives (AtMost (4 * n)) p h mark.CloseRound us)
    (λ x a. and-gives (All (AtMost (2 + 4 * n))) (All (AtMost (4 * n + 4))) (papps_at n x.1) _ (papps-deep n x.1) (λ y b. results-at-most n x.0 y.0 a b)))
behind-deep n p us (Some vs) e h = rw (e, pseq_inside) (All-nil (AtMost (4 * n + 4)))

pseq-deep : (n : ℕ) (us : List Spot) (f : Front) → Gives (All (AtMost (4 * n + 4))) (pseq_by n us f)
pseq-deep n us front.Round = inside-gives (Always (AtMost (4 * n))) (All (AtMost (4 * n + 4))) (inner_pat n) (pseq_inside n) us (rest_of us) (inner-deep n) (λ p h. behind-deep n p (rest_of us) (after mark.CloseRound (rest_of us)) refl h)
pseq-deep n us f = and-gives (AtMost (4 * n + 4)) (All (AtMost (4 * n + 4))) (pat_at n us) _ (pat-deep n us) (λ x h. one (4 * n + 4) x.0 h)

pub pseq-at-deep : (n : ℕ) → Always (All (AtMost (4 * n + 4))) (pseq_at n)
pseq-at-deep n us = pseq-deep n us (front_of us)
