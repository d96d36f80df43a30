-- A type is at most three deep for each bracket that may open in it, and three.
use Rattle.std.proofs.Common.{◌≡◌, ℕ, zero, suc, ◌+◌, ◌*◌, ◌≤◌, List, [], ◌∷◌, max, refl, arith, Option, Some, None, Result, Ok, Err}
use Rattle.std.specs.Prelude.{All}
use Rattle.std.proofs.Math.Nat.{max-le}
use Rattle.std.proofs.lemmas.List.Elements.{All-cons, All-head, All-nil, All-weaker}
use Rattle.rml_syntax.specs.declared.token.Spot.{Spot}
use Rattle.rml_syntax.specs.declared.token.Mark.TheVariants as mark
use Rattle.rml_syntax.specs.declared.rules.Long.{Long}
use Rattle.rml_syntax.specs.declared.types.TypeExp.{TypeExp}
use Rattle.rml_syntax.specs.declared.types.TypeExp.TheVariants as type
use Rattle.rml_syntax.specs.declared.types.Sig.{Sig}
use Rattle.rml_grammar.specs.declared.fault.Fault.{Fault}
use Rattle.rml_grammar.specs.declared.front.Front.{Front}
use Rattle.rml_grammar.specs.declared.front.Front.TheVariants as front
use Rattle.rml_grammar.specs.declared.types.Bracket.{Bracket}
use Rattle.rml_grammar.specs.declared.types.Bracket.TheVariants as bracket
use Rattle.rml_grammar.specs.declared.types.Types.{Types}
use Rattle.rml_grammar.specs.declared.types.Types.TheVariants as types
use Rattle.rml_grammar.specs.Tokens.{after, front_of, rest_of}
use Rattle.rml_grammar.specs.Reading.{◌>>=◌, Parser, before, inside, long_at, repeated, separated}
use Rattle.rml_grammar.specs.Trees.{named_type, product_type}
use Rattle.rml_grammar.specs.Types.{Inner, bracket_at, bracket_by, bracket_from, bracket_type, in_bracket, inner_bracket, longs_at, one_from, outputs, product, sig_at, signature, tatom, tatom_at, tatom_by, tseq, tseq_by, tseq_from, tseq_inside, type_at, types_of}
use Rattle.rml_grammar.specs.Depths.{sig_depth, sig_depth_at, type_depth, type_depth_at, types_depth}
use Rattle.rml_grammar.proofs.Folds.{sig-is, type-App, type-Rel, type-Tuple, type-Var}
use Rattle.rml_grammar.proofs.Levels.{bracket_level}
use Rattle.rml_grammar.proofs.Depths.{Always, Gives, Inside, Whatever, and-gives, anything, before-gives, deepest-at-most, inside-gives, repeated-gives, separated-gives}

-- no deeper than that
abbrev pub AtMost : ℕ → TypeExp → Type 0
AtMost k t = type_depth t ≤ k

deeper : (j k : ℕ) (ts : List TypeExp) → j ≤ k → All (AtMost j) ts → All (AtMost k) ts
deeper j k ts le h = All-weaker (AtMost j) (AtMost k) (λ t x. omega arith) ts h

pub types-at-most : (k : ℕ) (ts : List TypeExp) → All (AtMost k) ts → types_depth ts ≤ k
types-at-most k ts h = deepest-at-most k type_depth ts h

one : (k : ℕ) (t : TypeExp) → AtMost k t → All (AtMost k) (t ∷ [])
one k t h = All-cons (AtMost k) t [] h (All-nil (AtMost k))

app-at-most : (k : ℕ) (ts : List TypeExp) (ls : List Long) → All (AtMost k) ts → AtMost (1 + k) (type.App ts ls)
app-at-most k ts ls h = omega (arith, type-App ℕ ℕ type_depth_at sig_depth_at ts ls, types-at-most k ts h)

named-at-most : (k : ℕ) (t : TypeExp) (ls : List Long) → AtMost k t → AtMost (1 + k) (named_type t ls)
named-at-most k t [] h = omega arith
named-at-most k t (l ∷ ls) h = app-at-most k (t ∷ []) (l ∷ ls) (one k t h)

product-at-most : (k : ℕ) (ts : List TypeExp) → All (AtMost k) ts → AtMost (1 + k) (product_type ts)
product-at-most k [] h = omega (arith, type-Tuple ℕ ℕ type_depth_at sig_depth_at [])
product-at-most k (x ∷ []) h = let d = All-head (AtMost k) x [] h in omega arith
product-at-most k (x ∷ y ∷ ts) h = omega (arith, type-Tuple ℕ ℕ type_depth_at sig_depth_at (x ∷ y ∷ ts), types-at-most k (x ∷ y ∷ ts) h)

abbrev pub SigAtMost : ℕ → Sig → Type 0
SigAtMost k s = sig_depth s ≤ k

sig-at-most : (k : ℕ) (ins outs : List TypeExp) → All (AtMost k) ins → All (AtMost k) outs → SigAtMost k (record { inputs = ins; outputs = outs })
sig-at-most k ins outs h g =
    let s : Sig = record { inputs = ins; outputs = outs } in
    let le : max (types_depth ins) (types_depth outs) ≤ k = max-le (types-at-most k ins h) (types-at-most k outs g) in
    omega (arith, sig-is ℕ ℕ type_depth_at sig_depth_at s, le)

relation-at-most : (k : ℕ) (s : Sig) → SigAtMost k s → AtMost (1 + k) (type.Rel s)
relation-at-most k s h = omega (arith, type-Rel ℕ ℕ type_depth_at sig_depth_at s)

-- what a bracket holds, and what a list of types or one type is
abbrev pub BracketAtMost : ℕ → Bracket → Type 0
BracketAtMost k (bracket.Sig s) = SigAtMost k s
BracketAtMost k (bracket.Types ts) = All (AtMost k) ts

abbrev pub TypesAtMost : ℕ → Types → Type 0
TypesAtMost k ts = All (AtMost k) (types_of ts)

named-weaker : (j k : ℕ) (t : TypeExp) (ls : List Long) → j ≤ k → AtMost j (named_type t ls) → AtMost k (named_type t ls)
named-weaker j k t ls le h = omega arith

bracket-type-deep : (d : ℕ) (us : List Spot) (b : Bracket) (ls : List Long) → BracketAtMost d b → Gives (AtMost (2 + d)) (bracket_type us b ls)
bracket-type-deep d us (bracket.Sig s) ls h = let a = named-at-most (1 + d) (type.Rel s) ls (relation-at-most d s h) in named-weaker (1 + (1 + d)) (2 + d) (type.Rel s) ls (omega arith) a
bracket-type-deep d us (bracket.Types []) [] h = tt
bracket-type-deep d us (bracket.Types []) (l ∷ ls) h = let a = app-at-most d [] (l ∷ ls) h in omega arith
bracket-type-deep d us (bracket.Types (x ∷ [])) ls h = let a = named-at-most d x ls (All-head (AtMost d) x [] h) in omega arith
bracket-type-deep d us (bracket.Types (x ∷ y ∷ xs)) [] h = tt
bracket-type-deep d us (bracket.Types (x ∷ y ∷ xs)) (l ∷ ls) h = let a = app-at-most d (x ∷ y ∷ xs) (l ∷ ls) h in omega arith

module _ (inner : Inner) (d : ℕ) (deep : Inside (Always (BracketAtMost d)) inner) where
  names-behind : {B : Type 0} (P : B → Type 0) (us : List Spot) (f : List Long × List Spot → Result (B × List Spot) Fault) → ((x : List Long × List Spot) → Gives P (f x)) → Gives P (longs_at us >>= f)
  names-behind P us f h = and-gives Whatever P (longs_at us) f (anything (longs_at us)) (λ x u. h x)

  tatom-by-deep : (us : List Spot) (f : Front) → Gives (AtMost (2 + d)) (tatom_by inner us f)
  tatom-by-deep us (front.TyVar v p) = names-behind (AtMost (2 + d)) (rest_of us) _ (λ x. (let a = named-at-most 1 (type.Var v p) x.0 (omega (arith, type-Var ℕ ℕ type_depth_at sig_depth_at v p)) in omega arith))
  tatom-by-deep us front.Named = and-gives Whatever (AtMost (2 + d)) (long_at us) _ (anything (long_at us)) (λ x u. names-behind (AtMost (2 + d)) x.1 _ (λ y. (let a = app-at-most 0 [] (x.0 ∷ y.0) (All-nil (AtMost 0)) in omega arith)))
  tatom-by-deep us front.Round = and-gives (BracketAtMost d) (AtMost (2 + d)) (inside inner (λ p. p) us (rest_of us)) _
      (inside-gives (Always (BracketAtMost d)) (BracketAtMost d) inner (λ p. p) us (rest_of us) deep (λ p h. h (rest_of us)))
      (λ x h. names-behind (AtMost (2 + d)) x.1 _ (λ y. bracket-type-deep d y.1 x.0 y.0 h))
  tatom-by-deep us f = tt

  tatom-deep : Always (AtMost (2 + d)) (tatom inner)
  tatom-deep us = tatom-by-deep us (front_of us)

  product-deep : Always (AtMost (3 + d)) (product inner)
  product-deep us = and-gives (All (AtMost (2 + d))) (AtMost (3 + d)) (separated (after mark.Star) (tatom inner) us) _ (separated-gives (AtMost (2 + d)) (tatom inner) tatom-deep (after mark.Star) us)
      (λ x h. (let a = product-at-most (2 + d) x.0 h in omega arith))

  one-from-deep : (x : TypeExp × List Spot) → AtMost (2 + d) x.0 → Gives (TypesAtMost (3 + d)) (one_from inner x)
  one-from-deep x h = and-gives (All (AtMost (2 + d))) (TypesAtMost (3 + d)) (repeated (after mark.Star) (tatom inner) x.1) _ (repeated-gives (AtMost (2 + d)) (tatom inner) tatom-deep (after mark.Star) x.1)
      (λ y g. (let a = product-at-most (2 + d) (x.0 ∷ y.0) (All-cons (AtMost (2 + d)) x.0 y.0 h g) in one (3 + d) (product_type (x.0 ∷ y.0)) (omega arith)))

  from-type : (us : List Spot) (b : Bracket) (ls : List Long) → BracketAtMost d b → Gives (TypesAtMost (3 + d)) (bracket_type us b ls >>= one_from inner)
  from-type us b ls h = and-gives (AtMost (2 + d)) (TypesAtMost (3 + d)) (bracket_type us b ls) (one_from inner) (bracket-type-deep d us b ls h) (λ x g. one-from-deep x g)

  tseq-from-deep : (us : List Spot) (b : Bracket) (ls : List Long) → BracketAtMost d b → Gives (TypesAtMost (3 + d)) (tseq_from inner us b ls)
  tseq-from-deep us (bracket.Types (x ∷ y ∷ xs)) [] h = deeper d (3 + d) (x ∷ y ∷ xs) (omega arith) h
  tseq-from-deep us (bracket.Types (x ∷ y ∷ xs)) (l ∷ ls) h = from-type us (bracket.Types (x ∷ y ∷ xs)) (l ∷ ls) h
  tseq-from-deep us (bracket.Types []) ls h = from-type us (bracket.Types []) ls h
  tseq-from-deep us (bracket.Types (x ∷ [])) ls h = from-type us (bracket.Types (x ∷ [])) ls h
  tseq-from-deep us (bracket.Sig s) ls h = from-type us (bracket.Sig s) ls h

  tseq-inside-deep : (p : Parser Bracket) (us : List Spot) (o : Option (List Spot)) → after mark.CloseRound us ≡ o → Always (BracketAtMost d) p → Gives (TypesAtMost (3 + d)) (tseq_inside inner p us)
  tseq-inside-deep p us None e h = rw (e, tseq_inside) (and-gives (BracketAtMost d) (TypesAtMost (3 + d)) (p us) _ (h us) (λ x g. names-behind (TypesAtMost (3 + d)) x.1 _ (λ y. tseq-from-deep y.1 x.0 y.0 g)))
  tseq-inside-deep p us (Some vs) e h = rw (e, tseq_inside) (All-nil (AtMost (3 + d)))

  one-type-deep : (us : List Spot) → Gives (TypesAtMost (3 + d)) (product inner us >>= λ t. Ok (types.One t.0, t.1))
  one-type-deep us = and-gives (AtMost (3 + d)) (TypesAtMost (3 + d)) (product inner us) _ (product-deep us) (λ x h. one (3 + d) x.0 h)

  tseq-by-deep : (us : List Spot) (f : Front) → Gives (TypesAtMost (3 + d)) (tseq_by inner us f)
  tseq-by-deep us front.Round = inside-gives (Always (BracketAtMost d)) (TypesAtMost (3 + d)) inner (tseq_inside inner) us (rest_of us) deep (λ p h. tseq-inside-deep p (rest_of us) (after mark.CloseRound (rest_of us)) refl h)
  tseq-by-deep us f = one-type-deep us

  tseq-deep : Always (TypesAtMost (3 + d)) (tseq inner)
  tseq-deep us = tseq-by-deep us (front_of us)

  outputs-deep : (ins : Types) → TypesAtMost (3 + d) ins → Always (SigAtMost (3 + d)) (outputs inner ins)
  outputs-deep ins h us = and-gives (TypesAtMost (3 + d)) (SigAtMost (3 + d)) (tseq inner us) _ (tseq-deep us) (λ x g. sig-at-most (3 + d) (types_of ins) (types_of x.0) h g)

  signature-deep : Always (SigAtMost (3 + d)) (signature inner)
  signature-deep us = and-gives (TypesAtMost (3 + d)) (SigAtMost (3 + d)) (tseq inner us >>= before (after mark.Arrow)) _ (before-gives (TypesAtMost (3 + d)) (after mark.Arrow) (tseq inner us) (tseq-deep us)) (λ x h. outputs-deep x.0 h x.1)

  bracket-from-deep : (ins : Types) → TypesAtMost (3 + d) ins → Always (BracketAtMost (3 + d)) (bracket_from inner ins)
  bracket-from-deep (types.Bare ts) h us = tt
  bracket-from-deep (types.One t) h us = and-gives (All (AtMost (3 + d))) (BracketAtMost (3 + d)) (repeated (after mark.Comma) (product inner) us >>= before (after mark.CloseRound)) _
      (before-gives (All (AtMost (3 + d))) (after mark.CloseRound) (repeated (after mark.Comma) (product inner) us) (repeated-gives (AtMost (3 + d)) (product inner) product-deep (after mark.Comma) us))
      (λ x g. All-cons (AtMost (3 + d)) t x.0 (All-head (AtMost (3 + d)) t [] h) g)

  bracket-by-deep : (ins : Types) (us : List Spot) (o : Option (List Spot)) → TypesAtMost (3 + d) ins → Gives (BracketAtMost (3 + d)) (bracket_by inner ins us o)
  bracket-by-deep ins us (Some vs) h = and-gives (SigAtMost (3 + d)) (BracketAtMost (3 + d)) (outputs inner ins vs >>= before (after mark.CloseRound)) _ (before-gives (SigAtMost (3 + d)) (after mark.CloseRound) (outputs inner ins vs) (outputs-deep ins h vs)) (λ x g. g)
  bracket-by-deep ins us None h = bracket-from-deep ins h us

  in-bracket-deep : Always (BracketAtMost (3 + d)) (in_bracket inner)
  in-bracket-deep us = and-gives (TypesAtMost (3 + d)) (BracketAtMost (3 + d)) (tseq inner us) _ (tseq-deep us) (λ x h. bracket-by-deep x.0 x.1 (after mark.Arrow x.1) h)

bracket-weaker : (j k : ℕ) → j ≤ k → (b : Bracket) → BracketAtMost j b → BracketAtMost k b
bracket-weaker j k le (bracket.Sig s) h = omega arith
bracket-weaker j k le (bracket.Types ts) h = deeper j k ts le h

bracket-gives-weaker : (j k : ℕ) (r : Result (Bracket × List Spot) Fault) → j ≤ k → Gives (BracketAtMost j) r → Gives (BracketAtMost k) r
bracket-gives-weaker j k (Ok x) le h = bracket-weaker j k le x.0 h
bracket-gives-weaker j k (Err f) le h = tt

bracket-deep : (n : ℕ) → Always (BracketAtMost (3 * suc n)) (bracket_at n)
bracket-deep zero us = rw (bracket_level zero us) (bracket-gives-weaker (3 + 0) (3 * 1) (in_bracket None us) (omega arith) (in-bracket-deep None 0 tt us))
bracket-deep (suc n) us = rw (bracket_level (suc n) us) (bracket-gives-weaker (3 + 3 * suc n) (3 * suc (suc n)) (in_bracket (Some (bracket_at n)) us) (omega arith) (in-bracket-deep (Some (bracket_at n)) (3 * suc n) (bracket-deep n) us))

inner-deep : (n : ℕ) → Inside (Always (BracketAtMost (3 * n))) (inner_bracket n)
inner-deep zero = tt
inner-deep (suc n) = bracket-deep n

pub type-deep : (n : ℕ) → Always (AtMost (3 + 3 * n)) (type_at n)
type-deep n = product-deep (inner_bracket n) (3 * n) (inner-deep n)

pub tatom-at-deep : (n : ℕ) → Always (AtMost (2 + 3 * n)) (tatom_at n)
tatom-at-deep n = tatom-deep (inner_bracket n) (3 * n) (inner-deep n)

pub sig-deep : (n : ℕ) → Always (SigAtMost (3 + 3 * n)) (sig_at n)
sig-deep n = signature-deep (inner_bracket n) (3 * n) (inner-deep n)
