-- What holds of the trees that readings give, whatever the tokens; and the greatest of some depths.
use Rattle.std.proofs.Common.{◌≡◌, ℕ, zero, suc, ◌≤◌, List, [], ◌∷◌, length, map, fold, max, refl, arith, Option, Some, None, Result, Ok, Err}
use Rattle.std.specs.Prelude.{All}
use Rattle.std.proofs.Math.Nat.{max-le}
use Rattle.std.proofs.lemmas.List.Elements.{All-cons, All-head, All-map, All-nil, All-tail}
use Rattle.rml_syntax.specs.declared.token.Spot.{Spot}
use Rattle.rml_syntax.specs.declared.token.Mark.{Mark}
use Rattle.rml_syntax.specs.declared.token.Mark.TheVariants as mark
use Rattle.rml_grammar.specs.declared.fault.Fault.{Fault}
use Rattle.rml_grammar.specs.Depths.{deepest}
use Rattle.rml_grammar.specs.Reading.{◌>>=◌, Parser, follows, repeated, separated, then_by, before, enclosed, enclosed_or_none, inside}
use Rattle.rml_grammar.specs.Tokens.{after}
use Rattle.rml_grammar.proofs.Holds.{Holds, and-holds}

-- no greater than each, nor than one before them
fold-at-most : (k a : ℕ) (ns : List ℕ) → a ≤ k → All (λ n. n ≤ k) ns → fold max a ns ≤ k
fold-at-most k a [] le h = le
fold-at-most k a (n ∷ ns) le h = fold-at-most k (max a n) ns (max-le le (All-head (λ n. n ≤ k) n ns h)) (All-tail (λ n. n ≤ k) n ns h)

pub deepest-at-most : {A : Type 0} (k : ℕ) (depth : A → ℕ) (xs : List A) → All (λ x. depth x ≤ k) xs → deepest (map depth xs) ≤ k
deepest-at-most k depth xs h = fold-at-most k 0 (map depth xs) (omega arith) (All-map (λ n. n ≤ k) depth xs h)

-- P holds of what is read
abbrev pub Gives : {A : Type 0} → (A → Type 0) → Result (A × List Spot) Fault → Type 0
Gives P r = Holds (λ x. P x.0) r

abbrev pub GivesAll : {A : Type 0} → (A → Type 0) → Result (List A × List Spot) Fault → Type 0
GivesAll P r = Gives (All P) r

-- and so of all that p reads
abbrev pub Always : {A : Type 0} → (A → Type 0) → Parser A → Type 0
Always P p = (us : List Spot) → Gives P (p us)

abbrev pub Whatever : {A : Type 0} → A → Type 0
Whatever x = Unit {0}

pub anything : {A : Type 0} (r : Result (A × List Spot) Fault) → Gives Whatever r
anything (Ok x) = tt
anything (Err f) = tt

pub and-gives : {A B : Type 0} (P : A → Type 0) (Q : B → Type 0) (r : Result (A × List Spot) Fault) (f : A × List Spot → Result (B × List Spot) Fault) → Gives P r
    → ((x : A × List Spot) → P x.0 → Gives Q (f x)) → Gives Q (r >>= f)
and-gives P Q r f h g = and-holds (λ x. P x.0) (λ y. Q y.0) r f h g

pub then-gives : {A : Type 0} (P : A → Type 0) (x : A) (us : List Spot) (o : Option (List Spot)) → P x → Gives P (then_by x us o)
then-gives P x us None h = tt
then-gives P x us (Some vs) h = h

pub before-gives : {A : Type 0} (P : A → Type 0) (o : List Spot → Option (List Spot)) (r : Result (A × List Spot) Fault) → Gives P r → Gives P (r >>= before o)
before-gives P o r h = and-gives P P r (before o) h (λ x p. then-gives P x.0 x.1 (o x.1) p)

-- of what may stand inside a bracket, where one may open
abbrev pub Inside : {X : Type 0} → (X → Type 0) → Option X → Type 0
Inside Q None = Unit {0}
Inside Q (Some x) = Q x

pub inside-gives : {X B : Type 0} (Q : X → Type 0) (P : B → Type 0) (i : Option X) (q : X → Parser B) (us vs : List Spot) → Inside Q i → ((a : X) → Q a → Gives P (q a vs)) → Gives P (inside i q us vs)
inside-gives Q P None q us vs h f = tt
inside-gives Q P (Some a) q us vs h f = f a h

module _ {A : Type 0} (P : A → Type 0) (p : Parser A) (each : Always P p) where
  module _ (o : List Spot → Option (List Spot)) where
    turn-gives : (k : ℕ) (us : List Spot) (next : Option (List Spot)) → o us ≡ next → ((vs : List Spot) → GivesAll P (follows o p k vs)) → GivesAll P (follows o p (suc k) us)
    turn-gives k us None e again = rw (e, follows) (All-nil P)
    turn-gives k us (Some vs) e again = rw (e, follows)
        (and-gives P (All P) (p vs) _ (each vs) (λ x h. and-gives (All P) (All P) (follows o p k x.1) _ (again x.1) (λ y g. All-cons P x.0 y.0 h g)))

    follows-gives : (k : ℕ) (us : List Spot) → GivesAll P (follows o p k us)
    follows-gives zero us = All-nil P
    follows-gives (suc k) us = turn-gives k us (o us) refl (λ vs. follows-gives k vs)

    pub repeated-gives : Always (All P) (repeated o p)
    repeated-gives us = follows-gives (length us) us

    pub separated-gives : Always (All P) (separated o p)
    separated-gives us = and-gives P (All P) (p us) _ (each us) (λ x h. and-gives (All P) (All P) (repeated o p x.1) _ (repeated-gives x.1) (λ y g. All-cons P x.0 y.0 h g))

  pub enclosed-gives : (m : Mark) → Always (All P) (enclosed m p)
  enclosed-gives m us = before-gives (All P) (after m) (separated (after mark.Comma) p us) (separated-gives (after mark.Comma) us)

  or-none-by : (m : Mark) (us : List Spot) (next : Option (List Spot)) → after m us ≡ next → GivesAll P (enclosed_or_none m p us)
  or-none-by m us None e = rw (e, enclosed_or_none) (enclosed-gives m us)
  or-none-by m us (Some vs) e = rw (e, enclosed_or_none) (All-nil P)

  pub or-none-gives : (m : Mark) → Always (All P) (enclosed_or_none m p)
  or-none-gives m us = or-none-by m us (after m us) refl
