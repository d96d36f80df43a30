-- Two readings with other limits, the second with larger ones: they give the same, or are refused at the same token, or
-- the first meets a limit, at which the second goes on.
use Rattle.std.proofs.Common.{◌≡◌, ℕ, zero, suc, ◌<◌, ◌≤◌, List, [], ◌∷◌, length, refl, ap, arith, Option, Some, None, Result, Ok, Err}
use Rattle.rml_base.specs.declared.place.Place.{Place}
use Rattle.rml_syntax.specs.declared.token.Spot.{Spot}
use Rattle.rml_syntax.specs.declared.token.Token.{Token}
use Rattle.rml_syntax.specs.declared.token.Token.TheVariants as token
use Rattle.rml_syntax.specs.declared.token.Key.{Key}
use Rattle.rml_syntax.specs.declared.token.Mark.{Mark}
use Rattle.rml_syntax.specs.declared.token.Mark.TheVariants as mark
use Rattle.rml_grammar.specs.declared.fault.Fault.{Fault}
use Rattle.rml_grammar.specs.declared.fault.ParseKind.TheVariants as kind
use Rattle.rml_grammar.specs.Laws.{IsLimit}
use Rattle.rml_grammar.specs.Tokens.{after, after_word}
use Rattle.rml_grammar.specs.Reading.{◌>>=◌, Parser, follows, repeated, separated, before, enclosed, enclosed_or_none, inside, name_at, name_in, qualified, long_at}
use Rattle.rml_grammar.proofs.Fine.{Within, Fine}
use Rattle.rml_grammar.proofs.Views.{Has, has, there, lacking, same-sign, HasWord, has-word, said, unsaid, same-word}
use Rattle.rml_grammar.proofs.Holds as holds

-- fewer than n tokens are left
abbrev pub Past : {A : Type 0} → ℕ → Result (A × List Spot) Fault → Type 0
Past n (Ok y) = length y.1 < n
Past n (Err f) = f.left < n

pub data Steps (n : ℕ) {A : Type 0} : Result (A × List Spot) Fault → Result (A × List Spot) Fault → Type 0 where
  same : {y : A × List Spot} → length y.1 ≤ n → Steps n (Ok y) (Ok y)
  alike : {left : ℕ} → left ≤ n → Steps n (Err (record { kind = kind.Unexpected; left = left })) (Err (record { kind = kind.Unexpected; left = left }))
  passed : {f : Fault} {s : Result (A × List Spot) Fault} → IsLimit f.kind → Past f.left s → f.left ≤ n → Steps n (Err f) s

past-within : {A : Type 0} (m n : ℕ) (s : Result (A × List Spot) Fault) → Past m s → m ≤ n → Within n s
past-within m n (Ok y) p l = omega arith
past-within m n (Err f) p l = omega arith

pub within-past : {A : Type 0} (m n : ℕ) (s : Result (A × List Spot) Fault) → Within m s → m < n → Past n s
within-past m n (Ok y) p l = omega arith
within-past m n (Err f) p l = omega arith

pub steps-within : {n : ℕ} {A : Type 0} {r s : Result (A × List Spot) Fault} → Steps n r s → Within n s
steps-within (same l) = l
steps-within (alike l) = l
steps-within {n} (passed {f} {s} i p l) = past-within f.left n s p l

pub weaker : {m n : ℕ} {A : Type 0} {r s : Result (A × List Spot) Fault} → m ≤ n → Steps m r s → Steps n r s
weaker le (same l) = same (omega arith)
weaker le (alike l) = alike (omega arith)
weaker le (passed i p l) = passed i p (omega arith)

pub and-steps : {n : ℕ} {A B : Type 0} {r s : Result (A × List Spot) Fault} {f g : A × List Spot → Result (B × List Spot) Fault} → Steps n r s → ((y : A × List Spot) → Steps (length y.1) (f y) (g y)) → Steps n (r >>= f) (s >>= g)
and-steps (same {y} l) h = weaker l (h y)
and-steps (alike l) h = alike l
and-steps {g} (passed {f = e} {s = Ok y} i p l) h = passed i (within-past (length y.1) e.left (g y) (steps-within (h y)) p) l
and-steps (passed {s = Err e} i p l) h = passed i p l

pub end-steps : {A : Type 0} {y : A × List Spot} → Steps (length y.1) (Ok y) (Ok y)
end-steps {y} = let l : length y.1 ≤ length y.1 = omega arith in same l

pub unexpected-steps : {n : ℕ} {A : Type 0} → Steps n {A = A} (Err (record { kind = kind.Unexpected; left = n })) (Err (record { kind = kind.Unexpected; left = n }))
unexpected-steps {n} = let l : n ≤ n = omega arith in alike l

pub skip : {n : ℕ} {A : Type 0} {r s : Result (A × List Spot) Fault} → Steps n r s → Steps (suc n) r s
skip {n} h = let l : n ≤ suc n = omega arith in weaker l h

-- p with the smaller limits, q with the larger
abbrev pub Climbs : {A : Type 0} → Parser A → Parser A → Type 0
Climbs p q = (us : List Spot) → Steps (length us) (p us) (q us)

sign-by : {A : Type 0} (m : Mark) (x : A) (vs : List Spot) → Has m vs → Steps (length vs) (before (after m) (x, vs)) (before (after m) (x, vs))
sign-by m x vs (there {p} {us}) = rw (same-sign m p us) (skip end-steps)
sign-by m x vs (lacking e) = rw e unexpected-steps

pub sign-steps : {A : Type 0} (m : Mark) (x : A × List Spot) → Steps (length x.1) (before (after m) x) (before (after m) x)
sign-steps m x = sign-by m x.0 x.1 (has m x.1)

word-by : {A : Type 0} (k : Key) (x : A) (vs : List Spot) → HasWord k vs → Steps (length vs) (before (after_word k) (x, vs)) (before (after_word k) (x, vs))
word-by k x vs (said {p} {us}) = rw (same-word k p us) (skip end-steps)
word-by k x vs (unsaid e) = rw e unexpected-steps

pub word-steps : {A : Type 0} (k : Key) (x : A × List Spot) → Steps (length x.1) (before (after_word k) x) (before (after_word k) x)
word-steps k x = word-by k x.0 x.1 (has-word k x.1)

pub sign-shorter : (m : Mark) (us vs : List Spot) → after m us ≡ Some vs → length vs ≤ length us
sign-shorter m us vs e = let o = holds.opened m us vs (has m us) e in omega (arith, ap length o.1)

pub word-shorter : (k : Key) (us vs : List Spot) → after_word k us ≡ Some vs → length vs ≤ length us
word-shorter k us vs e = let o = holds.told k us vs (has-word k us) e in omega (arith, ap length o.1)

module _ {A : Type 0} (opens : List Spot → Option (List Spot)) (p q : Parser A)
    (shorter : (us vs : List Spot) → opens us ≡ Some vs → length vs ≤ length us) (climbs : Climbs p q) where
  turns-by : (k : ℕ) (us : List Spot) (o : Option (List Spot)) → opens us ≡ o → ((vs : List Spot) → Steps (length vs) (follows opens p k vs) (follows opens q k vs)) → Steps (length us) (follows opens p (suc k) us) (follows opens q (suc k) us)
  turns-by k us None e again = rw (e, follows) end-steps
  turns-by k us (Some vs) e again = rw (e, follows) (weaker (shorter us vs e) (and-steps (climbs vs) (λ x. and-steps (again x.1) (λ y. end-steps))))

  follows-climb : (k : ℕ) → Climbs (follows opens p k) (follows opens q k)
  follows-climb zero us = end-steps
  follows-climb (suc k) us = turns-by k us (opens us) refl (follows-climb k)

  pub repeated-climbs : Climbs (repeated opens p) (repeated opens q)
  repeated-climbs us = follows-climb (length us) us

  pub separated-climbs : Climbs (separated opens p) (separated opens q)
  separated-climbs us = and-steps (climbs us) (λ x. and-steps (repeated-climbs x.1) (λ y. end-steps))

pub signs-climb : {A : Type 0} (m : Mark) (p q : Parser A) → Climbs p q → Climbs (separated (after m) p) (separated (after m) q)
signs-climb m p q h = separated-climbs (after m) p q (sign-shorter m) h

pub more-climb : {A : Type 0} (m : Mark) (p q : Parser A) → Climbs p q → Climbs (repeated (after m) p) (repeated (after m) q)
more-climb m p q h = repeated-climbs (after m) p q (sign-shorter m) h

pub enclosed-climbs : {A : Type 0} (m : Mark) (p q : Parser A) → Climbs p q → Climbs (enclosed m p) (enclosed m q)
enclosed-climbs m p q h us = and-steps (signs-climb mark.Comma p q h us) (λ x. sign-steps m x)

none-by : {A : Type 0} (m : Mark) (p q : Parser A) → Climbs p q → (us : List Spot) → Has m us → Steps (length us) (enclosed_or_none m p us) (enclosed_or_none m q us)
none-by m p q h us (there {p = o} {us = vs}) = rw (same-sign m o vs, enclosed_or_none) (skip end-steps)
none-by m p q h us (lacking e) = rw (e, enclosed_or_none) (enclosed-climbs m p q h us)

pub or-none-climbs : {A : Type 0} (m : Mark) (p q : Parser A) → Climbs p q → Climbs (enclosed_or_none m p) (enclosed_or_none m q)
or-none-climbs m p q h us = none-by m p q h us (has m us)

-- what is read one bracket further in, with one bracket more at least
pub data Higher {A : Type 0} : Option (Parser A) → Option (Parser A) → Type 0 where
  first : {q : Parser A} → Fine q → Higher None (Some q)
  further : {p q : Parser A} → Climbs p q → Higher (Some p) (Some q)

pub inside-steps : {A B : Type 0} {i j : Option (Parser A)} (s : Spot) (us : List Spot) (f g : Parser A → Parser B) → Higher i j → ((q : Parser A) → Fine q → Within (length us) (g q us)) → ((p q : Parser A) → Climbs p q → Steps (length us) (f p us) (g q us)) → Steps (length (s ∷ us)) (inside i f (s ∷ us) us) (inside j g (s ∷ us) us)
inside-steps s us f g (first {q} w) fine h = passed tt (within-past (length us) (suc (length us)) (g q us) (fine q w) (omega arith)) (omega arith)
inside-steps s us f g (further {p} {q} c) fine h = skip (h p q c)

name-in : (t : Token) (p : Place) (us : List Spot) → Steps (length (record { token = t; place = p } ∷ us)) (name_in (record { token = t; place = p } ∷ us) t p us) (name_in (record { token = t; place = p } ∷ us) t p us)
name-in (token.Name n) p us = skip end-steps
name-in (token.Word k) p us = unexpected-steps
name-in (token.TyVar v) p us = unexpected-steps
name-in (token.Lit l) p us = unexpected-steps
name-in (token.Sign m) p us = unexpected-steps
name-in (token.Dashes n) p us = unexpected-steps

pub name-climbs : Climbs name_at name_at
name-climbs [] = unexpected-steps
name-climbs (s ∷ us) = name-in s.token s.place us

dot-steps : (n : ℕ × Place) (us : List Spot) → Has mark.Dot us → Steps (length us) (qualified n us (after mark.Dot us)) (qualified n us (after mark.Dot us))
dot-steps n us (there {us = vs}) = skip (and-steps (name-climbs vs) (λ y. end-steps))
dot-steps n us (lacking e) = rw e end-steps

pub long-climbs : Climbs long_at long_at
unfolding long_at
long-climbs us = and-steps (name-climbs us) (λ x. dot-steps x.0 x.1 (has mark.Dot x.1))
