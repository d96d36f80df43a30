-- Readings that give what they should, or meet a limit.
use Rattle.std.proofs.Common.{◌≡◌, ℕ, zero, suc, ◌-◌, ◌<◌, ◌≤◌, List, [], ◌∷◌, length, refl, arith, Option, Some, None, Result, Ok, Err}
use Rattle.rml_base.specs.declared.place.Place.{Place}
use Rattle.rml_syntax.specs.declared.token.Spot.{Spot}
use Rattle.rml_syntax.specs.declared.token.Key.{Key}
use Rattle.rml_syntax.specs.declared.token.Mark.{Mark}
use Rattle.rml_syntax.specs.declared.rules.Long.{Long}
use Rattle.rml_grammar.specs.declared.front.Front.TheVariants as front
use Rattle.rml_grammar.specs.declared.fault.Fault.{Fault}
use Rattle.rml_grammar.specs.Tokens.{word, sign, after, after_word, front_of}
use Rattle.rml_grammar.specs.Reading.{◌>>=◌, Parser, follows, repeated, separated, before, long_at}
use Rattle.rml_grammar.specs.Laws.{Agrees}
use Rattle.rml_grammar.specs.SpelledNames.{IsLong, alone, dotted}
use Rattle.rml_grammar.proofs.Views.{same-sign, same-word}
use Rattle.rml_grammar.proofs.Holds.{Holds}

pub and-agrees : {X Y : Type 0} (r : Result X Fault) (f : X → Result Y Fault) (x : X) (y : Y) → Agrees r x → Agrees (f x) y → Agrees (r >>= f) y
and-agrees (Ok z) f x y e h = rw e h
and-agrees (Err g) f x y e h = e

pub agrees-is : {X : Type 0} (r : Result X Fault) (x : X) → r ≡ Ok x → Agrees r x
agrees-is r x e = rw e refl

-- what is given is all that there is
pub only-one : {X : Type 0} (P Q : X → Type 0) (r : Result X Fault) → Holds P r → ((y : X) → Q y → Agrees r y) → Holds (λ x. P x × ((y : X) → Q y → x ≡ y)) r
only-one P Q (Ok x) h g = (h, g)
only-one P Q (Err f) h g = tt

pub long-complete : {us rest : List Spot} {l : Long} → IsLong us l rest → long_at us ≡ Ok (l, rest)
unfolding long_at
long-complete (alone e) = rw e refl
long-complete dotted = refl

pub long-front : {us rest : List Spot} {l : Long} → IsLong us l rest → front_of us ≡ front.Named
long-front (alone e) = refl
long-front dotted = refl

pub sign-agrees : {X : Type 0} (m : Mark) (x : X) (q : Place) (vs : List Spot) → before (after m) (x, sign m q ∷ vs) ≡ Ok (x, vs)
sign-agrees m x q vs = rw (same-sign m q vs) refl

pub before-agrees : {X : Type 0} (m : Mark) (q : Place) (r : Result (X × List Spot) Fault) (x : X) (vs : List Spot) → Agrees r (x, sign m q ∷ vs) → Agrees (r >>= before (after m)) (x, vs)
before-agrees m q r x vs h = and-agrees r (before (after m)) (x, sign m q ∷ vs) (x, vs) h (agrees-is _ (x, vs) (sign-agrees m x q vs))

word-agrees : {X : Type 0} (k : Key) (x : X) (q : Place) (vs : List Spot) → before (after_word k) (x, word k q ∷ vs) ≡ Ok (x, vs)
word-agrees k x q vs = rw (same-word k q vs) refl

pub before-word : {X : Type 0} (k : Key) (q : Place) (r : Result (X × List Spot) Fault) (x : X) (vs : List Spot) → Agrees r (x, word k q ∷ vs) → Agrees (r >>= before (after_word k)) (x, vs)
before-word k q r x vs h = and-agrees r (before (after_word k)) (x, word k q ∷ vs) (x, vs) h (agrees-is _ (x, vs) (word-agrees k x q vs))

module _ {A : Type 0} (opens : List Spot → Option (List Spot)) (p : Parser A) where
  follow-none : (k : ℕ) (us : List Spot) → opens us ≡ None → follows opens p k us ≡ Ok ([], us)
  follow-none zero us e = refl
  follow-none (suc k) us e = rw (e, follows) refl

  follow-more : (k : ℕ) (us vs : List Spot) → opens us ≡ Some vs → follows opens p (suc k) us ≡ (p vs >>= λ x. follows opens p k x.1 >>= λ xs. Ok (x.0 ∷ xs.0, xs.1))
  follow-more k us vs e = rw (e, follows) refl

  pub tail-none : (k : ℕ) (us : List Spot) → opens us ≡ None → Agrees (follows opens p k us) ([], us)
  tail-none k us e = agrees-is (follows opens p k us) ([], us) (follow-none k us e)

  pub tail-more : (k : ℕ) (us vs ws rest : List Spot) (t : A) (ts : List A) → opens us ≡ Some vs → length us ≤ k → 0 < length us → Agrees (p vs) (t, ws) → ((j : ℕ) → k ≡ suc j → Agrees (follows opens p j ws) (ts, rest)) → Agrees (follows opens p k us) (t ∷ ts, rest)
  tail-more k us vs ws rest t ts e le some first others =
      let j = k - 1 in
      let is : k ≡ suc j = omega arith in
      rw (is, follow-more j us vs e) (and-agrees (p vs) _ (t, ws) (t ∷ ts, rest) first (and-agrees (follows opens p j ws) _ (ts, rest) (t ∷ ts, rest) (others j is) refl))

  pub separated-agrees : (us vs rest : List Spot) (t : A) (ts : List A) → Agrees (p us) (t, vs) → Agrees (repeated opens p vs) (ts, rest) → Agrees (separated opens p us) (t ∷ ts, rest)
  separated-agrees us vs rest t ts first others = and-agrees (p us) _ (t, vs) (t ∷ ts, rest) first (and-agrees (repeated opens p vs) _ (ts, rest) (t ∷ ts, rest) others refl)
