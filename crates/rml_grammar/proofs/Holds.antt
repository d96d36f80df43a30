-- What holds of whatever a reading gives: readings joined, and repeated.
use Rattle.std.proofs.Common.{◌≡◌, ℕ, zero, suc, ◌<◌, ◌≤◌, List, [], ◌∷◌, length, refl, ap, arith, Option, Some, None, Result, Ok, Err}
use Rattle.rml_base.specs.declared.place.Place.{Place}
use Rattle.rml_syntax.specs.declared.token.Spot.{Spot}
use Rattle.rml_syntax.specs.declared.token.Token.{Token}
use Rattle.rml_syntax.specs.declared.token.Token.TheVariants as token
use Rattle.rml_syntax.specs.declared.token.Mark.{Mark}
use Rattle.rml_syntax.specs.declared.token.Mark.TheVariants as mark
use Rattle.rml_syntax.specs.declared.token.Key.{Key}
use Rattle.rml_grammar.specs.declared.fault.Fault.{Fault}
use Rattle.rml_grammar.specs.Tokens.{named, sign, word, after, after_word}
use Rattle.rml_grammar.specs.Reading.{◌>>=◌, Parser, follows, repeated, separated, before, name_at, name_in, qualified, long_at}
use Rattle.rml_grammar.specs.SpelledNames.{IsLong, alone, dotted}
use Rattle.rml_grammar.proofs.Views.{Has, has, there, lacking, same-sign, HasWord, has-word, said, unsaid, same-word}

abbrev pub Holds : {X : Type 0} → (X → Type 0) → Result X Fault → Type 0
Holds P (Ok x) = P x
Holds P (Err f) = Unit {0}

pub and-holds : {X Y : Type 0} (P : X → Type 0) (Q : Y → Type 0) (r : Result X Fault) (f : X → Result Y Fault) → Holds P r → ((x : X) → P x → Holds Q (f x)) → Holds Q (r >>= f)
and-holds P Q (Ok x) f h g = g x h
and-holds P Q (Err e) f h g = tt

-- a reading gives what R says
abbrev pub Reads : {A : Type 0} → (List Spot → A → List Spot → Type 0) → List Spot → Result (A × List Spot) Fault → Type 0
Reads R us r = Holds (λ x. R us x.0 x.1) r

-- and then a sign or a word
sign-by : {X : Type 0} (m : Mark) (Q : X × List Spot → Type 0) (x : X) (vs : List Spot) → Has m vs → ((p : Place) (ws : List Spot) → vs ≡ sign m p ∷ ws → Q (x, ws)) → Holds Q (before (after m) (x, vs))
sign-by m Q x vs (there {p} {us}) h = rw (same-sign m p us) (h p us refl)
sign-by m Q x vs (lacking e) h = rw e tt

pub sign-holds : {X : Type 0} (m : Mark) (Q : X × List Spot → Type 0) (x : X) (vs : List Spot) → ((p : Place) (ws : List Spot) → vs ≡ sign m p ∷ ws → Q (x, ws)) → Holds Q (before (after m) (x, vs))
sign-holds m Q x vs h = sign-by m Q x vs (has m vs) h

name-in : (t : Token) (p : Place) (us : List Spot) → Holds (λ x. record { token = t; place = p } ∷ us ≡ named x.0.0 x.0.1 ∷ x.1) (name_in (record { token = t; place = p } ∷ us) t p us)
name-in (token.Name n) p us = refl
name-in (token.Word k) p us = tt
name-in (token.TyVar v) p us = tt
name-in (token.Lit l) p us = tt
name-in (token.Sign m) p us = tt
name-in (token.Dashes n) p us = tt

pub name-sound : (us : List Spot) → Holds (λ x. us ≡ named x.0.0 x.0.1 ∷ x.1) (name_at us)
name-sound [] = tt
name-sound (s ∷ us) = name-in s.token s.place us

dot-sound : (n : ℕ) (p : Place) (vs : List Spot) → Has mark.Dot vs → Reads IsLong (named n p ∷ vs) (qualified (n, p) vs (after mark.Dot vs))
dot-sound n p vs (there {p = q} {us}) = and-holds (λ y. us ≡ named y.0.0 y.0.1 ∷ y.1) (λ y. IsLong (named n p ∷ sign mark.Dot q ∷ us) y.0 y.1) (name_at us) _ (name-sound us) (λ y e. rw e dotted)
dot-sound n p vs (lacking e) = rw e (alone e)

pub long-sound : (us : List Spot) → Reads IsLong us (long_at us)
unfolding long_at
long-sound us = and-holds (λ y. us ≡ named y.0.0 y.0.1 ∷ y.1) (λ y. IsLong us y.0 y.1) (name_at us) _ (name-sound us) (λ y e. rw e (dot-sound y.0.0 y.0.1 y.1 (has mark.Dot y.1)))

-- repeated readings give what Rs says
module _ {A : Type 0} (opens : List Spot → Option (List Spot)) (p : Parser A) (Rs : List Spot → List A → List Spot → Type 0) (empty : opens [] ≡ None)
    (stop : (us : List Spot) → opens us ≡ None → Rs us [] us)
    (turn : (us vs : List Spot) → opens us ≡ Some vs → Holds (λ x. (length x.1 < length us) × ((ts : List A) (rest : List Spot) → Rs x.1 ts rest → Rs us (x.0 ∷ ts) rest)) (p vs)) where
  none-left : (us : List Spot) → length us ≤ 0 → opens us ≡ None
  none-left [] le = empty
  none-left (s ∷ us) le = absurd (omega arith)

  turns-by : (k : ℕ) (us : List Spot) (o : Option (List Spot)) → opens us ≡ o → length us ≤ suc k → ((vs : List Spot) → length vs ≤ k → Reads Rs vs (follows opens p k vs)) → Reads Rs us (follows opens p (suc k) us)
  turns-by k us None e le again = rw (e, follows) (stop us e)
  turns-by k us (Some vs) e le again = rw (e, follows)
      (and-holds (λ x. (length x.1 < length us) × ((ts : List A) (rest : List Spot) → Rs x.1 ts rest → Rs us (x.0 ∷ ts) rest)) (λ y. Rs us y.0 y.1) (p vs) _ (turn us vs e)
      (λ x h. and-holds (λ y. Rs x.1 y.0 y.1) (λ y. Rs us y.0 y.1) (follows opens p k x.1) _ (again x.1 (let a = h.0 in omega arith)) (λ y g. h.1 y.0 y.1 g)))

  pub follows-sound : (k : ℕ) (us : List Spot) → length us ≤ k → Reads Rs us (follows opens p k us)
  follows-sound zero us le = stop us (none-left us le)
  follows-sound (suc k) us le = turns-by k us (opens us) refl le (λ vs h. follows-sound k vs h)

  pub repeated-sound : (us : List Spot) → Reads Rs us (repeated opens p us)
  repeated-sound us = follows-sound (length us) us (omega arith)

pub holds-map : {X : Type 0} (P Q : X → Type 0) (r : Result X Fault) → Holds P r → ((x : X) → P x → Q x) → Holds Q r
holds-map P Q (Ok x) h g = g x h
holds-map P Q (Err e) h g = tt

pub opened : (m : Mark) (us vs : List Spot) → Has m us → after m us ≡ Some vs → (p : Place) × (us ≡ sign m p ∷ vs)
opened m us vs (there {p} {us = ws}) e = let q : ws ≡ vs = cc (same-sign m p ws) in (p, ap (λ (xs : List Spot). sign m p ∷ xs) q)
opened m us vs (lacking n) e = absurd (cc)

-- {s p}, as a relation T of two cases
module _ {A : Type 0} (m : Mark) (p : Parser A) (R : List Spot → A → List Spot → Type 0) (T : List Spot → List A → List Spot → Type 0)
    (none : (us : List Spot) → after m us ≡ None → T us [] us)
    (more : (q : Place) (us vs rest : List Spot) (t : A) (ts : List A) → R us t vs → T vs ts rest → T (sign m q ∷ us) (t ∷ ts) rest)
    (short : (us rest : List Spot) (t : A) → R us t rest → length rest ≤ length us)
    (sound : (us : List Spot) → Reads R us (p us)) where
  one-turn : (us vs : List Spot) → after m us ≡ Some vs → Holds (λ x. (length x.1 < length us) × ((ts : List A) (rest : List Spot) → T x.1 ts rest → T us (x.0 ∷ ts) rest)) (p vs)
  one-turn us vs e =
      let o = opened m us vs (has m us) e in
      holds-map (λ x. R vs x.0 x.1) (λ x. (length x.1 < length us) × ((ts : List A) (rest : List Spot) → T x.1 ts rest → T us (x.0 ∷ ts) rest)) (p vs) (sound vs)
      (λ x r. (let h = short vs x.1 x.0 r in let l = ap length o.1 in omega arith, λ ts rest g. rw o.1 (more o.0 vs x.1 rest x.0 ts r g)))

  pub tail-sound : (us : List Spot) → Reads T us (repeated (after m) p us)
  tail-sound = repeated-sound (after m) p T refl none one-turn

  -- p {s p}
  pub separated-sound : (L : List Spot → List A → List Spot → Type 0) → ((us vs rest : List Spot) (t : A) (ts : List A) → R us t vs → T vs ts rest → L us (t ∷ ts) rest) → (us : List Spot) → Reads L us (separated (after m) p us)
  separated-sound L join us = and-holds (λ x. R us x.0 x.1) (λ y. L us y.0 y.1) (p us) _ (sound us)
      (λ x r. and-holds (λ y. T x.1 y.0 y.1) (λ y. L us y.0 y.1) (repeated (after m) p x.1) _ (tail-sound x.1) (λ y g. join us x.1 y.1 x.0 y.0 r g))

-- the same for words
word-by : {X : Type 0} (k : Key) (Q : X × List Spot → Type 0) (x : X) (vs : List Spot) → HasWord k vs → ((p : Place) (ws : List Spot) → vs ≡ word k p ∷ ws → Q (x, ws)) → Holds Q (before (after_word k) (x, vs))
word-by k Q x vs (said {p} {us}) h = rw (same-word k p us) (h p us refl)
word-by k Q x vs (unsaid e) h = rw e tt

pub word-holds : {X : Type 0} (k : Key) (Q : X × List Spot → Type 0) (x : X) (vs : List Spot) → ((p : Place) (ws : List Spot) → vs ≡ word k p ∷ ws → Q (x, ws)) → Holds Q (before (after_word k) (x, vs))
word-holds k Q x vs h = word-by k Q x vs (has-word k vs) h

pub told : (k : Key) (us vs : List Spot) → HasWord k us → after_word k us ≡ Some vs → (p : Place) × (us ≡ word k p ∷ vs)
told k us vs (said {p} {us = ws}) e = let q : ws ≡ vs = cc (same-word k p ws) in (p, ap (λ (xs : List Spot). word k p ∷ xs) q)
told k us vs (unsaid n) e = absurd (cc)
