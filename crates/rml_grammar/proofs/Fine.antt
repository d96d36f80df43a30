-- Readings that decide what they decide before a token alike, whatever follows that token.
use Rattle.std.proofs.Common.{◌≡◌, ℕ, zero, suc, ◌<◌, ◌≤◌, true, false, Bool, List, [], ◌∷◌, ◌++◌, length, refl, ap, arith, Option, Some, None, Result, Ok, Err, ◌⊎◌, inl, inr}
use Rattle.std.proofs.Math.ListN.{length-append}
use Rattle.std.specs.Prelude.{if◌then◌else◌}
use denote.Enum.Bare.{sameb}
use Rattle.rml_base.specs.declared.place.Place.{Place}
use Rattle.rml_syntax.specs.declared.token.Spot.{Spot}
use Rattle.rml_syntax.specs.declared.token.Token.{Token}
use Rattle.rml_syntax.specs.declared.token.Token.TheVariants as token
use Rattle.rml_syntax.specs.declared.token.Key.{Key}
use Rattle.rml_syntax.specs.declared.token.Mark.{Mark}
use Rattle.rml_syntax.specs.declared.token.Mark.TheVariants as mark
use Rattle.rml_syntax.specs.contracts.token.Mark as marks
use Rattle.rml_syntax.specs.contracts.token.Key as keys
use Rattle.rml_grammar.specs.declared.front.Front.{Front}
use Rattle.rml_grammar.specs.declared.front.Opening.{Opening}
use Rattle.rml_grammar.specs.declared.fault.Fault.{Fault}
use Rattle.rml_grammar.specs.declared.fault.ParseKind.{ParseKind}
use Rattle.rml_grammar.specs.Tokens.{sign, word, after, after_word, front_of, opening_of, rest_of}
use Rattle.rml_grammar.specs.Reading.{◌>>=◌, Parser, refused, follows, repeated, separated, then_by, before, enclosed, enclosed_or_none, inside, name_at, name_in, qualified, long_at}
use Rattle.rml_grammar.specs.Trees.{short, within}
use Rattle.rml_grammar.proofs.Holds.{Holds}
use Rattle.rml_grammar.proofs.Views.{Has, has, there, lacking, HasWord, has-word, said, unsaid, same-sign, same-word}

-- no more than n tokens are left
abbrev pub Within : {A : Type 0} → ℕ → Result (A × List Spot) Fault → Type 0
Within n (Ok y) = length y.1 ≤ n
Within n (Err f) = f.left ≤ n

pub within-more : {A : Type 0} (m n : ℕ) (r : Result (A × List Spot) Fault) → m ≤ n → Within m r → Within n r
within-more m n (Ok y) le h = omega arith
within-more m n (Err f) le h = omega arith

pub bind-within : {A B : Type 0} (n : ℕ) (r : Result (A × List Spot) Fault) (f : A × List Spot → Result (B × List Spot) Fault) → Within n r → ((y : A × List Spot) → length y.1 ≤ n → Within n (f y)) → Within n (r >>= f)
bind-within n (Ok y) f h g = g y h
bind-within n (Err e) f h g = h

within-holds : {A : Type 0} (n : ℕ) (r : Result (A × List Spot) Fault) → Within n r → Holds (λ z. length z.1 < suc n) r
within-holds n (Ok y) h = omega arith
within-holds n (Err f) h = tt

abbrev with_left : Fault → ℕ → Fault
with_left f n = record { kind = f.kind; left = n }

module _ (x : Spot) (tail other : List Spot) where
  -- what is decided before x is decided so whatever follows x
  abbrev pub Keeps : {A : Type 0} → Result (A × List Spot) Fault → Result (A × List Spot) Fault → Type 0
  Keeps (Ok y) r = ((d : List Spot) × (y.1 ≡ d ++ x ∷ tail) × (r ≡ Ok (y.0, d ++ x ∷ other))) ⊎ (length y.1 ≤ length tail)
  Keeps (Err f) r = ((d : List Spot) × (f.left ≡ length (d ++ x ∷ tail)) × (r ≡ Err (with_left f (length (d ++ x ∷ other))))) ⊎ (f.left ≤ length tail)

  pub late : {A : Type 0} (r s : Result (A × List Spot) Fault) → Within (length tail) r → Keeps r s
  late (Ok y) s h = inr h
  late (Err f) s h = inr h

  pub bind-keeps : {A B : Type 0} (P : A × List Spot → Type 0) (r s : Result (A × List Spot) Fault) (f g : A × List Spot → Result (B × List Spot) Fault) → Keeps r s → Holds P r
      → ((y : A × List Spot) → length y.1 ≤ length tail → Within (length tail) (f y))
      → ((a : A) (d : List Spot) → P (a, d ++ x ∷ tail) → Keeps (f (a, d ++ x ∷ tail)) (g (a, d ++ x ∷ other)))
      → Keeps (r >>= f) (s >>= g)
  bind-keeps P (Ok y) s f g (inl k) h shrinks keeps = rw k.2 (let e : y ≡ (y.0, k.0 ++ x ∷ tail) = ap (λ r. (y.0, r)) k.1 in rw e (keeps y.0 k.0 (rw e at h)))
  bind-keeps P (Ok y) s f g (inr k) h shrinks keeps = late (f y) (s >>= g) (shrinks y k)
  bind-keeps P (Err e) s f g (inl k) h shrinks keeps = inl (k.0, k.1, rw k.2 refl)
  bind-keeps P (Err e) s f g (inr k) h shrinks keeps = inr k

-- a reading that leaves no more than there was, and keeps
pub record Fine {A : Type 0} (p : Parser A) : Type 0 where
  pub within : (us : List Spot) → Within (length us) (p us)
  pub keeps : (x : Spot) (tail other c : List Spot) → Keeps x tail other (p (c ++ x ∷ tail)) (p (c ++ x ∷ other))

anything : {X : Type 0} (r : Result X Fault) → Holds (λ z. Unit {0}) r
anything (Ok x) = tt
anything (Err f) = tt

pub fine-give : {A : Type 0} (a : A) → Fine (λ us. Ok (a, us))
fine-give a = record { within = λ us. (omega arith); keeps = λ x tail other c. inl (c, refl, refl) }

pub fine-refused : {A : Type 0} (k : ParseKind) → Fine {A = A} (λ us. refused k us)
fine-refused k = record { within = λ us. (omega arith); keeps = λ x tail other c. inl (c, refl, refl) }

pub fine-then : {A B : Type 0} (p : Parser A) (f : A → Parser B) → Fine p → ((a : A) → Fine (f a)) → Fine (λ us. p us >>= λ y. f y.0 y.1)
fine-then p f h g = record {
  within = λ us. bind-within (length us) (p us) (λ y. f y.0 y.1) (h.within us) (λ y le. within-more (length y.1) (length us) (f y.0 y.1) le ((g y.0).within y.1));
  keeps = λ x tail other c. bind-keeps x tail other (λ z. Unit {0}) (p (c ++ x ∷ tail)) (p (c ++ x ∷ other)) (λ y. f y.0 y.1) (λ y. f y.0 y.1) (h.keeps x tail other c) (anything (p (c ++ x ∷ tail)))
      (λ y le. within-more (length y.1) (length tail) (f y.0 y.1) le ((g y.0).within y.1)) (λ a d u. (g a).keeps x tail other d);
}

pub fine-map : {A B : Type 0} (p : Parser A) (f : A → B) → Fine p → Fine (λ us. p us >>= λ y. Ok (f y.0, y.1))
fine-map p f h = fine-then p (λ a us. Ok (f a, us)) h (λ a. fine-give (f a))

-- without the first token
skip-within : {A : Type 0} (p : Parser A) → Fine p → (us : List Spot) → Within (length us) (p (rest_of us))
skip-within p h [] = h.within []
skip-within p h (s ∷ us) = within-more (length us) (suc (length us)) (p us) (omega arith) (h.within us)

skip-keeps : {A : Type 0} (p : Parser A) → Fine p → (x : Spot) (tail other c : List Spot) → Keeps x tail other (p (rest_of (c ++ x ∷ tail))) (p (rest_of (c ++ x ∷ other)))
skip-keeps p h x tail other [] = late x tail other (p tail) (p other) (h.within tail)
skip-keeps p h x tail other (y ∷ c) = h.keeps x tail other c

pub fine-skip : {A : Type 0} (p : Parser A) → Fine p → Fine (λ us. p (rest_of us))
fine-skip p h = record { within = skip-within p h; keeps = skip-keeps p h }

-- by what stands first
same-front : (x : Spot) (tail other c : List Spot) → front_of (c ++ x ∷ other) ≡ front_of (c ++ x ∷ tail)
same-front x tail other [] = refl
same-front x tail other (y ∷ c) = refl

pub fine-front : {A : Type 0} (by : List Spot → Front → Result (A × List Spot) Fault) → ((f : Front) → Fine (λ us. by us f)) → Fine (λ us. by us (front_of us))
fine-front by h = record {
  within = λ us. (h (front_of us)).within us;
  keeps = λ x tail other c. (rw (same-front x tail other c) ((h (front_of (c ++ x ∷ tail))).keeps x tail other c));
}

same-opening : (x : Spot) (tail other c : List Spot) → opening_of (c ++ x ∷ other) ≡ opening_of (c ++ x ∷ tail)
same-opening x tail other [] = refl
same-opening x tail other (y ∷ c) = refl

pub fine-opening : {A : Type 0} (by : List Spot → Opening → Result (A × List Spot) Fault) → ((f : Opening) → Fine (λ us. by us f)) → Fine (λ us. by us (opening_of us))
fine-opening by h = record {
  within = λ us. (h (opening_of us)).within us;
  keeps = λ x tail other c. (rw (same-opening x tail other c) ((h (opening_of (c ++ x ∷ tail))).keeps x tail other c));
}

-- what the first token decides: nothing opens, or something behind it, or at it
pub data Choice (o : List Spot → Option (List Spot)) (y : Spot) : Type 0 where
  shut : ((us : List Spot) → o (y ∷ us) ≡ None) → Choice o y
  past : ((us : List Spot) → o (y ∷ us) ≡ Some us) → Choice o y
  here : ((us : List Spot) → o (y ∷ us) ≡ Some (y ∷ us)) → Choice o y

pub record Decides (o : List Spot → Option (List Spot)) : Type 0 where
  pub nil : o [] ≡ None
  pub first : (y : Spot) → Choice o y

if-true : (b : Bool) (us : List Spot) → b ≡ true → (if b then Some us else None) ≡ Some us
if-true true us e = refl
if-true false us e = absurd (cc e)

if-false : (b : Bool) (us : List Spot) → b ≡ false → (if b then Some us else None) ≡ None
if-false true us e = absurd (cc e)
if-false false us e = refl

sign-first : (m t : Mark) (p : Place) (b : Bool) → sameb marks.the_type t m ≡ b → Choice (after m) (record { token = token.Sign t; place = p })
sign-first m t p true e = past (λ us. if-true (sameb marks.the_type t m) us e)
sign-first m t p false e = shut (λ us. if-false (sameb marks.the_type t m) us e)

after-first : (m : Mark) (t : Token) (p : Place) → Choice (after m) (record { token = t; place = p })
after-first m (token.Word k) p = shut (λ us. refl)
after-first m (token.Name n) p = shut (λ us. refl)
after-first m (token.TyVar n) p = shut (λ us. refl)
after-first m (token.Lit l) p = shut (λ us. refl)
after-first m (token.Sign t) p = sign-first m t p (sameb marks.the_type t m) refl
after-first m (token.Dashes n) p = shut (λ us. refl)

pub sign-decides : (m : Mark) → Decides (after m)
sign-decides m = record { nil = refl; first = λ y. after-first m y.token y.place }

key-first : (k t : Key) (p : Place) (b : Bool) → sameb keys.the_type t k ≡ b → Choice (after_word k) (record { token = token.Word t; place = p })
key-first k t p true e = past (λ us. if-true (sameb keys.the_type t k) us e)
key-first k t p false e = shut (λ us. if-false (sameb keys.the_type t k) us e)

word-first : (k : Key) (t : Token) (p : Place) → Choice (after_word k) (record { token = t; place = p })
word-first k (token.Word t) p = key-first k t p (sameb keys.the_type t k) refl
word-first k (token.Name n) p = shut (λ us. refl)
word-first k (token.TyVar n) p = shut (λ us. refl)
word-first k (token.Lit l) p = shut (λ us. refl)
word-first k (token.Sign t) p = shut (λ us. refl)
word-first k (token.Dashes n) p = shut (λ us. refl)

pub word-decides : (k : Key) → Decides (after_word k)
word-decides k = record { nil = refl; first = λ y. word-first k y.token y.place }

-- by what opens
module _ {A : Type 0} (o : List Spot → Option (List Spot)) (by : List Spot → Option (List Spot) → Result (A × List Spot) Fault) (p : Parser A) (decides : Decides o) (is : (us vs : List Spot) → by us (Some vs) ≡ p vs)
    (none : Fine (λ us. by us None)) (some : Fine p) where
  by-within : (us : List Spot) → Within (length us) (by us (o us))
  by-within [] = rw decides.nil (none.within [])
  by-within (y ∷ us) = elim (decides.first y) [
    | shut e ↦ rw (e us) (none.within (y ∷ us))
    | past e ↦ rw (e us, is (y ∷ us) us) (within-more (length us) (suc (length us)) (p us) (omega arith) (some.within us))
    | here e ↦ rw (e us, is (y ∷ us) (y ∷ us)) (some.within (y ∷ us))
  ]

  by-keeps : (x : Spot) (tail other c : List Spot) → Keeps x tail other (by (c ++ x ∷ tail) (o (c ++ x ∷ tail))) (by (c ++ x ∷ other) (o (c ++ x ∷ other)))
  by-keeps x tail other [] = elim (decides.first x) [
    | shut e ↦ rw (e tail, e other) (none.keeps x tail other [])
    | past e ↦ rw (e tail, e other, is (x ∷ tail) tail, is (x ∷ other) other) (late x tail other (p tail) (p other) (some.within tail))
    | here e ↦ rw (e tail, e other, is (x ∷ tail) (x ∷ tail), is (x ∷ other) (x ∷ other)) (some.keeps x tail other [])
  ]
  by-keeps x tail other (y ∷ c) = elim (decides.first y) [
    | shut e ↦ rw (e (c ++ x ∷ tail), e (c ++ x ∷ other)) (none.keeps x tail other (y ∷ c))
    | past e ↦ rw (e (c ++ x ∷ tail), e (c ++ x ∷ other), is (y ∷ c ++ x ∷ tail) (c ++ x ∷ tail), is (y ∷ c ++ x ∷ other) (c ++ x ∷ other)) (some.keeps x tail other c)
    | here e ↦ rw (e (c ++ x ∷ tail), e (c ++ x ∷ other), is (y ∷ c ++ x ∷ tail) (y ∷ c ++ x ∷ tail), is (y ∷ c ++ x ∷ other) (y ∷ c ++ x ∷ other)) (some.keeps x tail other (y ∷ c))
  ]

  pub fine-by : Fine (λ us. by us (o us))
  fine-by = record { within = by-within; keeps = by-keeps }

pub fine-before : {A : Type 0} (o : List Spot → Option (List Spot)) (p : Parser A) → Decides o → Fine p → Fine (λ us. p us >>= before o)
fine-before o p d h = fine-then p (λ a us. then_by a us (o us)) h (λ a. fine-by o (then_by a) (λ us. Ok (a, us)) d (λ us vs. refl) (fine-refused _) (fine-give a))

-- repeated readings
module _ {A : Type 0} (o : List Spot → Option (List Spot)) (p : Parser A) (decides : Decides o) (fine : Fine p) (strict : (y : Spot) (us : List Spot) → o (y ∷ us) ≡ Some (y ∷ us) → Holds (λ z. length z.1 < suc (length us)) (p (y ∷ us))) where
  -- one more turn
  turned : ℕ → Parser (List A)
  turned k vs = p vs >>= λ z. follows o p k z.1 >>= λ zs. Ok (z.0 ∷ zs.0, zs.1)

  follow-none : (k : ℕ) (us : List Spot) → o us ≡ None → follows o p k us ≡ Ok ([], us)
  follow-none zero us e = refl
  follow-none (suc k) us e = rw (e, follows) refl

  follow-some : (k : ℕ) (us vs : List Spot) → o us ≡ Some vs → follows o p (suc k) us ≡ turned k vs
  unfolding turned
  follow-some k us vs e = rw (e, follows) refl

  turned-within : (n k : ℕ) (us : List Spot) → length us ≤ n → ((vs : List Spot) → length vs ≤ n → Within n (follows o p k vs)) → Within n (turned k us)
  unfolding turned
  turned-within n k us le again = bind-within n (p us) _ (within-more (length us) n (p us) le (fine.within us)) (λ y h. bind-within n (follows o p k y.1) _ (again y.1 h) (λ z g. g))

  follows-within : (n k : ℕ) (us : List Spot) → length us ≤ n → Within n (follows o p k us)
  follows-within n zero us le = le
  follows-within n (suc k) [] le = rw (follow-none (suc k) [] decides.nil) le
  follows-within n (suc k) (y ∷ us) le = elim (decides.first y) [
    | shut e ↦ rw (follow-none (suc k) (y ∷ us) (e us)) le
    | past e ↦ rw (follow-some k (y ∷ us) us (e us)) (turned-within n k us (omega arith) (λ vs h. follows-within n k vs h))
    | here e ↦ rw (follow-some k (y ∷ us) (y ∷ us) (e us)) (turned-within n k (y ∷ us) le (λ vs h. follows-within n k vs h))
  ]

  module _ (x : Spot) (tail other : List Spot) where
    turned-keeps : (k j : ℕ) (e c : List Spot) → Holds (λ z. length z.1 < length (c ++ x ∷ tail)) (p (e ++ x ∷ tail)) → ((d : List Spot) → length d < length c → Keeps x tail other (follows o p k (d ++ x ∷ tail)) (follows o p j (d ++ x ∷ other)))
        → Keeps x tail other (turned k (e ++ x ∷ tail)) (turned j (e ++ x ∷ other))
    unfolding turned
    turned-keeps k j e c h again = bind-keeps x tail other (λ z. length z.1 < length (c ++ x ∷ tail)) (p (e ++ x ∷ tail)) (p (e ++ x ∷ other)) _ _ (fine.keeps x tail other e) h
        (λ y le. bind-within (length tail) (follows o p k y.1) _ (follows-within (length tail) k y.1 le) (λ z g. g))
        (λ a d l. bind-keeps x tail other (λ z. Unit {0}) (follows o p k (d ++ x ∷ tail)) (follows o p j (d ++ x ∷ other)) _ _
        (again d (omega (arith, length-append d (x ∷ tail), length-append c (x ∷ tail)))) (anything (follows o p k (d ++ x ∷ tail))) (λ y le. le) (λ b f u. inl (f, refl, refl)))

    follows-keeps : (k j : ℕ) (c : List Spot) → length (c ++ x ∷ tail) ≤ k → length (c ++ x ∷ other) ≤ j → Keeps x tail other (follows o p k (c ++ x ∷ tail)) (follows o p j (c ++ x ∷ other))
    follows-keeps zero j c hk hj = absurd (omega (arith, length-append c (x ∷ tail)))
    follows-keeps (suc k) zero c hk hj = absurd (omega (arith, length-append c (x ∷ other)))
    follows-keeps (suc k) (suc j) [] hk hj = elim (decides.first x) [
      | shut e ↦ rw (follow-none (suc k) (x ∷ tail) (e tail), follow-none (suc j) (x ∷ other) (e other)) (inl ([], refl, refl))
      | past e ↦ rw (follow-some k (x ∷ tail) tail (e tail), follow-some j (x ∷ other) other (e other)) (late x tail other (turned k tail) (turned j other) (turned-within (length tail) k tail (omega arith) (λ vs h. follows-within (length tail) k vs h)))
      | here e ↦ rw (follow-some k (x ∷ tail) (x ∷ tail) (e tail), follow-some j (x ∷ other) (x ∷ other) (e other)) (turned-keeps k j [] [] (strict x tail (e tail)) (λ d l. absurd (omega arith)))
    ]
    follows-keeps (suc k) (suc j) (y ∷ c) hk hj = elim (decides.first y) [
      | shut e ↦ rw (follow-none (suc k) (y ∷ c ++ x ∷ tail) (e (c ++ x ∷ tail)), follow-none (suc j) (y ∷ c ++ x ∷ other) (e (c ++ x ∷ other))) (inl (y ∷ c, refl, refl))
      | past e ↦ rw (follow-some k (y ∷ c ++ x ∷ tail) (c ++ x ∷ tail) (e (c ++ x ∷ tail)), follow-some j (y ∷ c ++ x ∷ other) (c ++ x ∷ other) (e (c ++ x ∷ other)))
          (turned-keeps k j c (y ∷ c) (within-holds (length (c ++ x ∷ tail)) (p (c ++ x ∷ tail)) (fine.within (c ++ x ∷ tail)))
          (λ d l. follows-keeps k j d (omega (arith, length-append d (x ∷ tail), length-append c (x ∷ tail))) (omega (arith, length-append d (x ∷ other), length-append c (x ∷ other)))))
      | here e ↦ rw (follow-some k (y ∷ c ++ x ∷ tail) (y ∷ c ++ x ∷ tail) (e (c ++ x ∷ tail)), follow-some j (y ∷ c ++ x ∷ other) (y ∷ c ++ x ∷ other) (e (c ++ x ∷ other)))
          (turned-keeps k j (y ∷ c) (y ∷ c) (strict y (c ++ x ∷ tail) (e (c ++ x ∷ tail)))
          (λ d l. follows-keeps k j d (omega (arith, length-append d (x ∷ tail), length-append c (x ∷ tail))) (omega (arith, length-append d (x ∷ other), length-append c (x ∷ other)))))
    ]

  pub fine-repeated-here : Fine (repeated o p)
  fine-repeated-here = record {
    within = λ us. follows-within (length us) (length us) us (omega arith);
    keeps = λ x tail other c. follows-keeps x tail other (length (c ++ x ∷ tail)) (length (c ++ x ∷ other)) c (omega arith) (omega arith);
  }

-- a sign or a word stands before what it opens
no-loop : (y : Spot) (us : List Spot) → us ≡ y ∷ us → ⊥
no-loop y us e = let n = ap length e in omega arith

sign-strict : {A : Type 0} (m : Mark) (p : Parser A) (y : Spot) (us : List Spot) → Has m (y ∷ us) → after m (y ∷ us) ≡ Some (y ∷ us) → Holds (λ z. length z.1 < suc (length us)) (p (y ∷ us))
sign-strict m p _ us (there {p = q}) h = absurd (no-loop (sign m q) us (cc (same-sign m q us)))
sign-strict m p y us (lacking e) h = absurd (cc)

word-strict : {A : Type 0} (k : Key) (p : Parser A) (y : Spot) (us : List Spot) → HasWord k (y ∷ us) → after_word k (y ∷ us) ≡ Some (y ∷ us) → Holds (λ z. length z.1 < suc (length us)) (p (y ∷ us))
word-strict k p _ us (said {p = q}) h = absurd (no-loop (word k q) us (cc (same-word k q us)))
word-strict k p y us (unsaid e) h = absurd (cc)

pub fine-signs : {A : Type 0} (m : Mark) (p : Parser A) → Fine p → Fine (repeated (after m) p)
fine-signs m p h = fine-repeated-here (after m) p (sign-decides m) h (λ y us e. sign-strict m p y us (has m (y ∷ us)) e)

pub fine-words : {A : Type 0} (k : Key) (p : Parser A) → Fine p → Fine (repeated (after_word k) p)
fine-words k p h = fine-repeated-here (after_word k) p (word-decides k) h (λ y us e. word-strict k p y us (has-word k (y ∷ us)) e)

pub fine-separated : {A : Type 0} (m : Mark) (p : Parser A) → Fine p → Fine (separated (after m) p)
fine-separated m p h = fine-then p (λ a us. repeated (after m) p us >>= λ xs. Ok (a ∷ xs.0, xs.1)) h (λ a. fine-map (repeated (after m) p) (λ xs. a ∷ xs) (fine-signs m p h))

pub fine-enclosed : {A : Type 0} (m : Mark) (p : Parser A) → Fine p → Fine (enclosed m p)
fine-enclosed m p h = fine-before (after m) (separated (after mark.Comma) p) (sign-decides m) (fine-separated mark.Comma p h)

pub fine-enclosed-or-none : {A : Type 0} (m : Mark) (p : Parser A) → Fine p → Fine (enclosed_or_none m p)
fine-enclosed-or-none m p h = fine-by (after m) (λ us o. elim o [ None ↦ enclosed m p us | Some vs ↦ Ok ([], vs) ]) (λ us. Ok ([], us)) (sign-decides m) (λ us vs. refl) (fine-enclosed m p h) (fine-give [])

-- names
name-in-within : (t : Token) (p : Place) (us : List Spot) → Within (suc (length us)) (name_in (record { token = t; place = p } ∷ us) t p us)
name-in-within (token.Name n) p us = omega arith
name-in-within (token.Word k) p us = omega arith
name-in-within (token.TyVar n) p us = omega arith
name-in-within (token.Lit l) p us = omega arith
name-in-within (token.Sign m) p us = omega arith
name-in-within (token.Dashes n) p us = omega arith

-- what the first token alone decides
name-in-keeps : (t : Token) (p : Place) (x : Spot) (tail other c : List Spot) → Keeps x tail other (name_in (record { token = t; place = p } ∷ c ++ x ∷ tail) t p (c ++ x ∷ tail)) (name_in (record { token = t; place = p } ∷ c ++ x ∷ other) t p (c ++ x ∷ other))
name-in-keeps (token.Name n) p x tail other c = inl (c, refl, refl)
name-in-keeps (token.Word k) p x tail other c = inl (record { token = token.Word k; place = p } ∷ c, refl, refl)
name-in-keeps (token.TyVar n) p x tail other c = inl (record { token = token.TyVar n; place = p } ∷ c, refl, refl)
name-in-keeps (token.Lit l) p x tail other c = inl (record { token = token.Lit l; place = p } ∷ c, refl, refl)
name-in-keeps (token.Sign m) p x tail other c = inl (record { token = token.Sign m; place = p } ∷ c, refl, refl)
name-in-keeps (token.Dashes n) p x tail other c = inl (record { token = token.Dashes n; place = p } ∷ c, refl, refl)

name-in-first : (t : Token) (p : Place) (tail other : List Spot) → Keeps (record { token = t; place = p }) tail other (name_in (record { token = t; place = p } ∷ tail) t p tail) (name_in (record { token = t; place = p } ∷ other) t p other)
name-in-first (token.Name n) p tail other = inr (omega arith)
name-in-first (token.Word k) p tail other = inl ([], refl, refl)
name-in-first (token.TyVar n) p tail other = inl ([], refl, refl)
name-in-first (token.Lit l) p tail other = inl ([], refl, refl)
name-in-first (token.Sign m) p tail other = inl ([], refl, refl)
name-in-first (token.Dashes n) p tail other = inl ([], refl, refl)

name-keeps : (x : Spot) (tail other c : List Spot) → Keeps x tail other (name_at (c ++ x ∷ tail)) (name_at (c ++ x ∷ other))
name-keeps x tail other [] = name-in-first x.token x.place tail other
name-keeps x tail other (y ∷ c) = name-in-keeps y.token y.place x tail other c

name-within : (us : List Spot) → Within (length us) (name_at us)
name-within [] = omega arith
name-within (s ∷ us) = name-in-within s.token s.place us

pub fine-name : Fine name_at
fine-name = record { within = name-within; keeps = name-keeps }

pub fine-long : Fine long_at
unfolding long_at
fine-long = fine-then name_at (λ a us. qualified a us (after mark.Dot us)) fine-name
    (λ a. fine-by (after mark.Dot) (qualified a) (λ us. name_at us >>= λ n. Ok (within a n.0.0, n.1)) (sign-decides mark.Dot) (λ us vs. refl) (fine-give (short a)) (fine-map name_at (λ n. within a n.0) fine-name))

-- behind a bracket
pub fine-inside : {X B : Type 0} (i : Option X) (q : X → Parser B) → ((a : X) → i ≡ Some a → Fine (q a)) → Fine (λ us. inside i q us (rest_of us))
fine-inside None q h = fine-refused _
fine-inside (Some a) q h = fine-skip (q a) (h a refl)

-- a reading that another equals
pub fine-is : {A : Type 0} (p q : Parser A) → ((us : List Spot) → p us ≡ q us) → Fine q → Fine p
fine-is p q e h = record {
  within = λ us. (rw (e us) (h.within us));
  keeps = λ x tail other c. (rw (e (c ++ x ∷ tail), e (c ++ x ∷ other)) (h.keeps x tail other c));
}
