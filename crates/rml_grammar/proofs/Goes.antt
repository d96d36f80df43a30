-- Readings that can be finished: whatever they have taken where they stop, some tokens complete it.
use Rattle.std.proofs.Common.{◌≡◌, ℕ, zero, suc, ◌<◌, ◌≤◌, List, [], ◌∷◌, ◌++◌, length, refl, sym, ap, subst, ◌∙◌, arith, Option, Some, None, Result, Ok, Err, ◌⊎◌, inl, inr, append_assoc}
use Rattle.std.proofs.Math.ListN.{length-append}
use Rattle.std.proofs.lemmas.List.{append_cancel_right}
use Rattle.rml_base.specs.declared.place.Place.{Place}
use Rattle.rml_syntax.specs.declared.token.Spot.{Spot}
use Rattle.rml_syntax.specs.declared.token.Key.{Key}
use Rattle.rml_syntax.specs.declared.token.Key.TheVariants as key
use Rattle.rml_syntax.specs.declared.token.Mark.{Mark}
use Rattle.rml_syntax.specs.declared.token.Mark.TheVariants as mark
use Rattle.rml_grammar.specs.declared.fault.Fault.{Fault}
use Rattle.rml_grammar.specs.declared.fault.ParseKind.{ParseKind}
use Rattle.rml_grammar.specs.declared.fault.ParseKind.TheVariants as kind
use Rattle.rml_grammar.specs.Laws.{IsUnexpected}
use Rattle.rml_grammar.specs.Tokens.{sign, word, dashes, after, after_word}
use Rattle.rml_grammar.specs.Reading.{◌>>=◌, Parser, refused, unexpected, follows, repeated, separated, then_by, before, enclosed, enclosed_or_none}
use Rattle.rml_grammar.proofs.Views.{Has, has, there, lacking, HasWord, has-word, said, unsaid, same-sign, same-word}
use Rattle.rml_grammar.proofs.Cuts.{one-cut}
use Rattle.rml_grammar.proofs.Holds.{Holds}
use Rattle.rml_grammar.proofs.Fine.{Fine, Within, Keeps, shut, past, here, Decides, fine-give, fine-refused, fine-then, fine-by, fine-repeated-here, fine-is, sign-decides, word-decides}

-- a place for tokens that complete a reading
abbrev pub at : Place
at = record { text = 0; line = 1; column = 1 }

-- Lists before which a production is at its end. Anything, where no token is looked at behind it; ..
abbrev pub Anything : List Spot → Type 0
Anything z = Unit {0}

-- .. a closing bracket, dashes, `end` or nothing, before which goals and rules are; ..
pub data Narrow : List Spot → Type 0 where
  nothing : Narrow []
  closed : {p : Place} {us : List Spot} → Narrow (sign mark.CloseRound p ∷ us)
  closed_square : {p : Place} {us : List Spot} → Narrow (sign mark.CloseSquare p ∷ us)
  line : {n : ℕ} {p : Place} {us : List Spot} → Narrow (dashes n p ∷ us)
  ended : {p : Place} {us : List Spot} → Narrow (word key.KEnd p ∷ us)

-- .. and `=>` and `=` too, before which types, patterns and expressions are.
pub data Wide : List Spot → Type 0 where
  narrow : {us : List Spot} → Narrow us → Wide us
  arrow : {p : Place} {us : List Spot} → Wide (sign mark.Arrow p ∷ us)
  equals : {p : Place} {us : List Spot} → Wide (sign mark.Equals p ∷ us)

-- what holds of each kind of them
pub narrow-all : (P : List Spot → Type 0) → P [] → ((p : Place) (us : List Spot) → P (sign mark.CloseRound p ∷ us)) → ((p : Place) (us : List Spot) → P (sign mark.CloseSquare p ∷ us)) → ((n : ℕ) (p : Place) (us : List Spot) → P (dashes n p ∷ us))
    → ((p : Place) (us : List Spot) → P (word key.KEnd p ∷ us)) → (z : List Spot) → Narrow z → P z
narrow-all P a b c d e z nothing = a
narrow-all P a b c d e z (closed {p} {us}) = b p us
narrow-all P a b c d e z (closed_square {p} {us}) = c p us
narrow-all P a b c d e z (line {n} {p} {us}) = d n p us
narrow-all P a b c d e z (ended {p} {us}) = e p us

pub wide-all : (P : List Spot → Type 0) → P [] → ((p : Place) (us : List Spot) → P (sign mark.CloseRound p ∷ us)) → ((p : Place) (us : List Spot) → P (sign mark.CloseSquare p ∷ us)) → ((n : ℕ) (p : Place) (us : List Spot) → P (dashes n p ∷ us))
    → ((p : Place) (us : List Spot) → P (word key.KEnd p ∷ us)) → ((p : Place) (us : List Spot) → P (sign mark.Arrow p ∷ us)) → ((p : Place) (us : List Spot) → P (sign mark.Equals p ∷ us)) → (z : List Spot) → Wide z → P z
wide-all P a b c d e f g z (narrow n) = narrow-all P a b c d e z n
wide-all P a b c d e f g z (arrow {p} {us}) = f p us
wide-all P a b c d e f g z (equals {p} {us}) = g p us

-- what is read of a list is its front, or what is before a fault
abbrev pub Cut : {A : Type 0} → List Spot → Result (A × List Spot) Fault → Type 0
Cut us (Ok y) = (c : List Spot) × (us ≡ c ++ y.1)
Cut us (Err f) = (c : List Spot) × (rest : List Spot) × (us ≡ c ++ rest) × (length rest ≡ f.left)

-- some tokens complete c, before each list that S allows
pub record CanFinish (S : List Spot → Type 0) {A : Type 0} (p : Parser A) (c : List Spot) : Type 0 where
  pub more : List Spot
  pub gives : A
  pub reads : (z : List Spot) → S z → p (c ++ (more ++ z)) ≡ Ok (gives, z)

-- some tokens are read whole, where R is wanted of what stands there
pub record Next (R S : List Spot → Type 0) {A : Type 0} (p : Parser A) : Type 0 where
  pub more : List Spot
  pub gives : A
  pub allowed : (z : List Spot) → S z → R (more ++ z)
  pub reads : (z : List Spot) → S z → p (more ++ z) ≡ Ok (gives, z)

pub record Goes (S : List Spot → Type 0) {A : Type 0} (p : Parser A) : Type 0 where
  pub fine : Fine p
  pub cuts : (us : List Spot) → Cut us (p us)
  -- what was read is read before each list that S allows
  pub ends : (c rest : List Spot) (a : A) → p (c ++ rest) ≡ Ok (a, rest) → (z : List Spot) → S z → p (c ++ z) ≡ Ok (a, z)
  -- what is before an unexpected token can be completed
  pub stops : (x : Spot) (c rest : List Spot) → IsUnexpected (length rest) (p (x ∷ c ++ rest)) → CanFinish S p (x ∷ c)

-- results
pub ok-is : {A : Type 0} (x y : A) → ◌≡◌ {A = Result A Fault} (Ok x) (Ok y) → x ≡ y
ok-is x y e = cc

ok-parts : {A : Type 0} (a b : A) (us vs : List Spot) → ◌≡◌ {A = Result (A × List Spot) Fault} (Ok (a, us)) (Ok (b, vs)) → (a ≡ b) × (us ≡ vs)
ok-parts a b us vs e = let same = ok-is (a, us) (b, vs) e in (ap (λ w. w.0) same, ap (λ w. w.1) same)

pub err-is : {A : Type 0} (f g : Fault) → ◌≡◌ {A = Result A Fault} (Err f) (Err g) → f ≡ g
err-is f g e = cc

pub left-is : {A : Type 0} (f : Fault) (n : ℕ) → IsUnexpected {X = A} n (Err f) → f.left ≡ n
left-is {A} f n e = ap (λ (g : Fault). g.left) (err-is {A = A} f (record { kind = kind.Unexpected; left = n }) e)

ok-not : {A : Type 0} {X : Type 0} (x : A) (n : ℕ) → IsUnexpected n (Ok x) → X
ok-not x n e = absurd (cc e)

pub fine-within-ok : {A : Type 0} (n : ℕ) (r : Result (A × List Spot) Fault) (a : A) (rest : List Spot) → Within n r → r ≡ Ok (a, rest) → length rest ≤ n
fine-within-ok n r a rest h e = rw e at h

fine-within-err : {A : Type 0} (n : ℕ) (r : Result (A × List Spot) Fault) (left : ℕ) → Within n r → IsUnexpected left r → left ≤ n
fine-within-err n r left h e = rw e at h

-- lists
none-before : (c rest : List Spot) → length (c ++ rest) ≤ length rest → c ≡ []
none-before [] rest le = refl
none-before (x ∷ c) rest le = absurd (omega (arith, length-append c rest))

-- a reading that stops before a token stops there whatever follows that token
kept : {A : Type 0} (y : Spot) (tail other : List Spot) (a : A) (r s : Result (A × List Spot) Fault) → r ≡ Ok (a, y ∷ tail) → Keeps y tail other r s → s ≡ Ok (a, y ∷ other)
kept {A} y tail other a (Ok v) s e (inl k) =
    let whole : v ≡ (a, y ∷ tail) = ok-is v (a, y ∷ tail) e in
    let rest : v.1 ≡ y ∷ tail = ap (λ (w : A × List Spot). w.1) whole in
    let first : v.0 ≡ a = ap (λ (w : A × List Spot). w.0) whole in
    let none : k.0 ≡ [] = none-before k.0 (y ∷ tail) (let l = ap length (sym k.1 ∙ rest) in omega arith) in
    k.2 ∙ (rw (none, first) refl)
kept {A} y tail other a (Ok v) s e (inr l) = let rest = ap length (ap (λ (w : A × List Spot). w.1) (ok-is v (a, y ∷ tail) e)) in absurd (omega arith)
kept y tail other a (Err f) s e k = absurd (cc e)

pub fine-ok : {A : Type 0} (p : Parser A) → Fine p → (c tail other : List Spot) (y : Spot) (a : A) → p (c ++ y ∷ tail) ≡ Ok (a, y ∷ tail) → p (c ++ y ∷ other) ≡ Ok (a, y ∷ other)
fine-ok p h c tail other y a e = kept y tail other a (p (c ++ y ∷ tail)) (p (c ++ y ∷ other)) e (h.keeps y tail other c)

-- the simplest readings
give-ends : {A : Type 0} (a b : A) (c rest z : List Spot) → ◌≡◌ {A = A × List Spot} (a, c ++ rest) (b, rest) → ◌≡◌ {A = Result (A × List Spot) Fault} (Ok (a, c ++ z)) (Ok (b, z))
give-ends {A} a b c rest z e =
    let l : length (c ++ rest) ≡ length rest = ap (λ (w : A × List Spot). length w.1) e in
    let first : a ≡ b = ap (λ (w : A × List Spot). w.0) e in
    let none : c ≡ [] = none-before c rest (omega arith) in
    rw (none, first) refl

pub goes-give : (S : List Spot → Type 0) {A : Type 0} (a : A) → Goes S (λ us. Ok (a, us))
goes-give S a = record {
  fine = fine-give a;
  cuts = λ us. ([], refl);
  ends = λ c rest b e z s. give-ends a b c rest z (ok-is (a, c ++ rest) (b, rest) e);
  stops = λ x c rest e. ok-not (a, x ∷ c ++ rest) (length rest) e;
}

too-long : {A : Type 0} {X : Type 0} (k : ParseKind) (x : Spot) (c rest : List Spot) → IsUnexpected {X = A} (length rest) (Err (record { kind = k; left = length (x ∷ c ++ rest) })) → X
too-long {A} k x c rest e = let l = left-is {A = A} (record { kind = k; left = length (x ∷ c ++ rest) }) (length rest) e in absurd (omega (arith, length-append c rest))

pub goes-refused : (S : List Spot → Type 0) {A : Type 0} (k : ParseKind) → Goes S {A = A} (λ us. refused k us)
goes-refused S {A} k = record {
  fine = fine-refused k;
  cuts = λ us. ([], us, refl, refl);
  ends = λ c rest b e z s. absurd (cc e);
  stops = λ x c rest e. too-long {A = A × List Spot} k x c rest e;
}

pub next-give : (R S : List Spot → Type 0) {A : Type 0} (a : A) → ((z : List Spot) → S z → R z) → Next R S (λ us. Ok (a, us))
next-give R S a h = record { more = []; gives = a; allowed = h; reads = λ z s. refl }

-- one reading after another
pub bind-ok : {X Y : Type 0} (r : Result X Fault) (f : X → Result Y Fault) (y : Y) → (r >>= f) ≡ Ok y → (x : X) × (r ≡ Ok x) × (f x ≡ Ok y)
bind-ok (Ok x) f y e = (x, refl, e)
bind-ok (Err g) f y e = absurd (cc e)

pub bind-unexpected : {X Y : Type 0} (n : ℕ) (r : Result X Fault) (f : X → Result Y Fault) → IsUnexpected n (r >>= f) → IsUnexpected n r ⊎ ((x : X) × (r ≡ Ok x) × IsUnexpected n (f x))
bind-unexpected n (Ok x) f e = inr (x, refl, e)
bind-unexpected {X} {Y} n (Err g) f e = inl (ap (λ (h : Fault). Err h) (err-is {A = Y} g (record { kind = kind.Unexpected; left = n }) e))

pub cut-ok : {A : Type 0} (us : List Spot) (r : Result (A × List Spot) Fault) (a : A) (rest : List Spot) → r ≡ Ok (a, rest) → Cut us r → (c : List Spot) × (us ≡ c ++ rest)
cut-ok us r a rest e h = rw e at h

pub cut-err : {A : Type 0} (us : List Spot) (r : Result (A × List Spot) Fault) (n : ℕ) → IsUnexpected n r → Cut us r → (c : List Spot) × (rest : List Spot) × (us ≡ c ++ rest) × (length rest ≡ n)
cut-err us r n e h = rw e at h

cut-more : {B : Type 0} (c us mid : List Spot) → us ≡ c ++ mid → (r : Result (B × List Spot) Fault) → Cut mid r → Cut us r
cut-more c us mid e (Ok y) h = (c ++ h.0, e ∙ ap (λ l. c ++ l) h.1 ∙ sym (append_assoc c h.0 y.1))
cut-more c us mid e (Err g) h = (c ++ h.0, h.1, e ∙ ap (λ l. c ++ l) h.2 ∙ sym (append_assoc c h.0 h.1), h.3)

-- what is read of some tokens, before each list that S allows
abbrev pub TakenAs : (S : List Spot → Type 0) {A : Type 0} → Parser A → A → Type 0
TakenAs S p a = (z : List Spot) → S z → (us : List Spot) × (p us ≡ Ok (a, z)) × (length z < length us)

module _ (S T : List Spot → Type 0) {A B : Type 0} (p : Parser A) (f : A → Parser B) (first : Goes S p) (second : (a : A) → Goes T (f a)) (next : (a : A) → TakenAs S p a → Next S T (f a))
    (empty : (a : A) (b : B) (rest : List Spot) → f a rest ≡ Ok (b, rest) → (z : List Spot) → T z → S z) where
  abbrev both : Parser B
  both us = p us >>= λ y. f y.0 y.1

  then-cut : (us : List Spot) (r : Result (A × List Spot) Fault) → Cut us r → Cut us (r >>= λ y. f y.0 y.1)
  then-cut us (Ok y) h = cut-more h.0 us y.1 h.1 (f y.0 y.1) ((second y.0).cuts y.1)
  then-cut us (Err g) h = h

  -- the first reading stops where it did
  stays : (c d rest z : List Spot) (a : A) (b : B) → p (c ++ (d ++ rest)) ≡ Ok (a, d ++ rest) → f a (d ++ rest) ≡ Ok (b, rest) → T z → p (c ++ (d ++ z)) ≡ Ok (a, d ++ z)
  stays c [] rest z a b e g t = first.ends c rest a e z (empty a b rest g z t)
  stays c (y ∷ d) rest z a b e g t = fine-ok p first.fine c (d ++ rest) (d ++ z) y a e

  ends-by : (c d rest z : List Spot) (a : A) (b : B) → p (c ++ (d ++ rest)) ≡ Ok (a, d ++ rest) → f a (d ++ rest) ≡ Ok (b, rest) → T z → both ((c ++ d) ++ z) ≡ Ok (b, z)
  ends-by c d rest z a b e g t = rw (append_assoc c d z, stays c d rest z a b e g t) ((second a).ends d rest b g z t)

  then-ends : (c rest : List Spot) (b : B) → both (c ++ rest) ≡ Ok (b, rest) → (z : List Spot) → T z → both (c ++ z) ≡ Ok (b, z)
  then-ends c rest b e z t =
      let i = bind-ok (p (c ++ rest)) (λ y. f y.0 y.1) (b, rest) e in
      let a = i.0.0 in
      let k = cut-ok (c ++ rest) (p (c ++ rest)) a i.0.1 i.1 (first.cuts (c ++ rest)) in
      let l = cut-ok i.0.1 (f a i.0.1) b rest i.2 ((second a).cuts i.0.1) in
      let whole : c ++ rest ≡ k.0 ++ (l.0 ++ rest) = k.1 ∙ ap (λ m. k.0 ++ m) l.1 in
      let q : p (k.0 ++ (l.0 ++ rest)) ≡ Ok (a, l.0 ++ rest) = ap p (sym whole) ∙ i.1 ∙ ap (λ (m : List Spot). Ok (a, m)) l.1 in
      let g : f a (l.0 ++ rest) ≡ Ok (b, rest) = ap (f a) (sym l.1) ∙ i.2 in
      let parts : c ≡ k.0 ++ l.0 = append_cancel_right c (k.0 ++ l.0) rest (whole ∙ sym (append_assoc k.0 l.0 rest)) in
      rw parts (ends-by k.0 l.0 rest z a b q g t)

  stops-by : (c d rest : List Spot) (a : A) → 0 < length (c ++ d) → p (c ++ (d ++ rest)) ≡ Ok (a, d ++ rest) → IsUnexpected (length rest) (f a (d ++ rest)) → CanFinish T both (c ++ d)
  stops-by c [] rest a some e g =
      let n = next a (λ z s. (c ++ z, first.ends c rest a e z s, (omega (arith, some, length-append c [], length-append c z)))) in
      record { more = n.more; gives = n.gives; reads = λ z t. (rw (append_assoc c [] (n.more ++ z), first.ends c rest a e (n.more ++ z) (n.allowed z t)) (n.reads z t)) }
  stops-by c (y ∷ d) rest a some e g =
      let m = (second a).stops y d rest g in
      record { more = m.more; gives = m.gives; reads = λ z t. (rw (append_assoc c (y ∷ d) (m.more ++ z), fine-ok p first.fine c (d ++ rest) (d ++ (m.more ++ z)) y a e) (m.reads z t)) }

  first-stops : (x : Spot) (c : List Spot) → CanFinish S p (x ∷ c) → CanFinish T both (x ∷ c)
  first-stops x c m =
      let n = next m.gives (λ z s. (x ∷ c ++ (m.more ++ z), m.reads z s, (omega (arith, length-append c (m.more ++ z), length-append m.more z)))) in
      record { more = m.more ++ n.more; gives = n.gives; reads = λ z t. (rw (append_assoc m.more n.more z, m.reads (n.more ++ z) (n.allowed z t)) (n.reads z t)) }

  second-stops : (x : Spot) (c rest : List Spot) (y : A × List Spot) → p (x ∷ c ++ rest) ≡ Ok y → IsUnexpected (length rest) (f y.0 y.1) → CanFinish T both (x ∷ c)
  second-stops x c rest y e g =
      let a = y.0 in
      let k = cut-ok (x ∷ c ++ rest) (p (x ∷ c ++ rest)) a y.1 e (first.cuts (x ∷ c ++ rest)) in
      let l = cut-err y.1 (f a y.1) (length rest) g ((second a).cuts y.1) in
      let whole : x ∷ c ++ rest ≡ k.0 ++ (l.0 ++ l.1) = k.1 ∙ ap (λ m. k.0 ++ m) l.2 in
      let same = one-cut (x ∷ c) rest (k.0 ++ l.0) l.1 (whole ∙ sym (append_assoc k.0 l.0 l.1)) (sym l.3) in
      let q : p (k.0 ++ (l.0 ++ l.1)) ≡ Ok (a, l.0 ++ l.1) = ap p (sym whole) ∙ e ∙ ap (λ (m : List Spot). Ok (a, m)) l.2 in
      let h : IsUnexpected (length l.1) (f a (l.0 ++ l.1)) = ap (f a) (sym l.2) ∙ g ∙ ap (λ (n : ℕ). Err (record { kind = kind.Unexpected; left = n })) (sym l.3) in
      let some : 0 < length (k.0 ++ l.0) = (let n = ap length same.0 in omega arith) in
      subst (λ (d : List Spot). CanFinish T both d) (sym same.0) (stops-by k.0 l.0 l.1 a some q h)

  then-stops : (x : Spot) (c rest : List Spot) → IsUnexpected (length rest) (both (x ∷ c ++ rest)) → CanFinish T both (x ∷ c)
  then-stops x c rest e = elim (bind-unexpected (length rest) (p (x ∷ c ++ rest)) (λ y. f y.0 y.1) e) [
    | inl h ↦ first-stops x c (first.stops x c rest h)
    | inr h ↦ second-stops x c rest h.0 h.1 h.2
  ]

  pub goes-after : Goes T both
  goes-after = record {
    fine = fine-then p f first.fine (λ a. (second a).fine);
    cuts = λ us. then-cut us (p us) (first.cuts us);
    ends = then-ends;
    stops = then-stops;
  }

pub goes-then : (S T : List Spot → Type 0) {A B : Type 0} (p : Parser A) (f : A → Parser B) → Goes S p → ((a : A) → Goes T (f a)) → ((a : A) → Next S T (f a))
    → ((a : A) (b : B) (rest : List Spot) → f a rest ≡ Ok (b, rest) → (z : List Spot) → T z → S z) → Goes T (λ us. p us >>= λ y. f y.0 y.1)
goes-then S T p f first second next empty = goes-after S T p f first second (λ a t. next a) empty

pub next-then : (R S T : List Spot → Type 0) {A B : Type 0} (p : Parser A) (f : A → Parser B) → Next R S p → ((a : A) → Next S T (f a)) → Next R T (λ us. p us >>= λ y. f y.0 y.1)
next-then R S T p f m next =
    let n = next m.gives in
    record {
      more = m.more ++ n.more;
      gives = n.gives;
      allowed = λ z t. (rw (append_assoc m.more n.more z) (m.allowed (n.more ++ z) (n.allowed z t)));
      reads = λ z t. (rw (append_assoc m.more n.more z, m.reads (n.more ++ z) (n.allowed z t)) (n.reads z t));
    }

pub goes-map : (S : List Spot → Type 0) {A B : Type 0} (p : Parser A) (f : A → B) → Goes S p → Goes S (λ us. p us >>= λ y. Ok (f y.0, y.1))
goes-map S p f h = goes-then S S p (λ a us. Ok (f a, us)) h (λ a. goes-give S (f a)) (λ a. next-give S S (f a) (λ z s. s)) (λ a b rest e z s. s)

pub next-map : (R S : List Spot → Type 0) {A B : Type 0} (p : Parser A) (f : A → B) → Next R S p → Next R S (λ us. p us >>= λ y. Ok (f y.0, y.1))
next-map R S p f n = next-then R S S p (λ a us. Ok (f a, us)) n (λ a. next-give S S (f a) (λ z s. s))

-- before fewer lists
pub goes-before-fewer : (S T : List Spot → Type 0) {A : Type 0} (p : Parser A) → ((z : List Spot) → T z → S z) → Goes S p → Goes T p
goes-before-fewer S T p h g = record {
  fine = g.fine;
  cuts = g.cuts;
  ends = λ c rest a e z t. g.ends c rest a e z (h z t);
  stops = λ x c rest e. (let m = g.stops x c rest e in record { more = m.more; gives = m.gives; reads = λ z t. m.reads z (h z t) });
}

pub next-before-fewer : (R S T : List Spot → Type 0) {A : Type 0} (p : Parser A) → ((z : List Spot) → T z → S z) → Next R S p → Next R T p
next-before-fewer R S T p h n = record { more = n.more; gives = n.gives; allowed = λ z t. n.allowed z (h z t); reads = λ z t. n.reads z (h z t) }

-- a reading that another equals
pub goes-is : (S : List Spot → Type 0) {A : Type 0} (p q : Parser A) → ((us : List Spot) → p us ≡ q us) → Goes S q → Goes S p
goes-is S p q e g = record {
  fine = fine-is p q e g.fine;
  cuts = λ us. (rw (e us) (g.cuts us));
  ends = λ c rest a h z s. (e (c ++ z) ∙ g.ends c rest a (sym (e (c ++ rest)) ∙ h) z s);
  stops = λ x c rest h. (let m = g.stops x c rest (sym (e (x ∷ c ++ rest)) ∙ h) in record { more = m.more; gives = m.gives; reads = λ z s. (e (x ∷ c ++ (m.more ++ z)) ∙ m.reads z s) });
}

pub next-is : (R S : List Spot → Type 0) {A : Type 0} (p q : Parser A) → ((us : List Spot) → p us ≡ q us) → Next R S q → Next R S p
next-is R S p q e n = record { more = n.more; gives = n.gives; allowed = n.allowed; reads = λ z s. (e (n.more ++ z) ∙ n.reads z s) }

-- By what stands first: a reading is like another one there, which takes something or may be at its end there, or is
-- another one behind it.
pub data Branch (S : List Spot → Type 0) {A : Type 0} (p : Parser A) (y : Spot) : Type 0 where
  like : (q : Parser A) → Goes S q → ((us : List Spot) → p (y ∷ us) ≡ q (y ∷ us)) → ((us : List Spot) (a : A) → q (y ∷ us) ≡ Ok (a, y ∷ us) → (z : List Spot) → S z → p z ≡ Ok (a, z)) → Branch S p y
  behind : (q : Parser A) → Goes S q → Next Anything S q → ((us : List Spot) → p (y ∷ us) ≡ q us) → Branch S p y

pub refuses : (S : List Spot → Type 0) {A : Type 0} (p : Parser A) (y : Spot) (k : ParseKind) → ((us : List Spot) → p (y ∷ us) ≡ refused k (y ∷ us)) → Branch S p y
refuses S p y k e = like (λ us. refused k us) (goes-refused S k) e (λ us a h z s. absurd (cc h))

pub passes : (S : List Spot → Type 0) {A : Type 0} (p : Parser A) (y : Spot) (b : A) → ((us : List Spot) → p (y ∷ us) ≡ Ok (b, y ∷ us)) → ((z : List Spot) → S z → p z ≡ Ok (b, z)) → Branch S p y
passes S {A} p y b e quiet = like (λ us. Ok (b, us)) (goes-give S b) e (λ us a h z s. (let same : b ≡ a = ap (λ (w : A × List Spot). w.0) (ok-is (b, y ∷ us) (a, y ∷ us) h) in quiet z s ∙ (rw same refl)))

cut-behind : {A : Type 0} (y : Spot) (us : List Spot) (r : Result (A × List Spot) Fault) → Cut us r → Cut (y ∷ us) r
cut-behind y us (Ok v) h = (y ∷ h.0, ap (λ l. y ∷ l) h.1)
cut-behind y us (Err f) h = (y ∷ h.0, h.1, ap (λ l. y ∷ l) h.2, h.3)

none-left : (us : List Spot) → length us ≤ 0 → us ≡ []
none-left [] le = refl
none-left (s ∷ us) le = absurd (omega arith)

cut-nothing : {A : Type 0} (r : Result (A × List Spot) Fault) → Within 0 r → Cut [] r
cut-nothing (Ok v) h = ([], sym (none-left v.1 h))
cut-nothing (Err f) h = ([], [], refl, omega arith)

module _ (S : List Spot → Type 0) {A : Type 0} (p : Parser A) (fine : Fine p) (empty : (a : A) → p [] ≡ Ok (a, []) → (z : List Spot) → S z → p z ≡ Ok (a, z)) (branch : (y : Spot) → Branch S p y) where
  by-cut : (us : List Spot) → Cut us (p us)
  by-cut [] = cut-nothing (p []) (fine.within [])
  by-cut (y ∷ us) = elim (branch y) [
    | like q g e quiet ↦ rw (e us) (g.cuts (y ∷ us))
    | behind q g n e ↦ rw (e us) (cut-behind y us (q us) (g.cuts us))
  ]

  by-ends : (c rest : List Spot) (a : A) → p (c ++ rest) ≡ Ok (a, rest) → (z : List Spot) → S z → p (c ++ z) ≡ Ok (a, z)
  by-ends [] [] a h z s = empty a h z s
  by-ends [] (y ∷ us) a h z s = elim (branch y) [
    | like q g e quiet ↦ quiet us a (sym (e us) ∙ h) z s
    | behind q g n e ↦ (let l = fine-within-ok (length us) (q us) a (y ∷ us) (g.fine.within us) (sym (e us) ∙ h) in absurd (omega arith))
  ]
  by-ends (y ∷ c) rest a h z s = elim (branch y) [
    | like q g e quiet ↦ e (c ++ z) ∙ g.ends (y ∷ c) rest a (sym (e (c ++ rest)) ∙ h) z s
    | behind q g n e ↦ e (c ++ z) ∙ g.ends c rest a (sym (e (c ++ rest)) ∙ h) z s
  ]

  behind-stops : (y : Spot) (q : Parser A) → Goes S q → Next Anything S q → ((us : List Spot) → p (y ∷ us) ≡ q us) → (c rest : List Spot) → IsUnexpected (length rest) (q (c ++ rest)) → CanFinish S p (y ∷ c)
  behind-stops y q g n e [] rest h = record { more = n.more; gives = n.gives; reads = λ z s. (e (n.more ++ z) ∙ n.reads z s) }
  behind-stops y q g n e (x ∷ c) rest h = let m = g.stops x c rest h in record { more = m.more; gives = m.gives; reads = λ z s. (e (x ∷ c ++ (m.more ++ z)) ∙ m.reads z s) }

  by-stops : (y : Spot) (c rest : List Spot) → IsUnexpected (length rest) (p (y ∷ c ++ rest)) → CanFinish S p (y ∷ c)
  by-stops y c rest h = elim (branch y) [
    | like q g e quiet ↦ (let m = g.stops y c rest (sym (e (c ++ rest)) ∙ h) in record { more = m.more; gives = m.gives; reads = λ z s. (e (c ++ (m.more ++ z)) ∙ m.reads z s) })
    | behind q g n e ↦ behind-stops y q g n e c rest (sym (e (c ++ rest)) ∙ h)
  ]

  pub goes-first : Goes S p
  goes-first = record { fine = fine; cuts = by-cut; ends = by-ends; stops = by-stops }

-- a reading behind its first token, where it takes that one
uncut-ok : (y : Spot) (us c rest : List Spot) → y ∷ us ≡ c ++ rest → length rest ≤ length us → (d : List Spot) × (us ≡ d ++ rest)
uncut-ok y us [] rest e le = let n = ap length e in absurd (omega arith)
uncut-ok y us (x ∷ c) rest e le = (c, cc)

uncut : {A : Type 0} (y : Spot) (us : List Spot) (r : Result (A × List Spot) Fault) → Cut (y ∷ us) r → Within (length us) r → Cut us r
uncut y us (Ok v) h le = uncut-ok y us h.0 v.1 h.1 le
uncut y us (Err f) h le = let n = h.3 in let u = uncut-ok y us h.0 h.1 h.2 (omega arith) in (u.0, h.1, u.1, h.3)

pub goes-behind : (S : List Spot → Type 0) {A : Type 0} (p : Parser A) (y : Spot) → Goes S p → Fine (λ us. p (y ∷ us)) → Goes S (λ us. p (y ∷ us))
goes-behind S p y g fine = record {
  fine = fine;
  cuts = λ us. uncut y us (p (y ∷ us)) (g.cuts (y ∷ us)) (fine.within us);
  ends = λ c rest a e z s. g.ends (y ∷ c) rest a e z s;
  stops = λ x c rest e. (let m = g.stops y (x ∷ c) rest e in record { more = m.more; gives = m.gives; reads = m.reads });
}

pub next-first : (S : List Spot → Type 0) {A : Type 0} (p q : Parser A) (y : Spot) → ((us : List Spot) → p (y ∷ us) ≡ q us) → Next Anything S q → Next Anything S p
next-first S p q y e n = record { more = y ∷ n.more; gives = n.gives; allowed = λ z s. tt; reads = λ z s. (e (n.more ++ z) ∙ n.reads z s) }

-- by what opens
module _ (S : List Spot → Type 0) {A : Type 0} (o : List Spot → Option (List Spot)) (by : List Spot → Option (List Spot) → Result (A × List Spot) Fault) (p : Parser A) (decides : Decides o) (is : (us vs : List Spot) → by us (Some vs) ≡ p vs)
    (none : Goes S (λ us. by us None)) (some : Goes S p) (next : Next Anything S p) (quiet : (rest : List Spot) (a : A) → by rest None ≡ Ok (a, rest) → (z : List Spot) → S z → by z (o z) ≡ Ok (a, z))
    (strict : (y : Spot) (us : List Spot) → o (y ∷ us) ≡ Some (y ∷ us) → Holds (λ z. length z.1 < suc (length us)) (p (y ∷ us))) where
  longer : (y : Spot) (us : List Spot) (a : A) → o (y ∷ us) ≡ Some (y ∷ us) → p (y ∷ us) ≡ Ok (a, y ∷ us) → ⊥
  longer y us a e h = let l = rw h at (strict y us e) in omega arith

  opened : (y : Spot) → Branch S (λ us. by us (o us)) y
  opened y = elim (decides.first y) [
    | shut e ↦ like (λ us. by us None) none (λ us. rw (e us) refl) (λ us a h z s. quiet (y ∷ us) a h z s)
    | past e ↦ behind p some next (λ us. rw (e us) (is (y ∷ us) us))
    | here e ↦ like p some (λ us. rw (e us) (is (y ∷ us) (y ∷ us))) (λ us a h z s. absurd (longer y us a (e us) h))
  ]

  at-nothing : (a : A) → by [] (o []) ≡ Ok (a, []) → (z : List Spot) → S z → by z (o z) ≡ Ok (a, z)
  at-nothing a h z s = quiet [] a (rw decides.nil at h) z s

  pub goes-by : Goes S (λ us. by us (o us))
  goes-by = goes-first S (λ us. by us (o us)) (fine-by o by p decides is none.fine some.fine) at-nothing opened

-- where nothing opens before a list that S allows
pub lacks-quiet : (S : List Spot → Type 0) {A : Type 0} (o : List Spot → Option (List Spot)) (by : List Spot → Option (List Spot) → Result (A × List Spot) Fault) → Goes S (λ us. by us None) → ((z : List Spot) → S z → o z ≡ None)
    → (rest : List Spot) (a : A) → by rest None ≡ Ok (a, rest) → (z : List Spot) → S z → by z (o z) ≡ Ok (a, z)
lacks-quiet S o by none lacks rest a h z s = rw (lacks z s) (none.ends [] rest a h z s)

no-loop : (y : Spot) (us : List Spot) → us ≡ y ∷ us → ⊥
no-loop y us e = let n = ap length e in omega arith

-- a sign and a word take themselves
sign-goes-on : (m : Mark) (y : Spot) (us : List Spot) → Has m (y ∷ us) → after m (y ∷ us) ≡ Some (y ∷ us) → ⊥
sign-goes-on m _ us (there {p = q}) h = no-loop (sign m q) us (cc (same-sign m q us))
sign-goes-on m y us (lacking e) h = absurd (cc)

pub never-sign : {A : Type 0} (m : Mark) (p : Parser A) (y : Spot) (us : List Spot) → after m (y ∷ us) ≡ Some (y ∷ us) → Holds (λ z. length z.1 < suc (length us)) (p (y ∷ us))
never-sign m p y us e = absurd (sign-goes-on m y us (has m (y ∷ us)) e)

word-goes-on : (k : Key) (y : Spot) (us : List Spot) → HasWord k (y ∷ us) → after_word k (y ∷ us) ≡ Some (y ∷ us) → ⊥
word-goes-on k _ us (said {p = q}) h = no-loop (word k q) us (cc (same-word k q us))
word-goes-on k y us (unsaid e) h = absurd (cc)

pub never-word : {A : Type 0} (k : Key) (p : Parser A) (y : Spot) (us : List Spot) → after_word k (y ∷ us) ≡ Some (y ∷ us) → Holds (λ z. length z.1 < suc (length us)) (p (y ∷ us))
never-word k p y us e = absurd (word-goes-on k y us (has-word k (y ∷ us)) e)

-- and then a sign or a word, behind which nothing is looked at
module _ (S : List Spot → Type 0) {A : Type 0} (o : List Spot → Option (List Spot)) (decides : Decides o) (never : (y : Spot) (us : List Spot) → o (y ∷ us) ≡ Some (y ∷ us) → ⊥) (a : A) where
  by-first : (y : Spot) → Branch S (λ us. then_by a us (o us)) y
  by-first y = elim (decides.first y) [
    | shut e ↦ refuses S (λ us. then_by a us (o us)) y kind.Unexpected (λ us. rw (e us) refl)
    | past e ↦ behind (λ us. Ok (a, us)) (goes-give S a) (next-give Anything S a (λ z s. tt)) (λ us. rw (e us) refl)
    | here e ↦ absurd (never y [] (e []))
  ]

  nothing-there : (b : A) → then_by a [] (o []) ≡ Ok (b, []) → (z : List Spot) → S z → then_by a z (o z) ≡ Ok (b, z)
  nothing-there b h z s = let g : unexpected [] ≡ Ok (b, []) = rw decides.nil at h in absurd (cc g)

  goes-then-by : Goes S (λ us. then_by a us (o us))
  goes-then-by = goes-first S (λ us. then_by a us (o us)) (fine-by o (then_by a) (λ us. Ok (a, us)) decides (λ us vs. refl) (fine-refused _) (fine-give a)) nothing-there by-first

  -- it takes something
  takes : (b : A) (us rest : List Spot) → then_by a us (o us) ≡ Ok (b, rest) → length rest < length us
  takes b [] rest h = let g : unexpected [] ≡ Ok (b, rest) = rw decides.nil at h in absurd (cc g)
  takes b (y ∷ us) rest h = elim (decides.first y) [
    | shut e ↦ (let g : unexpected (y ∷ us) ≡ Ok (b, rest) = rw (e us) at h in absurd (cc g))
    | past e ↦ (let g : ◌≡◌ {A = Result (A × List Spot) Fault} (Ok (a, us)) (Ok (b, rest)) = rw (e us) at h in let l : length us ≡ length rest = ap length (ok-parts a b us rest g).1 in omega arith)
    | here e ↦ absurd (never y us (e us))
  ]

pub next-sign : (R S : List Spot → Type 0) {A : Type 0} (m : Mark) (a : A) → ((z : List Spot) → R (sign m at ∷ z)) → Next R S (λ us. then_by a us (after m us))
next-sign R S m a ready = record { more = sign m at ∷ []; gives = a; allowed = λ z s. ready z; reads = λ z s. (rw (same-sign m at z) refl) }

pub goes-sign : (R S : List Spot → Type 0) {A : Type 0} (m : Mark) (p : Parser A) → ((z : List Spot) → R (sign m at ∷ z)) → Goes R p → Goes S (λ us. p us >>= before (after m))
goes-sign R S m p ready g =
    let never = λ (y : Spot) (us : List Spot) (e : after m (y ∷ us) ≡ Some (y ∷ us)). sign-goes-on m y us (has m (y ∷ us)) e in
    goes-then R S p (λ a us. then_by a us (after m us)) g (λ a. goes-then-by S (after m) (sign-decides m) never a)
    (λ a. next-sign R S m a ready) (λ a b rest e z t. (let l = takes S (after m) (sign-decides m) never a b rest rest e in absurd (omega arith)))

pub next-word : (R S : List Spot → Type 0) {A : Type 0} (k : Key) (a : A) → ((z : List Spot) → R (word k at ∷ z)) → Next R S (λ us. then_by a us (after_word k us))
next-word R S k a ready = record { more = word k at ∷ []; gives = a; allowed = λ z s. ready z; reads = λ z s. (rw (same-word k at z) refl) }

pub goes-word : (R S : List Spot → Type 0) {A : Type 0} (k : Key) (p : Parser A) → ((z : List Spot) → R (word k at ∷ z)) → Goes R p → Goes S (λ us. p us >>= before (after_word k))
goes-word R S k p ready g =
    let never = λ (y : Spot) (us : List Spot) (e : after_word k (y ∷ us) ≡ Some (y ∷ us)). word-goes-on k y us (has-word k (y ∷ us)) e in
    goes-then R S p (λ a us. then_by a us (after_word k us)) g (λ a. goes-then-by S (after_word k) (word-decides k) never a)
    (λ a. next-word R S k a ready) (λ a b rest e z t. (let l = takes S (after_word k) (word-decides k) never a b rest rest e in absurd (omega arith)))

-- a sign is taken
pub takes-sign : {A : Type 0} (m : Mark) (a b : A) (us rest : List Spot) → then_by a us (after m us) ≡ Ok (b, rest) → length rest < length us
takes-sign m a b us rest e = takes Anything (after m) (sign-decides m) (λ y vs h. sign-goes-on m y vs (has m (y ∷ vs)) h) a b us rest e

none-turns : {A : Type 0} (o : List Spot → Option (List Spot)) (p : Parser A) (k : ℕ) (us : List Spot) → o us ≡ None → follows o p k us ≡ Ok ([], us)
none-turns o p zero us e = refl
none-turns o p (suc k) us e = rw (e, follows) refl

pub takes-word : {A : Type 0} (k : Key) (a b : A) (us rest : List Spot) → then_by a us (after_word k us) ≡ Ok (b, rest) → length rest < length us
takes-word k a b us rest e = takes Anything (after_word k) (word-decides k) (λ y vs h. word-goes-on k y vs (has-word k (y ∷ vs)) h) a b us rest e

-- nothing follows, where nothing opens
pub none-repeats : {A : Type 0} (o : List Spot → Option (List Spot)) (p : Parser A) (us : List Spot) → o us ≡ None → repeated o p us ≡ Ok ([], us)
none-repeats o p us e = none-turns o p (length us) us e

-- repeated readings
module _ (S : List Spot → Type 0) {A : Type 0} (o : List Spot → Option (List Spot)) (p : Parser A) (decides : Decides o) (goes : Goes S p) (next : Next Anything S p) (lacks : (z : List Spot) → S z → o z ≡ None)
    (strict : (y : Spot) (us : List Spot) → o (y ∷ us) ≡ Some (y ∷ us) → Holds (λ z. length z.1 < suc (length us)) (p (y ∷ us))) where
  none-follows : (k : ℕ) (us : List Spot) → o us ≡ None → follows o p k us ≡ Ok ([], us)
  none-follows zero us e = refl
  none-follows (suc k) us e = rw (e, follows) refl

  next-follows : (k : ℕ) → Next S S (follows o p k)
  next-follows k = record { more = []; gives = []; allowed = λ z s. s; reads = λ z s. none-follows k z (lacks z s) }

  abbrev turned : ℕ → Parser (List A)
  turned k vs = p vs >>= λ z. follows o p k z.1 >>= λ zs. Ok (z.0 ∷ zs.0, zs.1)

  turn-by : ℕ → List Spot → Option (List Spot) → Result (List A × List Spot) Fault
  turn-by k us None = Ok ([], us)
  turn-by k us (Some vs) = turned k vs

  turn-is : (k : ℕ) (us : List Spot) (next : Option (List Spot)) → o us ≡ next → follows o p (suc k) us ≡ turn-by k us (o us)
  unfolding turn-by
  turn-is k us None e = rw (e, follows) refl
  turn-is k us (Some vs) e = rw (e, follows) refl

  turned-goes : (k : ℕ) → Goes S (follows o p k) → Goes S (turned k)
  turned-goes k again = goes-then S S p (λ a us. follows o p k us >>= λ zs. Ok (a ∷ zs.0, zs.1)) goes (λ a. goes-map S (follows o p k) (λ zs. a ∷ zs) again) (λ a. next-map S S (follows o p k) (λ zs. a ∷ zs) (next-follows k)) (λ a b rest e z s. s)

  turned-next : (k : ℕ) → Next Anything S (turned k)
  turned-next k = next-then Anything S S p (λ a us. follows o p k us >>= λ zs. Ok (a ∷ zs.0, zs.1)) next (λ a. next-map S S (follows o p k) (λ zs. a ∷ zs) (next-follows k))

  shorter-still : {X : Type 0} (n m : ℕ) (r : Result (X × List Spot) Fault) → m < n → Within m r → Holds (λ z. length z.1 < n) r
  shorter-still n m (Ok x) lt h = omega arith
  shorter-still n m (Err f) lt h = tt

  -- one turn takes something
  bind-shorter : {X : Type 0} (n : ℕ) (r : Result (A × List Spot) Fault) (f : A × List Spot → Result (X × List Spot) Fault) → Holds (λ z. length z.1 < n) r → ((x : A × List Spot) → Within (length x.1) (f x)) → Holds (λ z. length z.1 < n) (r >>= f)
  bind-shorter n (Ok x) f h g = shorter-still n (length x.1) (f x) h (g x)
  bind-shorter n (Err e) f h g = tt

  follows-goes : (k : ℕ) → Goes S (follows o p k)
  unfolding turn-by
  follows-goes zero = goes-give S []
  follows-goes (suc k) = goes-is S (follows o p (suc k)) (λ us. turn-by k us (o us)) (λ us. turn-is k us (o us) refl)
      (goes-by S o (turn-by k) (turned k) decides (λ us vs. refl) (goes-give S []) (turned-goes k (follows-goes k)) (turned-next k) (lacks-quiet S o (turn-by k) (goes-give S []) lacks)
      (λ y us e. bind-shorter (suc (length us)) (p (y ∷ us)) (λ z. follows o p k z.1 >>= λ zs. Ok (z.0 ∷ zs.0, zs.1)) (strict y us e) (λ x. (goes-map S (follows o p k) (λ zs. x.0 ∷ zs) (follows-goes k)).fine.within x.1)))

  -- more turns than there are tokens change nothing
  ends-alike : (us z : List Spot) (xs : List A) (k : ℕ) → ◌≡◌ {A = List A × List Spot} ([], us) (xs, z) → o z ≡ None → follows o p k us ≡ Ok (xs, z)
  ends-alike us z xs k e none =
      let rest : us ≡ z = ap (λ (w : List A × List Spot). w.1) e in
      let items : [] ≡ xs = ap (λ (w : List A × List Spot). w.0) e in
      rw rest (none-follows k z none ∙ ap (λ (ys : List A). Ok (ys, z)) items)

  one-turn : (k : ℕ) (us vs : List Spot) → o us ≡ Some vs → follows o p (suc k) us ≡ turned k vs
  one-turn k us vs e = rw (e, follows) refl

  holds-ok : {X : Type 0} (P : X → Type 0) (r : Result X Fault) (x : X) → Holds P r → r ≡ Ok x → P x
  holds-ok P r x h e = rw e at h

  within-ok : (n : ℕ) (r : Result (A × List Spot) Fault) (x : A × List Spot) → Within n r → r ≡ Ok x → length x.1 ≤ n
  within-ok n r x h e = rw e at h

  taken : (y : Spot) (us vs : List Spot) (x : A × List Spot) → o (y ∷ us) ≡ Some vs → p vs ≡ Ok x → length x.1 ≤ length us
  taken y us vs x h e = elim (decides.first y) [
    | shut f ↦ absurd (cc (f us))
    | past f ↦ (let same : us ≡ vs = cc (f us) in let l = ap length same in let w = within-ok (length vs) (p vs) x (goes.fine.within vs) e in omega arith)
    | here f ↦ (let same : y ∷ us ≡ vs = cc (f us) in let w = holds-ok (λ z. length z.1 < suc (length us)) (p (y ∷ us)) x (strict y us (f us)) (ap p same ∙ e) in omega arith)
  ]

  more-turns : (k j : ℕ) (us vs z : List Spot) (xs : List A) → ((i : ℕ) (mid : List Spot) (ys : List A) → follows o p k mid ≡ Ok (ys, z) → length mid ≤ i → follows o p i mid ≡ Ok (ys, z))
      → o us ≡ Some vs → follows o p (suc k) us ≡ Ok (xs, z) → length us ≤ j → follows o p j us ≡ Ok (xs, z)
  more-turns k j [] vs z xs again h e le = absurd (cc decides.nil)
  more-turns k zero (y ∷ us) vs z xs again h e le = absurd (omega arith)
  more-turns k (suc j) (y ∷ us) vs z xs again h e le =
      let i = bind-ok (p vs) (λ x. follows o p k x.1 >>= λ zs. Ok (x.0 ∷ zs.0, zs.1)) (xs, z) (sym (one-turn k (y ∷ us) vs h) ∙ e) in
      let l = bind-ok (follows o p k i.0.1) (λ zs. Ok (i.0.0 ∷ zs.0, zs.1)) (xs, z) i.2 in
      let same = ok-parts (i.0.0 ∷ l.0.0) xs l.0.1 z l.2 in
      let rest : l.0.1 ≡ z = same.1 in
      let items : i.0.0 ∷ l.0.0 ≡ xs = same.0 in
      let shorter = taken y us vs i.0 h i.1 in
      let fewer : follows o p k i.0.1 ≡ Ok (l.0.0, z) = l.1 ∙ ap (λ (m : List Spot). Ok (l.0.0, m)) rest in
      let tail = again j i.0.1 l.0.0 fewer (omega arith) in
      one-turn j (y ∷ us) vs h ∙ (rw (i.1, tail, items) refl)

  enough-by : (k j : ℕ) (us z : List Spot) (xs : List A) (opening : Option (List Spot)) → ((i : ℕ) (mid : List Spot) (ys : List A) → follows o p k mid ≡ Ok (ys, z) → length mid ≤ i → follows o p i mid ≡ Ok (ys, z))
      → o us ≡ opening → follows o p (suc k) us ≡ Ok (xs, z) → o z ≡ None → length us ≤ j → follows o p j us ≡ Ok (xs, z)
  enough-by k j us z xs None again h e none le = ends-alike us z xs j (ok-is ([], us) (xs, z) (sym (none-follows (suc k) us h) ∙ e)) none
  enough-by k j us z xs (Some vs) again h e none le = more-turns k j us vs z xs again h e le

  enough : (k j : ℕ) (us z : List Spot) (xs : List A) → follows o p k us ≡ Ok (xs, z) → o z ≡ None → length us ≤ j → follows o p j us ≡ Ok (xs, z)
  enough zero j us z xs e none le = ends-alike us z xs j (ok-is ([], us) (xs, z) e) none
  enough (suc k) j us z xs e none le = enough-by k j us z xs (o us) (λ i mid ys h l. enough k i mid z ys h none l) refl e none le

  repeated-stops : (x : Spot) (c rest : List Spot) → CanFinish S (follows o p (length (x ∷ c ++ rest))) (x ∷ c) → CanFinish S (repeated o p) (x ∷ c)
  repeated-stops x c rest m = record {
    more = m.more;
    gives = m.gives;
    reads = λ z s. enough (length (x ∷ c ++ rest)) (length (x ∷ c ++ (m.more ++ z))) (x ∷ c ++ (m.more ++ z)) z m.gives (m.reads z s) (lacks z s) (omega arith);
  }

  pub goes-repeated : Goes S (repeated o p)
  goes-repeated = record {
    fine = fine-repeated-here o p decides goes.fine strict;
    cuts = λ us. (follows-goes (length us)).cuts us;
    ends = λ c rest a e z s. enough (length (c ++ rest)) (length (c ++ z)) (c ++ z) z a ((follows-goes (length (c ++ rest))).ends c rest a e z s) (lacks z s) (omega arith);
    stops = λ x c rest e. repeated-stops x c rest ((follows-goes (length (x ∷ c ++ rest))).stops x c rest e);
  }

  pub next-repeated : Next S S (repeated o p)
  next-repeated = record { more = []; gives = []; allowed = λ z s. s; reads = λ z s. none-follows (length z) z (lacks z s) }

  pub goes-separated : Goes S (separated o p)
  goes-separated = goes-then S S p (λ a us. repeated o p us >>= λ xs. Ok (a ∷ xs.0, xs.1)) goes (λ a. goes-map S (repeated o p) (λ xs. a ∷ xs) goes-repeated) (λ a. next-map S S (repeated o p) (λ xs. a ∷ xs) next-repeated) (λ a b rest e z s. s)

  pub next-separated : Next Anything S (separated o p)
  next-separated = next-then Anything S S p (λ a us. repeated o p us >>= λ xs. Ok (a ∷ xs.0, xs.1)) next (λ a. next-map S S (repeated o p) (λ xs. a ∷ xs) next-repeated)

-- what does not go on before an end
pub wide-comma : (z : List Spot) → Wide z → after mark.Comma z ≡ None
wide-comma z w = wide-all (λ us. after mark.Comma us ≡ None) refl (λ p us. refl) (λ p us. refl) (λ n p us. refl) (λ p us. refl) (λ p us. refl) (λ p us. refl) z w

-- between brackets
module _ {A : Type 0} (p : Parser A) (goes : Goes Wide p) (next : Next Anything Wide p) where
  commas : Goes Wide (separated (after mark.Comma) p)
  commas = goes-separated Wide (after mark.Comma) p (sign-decides mark.Comma) goes next wide-comma (λ y us e. never-sign mark.Comma p y us e)

  next-commas : Next Anything Wide (separated (after mark.Comma) p)
  next-commas = next-separated Wide (after mark.Comma) p (sign-decides mark.Comma) goes next wide-comma (λ y us e. never-sign mark.Comma p y us e)

  module _ (S : List Spot → Type 0) (m : Mark) (ready : (z : List Spot) → Wide (sign m at ∷ z)) where
    pub goes-enclosed : Goes S (enclosed m p)
    goes-enclosed = goes-sign Wide S m (separated (after mark.Comma) p) ready commas

    pub next-enclosed : Next Anything S (enclosed m p)
    next-enclosed = next-then Anything Wide S (separated (after mark.Comma) p) (λ a us. then_by a us (after m us)) next-commas (λ a. next-sign Wide S m a ready)

    pub closes : (us rest : List Spot) (a : List A) → enclosed m p us ≡ Ok (a, rest) → length rest < length us
    closes us rest a e =
        let i = bind-ok (separated (after mark.Comma) p us) (before (after m)) (a, rest) e in
        let l = fine-within-ok (length us) (separated (after mark.Comma) p us) i.0.0 i.0.1 (commas.fine.within us) i.1 in
        let t = takes S (after m) (sign-decides m) (λ y us h. sign-goes-on m y us (has m (y ∷ us)) h) i.0.0 a i.0.1 rest i.2 in
        omega arith

    or-none-by : List Spot → Option (List Spot) → Result (List A × List Spot) Fault
    or-none-by us None = enclosed m p us
    or-none-by us (Some vs) = Ok ([], vs)

    or-none-is : (us : List Spot) (o : Option (List Spot)) → after m us ≡ o → enclosed_or_none m p us ≡ or-none-by us (after m us)
    unfolding or-none-by
    or-none-is us None e = rw (e, enclosed_or_none) refl
    or-none-is us (Some vs) e = rw (e, enclosed_or_none) refl

    pub goes-or-none : Goes S (enclosed_or_none m p)
    unfolding or-none-by
    goes-or-none = goes-is S (enclosed_or_none m p) (λ us. or-none-by us (after m us)) (λ us. or-none-is us (after m us) refl)
        (goes-by S (after m) or-none-by (λ us. Ok ([], us)) (sign-decides m) (λ us vs. refl) goes-enclosed (goes-give S []) (next-give Anything S [] (λ z s. tt)) (λ rest a e z s. (let l = closes rest rest a e in absurd (omega arith)))
        (λ y us e. never-sign {A = List A} m (λ us. Ok ([], us)) y us e))

    pub next-or-none : Next Anything S (enclosed_or_none m p)
    unfolding or-none-by
    next-or-none = record { more = sign m at ∷ []; gives = []; allowed = λ z s. tt; reads = λ z s. (or-none-is (sign m at ∷ z) (Some z) (same-sign m at z) ∙ ap (or-none-by (sign m at ∷ z)) (same-sign m at z)) }
