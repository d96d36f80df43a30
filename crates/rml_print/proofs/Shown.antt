-- Spots that show tokens at some places, and readings of them that give back what was printed.
use Rattle.std.proofs.Common.{◌≡◌, ℕ, List, [], ◌∷◌, ◌++◌, map, refl, Option, Some, None, false}
use Rattle.std.specs.List.{flat_map}
use Rattle.rml_base.specs.declared.place.Place.{Place}
use Rattle.rml_syntax.specs.declared.token.Spot.{Spot}
use Rattle.rml_syntax.specs.declared.token.Token.{Token}
use Rattle.rml_syntax.specs.declared.token.Token.TheVariants as token
use Rattle.rml_syntax.specs.declared.token.Key.TheVariants as key
use Rattle.rml_syntax.specs.declared.token.Mark.{Mark}
use Rattle.rml_syntax.specs.declared.token.Mark.TheVariants as mark
use Rattle.rml_syntax.specs.declared.rules.Long.{Long}
use Rattle.rml_grammar.specs.Tokens.{sign, Lacks, LacksWord, front_of}
use Rattle.rml_grammar.specs.Lacks.{LacksName}
use Rattle.rml_grammar.specs.SpelledNames.{IsLong, alone, dotted}
use Rattle.rml_grammar.specs.SpelledPatterns.{pargs_begin}
use Rattle.rml_grammar.specs.SpelledExpressions.{eargs_begin}
use Rattle.rml_print.specs.declared.seats.Seat.{Seat}
use Rattle.rml_print.specs.Parts.{Printed, in_round, in_square, led, separated, listed, long_by, long_tokens}
use Rattle.rml_print.specs.Plain.{plain_long}
use Rattle.rml_print.proofs.Separated.{seats}

-- a token at a place
abbrev pub spot : Token → Place → Spot
spot t p = record { token = t; place = p }

-- the tokens stand at the front, and then the rest
pub data Shows : List Token → List Spot → List Spot → Type 0 where
  ended : {rest : List Spot} → Shows [] rest rest
  shown : {t : Token} {p : Place} {ts : List Token} {us rest : List Spot} → Shows ts us rest → Shows (t ∷ ts) (spot t p ∷ us) rest

-- all of them
pub all-shown : (ts : List Token) (us : List Spot) → map (λ s. s.token) us ≡ ts → Shows ts us []
all-shown [] [] e = ended
all-shown [] (u ∷ us) e = absurd (cc e)
all-shown (t ∷ ts) [] e = absurd (cc e)
all-shown (t ∷ ts) (u ∷ us) e =
    let first : u.token ≡ t = cc e in
    let more : map (λ (s : Spot). s.token) us ≡ ts = cc e in
    rw (← first) (shown (all-shown ts us more))

-- cut in two
pub record Cut (a b : List Token) (us rest : List Spot) : Type 0 where
  pub between : List Spot
  pub first : Shows a us between
  pub second : Shows b between rest

cut-more : {t : Token} {p : Place} {a b : List Token} {us rest : List Spot} → Cut a b us rest → Cut (t ∷ a) b (spot t p ∷ us) rest
cut-more c = record { between = c.between; first = shown c.first; second = c.second }

pub cut : (a : List Token) {b : List Token} {us rest : List Spot} → Shows (a ++ b) us rest → Cut a b us rest
cut [] {us = us} s = record { between = us; first = ended; second = s }
cut (t ∷ a) (shown s) = cut-more (cut a s)

-- in brackets
pub data InRound (ts : List Token) : List Spot → List Spot → Type 0 where
  in_round_brackets : {p q : Place} {us rest : List Spot} → Shows ts us (sign mark.CloseRound q ∷ rest) → InRound ts (sign mark.OpenRound p ∷ us) rest

pub data InSquare (ts : List Token) : List Spot → List Spot → Type 0 where
  in_square_brackets : {p q : Place} {us rest : List Spot} → Shows ts us (sign mark.CloseSquare q ∷ rest) → InSquare ts (sign mark.OpenSquare p ∷ us) rest

close-round : {ts : List Token} {p : Place} {us vs rest : List Spot} → Shows ts us vs → Shows (token.Sign mark.CloseRound ∷ []) vs rest → InRound ts (sign mark.OpenRound p ∷ us) rest
close-round a (shown ended) = in_round_brackets a

close-square : {ts : List Token} {p : Place} {us vs rest : List Spot} → Shows ts us vs → Shows (token.Sign mark.CloseSquare ∷ []) vs rest → InSquare ts (sign mark.OpenSquare p ∷ us) rest
close-square a (shown ended) = in_square_brackets a

pub round-shown : (ts : List Token) {us rest : List Spot} → Shows (in_round ts) us rest → InRound ts us rest
round-shown ts (shown s) = let c = cut ts s in close-round c.first c.second

pub square-shown : (ts : List Token) {us rest : List Spot} → Shows (in_square ts) us rest → InSquare ts us rest
square-shown ts (shown s) = let c = cut ts s in close-square c.first c.second

-- what stands behind what could go on: no dot, no argument, no name and no `as`
pub record Stops (us : List Spot) : Type 0 where
  pub dot : Lacks mark.Dot us
  pub pargument : pargs_begin (front_of us) ≡ false
  pub eargument : eargs_begin (front_of us) ≡ false
  pub name : LacksName us
  pub binder : LacksWord key.KAs us

-- nor what goes on with a chain or a product
pub record Closes (us : List Spot) : Type 0 where
  pub stops : Stops us
  pub chain : Lacks mark.TwoColons us
  pub factor : Lacks mark.Star us

pub closing : (us : List Spot) → Lacks mark.Dot us → pargs_begin (front_of us) ≡ false → eargs_begin (front_of us) ≡ false → LacksName us → LacksWord key.KAs us → Lacks mark.TwoColons us → Lacks mark.Star us → Closes us
closing us a b c d e f g = record { stops = record { dot = a; pargument = b; eargument = c; name = d; binder = e }; chain = f; factor = g }

-- nor a further item of a list in brackets
pub record Encloses (us : List Spot) : Type 0 where
  pub closes : Closes us
  pub comma : Lacks mark.Comma us

pub encloses-round : (p : Place) (us : List Spot) → Encloses (sign mark.CloseRound p ∷ us)
encloses-round p us = record { closes = closing _ refl refl refl refl refl refl refl; comma = refl }

pub encloses-square : (p : Place) (us : List Spot) → Encloses (sign mark.CloseSquare p ∷ us)
encloses-square p us = record { closes = closing _ refl refl refl refl refl refl refl; comma = refl }

pub closes-comma : (us : List Spot) (p : Place) → Closes (sign mark.Comma p ∷ us)
closes-comma us p = closing _ refl refl refl refl refl refl refl

pub closes-equals : (p : Place) (us : List Spot) → Closes (sign mark.Equals p ∷ us)
closes-equals p us = closing _ refl refl refl refl refl refl refl

pub closes-arrow : (p : Place) (us : List Spot) → Closes (sign mark.Arrow p ∷ us)
closes-arrow p us = closing _ refl refl refl refl refl refl refl

pub stops-chain : (us : List Spot) (p : Place) → Stops (sign mark.TwoColons p ∷ us)
stops-chain us p = record { dot = refl; pargument = refl; eargument = refl; name = refl; binder = refl }

pub stops-star : (us : List Spot) (p : Place) → Stops (sign mark.Star p ∷ us)
stops-star us p = record { dot = refl; pargument = refl; eargument = refl; name = refl; binder = refl }

-- a tree that is read, and is t but for its places
pub record Again {A B : Type 0} (plain : A → B) (N : List Spot → A → List Spot → Type 0) (t : A) (us rest : List Spot) : Type 0 where
  pub tree : A
  pub reads : N us tree rest
  pub same : plain tree ≡ plain t

-- what f prints of t is read as N says, before what E lets follow
abbrev pub ReadsAgain : {A B : Type 0} → (A → B) → (List Spot → A → List Spot → Type 0) → (A → List Token) → (List Spot → Type 0) → A → Type 0
ReadsAgain plain N f E t = (us rest : List Spot) → Shows (f t) us rest → E rest → Again plain N t us rest

-- P holds of each of them: data, so that the list is found from it
pub data Each {A : Type 0} (P : A → Type 0) : List A → Type 0 where
  none : Each P []
  also : {x : A} {xs : List A} → P x → Each P xs → Each P (x ∷ xs)

-- P holds of each of one or more
pub data OneOrMore {A : Type 0} (P : A → Type 0) : List A → Type 0 where
  first : {x : A} {xs : List A} → P x → Each P xs → OneOrMore P (x ∷ xs)

pub each-of : {A : Type 0} {P : A → Type 0} {xs : List A} → OneOrMore P xs → Each P xs
each-of (first p e) = also p e

pub each-map : {A : Type 0} {P Q : A → Type 0} {xs : List A} → ((x : A) → P x → Q x) → Each P xs → Each Q xs
each-map f none = none
each-map f (also {x} p e) = also (f x p) (each-map f e)

-- a list that goes on is the same where its items are
pub together : {A : Type 0} {x y : A} {xs ys : List A} → x ≡ y → xs ≡ ys → x ∷ xs ≡ y ∷ ys
together p q = rw (p, q) refl

-- a first item, and then the others
pub record First {A B : Type 0} (plain : A → B) (N : List Spot → A → List Spot → Type 0) (M : List Spot → List A → List Spot → Type 0) (t : A) (ts : List A) (us rest : List Spot) : Type 0 where
  pub between : List Spot
  pub first : Again plain N t us between
  pub others : Again (map plain) M ts between rest

-- lists in which each item but the first stands behind a separator; E is what may follow an item, F what may follow the list
module _ {A B : Type 0} (plain : A → B) (N : List Spot → A → List Spot → Type 0) (M : List Spot → List A → List Spot → Type 0) (f : A → List Token) (separator : Token) (E F : List Spot → Type 0)
    (no_more : (us : List Spot) → F us → M us [] us)
    (more : (us vs rest : List Spot) (p : Place) (t : A) (ts : List A) → N us t vs → M vs ts rest → M (spot separator p ∷ us) (t ∷ ts) rest)
    (at_end : (us : List Spot) → F us → E us)
    (at_separator : (us : List Spot) (p : Place) → E (spot separator p ∷ us)) where
  led-stops : (ts : List A) {us rest : List Spot} → Shows (led separator (map f ts)) us rest → F rest → E us
  led-stops [] (ended {rest = vs}) e = at_end vs e
  led-stops (t ∷ ts) (shown {p = q} {us = vs} s) e = at_separator vs q

  led-one : {t : A} {ts : List A} {us vs rest : List Spot} {p : Place} → Again plain N t us vs → Again (map plain) M ts vs rest → Again (map plain) M (t ∷ ts) (spot separator p ∷ us) rest
  led-one {us} {vs} {rest} {p} a b = record { tree = a.tree ∷ b.tree; reads = more us vs rest p a.tree b.tree a.reads b.reads; same = together a.same b.same }

  pub led-again : (ts : List A) {us rest : List Spot} → Each (ReadsAgain plain N f E) ts → Shows (led separator (map f ts)) us rest → F rest → Again (map plain) M ts us rest
  led-again [] e (ended {rest = vs}) h = record { tree = []; reads = no_more vs h; same = refl }
  led-again (t ∷ ts) (also r rs) (shown {us = vs} {rest = ws} s) h =
      let c = cut (f t) s in
      led-one (r vs c.between c.first (led-stops ts c.second h)) (led-again ts rs c.second h)

  pub separated-again : (t : A) (ts : List A) {us rest : List Spot} → ReadsAgain plain N f E t → Each (ReadsAgain plain N f E) ts → Shows (separated separator (map f (t ∷ ts))) us rest → F rest → First plain N M t ts us rest
  separated-again t ts {us} r rs s h =
      let c = cut (f t) s in
      record { between = c.between; first = r us c.between c.first (led-stops ts c.second h); others = led-again ts rs c.second h }

-- lists in which nothing stands between the items; E and F as before
pub repeated-stops : {A : Type 0} (f : A → List Token) (E : List Spot → Type 0) → ((t : A) (ts : List Token) (us rest : List Spot) → Shows (f t ++ ts) us rest → E us) → (ts : List A) {us rest : List Spot} → Shows (flat_map f ts) us rest → E rest → E us
repeated-stops f E at_item [] ended h = h
repeated-stops f E at_item (t ∷ ts) {us} {rest} x h = at_item t (flat_map f ts) us rest x

module _ {A B : Type 0} (plain : A → B) (N : List Spot → A → List Spot → Type 0) (M : List Spot → List A → List Spot → Type 0) (f : A → List Token) (E F : List Spot → Type 0)
    (no_more : (us : List Spot) → F us → M us [] us)
    (more : (us vs rest : List Spot) (t : A) (ts : List A) → N us t vs → M vs ts rest → M us (t ∷ ts) rest)
    (at_end : (us : List Spot) → F us → E us)
    (at_item : (t : A) (ts : List Token) (us rest : List Spot) → Shows (f t ++ ts) us rest → E us) where
  repeated-one : {t : A} {ts : List A} {us vs rest : List Spot} → Again plain N t us vs → Again (map plain) M ts vs rest → Again (map plain) M (t ∷ ts) us rest
  repeated-one {us} {vs} {rest} a b = record { tree = a.tree ∷ b.tree; reads = more us vs rest a.tree b.tree a.reads b.reads; same = together a.same b.same }

  pub repeated-again : (ts : List A) {us rest : List Spot} → Each (ReadsAgain plain N f E) ts → Shows (flat_map f ts) us rest → F rest → Again (map plain) M ts us rest
  repeated-again [] e (ended {rest = vs}) h = record { tree = []; reads = no_more vs h; same = refl }
  repeated-again (t ∷ ts) {us} (also r rs) x h =
      let c = cut (f t) x in
      repeated-one (r us c.between c.first (repeated-stops f E at_item ts c.second (at_end _ h))) (repeated-again ts rs c.second h)

  pub repeated-first : (t : A) (ts : List A) {us rest : List Spot} → ReadsAgain plain N f E t → Each (ReadsAgain plain N f E) ts → Shows (flat_map f (t ∷ ts)) us rest → F rest → First plain N M t ts us rest
  repeated-first t ts {us} r rs x h =
      let c = cut (f t) x in
      record { between = c.between; first = r us c.between c.first (repeated-stops f E at_item ts c.second (at_end _ h)); others = repeated-again ts rs c.second h }

-- trees that all stand in one seat
pub listed-shown : {A : Type 0} (m : Mark) (seat : Seat) (f : A → Printed) (xs : List A) {us rest : List Spot} → Shows (listed m seat (map f xs)) us rest → Shows (separated (token.Sign m) (map (λ t. f t seat) xs)) us rest
listed-shown m seat f xs s = rw (seats f seat xs) at s

-- a name
long-by : (m : Option ℕ) (n : ℕ) (p : Place) {us rest : List Spot} → Shows (long_by m n) us rest → Lacks mark.Dot rest → Again plain_long IsLong (record { «module» = m; name = n; place = p }) us rest
long-by None n p (shown ended) e = record { tree = _; reads = alone e; same = refl }
long-by (Some m) n p (shown (shown (shown ended))) e = record { tree = _; reads = dotted; same = refl }

pub long-again : (l : Long) → ReadsAgain plain_long IsLong long_tokens (Lacks mark.Dot) l
long-again l us rest s e = long-by l.module l.name l.place s e
