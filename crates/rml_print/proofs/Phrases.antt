-- Lists of tokens that can stand behind any token, and how they are put together.
use Rattle.std.proofs.Common.{◌≡◌, ℕ, Bool, true, false, List, [], ◌∷◌, ◌++◌, map, refl}
use Rattle.std.specs.Prelude.{All, if◌then◌else◌}
use Rattle.std.proofs.lemmas.List.Elements.{All-cons, All-nil}
use Rattle.rml_syntax.specs.declared.token.Lit.TheVariants as lit
use Rattle.rml_syntax.specs.declared.token.Mark.{Mark}
use Rattle.rml_syntax.specs.declared.token.Mark.TheVariants as mark
use Rattle.rml_syntax.specs.declared.token.Token.{Token}
use Rattle.rml_syntax.specs.declared.token.Token.TheVariants as token
use Rattle.rml_print.specs.declared.seats.Seat.{Seat}
use Rattle.rml_print.specs.declared.seats.Seat.TheVariants.{Free, OnlyResult}
use Rattle.rml_print.specs.declared.seats.Shape.{Shape}
use Rattle.rml_print.specs.Parts.{Printed, in_round, in_square, led, listed, results_tokens, seated, separated, tupled}
use Rattle.rml_print.specs.Printable.{AreApart, AreApartFrom, ArePrintable, IsPrintable, runs_together}
use Rattle.rml_print.specs.Seats.{is_bracketed}

-- the signs that may run together with what stands before them
abbrev pub joins : Token → Bool
joins (token.Sign mark.Star) = true
joins (token.Sign mark.Colon) = true
joins (token.Sign mark.Dot) = true
joins _ = false

pub quiet : (t u : Token) → joins u ≡ false → runs_together t u ≡ false
quiet (token.Sign mark.OpenRound) (token.Sign mark.Star) e = absurd cc
quiet (token.Sign mark.Colon) (token.Sign mark.Colon) e = absurd cc
quiet (token.Lit (lit.Int i)) (token.Sign mark.Dot) e = absurd cc
quiet _ _ e = refl

module _ (names : List (List ℕ)) where
  -- the tokens can stand behind the token
  abbrev pub After : Token → List Token → Type 0
  After t [] = Unit {0}
  After t (u ∷ us) = IsPrintable names u × (runs_together t u ≡ false) × After u us

  -- they can stand behind any
  pub record Phrase (ts : List Token) : Type 0 where
    pub from : (t : Token) → After t ts

  -- the last of the tokens, the first of which is t
  abbrev pub last_of : Token → List Token → Token
  last_of t [] = t
  last_of t (u ∷ us) = last_of u us

  -- and a star can stand behind them
  pub record Closed (ts : List Token) : Type 0 where
    pub phrase : Phrase ts
    pub ends : (t : Token) → runs_together (last_of t ts) (token.Sign mark.Star) ≡ false

  after-join : (t : Token) (xs ys : List Token) → After t xs → After (last_of t xs) ys → After t (xs ++ ys)
  after-join t [] ys h k = k
  after-join t (x ∷ xs) ys h k = (h.0, h.1, after-join x xs ys h.2 k)

  last-join : (t : Token) (xs ys : List Token) → last_of t (xs ++ ys) ≡ last_of (last_of t xs) ys
  last-join t [] ys = refl
  last-join t (x ∷ xs) ys = last-join x xs ys

  pub nothing : Phrase []
  nothing = record { from = λ t. tt }

  pub after-both : {ys : List Token} (t : Token) (xs : List Token) → After t xs → Phrase ys → After t (xs ++ ys)
  after-both {ys} t xs h q = after-join t xs ys h (q.from (last_of t xs))

  pub both : {xs ys : List Token} → Phrase xs → Phrase ys → Phrase (xs ++ ys)
  both {xs} p q = record { from = λ t. after-both t xs (p.from t) q }

  -- one token more in front
  pub put : {ts : List Token} (u : Token) → IsPrintable names u → joins u ≡ false → Phrase ts → Phrase (u ∷ ts)
  put u h e p = record { from = λ t. (h, quiet t u e, p.from u) }

  pub one : (u : Token) → IsPrintable names u → joins u ≡ false → Phrase (u ∷ [])
  one u h e = put u h e nothing

  pub round : {ts : List Token} → Phrase ts → Phrase (in_round ts)
  round p = put (token.Sign mark.OpenRound) tt refl (both p (one (token.Sign mark.CloseRound) tt refl))

  pub square : {ts : List Token} → Phrase ts → Phrase (in_square ts)
  square p = put (token.Sign mark.OpenSquare) tt refl (both p (one (token.Sign mark.CloseSquare) tt refl))

  pub closed-round : {ts : List Token} → Phrase ts → Closed (in_round ts)
  closed-round {ts} p = record { phrase = round p; ends = λ t. rw (last-join (token.Sign mark.OpenRound) ts (token.Sign mark.CloseRound ∷ [])) refl }

  pub closed-both : {xs ys : List Token} → Phrase xs → Closed ys → Closed (xs ++ ys)
  closed-both {xs} {ys} p q = record { phrase = both p q.phrase; ends = λ t. rw (last-join t xs ys) (q.ends (last_of t xs)) }

  -- a star between
  pub starred : {xs ys : List Token} → Closed xs → Closed ys → Closed (xs ++ token.Sign mark.Star ∷ ys)
  starred {xs} {ys} p q = record {
    phrase = record { from = λ t. after-join t xs (token.Sign mark.Star ∷ ys) (let a = p.phrase in a.from t) (tt, p.ends t, (let b = q.phrase in b.from (token.Sign mark.Star))) };
    ends = λ t. rw (last-join t xs (token.Sign mark.Star ∷ ys)) (q.ends (token.Sign mark.Star));
  }

  -- what can stand behind any token can stand on a line
  after-each : (t : Token) (ts : List Token) → After t ts → All (IsPrintable names) ts
  after-each t [] h = All-nil (IsPrintable names)
  after-each t (u ∷ us) h = All-cons (IsPrintable names) u us h.0 (after-each u us h.2)

  after-apart : (t : Token) (ts : List Token) → After t ts → AreApartFrom t ts
  after-apart t [] h = tt
  after-apart t (u ∷ us) h = (h.1, after-apart u us h.2)

  phrase-apart : (ts : List Token) → Phrase ts → AreApart ts
  phrase-apart [] p = tt
  phrase-apart (t ∷ ts) p = (after-apart t (t ∷ ts) (p.from t)).1

  pub printable : {ts : List Token} → Phrase ts → ArePrintable names ts
  printable {ts} p = record { each = after-each (token.Sign mark.Wild) ts (p.from (token.Sign mark.Wild)); apart = phrase-apart ts p }

  -- phrases with separators
  abbrev pub Phrases : List (List Token) → Type 0
  Phrases [] = Unit {0}
  Phrases (x ∷ xs) = Phrase x × Phrases xs

  module _ (separator : Token) (can : IsPrintable names separator) (alone : joins separator ≡ false) where
    led-phrase : (xs : List (List Token)) → Phrases xs → Phrase (led separator xs)
    led-phrase [] h = nothing
    led-phrase (x ∷ xs) h = both (put separator can alone h.0) (led-phrase xs h.1)

    pub separated-phrase : (xs : List (List Token)) → Phrases xs → Phrase (separated separator xs)
    separated-phrase [] h = nothing
    separated-phrase (x ∷ xs) h = both h.0 (led-phrase xs h.1)

  -- trees, by what they print as in any seat
  pub record Fine (p : Printed) : Type 0 where
    pub at : (seat : Seat) → Phrase (p seat)

  abbrev pub AllFine : List Printed → Type 0
  AllFine [] = Unit {0}
  AllFine (p ∷ ps) = Fine p × AllFine ps

  pub seats : (seat : Seat) (ps : List Printed) → AllFine ps → Phrases (map (λ p. p seat) ps)
  seats seat [] h = tt
  seats seat (p ∷ ps) h = ((let f = h.0 in f.at seat), seats seat ps h.1)

  pub listed-phrase : (m : Mark) (seat : Seat) (ps : List Printed) → joins (token.Sign m) ≡ false → AllFine ps → Phrase (listed m seat ps)
  listed-phrase m seat ps e h = separated-phrase (token.Sign m) tt e (map (λ p. p seat) ps) (seats seat ps h)

  bracketed : (b : Bool) (ts : List Token) → Phrase ts → Phrase (if b then in_round ts else ts)
  bracketed true ts p = round p
  bracketed false ts p = p

  pub fine : (shape : Shape) (ts : List Token) → Phrase ts → Fine (seated shape ts)
  fine shape ts p = record { at = λ seat. bracketed (is_bracketed seat shape) ts p }

  pub tupled-phrase : (ps : List Printed) → AllFine ps → Phrase (tupled ps)
  tupled-phrase ps h = round (listed-phrase mark.Comma Free ps refl h)

  pub results-phrase : (ps : List Printed) → AllFine ps → Phrase (results_tokens ps)
  results-phrase [] h = nothing
  results-phrase (p ∷ []) h = put (token.Sign mark.Arrow) tt refl (let f = h.0 in f.at OnlyResult)
  results-phrase (p ∷ q ∷ ps) h = put (token.Sign mark.Arrow) tt refl (tupled-phrase (p ∷ q ∷ ps) h)
