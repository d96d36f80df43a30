-- What stands behind a token, a blank, a line end or its neighbour, does not lengthen its spelling.
use Rattle.std.proofs.Common.{◌≡◌, ℕ, zero, suc, ◌≤◌, Bool, true, false, List, [], ◌∷◌, ◌++◌, refl, arith, ◌⊎◌, inl, inr}
use Rattle.std.specs.Prelude.{◌==◌, ◌&&◌, ◌||◌, replicate, ℤ}
use Rattle.std.specs.Fmt.{signed_decimal}
use Rattle.std.specs.List.{list_all}
use Rattle.std.proofs.lemmas.Bool.Decides.{nat_tests}
use Rattle.rml_syntax.specs.declared.token.Lit.{Lit}
use Rattle.rml_syntax.specs.declared.token.Lit.TheVariants as lit
use Rattle.rml_syntax.specs.declared.token.Mark.{Mark}
use Rattle.rml_syntax.specs.declared.token.Mark.TheVariants as mark
use Rattle.rml_syntax.specs.declared.token.Token.{Token}
use Rattle.rml_syntax.specs.declared.token.Token.TheVariants as token
use Rattle.rml_lex.specs.Bytes.{is_digit, is_letter, is_minus}
use Rattle.rml_lex.specs.Spells.{IsDigits, IsInt, IsNameLike, IsSign, NoSign, Signed}
use Rattle.rml_lex.specs.Words.{sign_spelling, word_spelling}
use Rattle.rml_lex.proofs.Callers.{and-left, two-ways}
use Rattle.rml_print.specs.Lines.{gap, holds_last, holds_next, is_name, is_open_round, is_tight}
use Rattle.rml_print.specs.Printable.{IsPrintable, runs_together}
use Rattle.rml_print.specs.Spelling.{name_bytes, spelling}
use Rattle.rml_print.proofs.Literals.{int-spelled}
use Rattle.rml_print.proofs.Spellings.{Ends, EndsLiteral, EndsSign, word-like}

-- the token ends before these bytes
abbrev pub EndsBefore : Token → List ℕ → Type 0
EndsBefore t [] = Unit {0}
EndsBefore t (b ∷ bs) = Ends t b

free-before : (t : Token) → ((b : ℕ) → Ends t b) → (bytes : List ℕ) → EndsBefore t bytes
free-before t free [] = tt
free-before t free (b ∷ bs) = free b

-- blanks and line ends
sign-blank : (m : Mark) → EndsSign m 32 × EndsSign m 10
sign-blank mark.OpenRound = (refl, refl)
sign-blank mark.Colon = (refl, refl)
sign-blank mark.Equals = (refl, refl)
sign-blank _ = (tt, tt)

literal-blank : (l : Lit) → EndsLiteral l 32 × EndsLiteral l 10
literal-blank (lit.Int i) = ((refl, refl, refl), (refl, refl, refl))
literal-blank (lit.Char v) = (tt, tt)
literal-blank (lit.Text n) = (tt, tt)

pub blank-ends : (t : Token) → Ends t 32 × Ends t 10
blank-ends (token.Word k) = (refl, refl)
blank-ends (token.Name n) = (refl, refl)
blank-ends (token.TyVar n) = (refl, refl)
blank-ends (token.Lit l) = literal-blank l
blank-ends (token.Sign m) = sign-blank m
blank-ends (token.Dashes n) = (refl, refl)

-- the signs before which no blank stands
data Closer : Token → Type 0 where
  closes_round : Closer (token.Sign mark.CloseRound)
  closes_square : Closer (token.Sign mark.CloseSquare)
  comma : Closer (token.Sign mark.Comma)
  colon : Closer (token.Sign mark.Colon)
  dot : Closer (token.Sign mark.Dot)

sign-closer : (m : Mark) → holds_last (token.Sign m) ≡ true → Closer (token.Sign m)
sign-closer mark.CloseRound h = closes_round
sign-closer mark.CloseSquare h = closes_square
sign-closer mark.Comma h = comma
sign-closer mark.Colon h = colon
sign-closer mark.Dot h = dot
sign-closer _ h = absurd cc

closer-of : (u : Token) → holds_last u ≡ true → Closer u
closer-of (token.Sign m) h = sign-closer m h
closer-of _ h = absurd cc

closers-end : (names : List (List ℕ)) (t u : Token) (rest : List ℕ) → Closer u → Ends t 41 → Ends t 93 → Ends t 44 → Ends t 58 → Ends t 46 → EndsBefore t (spelling names u ++ rest)
closers-end names t u rest closes_round a b c d e = a
closers-end names t u rest closes_square a b c d e = b
closers-end names t u rest comma a b c d e = c
closers-end names t u rest colon a b c d e = d
closers-end names t u rest dot a b c d e = e

colon-before : (names : List (List ℕ)) (u : Token) (rest : List ℕ) → Closer u → runs_together (token.Sign mark.Colon) u ≡ false → EndsBefore (token.Sign mark.Colon) (spelling names u ++ rest)
colon-before names u rest closes_round h = refl
colon-before names u rest closes_square h = refl
colon-before names u rest comma h = refl
colon-before names u rest colon h = absurd cc
colon-before names u rest dot h = refl

int-before : (names : List (List ℕ)) (i : ℤ) (u : Token) (rest : List ℕ) → Closer u → runs_together (token.Lit (lit.Int i)) u ≡ false → EndsBefore (token.Lit (lit.Int i)) (spelling names u ++ rest)
int-before names i u rest closes_round h = (refl, refl, refl)
int-before names i u rest closes_square h = (refl, refl, refl)
int-before names i u rest comma h = (refl, refl, refl)
int-before names i u rest colon h = (refl, refl, refl)
int-before names i u rest dot h = absurd cc

-- what stands behind a (, but for a star
not-star : (b : ℕ) → is_letter b ≡ true → (b == 42) ≡ false
not-star b e = grind (arith, nat_tests)

digit-not-star : (b : ℕ) → is_digit b ≡ true → (b == 42) ≡ false
digit-not-star b e = grind (arith, nat_tests)

minus-not-star : (b : ℕ) → is_minus b ≡ true → (b == 42) ≡ false
minus-not-star b e = grind (arith, nat_tests)

abbrev Opens : List ℕ → Type 0
Opens bytes = EndsBefore (token.Sign mark.OpenRound) bytes

name-opens : (s rest : List ℕ) → IsNameLike s → Opens (s ++ rest)
name-opens s rest (b, bs, e, letter, all) = rw e (not-star b letter)

digits-open : (ds rest : List ℕ) → IsDigits ds → Opens (ds ++ rest)
digits-open [] rest (pos, all) = absurd (omega arith)
digits-open (d ∷ ds) rest (pos, all) = digit-not-star d (and-left (is_digit d) (list_all is_digit ds) all)

signed-opens : (sign ds rest : List ℕ) (n : Bool) → IsSign sign n → IsDigits ds → Opens ((sign ++ ds) ++ rest)
signed-opens sign ds rest n (NoSign e) are = rw e (digits-open ds rest are)
signed-opens sign ds rest n (Signed b e minus) are = rw e (minus-not-star b minus)

int-opens : (s rest : List ℕ) (n : Bool) (v : ℕ) → IsInt s n v → Opens (s ++ rest)
int-opens s rest n v i = rw i.spelled (signed-opens i.sign i.digits rest n i.sign_is i.digits_are)

dashes-open : (n : ℕ) (rest : List ℕ) → 2 ≤ n → Opens (replicate n 45 ++ rest)
dashes-open zero rest le = absurd (omega arith)
dashes-open (suc n) rest le = refl

sign-opens : (m : Mark) (rest : List ℕ) → runs_together (token.Sign mark.OpenRound) (token.Sign m) ≡ false → Opens (sign_spelling m ++ rest)
sign-opens mark.Star rest h = absurd cc
sign-opens mark.OpenRound rest h = refl
sign-opens mark.CloseRound rest h = refl
sign-opens mark.OpenSquare rest h = refl
sign-opens mark.CloseSquare rest h = refl
sign-opens mark.Comma rest h = refl
sign-opens mark.Colon rest h = refl
sign-opens mark.TwoColons rest h = refl
sign-opens mark.Arrow rest h = refl
sign-opens mark.Equals rest h = refl
sign-opens mark.Amp rest h = refl
sign-opens mark.Bar rest h = refl
sign-opens mark.Dot rest h = refl
sign-opens mark.Wild rest h = refl

literal-opens : (names : List (List ℕ)) (l : Lit) (rest : List ℕ) → IsPrintable names (token.Lit l) → Opens (spelling names (token.Lit l) ++ rest)
literal-opens names (lit.Int i) rest (n, v, le, e) = let is = int-spelled i n v le e in int-opens (signed_decimal i) rest is.0 is.1 is.2
literal-opens names (lit.Char v) rest h = refl
literal-opens names (lit.Text n) rest h = refl

opens : (names : List (List ℕ)) (u : Token) (rest : List ℕ) → IsPrintable names u → runs_together (token.Sign mark.OpenRound) u ≡ false → Opens (spelling names u ++ rest)
opens names (token.Word k) rest h apart = name-opens (word_spelling k) rest (word-like k)
opens names (token.Name n) rest h apart = name-opens (name_bytes names n) rest h.0
opens names (token.TyVar n) rest (name, e, is) apart = rw e refl
opens names (token.Lit l) rest h apart = literal-opens names l rest h
opens names (token.Sign m) rest h apart = sign-opens m rest apart
opens names (token.Dashes n) rest h apart = dashes-open n rest h

-- a neighbour without a blank
either : (p q : Bool) → (p || q) ≡ true → (p ≡ true) ⊎ (q ≡ true)
either true q h = inl refl
either false q h = inr h

closing : (t u : Token) → is_name t ≡ false → holds_next t ≡ false → is_tight t u ≡ true → Closer u
closing t u name next tight = elim (either (holds_last u) (is_name t && is_open_round u) (rw next at tight)) [
  | inl h ↦ closer-of u h
  | inr h ↦ absurd (let z : false ≡ true = rw name at h in cc z)
]

name-before : (names : List (List ℕ)) (n : ℕ) (u : Token) (rest : List ℕ) → is_tight (token.Name n) u ≡ true → EndsBefore (token.Name n) (spelling names u ++ rest)
name-before names n u rest tight = elim (either (holds_last u) (is_open_round u) tight) [
  | inl h ↦ closers-end names (token.Name n) u rest (closer-of u h) refl refl refl refl refl
  | inr h ↦ round u h
] where
  round-sign : (m : Mark) → is_open_round (token.Sign m) ≡ true → EndsBefore (token.Name n) (sign_spelling m ++ rest)
  round-sign mark.OpenRound h = refl
  round-sign _ h = absurd cc

  round : (u : Token) → is_open_round u ≡ true → EndsBefore (token.Name n) (spelling names u ++ rest)
  round (token.Sign m) h = round-sign m h
  round _ h = absurd cc

sign-before : (names : List (List ℕ)) (m : Mark) (u : Token) (rest : List ℕ) → IsPrintable names u → runs_together (token.Sign m) u ≡ false → is_tight (token.Sign m) u ≡ true → EndsBefore (token.Sign m) (spelling names u ++ rest)
sign-before names mark.OpenRound u rest h apart tight = opens names u rest h apart
sign-before names mark.Colon u rest h apart tight = colon-before names u rest (closing (token.Sign mark.Colon) u refl refl tight) apart
sign-before names mark.Equals u rest h apart tight = closers-end names (token.Sign mark.Equals) u rest (closing (token.Sign mark.Equals) u refl refl tight) refl refl refl refl refl
sign-before names m u rest h apart tight = free-before (token.Sign m) (λ b. tt) (spelling names u ++ rest)

literal-before : (names : List (List ℕ)) (l : Lit) (u : Token) (rest : List ℕ) → runs_together (token.Lit l) u ≡ false → is_tight (token.Lit l) u ≡ true → EndsBefore (token.Lit l) (spelling names u ++ rest)
literal-before names (lit.Int i) u rest apart tight = int-before names i u rest (closing (token.Lit (lit.Int i)) u refl refl tight) apart
literal-before names (lit.Char v) u rest apart tight = free-before (token.Lit (lit.Char v)) (λ b. tt) (spelling names u ++ rest)
literal-before names (lit.Text n) u rest apart tight = free-before (token.Lit (lit.Text n)) (λ b. tt) (spelling names u ++ rest)

next-ends : (names : List (List ℕ)) (t u : Token) (rest : List ℕ) → IsPrintable names u → runs_together t u ≡ false → is_tight t u ≡ true → EndsBefore t (spelling names u ++ rest)
next-ends names (token.Word k) u rest h apart tight = closers-end names (token.Word k) u rest (closing (token.Word k) u refl refl tight) refl refl refl refl refl
next-ends names (token.Name n) u rest h apart tight = name-before names n u rest tight
next-ends names (token.TyVar n) u rest h apart tight = closers-end names (token.TyVar n) u rest (closing (token.TyVar n) u refl refl tight) refl refl refl refl refl
next-ends names (token.Lit l) u rest h apart tight = literal-before names l u rest apart tight
next-ends names (token.Sign m) u rest h apart tight = sign-before names m u rest h apart tight
next-ends names (token.Dashes n) u rest h apart tight = closers-end names (token.Dashes n) u rest (closing (token.Dashes n) u refl refl tight) refl refl refl refl refl

-- a token ends before its neighbour, with the blank between them
pub gap-ends : (names : List (List ℕ)) (t u : Token) (rest : List ℕ) → IsPrintable names u → runs_together t u ≡ false → EndsBefore t (gap t u ++ (spelling names u ++ rest))
gap-ends names t u rest h apart = elim (two-ways (is_tight t u)) [
  | inl tight ↦ rw tight (next-ends names t u rest h apart tight)
  | inr loose ↦ rw loose (blank-ends t).0
]
