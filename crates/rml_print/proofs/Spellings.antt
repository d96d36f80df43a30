-- The spelling of a token is one piece, and with a byte behind it that cannot lengthen it no piece at all.
use Rattle.std.proofs.Common.{◌≡◌, ℕ, zero, suc, ◌<◌, ◌≤◌, Bool, true, false, List, [], ◌∷◌, ◌++◌, length, replicate, refl, ap, ◌∙◌, arith, Some, None, append_assoc, append-nil}
use Rattle.std.specs.Prelude.{◌==◌, ◌&&◌}
use Rattle.std.specs.Fmt.{signed_decimal}
use Rattle.std.specs.List.{flat_map, list_all}
use Rattle.std.proofs.lemmas.List.{length-replicate}
use Rattle.std.proofs.lemmas.List.Folds.{list_all-append}
use Rattle.rml_syntax.specs.declared.token.Key.TheVariants.{KAbstype, KAnd, KAs, KAxiom, KDatatype, KDefault, KEnd, KEqtype, KLet, KModule, KNot, KOf, KRelation, KRule, KType, KVal, KWith, KWithtype}
use Rattle.rml_syntax.specs.declared.token.Key.{Key}
use Rattle.rml_syntax.specs.declared.token.Lit.{Lit}
use Rattle.rml_syntax.specs.declared.token.Lit.TheVariants as lit
use Rattle.rml_syntax.specs.declared.token.Mark.{Mark}
use Rattle.rml_syntax.specs.declared.token.Mark.TheVariants as mark
use Rattle.rml_syntax.specs.declared.token.Token.{Token}
use Rattle.rml_syntax.specs.declared.token.Token.TheVariants as token
use Rattle.rml_lex.specs.declared.piece.Piece.{Piece}
use Rattle.rml_lex.specs.declared.piece.Piece.TheVariants as piece
use Rattle.rml_lex.specs.Bytes.{is_dash, is_digit, is_exponent, is_name_byte}
use Rattle.rml_lex.specs.Machine.{ends_or, run}
use Rattle.rml_lex.specs.Number.{int_piece, real_end}
use Rattle.rml_lex.specs.Reading.{shown_token, tokens_of}
use Rattle.rml_lex.specs.Spelling.{name_piece, whole}
use Rattle.rml_lex.specs.Literal.{char_inside, text_inside}
use Rattle.rml_lex.specs.Spells.{AreCharacters, IsCharacter, IsInt, IsNameLike, Spells}
use Rattle.rml_lex.specs.Words.{sign_spelling, word_spelling}
use Rattle.rml_lex.proofs.Callers.{char-first, dashes-on, digits-whole, inside-text, letter-blank, letter-digit, letter-on, prime-on, signed-whole, spells-whole, text-value}
use Rattle.rml_print.specs.Printable.{IsPrintable}
use Rattle.rml_print.specs.Spelling.{escaped, name_bytes, quoted, spelling}
use Rattle.rml_print.proofs.Literals.{escaped-are, escaped-is, int-spelled, quoted-text}

-- the kind of piece that a token is
abbrev pub piece_of : Token → Piece
piece_of (token.Word k) = piece.Word k
piece_of (token.Name n) = piece.Name
piece_of (token.TyVar n) = piece.TyVar
piece_of (token.Lit (lit.Int i)) = piece.Int i
piece_of (token.Lit (lit.Char b)) = piece.Char b
piece_of (token.Lit (lit.Text n)) = piece.Text
piece_of (token.Sign m) = piece.Sign m
piece_of (token.Dashes n) = piece.Dashes

dashes-all : (n : ℕ) → list_all is_dash (replicate n 45) ≡ true
dashes-all zero = refl
dashes-all (suc n) = dashes-all n

two-dashes : (n : ℕ) → 2 ≤ n → 2 ≤ length {A = ℕ} (replicate n 45)
two-dashes n le = rw (length-replicate {A = ℕ} n 45) le

literal-spelled : (names : List (List ℕ)) (l : Lit) → IsPrintable names (token.Lit l) → Spells (spelling names (token.Lit l)) (piece_of (token.Lit l))
literal-spelled names (lit.Int i) (n, v, le, e) = int-spelled i n v le e
literal-spelled names (lit.Char b) h = (flat_map escaped (b ∷ []), refl, rw append-nil (escaped-is b h))
literal-spelled names (lit.Text n) (bytes, le) = (name_bytes names n, quoted-text (name_bytes names n) bytes, le)

pub spelled : (names : List (List ℕ)) (t : Token) → IsPrintable names t → Spells (spelling names t) (piece_of t)
spelled names (token.Word k) h = refl
spelled names (token.Name n) h = h
spelled names (token.TyVar n) h = h
spelled names (token.Lit l) h = literal-spelled names l h
spelled names (token.Sign m) h = refl
spelled names (token.Dashes n) h = (two-dashes n h, dashes-all n)

-- the token of that piece shows what the token shows
pub same-token : (names : List (List ℕ)) (t : Token) → IsPrintable names t → tokens_of (spelling names t, piece_of t) ≡ shown_token names t ∷ []
same-token names (token.Word k) h = refl
same-token names (token.Name n) h = refl
same-token names (token.TyVar n) h = refl
same-token names (token.Lit (lit.Int i)) h = refl
same-token names (token.Lit (lit.Char b)) h = refl
same-token names (token.Lit (lit.Text n)) h = rw (text-value (quoted (name_bytes names n)) (name_bytes names n) (quoted-text (name_bytes names n) h.0)) refl
same-token names (token.Sign m) h = refl
same-token names (token.Dashes n) h = rw (length-replicate {A = ℕ} n 45) refl

-- The byte lengthens no spelling of the token.
abbrev pub EndsSign : Mark → ℕ → Type 0
EndsSign mark.OpenRound b = (b == 42) ≡ false
EndsSign mark.Colon b = (b == 58) ≡ false
EndsSign mark.Equals b = (b == 62) ≡ false
EndsSign _ b = Unit {0}

abbrev pub EndsInt : ℕ → Type 0
EndsInt b = (is_digit b ≡ false) × ((b == 46) ≡ false) × (is_exponent b ≡ false)

abbrev pub EndsLiteral : Lit → ℕ → Type 0
EndsLiteral (lit.Int i) b = EndsInt b
EndsLiteral (lit.Char v) b = Unit {0}
EndsLiteral (lit.Text n) b = Unit {0}

abbrev pub Ends : Token → ℕ → Type 0
Ends (token.Word k) b = is_name_byte b ≡ false
Ends (token.Name n) b = is_name_byte b ≡ false
Ends (token.TyVar n) b = is_name_byte b ≡ false
Ends (token.Lit l) b = EndsLiteral l b
Ends (token.Sign m) b = EndsSign m b
Ends (token.Dashes n) b = is_dash b ≡ false

-- names, words and type variables
and-no : (p : Bool) → (p && false) ≡ false
and-no true = refl
and-no false = refl

run-broken : (test : ℕ → Bool) (f : List ℕ → Piece) (xs : List ℕ) (b : ℕ) (more : List ℕ) → test b ≡ false → run test f (xs ++ b ∷ more) ≡ None
run-broken test f xs b more e =
    let all : list_all test (xs ++ b ∷ more) ≡ false = list_all-append test xs (b ∷ more) ∙ (rw e (and-no (list_all test xs))) in
    rw all refl

name-broken : (s : List ℕ) (b : ℕ) (more : List ℕ) → IsNameLike s → is_name_byte b ≡ false → whole (s ++ b ∷ more) ≡ None
name-broken s b more (c, cs, e, letter, all) ends = rw e (
    letter-on c (cs ++ b ∷ more) (letter-digit c letter) (letter-blank c letter) letter ∙ run-broken is_name_byte (λ bs. name_piece (c ∷ bs)) cs b more ends)

tyvar-broken : (s : List ℕ) (b : ℕ) (more : List ℕ) → Spells s piece.TyVar → is_name_byte b ≡ false → whole (s ++ b ∷ more) ≡ None
tyvar-broken s b more (name, e, (c, cs, is, letter, all)) ends = rw (e, is) (prime-on c (cs ++ b ∷ more) letter ∙ run-broken is_name_byte (λ _. piece.TyVar) cs b more ends)

pub word-like : (k : Key) → IsNameLike (word_spelling k)
word-like KAbstype = (_, _, refl, refl, refl)
word-like KAnd = (_, _, refl, refl, refl)
word-like KAs = (_, _, refl, refl, refl)
word-like KAxiom = (_, _, refl, refl, refl)
word-like KDatatype = (_, _, refl, refl, refl)
word-like KDefault = (_, _, refl, refl, refl)
word-like KEnd = (_, _, refl, refl, refl)
word-like KEqtype = (_, _, refl, refl, refl)
word-like KLet = (_, _, refl, refl, refl)
word-like KModule = (_, _, refl, refl, refl)
word-like KNot = (_, _, refl, refl, refl)
word-like KOf = (_, _, refl, refl, refl)
word-like KRelation = (_, _, refl, refl, refl)
word-like KRule = (_, _, refl, refl, refl)
word-like KType = (_, _, refl, refl, refl)
word-like KVal = (_, _, refl, refl, refl)
word-like KWith = (_, _, refl, refl, refl)
word-like KWithtype = (_, _, refl, refl, refl)

-- literals
no-real : (b : ℕ) (more : List ℕ) → (b == 46) ≡ false → is_exponent b ≡ false → real_end (b ∷ more) ≡ None
no-real b more e f = rw (e, f) refl

int-broken : (s : List ℕ) (n : Bool) (v b : ℕ) (more : List ℕ) → IsInt s n v → EndsInt b → whole (s ++ b ∷ more) ≡ None
int-broken s n v b more i (digit, point, e) =
    rw (i.spelled, append_assoc) (signed-whole i.sign n i.digits (b ∷ more) i.sign_is i.digits_are
    ∙ digits-whole (λ digits. ends_or (int_piece n digits) real_end) i.digits (b ∷ more) i.digits_are digit ∙ no-real b more point e)

char-broken : (inside : List ℕ) (v b : ℕ) (more : List ℕ) → IsCharacter inside v → whole (35 ∷ 34 ∷ (inside ++ 34 ∷ []) ++ b ∷ more) ≡ None
char-broken inside v b more is = ap (λ l. char_inside l) (append_assoc inside (34 ∷ []) (b ∷ more)) ∙ char-first 2 inside v (34 ∷ b ∷ more) is

text-broken : (inside values : List ℕ) (b : ℕ) (more : List ℕ) → AreCharacters inside values → whole (34 ∷ (inside ++ 34 ∷ []) ++ b ∷ more) ≡ None
text-broken inside values b more are = ap (λ l. text_inside l) (append_assoc inside (34 ∷ []) (b ∷ more)) ∙ inside-text inside values (34 ∷ b ∷ more) are

literal-broken : (names : List (List ℕ)) (l : Lit) (b : ℕ) (more : List ℕ) → IsPrintable names (token.Lit l) → EndsLiteral l b → whole (spelling names (token.Lit l) ++ b ∷ more) ≡ None
literal-broken names (lit.Int i) b more (n, v, le, e) ends = let is = int-spelled i n v le e in int-broken (signed_decimal i) is.0 is.1 b more is.2 ends
literal-broken names (lit.Char v) b more h ends = char-broken (flat_map escaped (v ∷ [])) v b more (rw append-nil (escaped-is v h))
literal-broken names (lit.Text n) b more (bytes, le) ends = text-broken (flat_map escaped (name_bytes names n)) (name_bytes names n) b more (escaped-are (name_bytes names n) bytes)

-- signs and dashes
sign-broken : (m : Mark) (b : ℕ) (more : List ℕ) → EndsSign m b → whole (sign_spelling m ++ b ∷ more) ≡ None
sign-broken mark.OpenRound b more e = rw e refl
sign-broken mark.CloseRound b more e = refl
sign-broken mark.OpenSquare b more e = refl
sign-broken mark.CloseSquare b more e = refl
sign-broken mark.Comma b more e = refl
sign-broken mark.Colon b more e = rw e refl
sign-broken mark.TwoColons b more e = refl
sign-broken mark.Arrow b more e = refl
sign-broken mark.Equals b more e = rw e refl
sign-broken mark.Amp b more e = refl
sign-broken mark.Bar b more e = refl
sign-broken mark.Star b more e = refl
sign-broken mark.Dot b more e = refl
sign-broken mark.Wild b more e = refl

dashes-broken : (n b : ℕ) (more : List ℕ) → 2 ≤ n → is_dash b ≡ false → whole (replicate n 45 ++ b ∷ more) ≡ None
dashes-broken zero b more le e = absurd (omega arith)
dashes-broken (suc zero) b more le e = absurd (omega arith)
dashes-broken (suc (suc n)) b more le e = dashes-on 45 (replicate n 45 ++ b ∷ more) refl ∙ run-broken is_dash (λ _. piece.Dashes) (replicate n 45) b more e

pub broken : (names : List (List ℕ)) (t : Token) (b : ℕ) (more : List ℕ) → IsPrintable names t → Ends t b → whole (spelling names t ++ b ∷ more) ≡ None
broken names (token.Word k) b more h ends = name-broken (word_spelling k) b more (word-like k) ends
broken names (token.Name n) b more h ends = name-broken (name_bytes names n) b more h.0 ends
broken names (token.TyVar n) b more h ends = tyvar-broken (name_bytes names n) b more h ends
broken names (token.Lit l) b more h ends = literal-broken names l b more h ends
broken names (token.Sign m) b more h ends = sign-broken m b more ends
broken names (token.Dashes n) b more h ends = dashes-broken n b more h ends

-- it has a byte
pub token-size : (names : List (List ℕ)) (t : Token) → IsPrintable names t → 0 < length (spelling names t)
token-size names t h = some-byte (spelling names t) (piece_of t) (spells-whole (spelling names t) (piece_of t) (spelled names t h)) where
  some-byte : (s : List ℕ) (p : Piece) → whole s ≡ Some p → 0 < length s
  some-byte [] p e = absurd cc
  some-byte (b ∷ bs) p e = omega arith
