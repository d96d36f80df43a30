-- The tokens that some bytes spell can be printed.
use Rattle.std.proofs.Common.{◌≡◌, ℕ, ◌<◌, ◌≤◌, List, [], ◌∷◌, ◌++◌, length, map, take, refl, sym, ap, subst, ◌∙◌, arith, Some, None, inl, inr}
use Rattle.std.specs.Prelude.{All, ◌==◌, ℤ}
use Rattle.std.proofs.lemmas.List.Elements.{All-cons, All-nil, All-tail}
use Rattle.std.proofs.Math.Seq.{take-append_seam}
use Rattle.rml_base.specs.declared.place.Place.{Place}
use Rattle.rml_syntax.specs.declared.token.Lit.TheVariants as lit
use Rattle.rml_syntax.specs.declared.token.Spot.{Spot}
use Rattle.rml_syntax.specs.declared.token.Token.{Token}
use Rattle.rml_syntax.specs.declared.token.Token.TheVariants as token
use Rattle.rml_lex.specs.declared.piece.Piece.{Piece}
use Rattle.rml_lex.specs.declared.piece.Piece.TheVariants as piece
use Rattle.rml_lex.specs.Character.{escape_value, unescaped}
use Rattle.rml_lex.specs.Places.{place_after, start}
use Rattle.rml_lex.specs.Reading.{Part, Reaches, Shown, Word, Name, TyVar, Int, Char, Text, Sign, Dashes, Spelled, marks, shown, shown_token, tokens_of}
use Rattle.rml_lex.specs.Spells.{AreCharacters, Nothing, Then, IsCharacter, Itself, Escaped, ThreeDigits, IsLongest, Spells}
use Rattle.rml_lex.proofs.Callers.{text-value, two-ways}
use Rattle.rml_print.specs.Printable.{IsPrintable}
use Rattle.rml_print.specs.Spelling.{name_bytes}

abbrev pub AreBytes : List ℕ → Type 0
AreBytes = All (λ b. b < 256)

-- the bytes that characters of bytes stand for
front-bytes : (a b : List ℕ) → AreBytes (a ++ b) → AreBytes a
front-bytes [] b h = All-nil (λ b. b < 256)
front-bytes (x ∷ xs) b h = All-cons (λ b. b < 256) x xs (h 0 x (omega arith)) (front-bytes xs b (All-tail (λ b. b < 256) x (xs ++ b) h))

back-bytes : (a b : List ℕ) → AreBytes (a ++ b) → AreBytes b
back-bytes [] b h = h
back-bytes (x ∷ xs) b h = back-bytes xs b (All-tail (λ b. b < 256) x (xs ++ b) h)

escape-small : (l v : ℕ) → escape_value l ≡ Some v → v < 256
escape-small l v e = elim (two-ways (l == 110)) [
  | inl y ↦ (let z : Some 10 ≡ Some v = (rw y at e) in let w : 10 ≡ v = cc z in omega arith)
  | inr a ↦ elim (two-ways (l == 116)) [
    | inl y ↦ (let z : Some 9 ≡ Some v = (rw (a, y) at e) in let w : 9 ≡ v = cc z in omega arith)
    | inr b ↦ elim (two-ways (l == 114)) [
      | inl y ↦ (let z : Some 13 ≡ Some v = (rw (a, b, y) at e) in let w : 13 ≡ v = cc z in omega arith)
      | inr c ↦ elim (two-ways (l == 92)) [
        | inl y ↦ (let z : Some 92 ≡ Some v = (rw (a, b, c, y) at e) in let w : 92 ≡ v = cc z in omega arith)
        | inr d ↦ elim (two-ways (l == 34)) [
          | inl y ↦ (let z : Some 34 ≡ Some v = (rw (a, b, c, d, y) at e) in let w : 34 ≡ v = cc z in omega arith)
          | inr f ↦ absurd (let z : None ≡ Some v = (rw (a, b, c, d, f) at e) in cc z)
        ]
      ]
    ]
  ]
]

character-byte : (s : List ℕ) (v : ℕ) → AreBytes s → IsCharacter s v → v < 256
character-byte s v h (Itself e p) = (rw e at h) 0 0 (omega arith)
character-byte s v h (Escaped l e is) = escape-small l v is
character-byte s v h (ThreeDigits a b c e ds ev le) = omega arith

character-bytes : (s vs : List ℕ) → AreBytes s → AreCharacters s vs → AreBytes vs
character-bytes s vs h Nothing = All-nil (λ b. b < 256)
character-bytes s vs h (Then c v rest values is are) = All-cons (λ b. b < 256) v values (character-byte c v (front-bytes c rest h) is) (character-bytes rest values (back-bytes c rest h) are)

-- what a token that is spelled can be
name-given : (s : List ℕ) (p : Piece) (x : List ℕ) → Spells s p → tokens_of (s, p) ≡ Name x ∷ [] → Spells x piece.Name
name-given s piece.Name x is e = (let z : s ≡ x = cc e in rw (← z) is)
name-given s _ x is e = absurd (cc e)

tyvar-given : (s : List ℕ) (p : Piece) (x : List ℕ) → Spells s p → tokens_of (s, p) ≡ TyVar x ∷ [] → Spells x piece.TyVar
tyvar-given s piece.TyVar x is e = (let z : s ≡ x = cc e in rw (← z) is)
tyvar-given s _ x is e = absurd (cc e)

int-given : (names : List (List ℕ)) (s : List ℕ) (p : Piece) (i : ℤ) → Spells s p → tokens_of (s, p) ≡ Int i ∷ [] → IsPrintable names (token.Lit (lit.Int i))
int-given names s (piece.Int j) i (n, v, is, le, ev) e = (n, v, le, (let z : j ≡ i = cc e in sym z ∙ ev))
int-given names s _ i is e = absurd (cc e)

char-given : (s : List ℕ) (p : Piece) (v : ℕ) → AreBytes s → Spells s p → tokens_of (s, p) ≡ Char v ∷ [] → v < 256
char-given s (piece.Char w) v h (inside, es, is) e =
    let z : w ≡ v = cc e in
    let bytes : AreBytes (35 ∷ 34 ∷ inside ++ 34 ∷ []) = rw es at h in
    rw (← z) (character-byte inside w (front-bytes inside (34 ∷ []) (back-bytes (35 ∷ 34 ∷ []) (inside ++ 34 ∷ []) bytes)) is)
char-given s _ v h is e = absurd (cc e)

text-given : (s : List ℕ) (p : Piece) (x : List ℕ) → AreBytes s → Spells s p → tokens_of (s, p) ≡ Text x ∷ [] → AreBytes x × (length x ≤ 65535)
text-given s piece.Text x h (values, (inside, es, are), le) e =
    let z : unescaped s ≡ x = cc e in
    let same : values ≡ x = sym (text-value s values (inside, es, are)) ∙ z in
    let bytes : AreBytes (34 ∷ inside ++ 34 ∷ []) = rw es at h in
    rw (← same) (character-bytes inside values (front-bytes inside (34 ∷ []) (back-bytes (34 ∷ []) (inside ++ 34 ∷ []) bytes)) are, le)
text-given s _ x h is e = absurd (cc e)

dashes-given : (s : List ℕ) (p : Piece) (n : ℕ) → Spells s p → tokens_of (s, p) ≡ Dashes n ∷ [] → 2 ≤ n
dashes-given s piece.Dashes n (le, all) e = (let z : length s ≡ n = cc e in omega arith)
dashes-given s _ n is e = absurd (cc e)

printable-by : (names : List (List ℕ)) (t : Token) (s : List ℕ) (p : Piece) → AreBytes s → Spells s p → tokens_of (s, p) ≡ shown_token names t ∷ [] → IsPrintable names t
printable-by names (token.Word k) s p bytes is e = tt
printable-by names (token.Name n) s p bytes is e = name-given s p (name_bytes names n) is e
printable-by names (token.TyVar n) s p bytes is e = tyvar-given s p (name_bytes names n) is e
printable-by names (token.Lit (lit.Int i)) s p bytes is e = int-given names s p i is e
printable-by names (token.Lit (lit.Char v)) s p bytes is e = char-given s p v bytes is e
printable-by names (token.Lit (lit.Text n)) s p bytes is e = text-given s p (name_bytes names n) bytes is e
printable-by names (token.Sign m) s p bytes is e = tt
printable-by names (token.Dashes n) s p bytes is e = dashes-given s p n is e

-- the token of a piece, if it is one
data TokenOf (s : List ℕ) (p : Piece) : Type 0 where
  NoToken : tokens_of (s, p) ≡ [] → TokenOf s p
  OneToken : (x : Shown) → tokens_of (s, p) ≡ x ∷ [] → TokenOf s p

token-of : (s : List ℕ) (p : Piece) → TokenOf s p
token-of s piece.Blank = NoToken refl
token-of s piece.Comment = NoToken refl
token-of s (piece.Word k) = OneToken (Word k) refl
token-of s piece.Name = OneToken (Name s) refl
token-of s piece.TyVar = OneToken (TyVar s) refl
token-of s (piece.Int i) = OneToken (Int i) refl
token-of s (piece.Char v) = OneToken (Char v) refl
token-of s piece.Text = OneToken (Text (unescaped s)) refl
token-of s piece.Dashes = OneToken (Dashes (length s)) refl
token-of s (piece.Sign m) = OneToken (Sign m) refl
token-of s (piece.Faulty k at) = NoToken refl

part-spells : (bytes s more : List ℕ) (p : Piece) → bytes ≡ s ++ more → IsLongest bytes (length s) p → Spells s p
part-spells bytes s more p e l = subst (λ (x : List ℕ). Spells x p) (ap (take (length s)) e ∙ take-append_seam s more) l.spelled

module _ (names : List (List ℕ)) where
  -- each can be printed
  abbrev pub AllPrintable : List Spot → Type 0
  AllPrintable = All (λ s. IsPrintable names s.token)

  -- the first spot is that of the piece, and the others are as they are
  first-given : (s : List ℕ) (p : Piece) (at : Place) (x : Shown) (spots : List Spot) (others : List (Place × Shown)) → AreBytes s → Spells s p → tokens_of (s, p) ≡ x ∷ [] → shown names spots ≡ (at, x) ∷ others
      → ((ss : List Spot) → shown names ss ≡ others → AllPrintable ss) → AllPrintable spots
  first-given s p at x [] others bytes is e same more = absurd (cc same)
  first-given s p at x (y ∷ ys) others bytes is e same more =
      let rest : shown names ys ≡ others = cc same in
      let pair : (y.place, shown_token names y.token) ≡ (at, x) = cc same in
      let token : shown_token names y.token ≡ x = ap (λ (q : Place × Shown). q.1) pair in
      All-cons (λ s. IsPrintable names s.token) y ys (printable-by names y.token s p bytes is (e ∙ ap (λ (z : Shown). z ∷ []) (sym token))) (more ys rest)

  no-spots : (spots : List Spot) → shown names spots ≡ [] → AllPrintable spots
  no-spots [] e = All-nil (λ s. IsPrintable names s.token)
  no-spots (x ∷ xs) e = absurd (cc e)

  given-by : (parts : List Part) (bytes : List ℕ) (at : Place) (spots : List Spot) → AreBytes bytes → Reaches bytes parts [] → shown names spots ≡ marks at parts → AllPrintable spots
  given-by [] bytes at spots b r e = no-spots spots e
  given-by (part ∷ parts) bytes at spots b r e =
      let all : AreBytes (part.0 ++ r.0) = rw r.1 at b in
      let front = front-bytes part.0 r.0 all in
      let back = back-bytes part.0 r.0 all in
      let is = part-spells bytes part.0 r.0 part.1 r.1 r.3 in
      elim (token-of part.0 part.1) [
        | NoToken none ↦ given-by parts r.0 (place_after at part.0) spots back r.5 (e ∙ ap (λ xs. map (λ t. (at, t)) xs ++ marks (place_after at part.0) parts) none)
        | OneToken x one ↦
            first-given part.0 part.1 at x spots (marks (place_after at part.0) parts) front is one (e ∙ ap (λ xs. map (λ t. (at, t)) xs ++ marks (place_after at part.0) parts) one)
            (λ ss same. given-by parts r.0 (place_after at part.0) ss back r.5 same)
      ]

  pub given : (text : ℕ) (bytes : List ℕ) (spots : List Spot) → AreBytes bytes → Spelled text bytes (shown names spots) → AllPrintable spots
  given text bytes spots b (parts, r, e) = given-by parts bytes (start text) spots b r e
