-- What bytes spell is formed: an integer is one of the language, a character is a byte, and a number that was given stands for a name.
use Rattle.std.proofs.Common.{◌≡◌, ℕ, zero, suc, ◌<◌, ◌≤◌, Bool, true, false, List, [], ◌∷◌, ◌++◌, Option, Some, None, length, map, refl, sym, ap, subst, ◌∙◌, arith}
use Rattle.std.specs.Prelude.{◌&&◌, ◌==◌, if◌then◌else◌, nat_lt, take}
use Rattle.std.specs.List.{list_all}
use Rattle.std.proofs.lemmas.Bool.{le-leb, lt-ltb, ltb-true}
use Rattle.std.proofs.lemmas.List.Elements.{All-head, All-tail}
use Rattle.std.proofs.lemmas.List.Folds.{list_all-append, list_all-map}
use Rattle.rml_base.specs.Bytes.{IsBytes, are_bytes}
use Rattle.rml_base.specs.declared.place.Place.{Place}
use Rattle.rml_syntax.specs.declared.token.Lit.TheVariants as lit
use Rattle.rml_syntax.specs.declared.token.Spot.{Spot}
use Rattle.rml_syntax.specs.declared.token.Token.{Token}
use Rattle.rml_syntax.specs.declared.token.Token.TheVariants as token
use Rattle.rml_lex.specs.declared.piece.Piece.{Piece}
use Rattle.rml_lex.specs.declared.piece.Piece.TheVariants as piece
use Rattle.rml_lex.specs.Character.{escape_value}
use Rattle.rml_lex.specs.Number.{int_value, limit}
use Rattle.rml_lex.specs.Places.{place_after, start}
use Rattle.rml_lex.specs.Reading as reading
use Rattle.rml_lex.specs.Reading.{AllGiven, IsGiven, Part, Reaches, Shown, Spelled, marks, shown, shown_token, tokens_of}
use Rattle.rml_lex.specs.Spells.{Escaped, IsCharacter, Itself, Spells, ThreeDigits}
use Rattle.rml_value.specs.Range.{is_integer}
use Rattle.rml_whole_trees.proofs.Tokens.{AreFormed, token_is_formed}
use Rattle.rml_whole_trees.proofs.Words.{and-left, and-right}

int-formed : (negative : Bool) (k : ℕ) → k ≤ limit negative → is_integer (int_value negative k) ≡ true
int-formed false k h = rw (le-leb k 1073741823 h) refl
int-formed true zero h = refl
int-formed true (suc k) h = let le : k ≤ 1073741823 = omega arith in rw (le-leb k 1073741823 le) refl

-- one of the values of escapes, or what follows
one-escape : (c : Bool) (k v : ℕ) (other : Option ℕ) → k < 256 → (other ≡ Some v → v < 256) → (if c then Some k else other) ≡ Some v → v < 256
one-escape true k v other small more e = let is : k ≡ v = cc in subst (λ (n : ℕ). n < 256) is small
one-escape false k v other small more e = more e

escape-byte : (b v : ℕ) → escape_value b ≡ Some v → v < 256
escape-byte b v =
    one-escape (b == 110) 10 v _ (omega arith)
    (one-escape (b == 116) 9 v _ (omega arith)
    (one-escape (b == 114) 13 v _ (omega arith)
    (one-escape (b == 92) 92 v _ (omega arith)
    (one-escape (b == 34) 34 v None (omega arith) (λ e. absurd cc)))))

char-byte : (s inside : List ℕ) (v : ℕ) → IsBytes s → s ≡ 35 ∷ 34 ∷ inside ++ 34 ∷ [] → IsCharacter inside v → v < 256
char-byte s inside v bytes e (Itself is p) =
    let whole : are_bytes (35 ∷ 34 ∷ v ∷ 34 ∷ []) ≡ true = subst (λ (i : List ℕ). are_bytes (35 ∷ 34 ∷ i ++ 34 ∷ []) ≡ true) is (subst (λ (bs : List ℕ). are_bytes bs ≡ true) e bytes) in
    ltb-true v 256 (and-left _ _ whole)
char-byte s inside v bytes e (Escaped letter is value) = escape-byte letter v value
char-byte s inside v bytes e (ThreeDigits a b c is digits value le) = omega (arith, le)

abbrev shown_is_formed : Shown → Bool
shown_is_formed (reading.Int i) = is_integer i
shown_is_formed (reading.Char v) = nat_lt v 256
shown_is_formed _ = true

abbrev is_formed : Place × Shown → Bool
is_formed m = shown_is_formed m.1

-- the front of what begins with it
take-front : (s more : List ℕ) → take (length s) (s ++ more) ≡ s
take-front [] more = refl
take-front (b ∷ s) more = ap (λ (bs : List ℕ). b ∷ bs) (take-front s more)

piece-formed : (s : List ℕ) (p : Piece) → IsBytes s → Spells s p → list_all shown_is_formed (tokens_of (s, p)) ≡ true
piece-formed s piece.Blank bytes h = refl
piece-formed s piece.Comment bytes h = refl
piece-formed s (piece.Word k) bytes h = refl
piece-formed s piece.Name bytes h = refl
piece-formed s piece.TyVar bytes h = refl
piece-formed s (piece.Int i) bytes (negative, k, is, le, e) = rw (e, int-formed negative k le) refl
piece-formed s (piece.Char v) bytes (inside, e, is) = rw (lt-ltb v 256 (char-byte s inside v bytes e is)) refl
piece-formed s piece.Text bytes h = refl
piece-formed s piece.Dashes bytes h = refl
piece-formed s (piece.Sign m) bytes h = refl
piece-formed s (piece.Faulty k at) bytes h = refl

marks-formed : (at : Place) (parts : List Part) (bytes rest : List ℕ) → IsBytes bytes → Reaches bytes parts rest → list_all is_formed (marks at parts) ≡ true
marks-formed at [] bytes rest all r = refl
marks-formed at (part ∷ parts) bytes rest all r =
    let cut : (are_bytes part.0 && are_bytes r.0) ≡ true = sym (list_all-append (λ c. nat_lt c 256) part.0 r.0) ∙ subst (λ (bs : List ℕ). are_bytes bs ≡ true) r.1 all in
    let front : take (length part.0) bytes ≡ part.0 = rw r.1 (take-front part.0 r.0) in
    let spells : Spells part.0 part.1 = subst (λ (bs : List ℕ). Spells bs part.1) front r.3.spelled in
    let one = list_all-map is_formed (λ (t : Shown). (at, t)) (tokens_of part) ∙ piece-formed part.0 part.1 (and-left _ _ cut) spells in
    let more = marks-formed (place_after at part.0) parts r.0 rest (and-right _ _ cut) r.5 in
    list_all-append is_formed (map (λ (t : Shown). (at, t)) (tokens_of part)) (marks (place_after at part.0) parts) ∙ rw (one, more) refl

token-formed : (names : List (List ℕ)) (t : Token) → shown_is_formed (shown_token names t) ≡ true → IsGiven (length names) t → token_is_formed (length names) t ≡ true
token-formed names (token.Word k) h g = refl
token-formed names (token.Name k) h g = lt-ltb k (length names) g
token-formed names (token.TyVar k) h g = lt-ltb k (length names) g
token-formed names (token.Lit (lit.Int i)) h g = h
token-formed names (token.Lit (lit.Char c)) h g = h
token-formed names (token.Lit (lit.Text k)) h g = lt-ltb k (length names) g
token-formed names (token.Sign m) h g = refl
token-formed names (token.Dashes k) h g = refl

tokens-formed : (names : List (List ℕ)) (spots : List Spot) → list_all is_formed (shown names spots) ≡ true → AllGiven (length names) spots → AreFormed (length names) spots
tokens-formed names [] h g = tt
tokens-formed names (s ∷ ss) h g =
    (token-formed names s.token (and-left _ _ h) (All-head (λ (s : Spot). IsGiven (length names) s.token) s ss g), tokens-formed names ss (and-right _ _ h) (All-tail (λ (s : Spot). IsGiven (length names) s.token) s ss g))

pub spelled-formed : (number : ℕ) (bytes : List ℕ) (names : List (List ℕ)) (spots : List Spot) → IsBytes bytes → Spelled number bytes (shown names spots) → AllGiven (length names) spots → AreFormed (length names) spots
spelled-formed number bytes names spots all s g =
    let formed : list_all is_formed (shown names spots) ≡ true = subst (λ (ms : List (Place × Shown)). list_all is_formed ms ≡ true) (sym s.2) (marks-formed (start number) s.0 bytes [] all s.1) in
    tokens-formed names spots formed g
