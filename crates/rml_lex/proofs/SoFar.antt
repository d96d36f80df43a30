-- How far a text has been read.
use Rattle.std.proofs.Common.{◌≡◌, ℕ, zero, suc, ◌+◌, ◌<◌, ◌≤◌, ◌^◌, List, [], ◌∷◌, ◌++◌, length, map, refl, sym, ap, ◌∙◌, arith, Option, Some, None, append_assoc, append-nil, get_or, drop}
use Rattle.std.proofs.lemmas.List.{map-append}
use Rattle.std.proofs.lemmas.List.Elements.{All-append}
use Rattle.std.proofs.Math.ListN.{get_or-append, length-append}
use Rattle.std.specs.Prelude.{All}
use Rattle.rml_lex.specs.Spelling.{whole}
use Rattle.rml_lex.specs.Spells.{IsLongest}
use Rattle.rml_lex.proofs.Wholes.{spells-whole}
use Rattle.rml_lex.specs.Places.{place_after, start}
use Rattle.rml_lex.specs.Character.{unescaped, values_from}
use Rattle.rml_lex.specs.declared.character.Inside.TheVariants.{Between}
use Rattle.rml_lex.specs.Reading.{Shown, Part, tokens_of, IsSound, Reaches, marks, behind, shown_token, shown, IsGiven, Reads, IsTokenOf}
use Rattle.rml_base.specs.declared.place.Place.{Place}
use Rattle.rml_syntax.specs.declared.token.Spot.{Spot}
use Rattle.rml_syntax.specs.declared.token.Token.{Token}
use Rattle.rml_syntax.specs.declared.token.Token.TheVariants as token
use Rattle.rml_syntax.specs.declared.token.Lit.TheVariants as lit
use Rattle.rml_base.specs.Numbering.{GrowsBy, IsDistinct, number_in, with_name}
use Rattle.rml_base.proofs.Callers.{name-bytes, name-given, name-known}
use Rattle.rml_lex.specs.Numbered.{bytes_in, names_in, spots_in, token_in, with_names}
use Rattle.std.specs.List.{flat_map}
use Rattle.std.proofs.lemmas.Grind.{flat_map-append}
use Rattle.std.proofs.lemmas.List.Sums.{fold-append}
use Rattle.rml_lex.specs.declared.piece.Piece.{Piece}
use Rattle.rml_lex.specs.declared.piece.LexKind.{LexKind}
use Rattle.rml_lex.specs.declared.piece.Piece.TheVariants as piece

pub named : (names now : List (List ℕ)) (b : List ℕ) (n : ℕ) → n ≡ number_in names b → now ≡ with_name names b → (get_or now n [] ≡ b) × (n < length now)
named names now b n e en = (rw (e, en) (name-bytes names b), rw (e, en) (name-given names b))

pub name_of : (names now : List (List ℕ)) (b : List ℕ) (n : ℕ) (p : Piece) → p ≡ piece.Name → n ≡ number_in names b → now ≡ with_name names b → IsTokenOf now (b, p) (Some (token.Name n))
name_of names now b n p is e en = let h = named names now b n e en in (rw (is, h.0) refl, h.1)

pub tyvar_of : (names now : List (List ℕ)) (b : List ℕ) (n : ℕ) (p : Piece) → p ≡ piece.TyVar → n ≡ number_in names b → now ≡ with_name names b → IsTokenOf now (b, p) (Some (token.TyVar n))
tyvar_of names now b n p is e en = let h = named names now b n e en in (rw (is, h.0) refl, h.1)

-- the number of the bytes that a text stands for
pub text_of : (names now : List (List ℕ)) (b inside v : List ℕ) (n : ℕ) (p : Piece) → p ≡ piece.Text → inside ≡ drop 1 b → v ≡ values_from Between inside → n ≡ number_in names v → now ≡ with_name names v → IsTokenOf now (b, p) (Some (token.Lit (lit.Text n)))
text_of names now b inside v n p is cut values e en =
    let h = named names now v n e en in
    let same : v ≡ unescaped b = values ∙ rw cut refl in
    (rw (is, h.0, same) refl, h.1)

pub reaches-more : (bytes : List ℕ) (parts : List Part) (rest : List ℕ) (part : Part) (more : List ℕ) → Reaches bytes parts rest
    → rest ≡ part.0 ++ more → 0 < length part.0 → IsLongest rest (length part.0) part.1 → IsSound part.1 → Reaches bytes (parts ++ part ∷ []) more
reaches-more bytes [] rest part more r e pos l sound = (more, (r ∙ e), pos, rw r l, sound, refl)
reaches-more bytes (p ∷ ps) rest part more r e pos l sound = (r.0, r.1, r.2, r.3, r.4, reaches-more r.0 ps rest part more r.5 e pos l sound)

behind-more : (at : Place) (parts : List Part) (part : Part) → behind at (parts ++ part ∷ []) ≡ place_after (behind at parts) part.0
behind-more at [] part = refl
behind-more at (p ∷ ps) part = behind-more (place_after at p.0) ps part

marks-more : (at : Place) (parts : List Part) (part : Part) → marks at (parts ++ part ∷ []) ≡ marks at parts ++ map (λ t. (behind at parts, t)) (tokens_of part)
marks-more at [] part = append-nil (map (λ t. (at, t)) (tokens_of part))
marks-more at (p ∷ ps) part = rw (marks-more (place_after at p.0) ps part) (sym (append_assoc (map (λ t. (at, t)) (tokens_of p)) (marks (place_after at p.0) ps) (map (λ t. (behind (place_after at p.0) ps, t)) (tokens_of part))))

pub longest-pos : (rest : List ℕ) (n : ℕ) (p : Piece) → IsLongest rest n p → 0 < n
longest-pos rest zero p l = let e : whole [] ≡ Some p = spells-whole [] p l.spelled in absurd (cc e)
longest-pos rest (suc n) p l = omega arith

-- a token shows the same under more names
token-kept : (names more : List (List ℕ)) (t : Token) → IsGiven (length names) t → shown_token (names ++ more) t ≡ shown_token names t
token-kept names more (token.Name k) h = rw (get_or-append names more [] k h) refl
token-kept names more (token.TyVar k) h = rw (get_or-append names more [] k h) refl
token-kept names more (token.Lit (lit.Text k)) h = rw (get_or-append names more [] k h) refl
token-kept names more (token.Lit (lit.Int i)) h = refl
token-kept names more (token.Lit (lit.Char v)) h = refl
token-kept names more (token.Word k) h = refl
token-kept names more (token.Dashes n) h = refl
token-kept names more (token.Sign m) h = refl

given-more : (n k : ℕ) (t : Token) → IsGiven n t → IsGiven (n + k) t
given-more n k (token.Name j) h = omega arith
given-more n k (token.TyVar j) h = omega arith
given-more n k (token.Lit (lit.Text j)) h = omega arith
given-more n k (token.Lit (lit.Int i)) h = tt
given-more n k (token.Lit (lit.Char v)) h = tt
given-more n k (token.Word j) h = tt
given-more n k (token.Dashes v) h = tt
given-more n k (token.Sign m) h = tt

-- All by parts
all-head : (P : Spot → Type 0) (s : Spot) (ss : List Spot) → All P (s ∷ ss) → P s
all-head P s ss h = h 0 s (omega arith)

-- the spots of a token that may be none
abbrev pub spots_at : Place → Option Token → List Spot
spots_at at None = []
spots_at at (Some t) = record { token = t; place = at } ∷ []

shown-kept : (names more : List (List ℕ)) (spots : List Spot) → All (λ s. IsGiven (length names) s.token) spots → shown (names ++ more) spots ≡ shown names spots
shown-kept names more [] h = refl
shown-kept names more (s ∷ ss) h =
    let one : IsGiven (length names) s.token = h 0 s (omega arith) in
    let rest = shown-kept names more ss (λ k d lt. h (suc k) d (omega arith)) in
    rw (token-kept names more s.token one, rest) refl

one-shown : (names : List (List ℕ)) (at : Place) (part : Part) (t : Option Token) → IsTokenOf names part t → shown names (spots_at at t) ≡ map (λ t. (at, t)) (tokens_of part)
one-shown names at part None is = rw is refl
one-shown names at part (Some t) is = rw is.0 refl

one-given : (names : List (List ℕ)) (at : Place) (part : Part) (t : Option Token) → IsTokenOf names part t → All (λ s. IsGiven (length names) s.token) (spots_at at t)
one-given names at part None is = λ k d lt. absurd (omega arith)
one-given names at part (Some t) is = λ k d lt. (let z : k ≡ 0 = omega arith in rw z is.1)

-- what is shown grows by the token
pub shown-more : (names names' : List (List ℕ)) (spots spots' : List Spot) (at : Place) (part : Part) (t : Option Token)
    → All (λ s. IsGiven (length names) s.token) spots → GrowsBy 1 names names' → IsTokenOf names' part t → spots' ≡ spots ++ spots_at at t
    → shown names' spots' ≡ shown names spots ++ map (λ t. (at, t)) (tokens_of part)
shown-more names names' spots spots' at part t given grows is es =
    rw (
      es,
      map-append {B = Place × Shown} (λ (s : Spot). (s.place, shown_token names' s.token)) spots (spots_at at t),
      one-shown names' at part t is,
      grows.1,
      shown-kept names grows.0 spots given,
    ) refl

-- the names of tokens at one place
names-at : (at : Place) (ts : List Shown) → names_in (map (λ t. (at, t)) ts) ≡ flat_map bytes_in ts
names-at at [] = refl
names-at at (t ∷ ts) = ap (λ ns. bytes_in t ++ ns) (names-at at ts)

-- and so the names grow by those of the token
pub numbers-more : (old names names' : List (List ℕ)) (spots spots' : List Spot) (at : Place) (part : Part)
    → shown names' spots' ≡ shown names spots ++ map (λ t. (at, t)) (tokens_of part)
    → names ≡ with_names old (names_in (shown names spots)) → names' ≡ with_names names (flat_map bytes_in (tokens_of part))
    → names' ≡ with_names old (names_in (shown names' spots'))
numbers-more old names names' spots spots' at part more was is =
    let joined : names_in (shown names' spots') ≡ names_in (shown names spots) ++ flat_map bytes_in (tokens_of part) =
    ap names_in more ∙ flat_map-append (λ (s : Place × Shown). bytes_in s.1) (shown names spots) (map (λ t. (at, t)) (tokens_of part)) ∙ ap (λ ns. names_in (shown names spots) ++ ns) (names-at at (tokens_of part)) in
    is ∙ ap (λ ns. with_names ns (flat_map bytes_in (tokens_of part))) was ∙ sym (fold-append with_name old (names_in (shown names spots)) (flat_map bytes_in (tokens_of part))) ∙ sym (ap (with_names old) joined)

-- a number that was given is that of its bytes
token-numbered : (names : List (List ℕ)) (t : Token) → IsDistinct names → IsGiven (length names) t → t ≡ token_in names (shown_token names t)
token-numbered names (token.Name k) d h = ap token.Name (sym (name-known names k d h))
token-numbered names (token.TyVar k) d h = ap token.TyVar (sym (name-known names k d h))
token-numbered names (token.Lit (lit.Text k)) d h = ap (λ n. token.Lit (lit.Text n)) (sym (name-known names k d h))
token-numbered names (token.Lit (lit.Int i)) d h = refl
token-numbered names (token.Lit (lit.Char v)) d h = refl
token-numbered names (token.Word k) d h = refl
token-numbered names (token.Dashes n) d h = refl
token-numbered names (token.Sign m) d h = refl

spot-numbered : (names : List (List ℕ)) (s : Spot) → IsDistinct names → IsGiven (length names) s.token → s ≡ record { token = token_in names (shown_token names s.token); place = s.place }
spot-numbered names s d h = rw (← token-numbered names s.token d h) refl

pub spots-numbered : (names : List (List ℕ)) (spots : List Spot) → IsDistinct names → All (λ s. IsGiven (length names) s.token) spots → spots ≡ spots_in names (shown names spots)
spots-numbered names [] d h = refl
spots-numbered names (s ∷ ss) d h =
    let one = spot-numbered names s d (h 0 s (omega arith)) in
    let more = spots-numbered names ss d (λ k e lt. h (suc k) e (omega arith)) in
    ap (λ x. x ∷ ss) one ∙ ap (λ xs. record { token = token_in names (shown_token names s.token); place = s.place } ∷ xs) more

pub reads-more : (text : ℕ) (bytes : List ℕ) (old : List (List ℕ)) (rest : List ℕ) (at : Place) (spots : List Spot) (names : List (List ℕ))
    (front more : List ℕ) (p : Piece) (t : Option Token) (after : Place) (spots' : List Spot) (names' : List (List ℕ))
    → Reads text bytes old rest at spots names → rest ≡ front ++ more → IsLongest rest (length front) p → IsSound p
    → GrowsBy 1 names names' → IsTokenOf names' (front, p) t → after ≡ place_after at front → spots' ≡ spots ++ spots_at at t
    → Reads text bytes old more after spots' names'
reads-more text bytes old rest at spots names front more p t after spots' names' r cut l sound grows is ea es = record {
  parts = r.parts ++ (front, p) ∷ [];
  reaches = reaches-more bytes r.parts rest (front, p) more r.reaches cut (longest-pos rest (length front) p l) l sound;
  place = ea ∙ (rw r.place (sym (behind-more (start text) r.parts (front, p))));
  tokens =
      rw (
        es,
        map-append {B = Place × Shown} (λ (s : Spot). (s.place, shown_token names' s.token)) spots (spots_at at t),
        marks-more (start text) r.parts (front, p),
        ← r.place,
        one-shown names' at (front, p) t is,
        grows.1,
        shown-kept names grows.0 spots r.given,
        r.tokens,
      ) refl;
  given = rw es (All-append (λ s. IsGiven (length names') s.token) spots (spots_at at t)
      (λ k d lt. (let n : length names' ≡ length names + length grows.0 = ap length grows.1 ∙ length-append names grows.0 in rw n (given-more (length names) (length grows.0) _ (r.given k d lt))))
      (one-given names' at (front, p) t is));
  names = (
    r.names.0 ++ grows.0,
    grows.1 ∙ (rw r.names.1 (append_assoc old r.names.0 grows.0)),
    (let pos = longest-pos rest (length front) p l in omega (arith, length-append r.names.0 grows.0, ap length cut, length-append front more, r.names.2, grows.2)),
  );
}

pub sound : (p : Piece) → ((k : LexKind) (at : ℕ) → p ≡ piece.Faulty k at → ⊥) → IsSound p
sound piece.Blank h = tt
sound piece.Comment h = tt
sound piece.Name h = tt
sound piece.TyVar h = tt
sound (piece.Word k) h = tt
sound (piece.Int i) h = tt
sound (piece.Char v) h = tt
sound piece.Dashes h = tt
sound (piece.Sign m) h = tt
sound piece.Text h = tt
sound (piece.Faulty k at) h = h k at refl

pub no_spot : (at : Place) (t : Option Token) → ((x : Token) → t ≡ Some x → ⊥) → spots_at at t ≡ []
no_spot at None h = refl
no_spot at (Some x) h = absurd (h x refl)

pub more_names : (names now : List (List ℕ)) (more rest all n : ℕ) → GrowsBy 1 names now → more + n ≡ rest → 0 < n → length names + rest ≤ 2 ^ 31 + all → length now + more ≤ 2 ^ 31 + all
more_names names now more rest all n g e pos h = let q : length now ≡ length names + length g.0 = ap length g.1 ∙ length-append names g.0 in omega (arith, q, g.2)
