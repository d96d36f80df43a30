-- Printed bytes cut into pieces.
use Rattle.std.proofs.Common.{◌≡◌, ℕ, zero, suc, ◌+◌, ◌-◌, ◌≤◌, List, [], ◌∷◌, ◌++◌, length, map, take, replicate, refl, sym, ◌∙◌, arith, Some, None, append_assoc, append-nil, length-append, inl, inr}
use Rattle.std.specs.Prelude.{All}
use Rattle.std.specs.List.{flat_map}
use Rattle.std.proofs.lemmas.List.{map-append}
use Rattle.std.proofs.lemmas.List.Elements.{All-tail}
use Rattle.std.proofs.Math.Seq.{take-append_seam, take-append-add}
use Rattle.rml_base.specs.declared.place.Place.{Place}
use Rattle.rml_syntax.specs.declared.token.Lit.{Lit}
use Rattle.rml_syntax.specs.declared.token.Lit.TheVariants as lit
use Rattle.rml_syntax.specs.declared.token.Spot.{Spot}
use Rattle.rml_syntax.specs.declared.token.Token.{Token}
use Rattle.rml_syntax.specs.declared.token.Token.TheVariants as token
use Rattle.rml_lex.specs.declared.piece.Piece.{Piece}
use Rattle.rml_lex.specs.declared.piece.Piece.TheVariants as piece
use Rattle.rml_lex.specs.Places.{place_after, start}
use Rattle.rml_lex.specs.Reading.{IsSound, Part, Reaches, Shown, behind, marks, shown, shown_token, tokens_of}
use Rattle.rml_lex.specs.Spelling.{whole}
use Rattle.rml_lex.specs.Spells.{IsLongest}
use Rattle.rml_lex.proofs.Callers.{longest-is, spells-whole, two-ways}
use Rattle.rml_print.specs.Lines.{Line, gap, is_tight, line_bytes, lines_bytes, spaced, spaced_after}
use Rattle.rml_print.specs.Printable.{AreApartFrom, AreReadAs, ArePrintable, IsPrintable}
use Rattle.rml_print.specs.Spelling.{spelling}
use Rattle.rml_print.proofs.Neighbours.{EndsBefore, blank-ends, gap-ends}
use Rattle.rml_print.proofs.Spellings.{broken, piece_of, same-token, spelled, token-size}

-- bytes that are no piece once the first byte behind them is added, whatever follows it
abbrev IsBroken : List ℕ → List ℕ → Type 0
IsBroken s [] = Unit {0}
IsBroken s (b ∷ bs) = (more : List ℕ) → whole (s ++ b ∷ more) ≡ None

none-longer : (s rest : List ℕ) (k : ℕ) → IsBroken s rest → suc k ≤ length rest → whole (take (length s + suc k) (s ++ rest)) ≡ None
none-longer s [] k stops le = absurd (omega arith)
none-longer s (b ∷ bs) k stops le = rw take-append-add (stops (take k bs))

piece-longest : (s rest : List ℕ) (p : Piece) → whole s ≡ Some p → IsBroken s rest → IsLongest (s ++ rest) (length s) p
piece-longest s rest p is stops = longest-is (s ++ rest) (length s) p (record {
  within = omega (arith, length-append s rest);
  spelled = rw take-append_seam is;
  longer = λ m lt le.
      let k = m - length s - 1 in
      let at : m ≡ length s + suc k = omega arith in
      rw at (none-longer s rest k stops (omega (arith, length-append s rest)));
})

-- Pieces from some bytes to the rest, whose tokens, at whatever place they stand, are these.
pub record Cut (names : List (List ℕ)) (bytes : List ℕ) (ts : List Token) (rest : List ℕ) : Type 0 where
  pub parts : List Part
  pub reaches : Reaches bytes parts rest
  pub spots : Place → List Spot
  pub shows : (at : Place) → shown names (spots at) ≡ marks at parts
  pub tokens : (at : Place) → map (λ s. s.token) (spots at) ≡ ts

nothing-cut : (names : List (List ℕ)) (bytes : List ℕ) → Cut names bytes [] bytes
nothing-cut names bytes = record { parts = []; reaches = refl; spots = λ at. []; shows = λ at. refl; tokens = λ at. refl }

reaches-on : (ps qs : List Part) (a b c : List ℕ) → Reaches a ps b → Reaches b qs c → Reaches a (ps ++ qs) c
reaches-on [] qs a b c r s = rw r s
reaches-on (p ∷ ps) qs a b c r s = (r.0, r.1, r.2, r.3, r.4, reaches-on ps qs r.0 b c r.5 s)

marks-on : (at : Place) (ps qs : List Part) → marks at (ps ++ qs) ≡ marks at ps ++ marks (behind at ps) qs
marks-on at [] qs = refl
marks-on at (p ∷ ps) qs = rw (marks-on (place_after at p.0) ps qs) (sym (append_assoc (map (λ t. (at, t)) (tokens_of p)) (marks (place_after at p.0) ps) (marks (behind (place_after at p.0) ps) qs)))

join : (names : List (List ℕ)) (a b c : List ℕ) (ts us : List Token) → Cut names a ts b → Cut names b us c → Cut names a (ts ++ us) c
join names a b c ts us p q = record {
  parts = p.parts ++ q.parts;
  reaches = reaches-on p.parts q.parts a b c p.reaches q.reaches;
  spots = λ at. p.spots at ++ q.spots (behind at p.parts);
  shows = λ at.
      map-append {B = Place × Shown} (λ (s : Spot). (s.place, shown_token names s.token)) (p.spots at) (q.spots (behind at p.parts))
      ∙ rw (p.shows at, q.shows (behind at p.parts)) (sym (marks-on at p.parts q.parts));
  tokens = λ at.
      map-append {B = Token} (λ (s : Spot). s.token) (p.spots at) (q.spots (behind at p.parts))
      ∙ rw (p.tokens at, q.tokens (behind at p.parts)) refl;
}

-- a blank or a line end
blank-cut : (names : List (List ℕ)) (b : ℕ) (rest : List ℕ) → whole (b ∷ []) ≡ Some piece.Blank → ((c : ℕ) (more : List ℕ) → whole (b ∷ c ∷ more) ≡ None) → Cut names (b ∷ rest) [] rest
blank-cut names b rest is alone = record {
  parts = (b ∷ [], piece.Blank) ∷ [];
  reaches = (rest, refl, omega arith, piece-longest (b ∷ []) rest piece.Blank is (unbroken rest), tt, refl);
  spots = λ at. [];
  shows = λ at. refl;
  tokens = λ at. refl;
} where
  unbroken : (rest : List ℕ) → IsBroken (b ∷ []) rest
  unbroken [] = tt
  unbroken (c ∷ cs) = λ more. alone c more

blanks-cut : (names : List (List ℕ)) (n : ℕ) (rest : List ℕ) → Cut names (replicate n 32 ++ rest) [] rest
blanks-cut names zero rest = nothing-cut names rest
blanks-cut names (suc n) rest = join names (32 ∷ replicate n 32 ++ rest) (replicate n 32 ++ rest) rest [] [] (blank-cut names 32 (replicate n 32 ++ rest) refl (λ c more. refl)) (blanks-cut names n rest)

-- a token
sound-literal : (l : Lit) → IsSound (piece_of (token.Lit l))
sound-literal (lit.Int i) = tt
sound-literal (lit.Char b) = tt
sound-literal (lit.Text n) = tt

sound-token : (t : Token) → IsSound (piece_of t)
sound-token (token.Word k) = tt
sound-token (token.Name n) = tt
sound-token (token.TyVar n) = tt
sound-token (token.Lit l) = sound-literal l
sound-token (token.Sign m) = tt
sound-token (token.Dashes n) = tt

ends-broken : (names : List (List ℕ)) (t : Token) (rest : List ℕ) → IsPrintable names t → EndsBefore t rest → IsBroken (spelling names t) rest
ends-broken names t [] h ends = tt
ends-broken names t (b ∷ bs) h ends = λ more. broken names t b more h ends

token-cut : (names : List (List ℕ)) (t : Token) (rest : List ℕ) → IsPrintable names t → EndsBefore t rest → Cut names (spelling names t ++ rest) (t ∷ []) rest
token-cut names t rest h ends =
    let s = spelling names t in
    record {
      parts = (s, piece_of t) ∷ [];
      reaches = (rest, refl, token-size names t h, piece-longest s rest (piece_of t) (spells-whole s (piece_of t) (spelled names t h)) (ends-broken names t rest h ends), sound-token t, refl);
      spots = λ at. record { token = t; place = at } ∷ [];
      shows = λ at. rw (same-token names t h) refl;
      tokens = λ at. refl;
    }

-- tokens on one line, up to its end
abbrev Closed : List ℕ → Type 0
Closed [] = Unit {0}
Closed (b ∷ bs) = b ≡ 10

closed-ends : (t : Token) (rest : List ℕ) → Closed rest → EndsBefore t rest
closed-ends t [] h = tt
closed-ends t (b ∷ bs) h = rw h (blank-ends t).1

gap-cut : (names : List (List ℕ)) (t u : Token) (rest : List ℕ) → Cut names (gap t u ++ rest) [] rest
gap-cut names t u rest = elim (two-ways (is_tight t u)) [
  | inl tight ↦ rw tight (nothing-cut names rest)
  | inr loose ↦ rw loose (blank-cut names 32 rest refl (λ c more. refl))
]

regrouped : (a b c d : List ℕ) → a ++ b ++ c ++ d ≡ a ++ (b ++ (c ++ d))
regrouped a b c d = append_assoc (a ++ b) c d ∙ append_assoc a b (c ++ d)

after-ends : (names : List (List ℕ)) (t : Token) (ts : List Token) (rest : List ℕ) → All (IsPrintable names) ts → AreApartFrom t ts → Closed rest → EndsBefore t (spaced_after names (Some t) ts ++ rest)
after-ends names t [] rest each apart closed = closed-ends t rest closed
after-ends names t (u ∷ us) rest each apart closed =
    rw (regrouped (gap t u) (spelling names u) (spaced_after names (Some u) us) rest) (gap-ends names t u (spaced_after names (Some u) us ++ rest) (each 0 u (omega arith)) apart.0)

put-token : (names : List (List ℕ)) (t : Token) (ts : List Token) (bytes rest : List ℕ) → IsPrintable names t → EndsBefore t bytes → Cut names bytes ts rest → Cut names (spelling names t ++ bytes) (t ∷ ts) rest
put-token names t ts bytes rest h ends more = join names (spelling names t ++ bytes) bytes rest (t ∷ []) ts (token-cut names t bytes h ends) more

after-cut : (names : List (List ℕ)) (t : Token) (ts : List Token) (rest : List ℕ) → All (IsPrintable names) ts → AreApartFrom t ts → Closed rest → Cut names (spaced_after names (Some t) ts ++ rest) ts rest
after-cut names t [] rest each apart closed = nothing-cut names rest
after-cut names t (u ∷ us) rest each apart closed =
    let others : All (IsPrintable names) us = All-tail (IsPrintable names) u us each in
    let bytes : List ℕ = spaced_after names (Some u) us ++ rest in
    rw (regrouped (gap t u) (spelling names u) (spaced_after names (Some u) us) rest)
    (join names (gap t u ++ (spelling names u ++ bytes)) (spelling names u ++ bytes) rest [] (u ∷ us) (gap-cut names t u (spelling names u ++ bytes))
    (put-token names u us bytes rest (each 0 u (omega arith)) (after-ends names u us rest others apart.1 closed) (after-cut names u us rest others apart.1 closed)))

spaced-cut : (names : List (List ℕ)) (ts : List Token) (rest : List ℕ) → ArePrintable names ts → Closed rest → Cut names (spaced names ts ++ rest) ts rest
spaced-cut names [] rest can closed = nothing-cut names rest
spaced-cut names (t ∷ ts) rest can closed =
    let others : All (IsPrintable names) ts = All-tail (IsPrintable names) t ts can.each in
    rw (append_assoc (spelling names t) (spaced_after names (Some t) ts) rest)
    (put-token names t ts (spaced_after names (Some t) ts ++ rest) rest (let each = can.each in each 0 t (omega arith)) (after-ends names t ts rest others can.apart closed) (after-cut names t ts rest others can.apart closed))

-- lines
retold : (names : List (List ℕ)) (bytes rest : List ℕ) (ts us : List Token) → us ≡ ts → Cut names bytes ts rest → Cut names bytes us rest
retold names bytes rest ts us e c = rw e c

end-cut : (names : List (List ℕ)) (rest : List ℕ) → Cut names (10 ∷ rest) [] rest
end-cut names rest = blank-cut names 10 rest refl (λ c more. refl)

line-cut : (names : List (List ℕ)) (l : Line) (rest : List ℕ) → ArePrintable names l.tokens → Cut names (line_bytes names l ++ rest) l.tokens rest
line-cut names l rest can =
    let line : List ℕ = spaced names l.tokens ++ 10 ∷ rest in
    rw (regrouped (replicate l.indent 32) (spaced names l.tokens) (10 ∷ []) rest)
    (retold names (replicate l.indent 32 ++ line) rest (l.tokens ++ []) l.tokens (sym (append-nil l.tokens))
    (join names (replicate l.indent 32 ++ line) line rest [] (l.tokens ++ []) (blanks-cut names l.indent line)
    (join names line (10 ∷ rest) rest l.tokens [] (spaced-cut names l.tokens (10 ∷ rest) can refl) (end-cut names rest))))

lines-cut : (names : List (List ℕ)) (ls : List Line) → All (λ l. ArePrintable names l.tokens) ls → Cut names (lines_bytes names ls) (flat_map (λ l. l.tokens) ls) []
lines-cut names [] can = nothing-cut names []
lines-cut names (l ∷ ls) can =
    join names (line_bytes names l ++ lines_bytes names ls) (lines_bytes names ls) [] l.tokens (flat_map (λ l. l.tokens) ls)
    (line-cut names l (lines_bytes names ls) (can 0 l (omega arith))) (lines-cut names ls (All-tail (λ (l : Line). ArePrintable names l.tokens) l ls can))

-- such pieces are what bytes are read as
read-as : (text : ℕ) (names : List (List ℕ)) (bytes : List ℕ) (ts : List Token) → Cut names bytes ts [] → AreReadAs text names bytes ts
read-as text names bytes ts c = (c.spots (start text), (c.parts, c.reaches, c.shows (start text)), c.tokens (start text))

pub lines-read : (text : ℕ) (names : List (List ℕ)) (ls : List Line) → All (λ l. ArePrintable names l.tokens) ls → AreReadAs text names (lines_bytes names ls) (flat_map (λ l. l.tokens) ls)
lines-read text names ls can = read-as text names (lines_bytes names ls) _ (lines-cut names ls can)

pub spaced-read : (text : ℕ) (names : List (List ℕ)) (ts : List Token) → ArePrintable names ts → AreReadAs text names (spaced names ts) ts
spaced-read text names ts can = read-as text names (spaced names ts) ts (rw (← append-nil (spaced names ts)) (spaced-cut names ts [] can tt))
