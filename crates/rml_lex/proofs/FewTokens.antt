-- A text has no more tokens than bytes.
use Rattle.std.proofs.Common.{◌≡◌, ℕ, ◌+◌, ◌≤◌, List, [], ◌∷◌, length, map, ap, arith}
use Rattle.std.proofs.Math.ListN.{length-append}
use Rattle.std.proofs.lemmas.List.{length-map}
use Rattle.rml_base.specs.declared.place.Place.{Place}
use Rattle.rml_syntax.specs.declared.token.Spot.{Spot}
use Rattle.rml_lex.specs.declared.piece.Piece.TheVariants as piece
use Rattle.rml_lex.specs.Places.{place_after, start}
use Rattle.rml_lex.specs.Reading.{IsFault, Part, Reaches, Shown, Spelled, marks, shown, shown_token, tokens_of}
use Rattle.rml_lex.specs.declared.tokens.LexErr.{LexErr}
use Rattle.rml_lex.specs.declared.tokens.LexErr.TheVariants as error
use Rattle.rml_base.specs.Answers.{Explains}
use Rattle.std.specs.Prelude.{Result, Ok, Err, Vec, IfOk}
use Rattle.std.specs.declared.alloc.Global.{Global}

one-token : (part : Part) → length (tokens_of part) ≤ 1
one-token (s, piece.Blank) = omega arith
one-token (s, piece.Comment) = omega arith
one-token (s, piece.Word k) = omega arith
one-token (s, piece.Name) = omega arith
one-token (s, piece.TyVar) = omega arith
one-token (s, piece.Int i) = omega arith
one-token (s, piece.Char v) = omega arith
one-token (s, piece.Text) = omega arith
one-token (s, piece.Dashes) = omega arith
one-token (s, piece.Sign m) = omega arith
one-token (s, piece.Faulty k at) = omega arith

one-mark : (at : Place) (part : Part) → length (map {B = Place × Shown} (λ (t : Shown). (at, t)) (tokens_of part)) ≤ 1
one-mark at part = let same = length-map {B = Place × Shown} (tokens_of part) (λ (t : Shown). (at, t)) in let one = one-token part in omega (arith, same, one)

few-marks : (at : Place) (parts : List Part) (bytes rest : List ℕ) → Reaches bytes parts rest → length (marks at parts) + length rest ≤ length bytes
few-marks at [] bytes rest r = omega (arith, ap length r)
few-marks at (part ∷ parts) bytes rest r =
    let more = few-marks (place_after at part.0) parts r.0 rest r.5 in
    let one = one-mark at part in
    let pos = r.2 in
    let cut : length bytes ≡ length part.0 + length r.0 = rw r.1 (length-append part.0 r.0) in
    let joined = length-append (map {B = Place × Shown} (λ (t : Shown). (at, t)) (tokens_of part)) (marks (place_after at part.0) parts) in
    omega (arith, joined, cut, more, one, pos)

pub few-tokens : (number : ℕ) (bytes : List ℕ) (names : List (List ℕ)) (spots : List Spot) → Spelled number bytes (shown names spots) → length spots ≤ length bytes
few-tokens number bytes names spots s =
    let few = few-marks (start number) s.0 bytes [] s.1 in
    let same : length (shown names spots) ≡ length (marks (start number) s.0) = ap length s.2 in
    let as_many : length (shown names spots) ≡ length spots = length-map {B = Place × Shown} spots (λ (t : Spot). (t.place, shown_token names t.token)) in
    omega (arith, few, same, as_many)

pub few-of : (number : ℕ) (bytes : List ℕ) (names : List (List ℕ)) (r : Result (Vec Spot Global) LexErr) → Explains error.Memory r (λ v. Spelled number bytes (shown names v.items)) (IsFault number bytes) → IfOk r (λ v. length v.items ≤ length bytes)
few-of number bytes names (Ok v) so = few-tokens number bytes names v.items so
few-of number bytes names (Err e) so = tt
