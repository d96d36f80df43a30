-- Every text has its tokens or a first fault.
use Rattle.std.proofs.Common.{◌≡◌, ℕ, zero, suc, ◌<◌, ◌≤◌, List, [], ◌∷◌, ◌++◌, length, take, drop, refl, sym, arith, Option, Some, None, ◌⊎◌, inl, inr, length-drop}
use Rattle.std.proofs.lemmas.List.{take-append-drop}
use Rattle.std.proofs.lemmas.Grind.{common_steps}
use Rattle.rml_lex.specs.declared.piece.LexKind.{LexKind}
use Rattle.rml_lex.specs.declared.piece.LexKind.TheVariants.{BadByte}
use Rattle.rml_lex.specs.declared.piece.Piece.{Piece}
use Rattle.rml_lex.specs.declared.piece.Piece.TheVariants as piece
use Rattle.rml_lex.specs.Machine.{Longest, Stuck}
use Rattle.rml_lex.specs.Places.{place_after, start}
use Rattle.rml_lex.specs.Reading.{HasReading, IsSound, Part, Reaches, behind, marks}
use Rattle.rml_lex.specs.Spelling.{whole}
use Rattle.rml_lex.specs.Spells.{BeginsNothing, HasLongest, IsLongest}
use Rattle.rml_lex.proofs.Longests.{longest-pos}
use Rattle.rml_lex.proofs.Wholes.{longest-is, stuck-is}

-- the longest front that spells anything, if any does
record Longer (f : List ℕ → Option Piece) (bytes : List ℕ) : Type 0 where
  n : ℕ
  p : Piece
  is : Longest f bytes n p

none-from : (f : List ℕ → Option Piece) (bytes : List ℕ) (k : ℕ) → f (take k bytes) ≡ None → ((m : ℕ) → k < m → m ≤ length bytes → f (take m bytes) ≡ None) → (m : ℕ) → k ≤ m → m ≤ length bytes → f (take m bytes) ≡ None
none-from f bytes k e none m le within = elim (same-or-more k m le) [
  | inl same ↦ rw (← same) e
  | inr more ↦ none m more within
] where
  same-or-more : (k m : ℕ) → k ≤ m → (k ≡ m) ⊎ (k < m)
  same-or-more k m le = grind arith

abbrev NoneFrom : (List ℕ → Option Piece) → List ℕ → ℕ → Type 0
NoneFrom f bytes k = (m : ℕ) → k ≤ m → m ≤ length bytes → f (take m bytes) ≡ None

at-front : (f : List ℕ → Option Piece) (bytes : List ℕ) (k : ℕ) → k ≤ length bytes → ((m : ℕ) → k < m → m ≤ length bytes → f (take m bytes) ≡ None) → (r : Option Piece) → f (take k bytes) ≡ r → (NoneFrom f bytes k → Longer f bytes ⊎ Stuck f bytes) → Longer f bytes ⊎ Stuck f bytes
at-front f bytes k le none (Some p) e go = inl (record { n = k; p = p; is = record { within = le; spelled = e; longer = none } })
at-front f bytes k le none None e go = go (none-from f bytes k e none)

search-down : (f : List ℕ → Option Piece) (bytes : List ℕ) (k : ℕ) → k ≤ length bytes → ((m : ℕ) → k < m → m ≤ length bytes → f (take m bytes) ≡ None) → Longer f bytes ⊎ Stuck f bytes
search-down f bytes zero le none = at-front f bytes 0 le none (f (take 0 bytes)) refl (λ all. inr (λ m within. all m (omega arith) within))
search-down f bytes (suc k) le none = at-front f bytes (suc k) le none (f (take (suc k) bytes)) refl (λ all. search-down f bytes k (omega arith) (λ m lt within. all m (omega arith) within))

longest-or-stuck : (f : List ℕ → Option Piece) (bytes : List ℕ) → Longer f bytes ⊎ Stuck f bytes
longest-or-stuck f bytes = search-down f bytes (length bytes) (omega arith) (λ m lt le. absurd (omega arith))

pub has-longest : (bytes : List ℕ) → HasLongest bytes ⊎ BeginsNothing bytes
has-longest bytes = elim (longest-or-stuck whole bytes) [
  | inl l ↦ inl (l.n, l.p, longest-is bytes l.n l.p l.is)
  | inr stuck ↦ inr (stuck-is bytes stuck)
]

abbrev Fault : Piece → Type 0
Fault p = (k : LexKind) × (at : ℕ) × (p ≡ piece.Faulty k at)

sound-or-fault : (p : Piece) → IsSound p ⊎ Fault p
sound-or-fault piece.Blank = inl tt
sound-or-fault piece.Comment = inl tt
sound-or-fault (piece.Word k) = inl tt
sound-or-fault piece.Name = inl tt
sound-or-fault piece.TyVar = inl tt
sound-or-fault (piece.Int i) = inl tt
sound-or-fault (piece.Char v) = inl tt
sound-or-fault piece.Text = inl tt
sound-or-fault piece.Dashes = inl tt
sound-or-fault (piece.Sign m) = inl tt
sound-or-fault (piece.Faulty k at) = inr (k, at, refl)

-- pieces that lead to the end, or to a fault, whatever place the bytes stand at
abbrev Failing : List ℕ → Type 0
Failing rest = ((0 < length rest) × BeginsNothing rest) ⊎ ((n : ℕ) × (k : LexKind) × (at : ℕ) × IsLongest rest n (piece.Faulty k at))

data Outcome (bytes : List ℕ) : Type 0 where
  All : (parts : List Part) → Reaches bytes parts [] → Outcome bytes
  Fails : (parts : List Part) (rest : List ℕ) → Reaches bytes parts rest → Failing rest → Outcome bytes

in-front : (bytes : List ℕ) (part : Part) (more : List ℕ) → bytes ≡ part.0 ++ more → 0 < length part.0 → IsLongest bytes (length part.0) part.1 → IsSound part.1 → Outcome more → Outcome bytes
in-front bytes part more e pos l sound (All parts r) = All (part ∷ parts) (more, e, pos, l, sound, r)
in-front bytes part more e pos l sound (Fails parts rest r f) = Fails (part ∷ parts) rest (more, e, pos, l, sound, r) f

taken : (bytes : List ℕ) (n : ℕ) → n ≤ length bytes → length (take n bytes) ≡ n
taken bytes n le = grind (arith, common_steps)

outcome : (fuel : ℕ) (bytes : List ℕ) → length bytes ≤ fuel → Outcome bytes
outcome fuel [] le = All [] refl
outcome zero (b ∷ bs) le = absurd (omega arith)
outcome (suc fuel) (b ∷ bs) le = elim (longest-or-stuck whole (b ∷ bs)) [
  | inr stuck ↦ Fails [] (b ∷ bs) refl (inl (omega arith, stuck-is (b ∷ bs) stuck))
  | inl l ↦ elim (sound-or-fault l.p) [
    | inr (k, at, e) ↦ Fails [] (b ∷ bs) refl (inr (l.n, k, at, longest-is (b ∷ bs) l.n (piece.Faulty k at) (rw e at l.is)))
    | inl sound ↦ (
        let bytes : List ℕ = b ∷ bs in
        let within : l.n ≤ length bytes = (let i = l.is in i.within) in
        let pos : 0 < l.n = longest-pos whole bytes l.n l.p refl l.is in
        let size : length (take l.n bytes) ≡ l.n = taken bytes l.n within in
        let rest : length (drop l.n bytes) ≤ fuel = omega (arith, length-drop l.n bytes, le) in
        in-front bytes (take l.n bytes, l.p) (drop l.n bytes) (sym (take-append-drop l.n bytes)) (rw size pos) (rw size (longest-is bytes l.n l.p l.is)) sound (outcome fuel (drop l.n bytes) rest))
  ]
]

pub is-read : (text : ℕ) (bytes : List ℕ) → HasReading text bytes
is-read text bytes = go (outcome (length bytes) bytes (omega arith)) where
  go : Outcome bytes → HasReading text bytes
  go (All parts r) = inl (marks (start text) parts, (parts, r, refl))
  go (Fails parts rest r (inl (pos, stuck))) = inr (behind (start text) parts, BadByte, (parts, rest, r, inl (pos, stuck, refl, refl)))
  go (Fails parts rest r (inr (n, k, at, l))) = inr (place_after (behind (start text) parts) (take at (take n rest)), k, (parts, rest, r, inr (n, at, l, refl)))
