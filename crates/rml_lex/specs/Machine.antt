-- What the whole of some bytes spells, read by parts; and the longest front that spells anything.
use Rattle.std.specs.Prelude.{◌≡◌, ℕ, ◌<◌, ◌≤◌, Bool, List, [], ◌∷◌, length, take, drop, Option, Some, None, if◌then◌else◌, nat_lt}
use Rattle.std.specs.List.{list_all, prefix_len}
use Rattle.rml_lex.specs.declared.piece.Piece.{Piece}
use Rattle.rml_lex.specs.declared.machine.Move.{Move}
use Rattle.rml_lex.specs.declared.machine.Move.TheVariants.{On, Done, Dead}
use Rattle.rml_lex.specs.Bytes.{is_digit}

-- p, if nothing follows
abbrev pub ends : Piece → List ℕ → Option Piece
ends p [] = Some p
ends p (_ ∷ _) = None

-- p if nothing follows, and otherwise what follows says
abbrev pub ends_or : Piece → (List ℕ → Option Piece) → List ℕ → Option Piece
ends_or p more [] = Some p
ends_or p more (b ∷ bs) = more (b ∷ bs)

-- what follows a first byte that passes the test
abbrev pub follows : (ℕ → Bool) → (List ℕ → Option Piece) → List ℕ → Option Piece
follows test more [] = None
follows test more (b ∷ bs) = if test b then more bs else None

-- bytes that all pass the test
abbrev pub run : (ℕ → Bool) → (List ℕ → Piece) → List ℕ → Option Piece
run test p bytes = if list_all test bytes then Some (p bytes) else None

-- one digit or more, as many as there are, and what follows
abbrev pub digits_then : (List ℕ → List ℕ → Option Piece) → List ℕ → Option Piece
digits_then more bytes = let n = prefix_len is_digit bytes in if nat_lt 0 n then more (take n bytes) (drop n bytes) else None

-- What the whole of the bytes spells, read a byte at a time from a state: stop says what it is where they end, step what
-- a byte does.
abbrev pub whole_from : {S : Type 0} → (S → Piece) → (S → ℕ → Move S) → S → List ℕ → Option Piece
whole_from stop step s [] = Some (stop s)
whole_from stop step s (b ∷ bs) = elim (step s b) [
  | On next ↦ whole_from stop step next bs
  | Done p ↦ ends p bs
  | Dead ↦ None
]

-- The first n bytes are the longest part from the front on that spells anything, and they spell p.
pub record Longest (whole : List ℕ → Option Piece) (bytes : List ℕ) (n : ℕ) (p : Piece) : Type 0 where
  pub within : n ≤ length bytes
  pub spelled : whole (take n bytes) ≡ Some p
  pub longer : (m : ℕ) → n < m → m ≤ length bytes → whole (take m bytes) ≡ None

-- No part from the front on spells anything.
abbrev pub Stuck : (List ℕ → Option Piece) → List ℕ → Type 0
Stuck whole bytes = (m : ℕ) → m ≤ length bytes → whole (take m bytes) ≡ None
