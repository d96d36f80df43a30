-- One byte of a spelling that is read a byte at a time.
use Rattle.std.proofs.Common.{◌≡◌, ℕ, List, ◌∷◌, refl, Option, None}
use Rattle.rml_lex.specs.declared.piece.Piece.{Piece}
use Rattle.rml_lex.specs.declared.machine.Move.{Move}
use Rattle.rml_lex.specs.declared.machine.Move.TheVariants.{On, Done, Dead}
use Rattle.rml_lex.specs.Machine.{ends, whole_from}

module _ {S : Type 0} (stop : S → Piece) (step : S → ℕ → Move S) where
  -- what the bytes after a move spell
  abbrev pub moved : Move S → List ℕ → Option Piece
  moved (On s) bs = whole_from stop step s bs
  moved (Done p) bs = ends p bs
  moved Dead bs = None

  by_move : (s : S) (b : ℕ) (bs : List ℕ) (m : Move S) → step s b ≡ m → whole_from stop step s (b ∷ bs) ≡ moved m bs
  by_move s b bs (On next) e = rw (e, whole_from) refl
  by_move s b bs (Done p) e = rw (e, whole_from) refl
  by_move s b bs Dead e = rw (e, whole_from) refl

  pub one_step : (s : S) (b : ℕ) (bs : List ℕ) → whole_from stop step s (b ∷ bs) ≡ moved (step s b) bs
  one_step s b bs = by_move s b bs (step s b) refl
