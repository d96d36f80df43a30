-- Comments read a byte at a time, after their opening (*.
use Rattle.std.specs.Prelude.{ℕ, ◌+◌, ◌-◌, ◌≤◌, ◌==◌, nat_le, List, Option, if◌then◌else◌}
use Rattle.rml_lex.specs.declared.piece.LexKind.TheVariants.{OpenComment}
use Rattle.rml_lex.specs.declared.piece.Piece.{Piece}
use Rattle.rml_lex.specs.declared.piece.Piece.TheVariants as piece
use Rattle.rml_lex.specs.declared.comment.Depth.{Depth}
use Rattle.rml_lex.specs.declared.comment.Half.{Half}
use Rattle.rml_lex.specs.declared.comment.Half.TheVariants.{Neither, Round, Star}
use Rattle.rml_lex.specs.declared.machine.Move.{Move}
use Rattle.rml_lex.specs.declared.machine.Move.TheVariants.{On, Done, Dead}
use Rattle.rml_lex.specs.Machine.{whole_from}

abbrev pub half_of : ℕ → Half
half_of b = if b == 40 then Round else if b == 42 then Star else Neither

abbrev pub plain_step : Depth → ℕ → Move Depth
plain_step s b = On (record { depth = s.depth; half = half_of b })

abbrev pub comment_step : Depth → ℕ → Move Depth
comment_step s b = elim s.half [
  | Star ↦ if b == 41 then (if nat_le s.depth 1 then Done piece.Comment else On (record { depth = s.depth - 1; half = Neither })) else plain_step s b
  | Round ↦ if b == 42 then On (record { depth = s.depth + 1; half = Neither }) else plain_step s b
  | Neither ↦ plain_step s b
]

-- an unclosed comment
abbrev pub comment_stop : Depth → Piece
comment_stop s = piece.Faulty OpenComment 0

abbrev pub comment_inside : List ℕ → Option Piece
comment_inside = whole_from comment_stop comment_step (record { depth = 1; half = Neither })

-- the state after the byte, if there is one, is at most so deep
abbrev pub IsWithin : ℕ → Move Depth → Type 0
IsWithin n (On s) = s.depth ≤ n
IsWithin n (Done p) = Unit {0}
IsWithin n Dead = Unit {0}
