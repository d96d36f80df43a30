-- Each block ends in a statement that nothing may follow, and has no such statement before its end. The block of a `not`, and the first
-- block of a `cond`, ends in a `give`, and names no body: what follows it follows at one place.
use Rattle.std.specs.Prelude.{Bool, true, false, ◌&&◌, if◌then◌else◌, List, [], ◌∷◌, map}
use Rattle.rml_fol.specs.declared.statements.Stmt.{Stmt, fold-Stmt}
use Rattle.rml_fol.specs.declared.statements.Stmt.TheOpen.{Stmt-F, Alternative-F, Case-F}
use Rattle.rml_fol.specs.declared.parts.Relation.{Relation}
use Rattle.rml_fol.specs.Fits.{every}

-- how a statement stands in its block: something must follow it, which may use the body that it names; or nothing may, and it gives an
-- answer or does not; or a block inside it does not end so
pub data Standing : Type 0 where
  goes_on : Standing
  names : Standing
  ends : Standing
  answers : Standing
  broken : Standing

abbrev pub block_ends : List Standing → Bool
block_ends [] = false
block_ends (goes_on ∷ rest) = block_ends rest
block_ends (names ∷ rest) = block_ends rest
block_ends (ends ∷ []) = true
block_ends (ends ∷ next ∷ rest) = false
block_ends (answers ∷ []) = true
block_ends (answers ∷ next ∷ rest) = false
block_ends (broken ∷ rest) = false

-- the block of a `not`, or the first block of a `cond`: it ends in a `give`, and names no body
abbrev pub goal_ends : List Standing → Bool
goal_ends [] = false
goal_ends (goes_on ∷ rest) = goal_ends rest
goal_ends (names ∷ rest) = false
goal_ends (ends ∷ rest) = false
goal_ends (answers ∷ []) = true
goal_ends (answers ∷ next ∷ rest) = false
goal_ends (broken ∷ rest) = false

-- a statement that goes on, names a body or ends its block, where the blocks inside it end
abbrev pub going_on : Bool → Standing
going_on inside = if inside then goes_on else broken

abbrev pub naming : Bool → Standing
naming inside = if inside then names else broken

abbrev pub ending : Bool → Standing
ending inside = if inside then ends else broken

abbrev pub standing_at : Stmt-F Standing Bool Bool → Standing
standing_at (Stmt-F.Match x p) = goes_on
standing_at (Stmt-F.Set x e) = goes_on
standing_at (Stmt-F.Call f xs ys) = goes_on
standing_at (Stmt-F.Builtin k xs ys) = goes_on
standing_at (Stmt-F.Equal x y) = goes_on
standing_at (Stmt-F.Not block) = going_on (goal_ends block)
standing_at (Stmt-F.Or alternatives) = ending (every alternatives)
standing_at (Stmt-F.Cond first second third) = ending (goal_ends first && block_ends second && block_ends third)
standing_at (Stmt-F.Switch x cases otherwise) = ending (every cases && block_ends otherwise)
standing_at (Stmt-F.Body j xs block) = naming (block_ends block)
standing_at (Stmt-F.Goto j xs) = ends
standing_at (Stmt-F.Give xs) = answers
standing_at Stmt-F.Fail = ends

abbrev pub alternative_ends_at : Alternative-F Standing Bool Bool → Bool
alternative_ends_at a = block_ends a.block

abbrev pub case_ends_at : Case-F Standing Bool Bool → Bool
case_ends_at k = block_ends k.block

abbrev pub standing : Stmt → Standing
standing = fold-Stmt Standing Bool Bool standing_at alternative_ends_at case_ends_at

abbrev pub relation_ends : Relation → Bool
relation_ends r = block_ends (map standing r.body.stmts)
