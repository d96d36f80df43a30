-- Each block ends in a statement that nothing may follow, and has no such statement before its end.
use Rattle.std.specs.Prelude.{Bool, ◌&&◌, map}
use Rattle.rml_fol.specs.Fits.{every}
use Rattle.rml_fol.specs.Ends.{Standing, goes_on, ends, block_ends, going_on, ending}
use Rattle.rml_cps.specs.declared.statements.Stmt.{Stmt, fold-Stmt}
use Rattle.rml_cps.specs.declared.statements.Stmt.TheOpen.{Stmt-F, Case-F}
use Rattle.rml_cps.specs.declared.parts.Relation.{Relation}

abbrev pub standing_at : Stmt-F Standing Bool → Standing
standing_at (Stmt-F.Set x e) = goes_on
standing_at (Stmt-F.Field x y i) = goes_on
standing_at (Stmt-F.Builtin k xs ys h) = goes_on
standing_at (Stmt-F.Equal x y h) = goes_on
standing_at (Stmt-F.Success k xs block) = going_on (block_ends block)
standing_at (Stmt-F.Failure h block) = going_on (block_ends block)
standing_at (Stmt-F.Body j xs h block) = going_on (block_ends block)
standing_at (Stmt-F.Call f xs k h) = ends
standing_at (Stmt-F.Answer k xs) = ends
standing_at (Stmt-F.Fail h) = ends
standing_at (Stmt-F.Goto j xs h) = ends
standing_at (Stmt-F.Switch x cases otherwise) = ending (every cases && block_ends otherwise)

abbrev pub case_ends_at : Case-F Standing Bool → Bool
case_ends_at k = block_ends k.block

abbrev pub standing : Stmt → Standing
standing = fold-Stmt Standing Bool standing_at case_ends_at

abbrev pub relation_ends : Relation → Bool
relation_ends r = block_ends (map standing r.body.stmts)
