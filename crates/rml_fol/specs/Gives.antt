-- How many values blocks give: as many as the relation gives, and nothing in a `not`. What the first block of a `cond` gives is for its
-- second block, and may be any number.
use Rattle.std.specs.Prelude.{ℕ, Bool, true, ◌&&◌, ◌==◌, List, map, length, Option, Some, None}
use Rattle.std.specs.List.{list_all}
use Rattle.rml_fol.specs.declared.statements.Stmt.{Stmt, fold-Stmt}
use Rattle.rml_fol.specs.declared.statements.Stmt.TheOpen.{Stmt-F, Alternative-F, Case-F}
use Rattle.rml_fol.specs.declared.parts.Relation.{Relation}

-- whether as many are given as are wanted; None where any number will do
abbrev pub Gives : Type 0
Gives = Option ℕ → Bool

abbrev pub as_wanted : ℕ → Gives
as_wanted n None = true
as_wanted n (Some wanted) = n == wanted

abbrev pub all_give : List Gives → Gives
all_give gs wanted = list_all (λ (g : Gives). g wanted) gs

abbrev pub gives_at : Stmt-F Gives Gives Gives → Gives
gives_at (Stmt-F.Match x p) wanted = true
gives_at (Stmt-F.Set x e) wanted = true
gives_at (Stmt-F.Call f xs ys) wanted = true
gives_at (Stmt-F.Builtin k xs ys) wanted = true
gives_at (Stmt-F.Equal x y) wanted = true
gives_at (Stmt-F.Not block) wanted = all_give block (Some 0)
gives_at (Stmt-F.Or alternatives) wanted = all_give alternatives wanted
gives_at (Stmt-F.Cond first second third) wanted = all_give first None && all_give second wanted && all_give third wanted
gives_at (Stmt-F.Switch x cases otherwise) wanted = all_give cases wanted && all_give otherwise wanted
gives_at (Stmt-F.Body j xs block) wanted = all_give block wanted
gives_at (Stmt-F.Goto j xs) wanted = true
gives_at (Stmt-F.Give xs) wanted = as_wanted (length xs) wanted
gives_at Stmt-F.Fail wanted = true

abbrev pub alternative_gives_at : Alternative-F Gives Gives Gives → Gives
alternative_gives_at a = all_give a.block

abbrev pub case_gives_at : Case-F Gives Gives Gives → Gives
case_gives_at k = all_give k.block

abbrev pub gives : Stmt → Gives
gives = fold-Stmt Gives Gives Gives gives_at alternative_gives_at case_gives_at

abbrev pub relation_gives : Relation → Bool
relation_gives r = all_give (map gives r.body.stmts) (Some r.results)
