-- The text of a program in continuation form: one line for each val, as in clause form, and then each relation with its body, a statement a
-- line; each block is two blanks deeper than its line. A success is `k`, a failure `h` and a body `j`, each with its number; those that the
-- relation was called with are `k` and `h` alone.
use Rattle.std.specs.Prelude.{ℕ, zero, suc, List, ◌∷◌, ◌++◌, map, length, slice_get, codes}
use Rattle.std.specs.Fmt.{decimal}
use Rattle.rml_builtin.specs.declared.row.TheConstants.{ROWS}
use Rattle.rml_fol.specs.TermText.{separated, variable_text, variables_text, name_text, expression_text}
use Rattle.rml_fol.specs.Text.{Lines, line, in_lines, deeper, lines_from, callee_text, row_name, passed_text, tag_text, parameters_text, val_line}
use Rattle.rml_cps.specs.declared.statements.Continuation.{Continuation}
use Rattle.rml_cps.specs.declared.statements.Continuation.TheVariants as continuation
use Rattle.rml_cps.specs.declared.statements.Stmt.{Stmt, fold-Stmt}
use Rattle.rml_cps.specs.declared.statements.Case.{Case, fold-Case}
use Rattle.rml_cps.specs.declared.statements.Stmt.TheOpen.{Stmt-F, Case-F}
use Rattle.rml_cps.specs.declared.parts.Relation.{Relation}
use Rattle.rml_cps.specs.declared.parts.Parts.{Parts}
use Rattle.rml_cps.specs.Tables.{tables_of}

-- ---- names

abbrev pub success_name : ℕ → List ℕ
success_name k = 107 ∷ decimal k

abbrev pub failure_name : ℕ → List ℕ
failure_name h = 104 ∷ decimal h

abbrev pub body_name : ℕ → List ℕ
body_name j = 106 ∷ decimal j

abbrev pub success_text : Continuation → List ℕ
success_text continuation.Own = codes "k"
success_text (continuation.Named k) = success_name k

abbrev pub failure_text : Continuation → List ℕ
failure_text continuation.Own = codes "h"
failure_text (continuation.Named h) = failure_name h

-- what stands between so many variables and the continuations behind them
unfoldable pub before_told : ℕ → List ℕ
before_told zero = codes "; "
before_told (suc n) = codes " ; "

-- in brackets: variables, and behind them the continuations that are told
abbrev pub told_text : List ℕ → List ℕ → List ℕ
told_text xs continuations = 40 ∷ separated (codes ", ") (map variable_text xs) ++ before_told (length xs) ++ continuations ++ codes ")"

abbrev pub both_text : Continuation → Continuation → List ℕ
both_text k h = success_text k ++ codes ", " ++ failure_text h

abbrev pub else_text : Continuation → List ℕ
else_text h = codes " else " ++ failure_text h

-- ---- statements

abbrev pub stmt_lines_at : Parts → Stmt-F Lines Lines → Lines
stmt_lines_at p (Stmt-F.Set x e) i = line i (codes "set " ++ variable_text x ++ codes " " ++ expression_text (tables_of p) e)
stmt_lines_at p (Stmt-F.Field x y k) i = line i (codes "field " ++ variable_text x ++ codes " " ++ variable_text y ++ codes " " ++ decimal k)
stmt_lines_at p (Stmt-F.Builtin k xs ys h) i = line i (codes "builtin " ++ row_name (slice_get ROWS k) ++ passed_text xs ys ++ else_text h)
stmt_lines_at p (Stmt-F.Equal x y h) i = line i (codes "equal " ++ variable_text x ++ codes " " ++ variable_text y ++ else_text h)
stmt_lines_at p (Stmt-F.Success k xs block) i = line i (codes "success " ++ success_name k ++ variables_text xs) ++ deeper block i
stmt_lines_at p (Stmt-F.Failure h block) i = line i (codes "failure " ++ failure_name h) ++ deeper block i
stmt_lines_at p (Stmt-F.Body j xs h block) i = line i (codes "body " ++ body_name j ++ told_text xs (failure_name h)) ++ deeper block i
stmt_lines_at p (Stmt-F.Call f xs k h) i = line i (codes "call " ++ callee_text (tables_of p) f ++ told_text xs (both_text k h))
stmt_lines_at p (Stmt-F.Answer k xs) i = line i (codes "answer " ++ success_text k ++ variables_text xs)
stmt_lines_at p (Stmt-F.Fail h) i = line i (codes "fail " ++ failure_text h)
stmt_lines_at p (Stmt-F.Goto j xs h) i = line i (codes "goto " ++ body_name j ++ told_text xs (failure_text h))
stmt_lines_at p (Stmt-F.Switch x cases otherwise) i =
    line i (codes "switch " ++ variable_text x) ++ in_lines cases i ++ line i (codes "else") ++ deeper otherwise i

abbrev pub case_lines_at : Parts → Case-F Lines Lines → Lines
case_lines_at p k i = line i (codes "case " ++ tag_text (tables_of p) k.tag) ++ deeper k.block i

abbrev pub stmt_lines : Parts → Stmt → Lines
stmt_lines p = fold-Stmt Lines Lines (stmt_lines_at p) (case_lines_at p)

abbrev pub case_lines : Parts → Case → Lines
case_lines p = fold-Case Lines Lines (stmt_lines_at p) (case_lines_at p)

-- ---- the whole

-- `relation N MODULE.NAME(v0, v1 ; k, h)`
abbrev pub head_line : ℕ → Relation → List ℕ
head_line n r = line 0 (codes "relation " ++ decimal n ++ codes " " ++ name_text r.name ++ codes "(" ++ parameters_text r.params ++ before_told r.params ++ codes "k, h)")

abbrev pub relation_lines : Parts → ℕ → Relation → List ℕ
relation_lines p n r = head_line n r ++ deeper (map (stmt_lines p) r.body.stmts) 0

abbrev pub text_of : Parts → List ℕ
text_of p = lines_from (val_line (tables_of p)) 0 p.vals ++ lines_from (relation_lines p) 0 p.rels
