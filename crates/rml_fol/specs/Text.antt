-- The text of a program in clause form: one line for each val, and then each relation with its body, a statement a line; each block is
-- two blanks deeper than its line.
use Rattle.std.specs.Prelude.{ℕ, zero, suc, ◌+◌, List, [], ◌∷◌, ◌++◌, map, replicate, Option, Some, None, slice_get, codes}
use Rattle.std.specs.List.{flat_map}
use Rattle.std.specs.Fmt.{decimal}
use Rattle.rml_builtin.specs.declared.row.TheConstants.{ROWS}
use Rattle.rml_builtin.specs.declared.row.Row.{Row}
use Rattle.rml_builtin.specs.Table.{name_of}
use Rattle.rml_fol.specs.declared.statements.Callee.{Callee}
use Rattle.rml_fol.specs.declared.statements.Callee.TheVariants as callee
use Rattle.rml_fol.specs.declared.statements.Tag.{Tag}
use Rattle.rml_fol.specs.declared.statements.Tag.TheVariants as tag
use Rattle.rml_fol.specs.declared.statements.Stmt.{Stmt, fold-Stmt}
use Rattle.rml_fol.specs.declared.statements.Alternative.{Alternative, fold-Alternative}
use Rattle.rml_fol.specs.declared.statements.Case.{Case, fold-Case}
use Rattle.rml_fol.specs.declared.statements.Stmt.TheOpen.{Stmt-F, Alternative-F, Case-F}
use Rattle.rml_fol.specs.declared.parts.Val.{Val}
use Rattle.rml_fol.specs.declared.parts.Relation.{Relation}
use Rattle.rml_fol.specs.declared.parts.Parts.{Parts}
use Rattle.rml_fol.specs.TermText.{separator_before, bracketed_if_any, variable_text, variables_text, name_text, constructor_text, relation_text, literal_text, pattern_text, expression_text}

-- ---- lines

abbrev pub line : ℕ → List ℕ → List ℕ
line indent t = replicate indent 32 ++ t ++ 10 ∷ []

-- what is written behind so many blanks
abbrev pub Lines : Type 0
Lines = ℕ → List ℕ

-- one after another
abbrev pub in_lines : List Lines → Lines
in_lines all indent = flat_map (λ (l : Lines). l indent) all

-- a block, deeper than the line that it belongs to
abbrev pub deeper : List Lines → Lines
deeper all indent = in_lines all (indent + 2)

-- ---- statements

-- MODULE.NAME, or `*` and a variable
abbrev pub callee_text : Parts → Callee → List ℕ
callee_text p (callee.Rel r) = relation_text p r
callee_text p (callee.Var x) = 42 ∷ variable_text x

abbrev pub row_name : Option Row → List ℕ
row_name None = []
row_name (Some row) = name_of row

-- what a call is given, and its results
abbrev pub passed_text : List ℕ → List ℕ → List ℕ
passed_text xs ys = variables_text xs ++ codes " => " ++ variables_text ys

abbrev pub tag_text : Parts → Tag → List ℕ
tag_text p (tag.Con c) = constructor_text p c
tag_text p (tag.Lit l) = literal_text l

-- a body's name, and what is handed on to it
abbrev pub body_text : ℕ → List ℕ → List ℕ
body_text j xs = 106 ∷ decimal j ++ variables_text xs

abbrev pub case_text : Parts → Tag → List ℕ → List ℕ
case_text p t xs = codes "case " ++ tag_text p t ++ bracketed_if_any (map variable_text xs)

abbrev pub stmt_lines_at : Parts → Stmt-F Lines Lines Lines → Lines
stmt_lines_at p (Stmt-F.Match x t) i = line i (codes "match " ++ variable_text x ++ 32 ∷ pattern_text p t)
stmt_lines_at p (Stmt-F.Set x e) i = line i (codes "set " ++ variable_text x ++ 32 ∷ expression_text p e)
stmt_lines_at p (Stmt-F.Call f xs ys) i = line i (codes "call " ++ callee_text p f ++ passed_text xs ys)
stmt_lines_at p (Stmt-F.Builtin k xs ys) i = line i (codes "builtin " ++ row_name (slice_get ROWS k) ++ passed_text xs ys)
stmt_lines_at p (Stmt-F.Equal x y) i = line i (codes "equal " ++ variable_text x ++ 32 ∷ variable_text y)
stmt_lines_at p (Stmt-F.Not block) i = line i (codes "not") ++ deeper block i
stmt_lines_at p (Stmt-F.Or alternatives) i = line i (codes "or") ++ in_lines alternatives i
stmt_lines_at p (Stmt-F.Cond first second third) i =
    line i (codes "cond") ++ deeper first i ++ line i (codes "then") ++ deeper second i ++ line i (codes "else") ++ deeper third i
stmt_lines_at p (Stmt-F.Switch x cases otherwise) i =
    line i (codes "switch " ++ variable_text x) ++ in_lines cases i ++ line i (codes "else") ++ deeper otherwise i
stmt_lines_at p (Stmt-F.Body j xs block) i = line i (codes "body " ++ body_text j xs) ++ deeper block i
stmt_lines_at p (Stmt-F.Goto j xs) i = line i (codes "goto " ++ body_text j xs)
stmt_lines_at p (Stmt-F.Give xs) i = line i (codes "give" ++ variables_text xs)
stmt_lines_at p Stmt-F.Fail i = line i (codes "fail")

abbrev pub alternative_lines_at : Parts → Alternative-F Lines Lines Lines → Lines
alternative_lines_at p a i = line i (codes "alt") ++ deeper a.block i

abbrev pub case_lines_at : Parts → Case-F Lines Lines Lines → Lines
case_lines_at p k i = line i (case_text p k.tag k.vars) ++ deeper k.block i

abbrev pub stmt_lines : Parts → Stmt → Lines
stmt_lines p = fold-Stmt Lines Lines Lines (stmt_lines_at p) (alternative_lines_at p) (case_lines_at p)

abbrev pub alternative_lines : Parts → Alternative → Lines
alternative_lines p = fold-Alternative Lines Lines Lines (stmt_lines_at p) (alternative_lines_at p) (case_lines_at p)

abbrev pub case_lines : Parts → Case → Lines
case_lines p = fold-Case Lines Lines Lines (stmt_lines_at p) (alternative_lines_at p) (case_lines_at p)

-- ---- the whole

-- each with its number, from this one on
abbrev pub lines_from : {A : Type 0} → (ℕ → A → List ℕ) → ℕ → List A → List ℕ
lines_from f n [] = []
lines_from f n (x ∷ xs) = f n x ++ lines_from f (suc n) xs

-- the first variables, so many
abbrev pub parameters_text : ℕ → List ℕ
parameters_text zero = []
parameters_text (suc n) = parameters_text n ++ separator_before (44 ∷ 32 ∷ []) n ++ variable_text n

-- `val N EXP`
abbrev pub val_line : Parts → ℕ → Val → List ℕ
val_line p n v = line 0 (codes "val " ++ decimal n ++ 32 ∷ expression_text p v.value)

-- `relation N MODULE.NAME(v0, v1) -> R`
abbrev pub head_line : ℕ → Relation → List ℕ
head_line n r = line 0 (codes "relation " ++ decimal n ++ 32 ∷ name_text r.name ++ 40 ∷ parameters_text r.params ++ codes ") -> " ++ decimal r.results)

abbrev pub relation_lines : Parts → ℕ → Relation → List ℕ
relation_lines p n r = head_line n r ++ deeper (map (stmt_lines p) r.body.stmts) 0

abbrev pub text_of : Parts → List ℕ
text_of p = lines_from (val_line p) 0 p.vals ++ lines_from (relation_lines p) 0 p.rels
