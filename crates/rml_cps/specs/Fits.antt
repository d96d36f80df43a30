-- The numbers in a program in continuation form lead into its tables, and what they lead to is used as it is declared: built-ins are
-- called with as many values and give as many. What is bound is a variable of its relation, and what is named has a number below the
-- relation's. Whether what is used was bound or named is told in Scoped.antt.
use Rattle.std.specs.Prelude.{ℕ, Bool, true, ◌&&◌, nat_lt, nat_le, length, slice_get}
use Rattle.std.specs.List.{list_all}
use Rattle.rml_builtin.specs.declared.row.TheConstants.{ROWS}
use Rattle.rml_fol.specs.declared.statements.Callee.{Callee}
use Rattle.rml_fol.specs.declared.statements.Callee.TheVariants as callee
use Rattle.rml_fol.specs.declared.statements.Tag.{Tag}
use Rattle.rml_fol.specs.declared.statements.Tag.TheVariants as tag
use Rattle.rml_fol.specs.Fits.{Signatures, row_takes_and_gives, every, literal_fits, expression_fits, vars_fit}
use Rattle.rml_cps.specs.declared.statements.Stmt.{Stmt, fold-Stmt}
use Rattle.rml_cps.specs.declared.statements.Stmt.TheOpen.{Stmt-F, Case-F}
use Rattle.rml_cps.specs.declared.parts.Relation.{Relation}

-- a relation that is there; what a variable stands for is told by the run alone
abbrev pub callee_is_there : Signatures → Callee → Bool
callee_is_there n (callee.Rel r) = nat_lt r (length n.rels)
callee_is_there n (callee.Var x) = true

abbrev pub tag_is_there : Signatures → Tag → Bool
tag_is_there n (tag.Con c) = nat_lt c (length n.cons)
tag_is_there n (tag.Lit l) = literal_fits l

-- variables have numbers below a bound, and so have names
abbrev pub stmt_fits_at : Signatures → ℕ → ℕ → Stmt-F Bool Bool → Bool
stmt_fits_at n vars names (Stmt-F.Set x e) = nat_lt x vars && expression_fits n vars e
stmt_fits_at n vars names (Stmt-F.Field x y i) = nat_lt x vars && nat_le 1 i
stmt_fits_at n vars names (Stmt-F.Builtin k xs ys h) = row_takes_and_gives (length xs) (length ys) (slice_get ROWS k) && vars_fit vars ys
stmt_fits_at n vars names (Stmt-F.Equal x y h) = true
stmt_fits_at n vars names (Stmt-F.Success k xs block) = nat_lt k names && vars_fit vars xs && every block
stmt_fits_at n vars names (Stmt-F.Failure h block) = nat_lt h names && every block
stmt_fits_at n vars names (Stmt-F.Body j xs h block) = nat_lt j names && vars_fit vars xs && nat_lt h names && every block
stmt_fits_at n vars names (Stmt-F.Call f xs k h) = callee_is_there n f
stmt_fits_at n vars names (Stmt-F.Answer k xs) = true
stmt_fits_at n vars names (Stmt-F.Fail h) = true
stmt_fits_at n vars names (Stmt-F.Goto j xs h) = true
stmt_fits_at n vars names (Stmt-F.Switch x cases otherwise) = every cases && every otherwise

abbrev pub case_fits_at : Signatures → Case-F Bool Bool → Bool
case_fits_at n k = tag_is_there n k.tag && every k.block

abbrev pub stmt_fits : Signatures → ℕ → ℕ → Stmt → Bool
stmt_fits n vars names = fold-Stmt Bool Bool (stmt_fits_at n vars names) (case_fits_at n)

-- its parameters are variables
abbrev pub relation_fits : Signatures → Relation → Bool
relation_fits n r = nat_le r.params r.vars && list_all (stmt_fits n r.vars r.names) r.body.stmts
