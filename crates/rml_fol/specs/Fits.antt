-- The numbers in a program in clause form lead into its tables, and what they lead to is used as it is declared: constructors have as many
-- arguments, and relations and built-ins are called with as many values and give as many. Variables are those of their relation, integers
-- are in range, characters and texts are bytes, and a chain of `::` has two items or more.
use Rattle.std.specs.Prelude.{ℕ, Bool, true, false, ◌&&◌, ◌==◌, if◌then◌else◌, nat_lt, nat_le, nat_eq, List, [], ◌∷◌, map, length, Option, Some, None, slice_get}
use Rattle.std.specs.List.{list_all, starts_with}
use Rattle.rml_base.specs.Bytes.{are_bytes}
use Rattle.rml_value.specs.Range.{is_integer}
use Rattle.rml_builtin.specs.declared.row.TheConstants.{ROWS}
use Rattle.rml_builtin.specs.declared.row.Row.{Row}
use Rattle.rml_builtin.specs.Table.{inputs_of, outputs_of}
use Rattle.rml_fol.specs.declared.limits.TheConstants.{CON_ARGUMENTS}
use Rattle.rml_fol.specs.declared.terms.Literal.{Literal}
use Rattle.rml_fol.specs.declared.terms.Literal.TheVariants as literal
use Rattle.rml_fol.specs.declared.terms.Pattern.{Pattern, fold-Pattern}
use Rattle.rml_fol.specs.declared.terms.Pattern.TheOpen.{Pattern-F}
use Rattle.rml_fol.specs.declared.terms.Expression.{Expression, fold-Expression}
use Rattle.rml_fol.specs.declared.terms.Expression.TheOpen.{Expression-F}
use Rattle.rml_fol.specs.declared.statements.Callee.{Callee}
use Rattle.rml_fol.specs.declared.statements.Callee.TheVariants as callee
use Rattle.rml_fol.specs.declared.statements.Tag.{Tag}
use Rattle.rml_fol.specs.declared.statements.Tag.TheVariants as tag
use Rattle.rml_fol.specs.declared.statements.Stmt.{Stmt, fold-Stmt}
use Rattle.rml_fol.specs.declared.statements.Stmt.TheOpen.{Stmt-F, Alternative-F, Case-F}
use Rattle.rml_fol.specs.declared.parts.Name.{Name}
use Rattle.rml_fol.specs.declared.parts.Constructor.{Constructor}
use Rattle.rml_fol.specs.declared.parts.Val.{Val}
use Rattle.rml_fol.specs.declared.parts.Relation.{Relation}
use Rattle.rml_fol.specs.declared.parts.Parts.{Parts}

-- ---- what the tables declare

-- how many values a relation is called with, and how many it gives
pub record Signature : Type 0 where
  pub params : ℕ
  pub results : ℕ

-- how many arguments each constructor has, how many vals there are, and what each relation takes and gives
pub record Signatures : Type 0 where
  pub cons : List ℕ
  pub vals : ℕ
  pub rels : List Signature

abbrev pub signature_of : Relation → Signature
signature_of r = record { params = r.params; results = r.results }

abbrev pub arity_of : Constructor → ℕ
arity_of c = c.arity

abbrev pub signatures_of : Parts → Signatures
signatures_of p = record { cons = map arity_of p.cons; vals = length p.vals; rels = map signature_of p.rels }

abbrev pub is_just : ℕ → Option ℕ → Bool
is_just n None = false
is_just n (Some k) = k == n

-- a constructor that is there, with this many arguments
abbrev pub con_fits : Signatures → ℕ → ℕ → Bool
con_fits n c k = is_just k (slice_get n.cons c)

-- a relation that is there, with this many values and results
abbrev pub takes_and_gives : ℕ → ℕ → Option Signature → Bool
takes_and_gives taken given None = false
takes_and_gives taken given (Some s) = (s.params == taken) && (s.results == given)

-- and a built-in
abbrev pub row_takes_and_gives : ℕ → ℕ → Option Row → Bool
row_takes_and_gives taken given None = false
row_takes_and_gives taken given (Some row) = (length (inputs_of row) == taken) && (length (outputs_of row) == given)

-- ---- patterns and expressions

abbrev pub every : List Bool → Bool
every = list_all (λ b. b)

abbrev pub literal_fits : Literal → Bool
literal_fits (literal.Int n) = is_integer n
literal_fits (literal.Char c) = nat_lt c 256
literal_fits (literal.Text bytes) = are_bytes bytes

abbrev pub pattern_fits_at : Signatures → ℕ → Pattern-F Bool → Bool
pattern_fits_at n vars Pattern-F.Any = true
pattern_fits_at n vars (Pattern-F.Lit l) = literal_fits l
pattern_fits_at n vars (Pattern-F.Var x) = nat_lt x vars
pattern_fits_at n vars (Pattern-F.Con c ps) = con_fits n c (length ps) && every ps
pattern_fits_at n vars (Pattern-F.Tuple ps) = every ps
pattern_fits_at n vars (Pattern-F.List ps) = every ps
pattern_fits_at n vars (Pattern-F.Cons ps) = nat_le 2 (length ps) && every ps
pattern_fits_at n vars (Pattern-F.Bind x p) = nat_lt x vars && p

abbrev pub pattern_fits : Signatures → ℕ → Pattern → Bool
pattern_fits n vars = fold-Pattern Bool (pattern_fits_at n vars)

abbrev pub expression_fits_at : Signatures → ℕ → Expression-F Bool → Bool
expression_fits_at n vars (Expression-F.Lit l) = literal_fits l
expression_fits_at n vars (Expression-F.Var x) = nat_lt x vars
expression_fits_at n vars (Expression-F.Val k) = nat_lt k n.vals
expression_fits_at n vars (Expression-F.Rel r) = nat_lt r (length n.rels)
expression_fits_at n vars (Expression-F.Con c es) = con_fits n c (length es) && every es
expression_fits_at n vars (Expression-F.Tuple es) = every es
expression_fits_at n vars (Expression-F.List es) = every es
expression_fits_at n vars (Expression-F.Cons es) = nat_le 2 (length es) && every es

abbrev pub expression_fits : Signatures → ℕ → Expression → Bool
expression_fits n vars = fold-Expression Bool (expression_fits_at n vars)

-- ---- statements

abbrev pub vars_fit : ℕ → List ℕ → Bool
vars_fit vars xs = list_all (λ x. nat_lt x vars) xs

-- what a variable stands for is told by the run alone
abbrev pub callee_fits : Signatures → ℕ → ℕ → ℕ → Callee → Bool
callee_fits n vars taken given (callee.Rel r) = takes_and_gives taken given (slice_get n.rels r)
callee_fits n vars taken given (callee.Var x) = nat_lt x vars

-- a tag with so many variables: a literal has none
abbrev pub tag_fits : Signatures → ℕ → Tag → Bool
tag_fits n k (tag.Con c) = con_fits n c k
tag_fits n k (tag.Lit l) = literal_fits l && (k == 0)

-- bodies have numbers below a bound
abbrev pub stmt_fits_at : Signatures → ℕ → ℕ → Stmt-F Bool Bool Bool → Bool
stmt_fits_at n vars bodies (Stmt-F.Match x p) = nat_lt x vars && pattern_fits n vars p
stmt_fits_at n vars bodies (Stmt-F.Set x e) = nat_lt x vars && expression_fits n vars e
stmt_fits_at n vars bodies (Stmt-F.Call f xs ys) = callee_fits n vars (length xs) (length ys) f && vars_fit vars xs && vars_fit vars ys
stmt_fits_at n vars bodies (Stmt-F.Builtin k xs ys) = row_takes_and_gives (length xs) (length ys) (slice_get ROWS k) && vars_fit vars xs && vars_fit vars ys
stmt_fits_at n vars bodies (Stmt-F.Equal x y) = nat_lt x vars && nat_lt y vars
stmt_fits_at n vars bodies (Stmt-F.Not block) = every block
stmt_fits_at n vars bodies (Stmt-F.Or alternatives) = every alternatives
stmt_fits_at n vars bodies (Stmt-F.Cond first second third) = every first && every second && every third
stmt_fits_at n vars bodies (Stmt-F.Switch x cases otherwise) = nat_lt x vars && every cases && every otherwise
stmt_fits_at n vars bodies (Stmt-F.Body j xs block) = nat_lt j bodies && vars_fit vars xs && every block
stmt_fits_at n vars bodies (Stmt-F.Goto j xs) = nat_lt j bodies && vars_fit vars xs
stmt_fits_at n vars bodies (Stmt-F.Give xs) = vars_fit vars xs
stmt_fits_at n vars bodies Stmt-F.Fail = true

abbrev pub alternative_fits_at : Alternative-F Bool Bool Bool → Bool
alternative_fits_at a = every a.block

abbrev pub case_fits_at : Signatures → ℕ → Case-F Bool Bool Bool → Bool
case_fits_at n vars k = tag_fits n (length k.vars) k.tag && vars_fit vars k.vars && every k.block

abbrev pub stmt_fits : Signatures → ℕ → ℕ → Stmt → Bool
stmt_fits n vars bodies = fold-Stmt Bool Bool Bool (stmt_fits_at n vars bodies) alternative_fits_at (case_fits_at n vars)

-- ---- the tables

-- its parameters are variables
abbrev pub relation_fits : Signatures → Relation → Bool
relation_fits n r = nat_le r.params r.vars && list_all (stmt_fits n r.vars r.bodies) r.body.stmts

-- the expression of a val has no variable
abbrev pub val_fits : Signatures → Val → Bool
val_fits n v = expression_fits n 0 v.value

-- `main` takes the list of the arguments, and gives an integer or nothing
abbrev pub main_fits : Bool → Option Signature → Bool
main_fits gives s = takes_and_gives 1 (if gives then 1 else 0) s

-- those of lists, truth values and options: `[]`, `::`, `false`, `true`, `NONE` and `SOME`
abbrev pub first_arities : List ℕ
first_arities = 0 ∷ 2 ∷ 0 ∷ 0 ∷ 0 ∷ 1 ∷ []

-- the constructors begin with these
abbrev pub cons_begin : List Constructor → Bool
cons_begin cons = starts_with nat_eq (map arity_of cons) first_arities

abbrev pub con_is_small : Constructor → Bool
con_is_small c = nat_lt c.arity CON_ARGUMENTS

abbrev pub name_is_bytes : Name → Bool
name_is_bytes n = are_bytes n.of && are_bytes n.name

-- the names that the text has
abbrev pub names_are_bytes : Parts → Bool
names_are_bytes p =
    list_all (λ (c : Constructor). name_is_bytes c.name) p.cons && list_all (λ (v : Val). name_is_bytes v.name) p.vals
    && list_all (λ (r : Relation). name_is_bytes r.name) p.rels
