-- The frames to go back to are paid. Each `or` with a further alternative, each `not` and each `cond` makes one, which costs 6 cells; an
-- `or` and a `cond` weigh nothing, and a `not` too little. They are paid by what other weights have to spare: of what a path weighs where it
-- begins 12 are for such frames, and so are 12 or more of most statements. What is spared is kept from statement to statement and over
-- calls; only a failure goes back to what was spared where its frame was made, and then a path begins anew.
use Rattle.std.specs.Prelude.{ℕ, Bool, true, ◌&&◌, ◌+◌, ◌-◌, if◌then◌else◌, nat_le, List, [], ◌∷◌, map, length, Option, Some, None, slice_get}
use Rattle.rml_builtin.specs.declared.row.TheConstants.{ROWS}
use Rattle.rml_builtin.specs.declared.row.Row.{Row}
use Rattle.rml_builtin.specs.Table.{is_silent}
use Rattle.rml_fol.specs.declared.terms.Expression.{Expression, out-Expression}
use Rattle.rml_fol.specs.declared.terms.Expression.TheOpen.{Expression-F}
use Rattle.rml_fol.specs.declared.statements.Stmt.{Stmt, fold-Stmt}
use Rattle.rml_fol.specs.declared.statements.Stmt.TheOpen.{Stmt-F, Alternative-F, Case-F}
use Rattle.rml_fol.specs.declared.parts.Relation.{Relation}
use Rattle.rml_fol.specs.Patterns.{binds}
use Rattle.rml_fol.specs.Weights.{match_weight, equal_weight, call_weight, not_weight}

-- ---- what is to spare

-- a frame to go back to
abbrev pub frame_cost : ℕ
frame_cost = 6

-- where a path begins
abbrev pub entry_spares : ℕ
entry_spares = 12

-- what an expression makes is kept; a variable is no more than another name
abbrev pub set_spares : Expression-F Expression → ℕ
set_spares (Expression-F.Var x) = 15
set_spares _ = 12

abbrev pub row_spares : Option Row → ℕ → ℕ
row_spares None results = 0
row_spares (Some row) results = if is_silent row then 13 - results else 0

-- a built-in with so many results
abbrev pub built_in_spares : ℕ → ℕ → ℕ
built_in_spares number results = row_spares (slice_get ROWS number) results

-- ---- statements

-- whether what comes is paid, with so much to spare
abbrev pub Paid : Type 0
Paid = ℕ → Bool

-- nothing comes
abbrev pub nothing : Paid
nothing c = true

-- a block, by what comes after what it gives
abbrev pub Block : Type 0
Block = Paid → Paid

-- a statement: what comes after what its block gives, and what follows it in its block
abbrev pub Action : Type 0
Action = Paid → Paid → Paid

-- statements one after another
abbrev pub in_turn : List Action → Block
in_turn [] given c = true
in_turn (a ∷ rest) given c = a given (in_turn rest given) c

-- alternatives, each but the last with a frame to go back to
abbrev pub in_order : List Block → Block
in_order [] given c = true
in_order (a ∷ []) given c = a given c
in_order (a ∷ b ∷ rest) given c = nat_le frame_cost c && a given (c - frame_cost) && in_order (b ∷ rest) given entry_spares

abbrev pub all_paid : List Block → Block
all_paid [] given c = true
all_paid (b ∷ rest) given c = b given c && all_paid rest given c

abbrev pub paid_at : Stmt-F Action Block Block → Action
paid_at (Stmt-F.Match x p) given next c = next (match_weight (binds p) + c)
paid_at (Stmt-F.Set x e) given next c = next (set_spares (out-Expression e) + c)
paid_at (Stmt-F.Call f xs ys) given next c = next (entry_spares + (call_weight + c))
paid_at (Stmt-F.Builtin k xs ys) given next c = next (built_in_spares k (length ys) + c)
paid_at (Stmt-F.Equal x y) given next c = next (equal_weight + c)
paid_at (Stmt-F.Not block) given next c = in_turn block nothing (not_weight - frame_cost + c) && next entry_spares
paid_at (Stmt-F.Or alternatives) given next c = in_order alternatives given c
paid_at (Stmt-F.Cond first second third) given next c =
    nat_le frame_cost c && in_turn first (in_turn second given) (c - frame_cost) && in_turn third given entry_spares
paid_at (Stmt-F.Switch x cases otherwise) given next c = all_paid cases given c && in_turn otherwise given c
paid_at (Stmt-F.Body j xs block) given next c = in_turn block given entry_spares && next c
paid_at (Stmt-F.Goto j xs) given next c = true
paid_at (Stmt-F.Give xs) given next c = given c
paid_at Stmt-F.Fail given next c = true

abbrev pub alternative_paid_at : Alternative-F Action Block Block → Block
alternative_paid_at a = in_turn a.block

abbrev pub case_paid_at : Case-F Action Block Block → Block
case_paid_at k = in_turn k.block

abbrev pub paid : Stmt → Action
paid = fold-Stmt Action Block Block paid_at alternative_paid_at case_paid_at

abbrev pub relation_is_paid : Relation → Bool
relation_is_paid r = in_turn (map paid r.body.stmts) nothing entry_spares
