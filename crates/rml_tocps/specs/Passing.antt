-- What is said of what the pass has made: of statements in front of what is made already, and of blocks. It is said whatever is in scope,
-- has been taken and is to spare, where the tests of clause form pass there; so a statement is shown without those that stand before it.
use Rattle.std.specs.Prelude.{◌≡◌, ℕ, ◌<◌, ◌≤◌, Bool, true, false, List, [], ◌∷◌, map, reverse}
use Rattle.std.specs.List.{list_all}
use Rattle.rml_fol.specs.declared.statements.Stmt.{Stmt as Clause}
use Rattle.rml_fol.specs.Expressions.{Vals}
use Rattle.rml_fol.specs.declared.statements.Alternative.{Alternative, fold-Alternative}
use Rattle.rml_fol.specs.declared.statements.Case.{Case, out-Case, fold-Case}
use Rattle.rml_fol.specs.Ends.{Standing, goes_on, block_ends, standing, standing_at, alternative_ends_at, case_ends_at}
use Rattle.rml_fol.specs.Fits.{Signatures, every, stmt_fits, stmt_fits_at, alternative_fits_at, case_fits_at}
use Rattle.rml_fol.specs.Paid as pays
use Rattle.rml_fol.specs.Paid.{Paid, nothing, paid, paid_at, alternative_paid_at, case_paid_at}
use Rattle.rml_fol.specs.Scoped as scopes
use Rattle.rml_fol.specs.Scoped.{Known, InScope, Checked, at_end, scoped, scoped_at, alternative_scoped_at, case_scoped_at}
use Rattle.rml_fol.specs.Statements as clauses
use Rattle.rml_cps.specs.declared.statements.Continuation.{Continuation}
use Rattle.rml_cps.specs.declared.statements.Continuation.TheVariants as continuation
use Rattle.rml_cps.specs.declared.statements.Stmt.{Stmt}
use Rattle.rml_cps.specs.declared.statements.Case.{Case as NewCase, out-Case as out-NewCase}
use Rattle.rml_cps.specs.Statements.{RelationActs, block}
use Rattle.rml_tocps.specs.declared.pass.numbers.Numbers.{Numbers}
use Rattle.rml_tocps.specs.Carries.{Carries}
use Rattle.rml_tocps.specs.Pass.{Old, New}
use Rattle.rml_tocps.specs.Blocks.{NewBlock, BlockCarries}
use Rattle.rml_tocps.specs.Cases.{new_fields}

-- ---- what is made, with its last statement first

abbrev pub made : List Stmt → NewBlock
made ms vals news = block vals news (reverse ms)

-- ---- what is known

-- Of the variables of the relation, which are so many, those that are not bound are not taken; and neither are the fresh ones behind them, up to
-- a number.
pub record IsFree (own next : ℕ) (known : Known) (taken : ℕ → Bool) : Type 0 where
  pub new : (x : ℕ) → x < own → known x ≡ false → taken x ≡ false
  pub fresh : (x : ℕ) → own ≤ x → x < next → taken x ≡ false

-- the failure was named before
abbrev pub IsUnder : Continuation → ℕ → Type 0
IsUnder continuation.Own name = Unit {0}
IsUnder (continuation.Named n) name = n < name

-- the variables of statements are those of the relation, and the rest of them fits
pub record AreFit (own : ℕ) (stmts : List Clause) : Type 0 where
  pub signatures : Signatures
  pub bodies : ℕ
  pub fit : list_all (stmt_fits signatures own bodies) stmts ≡ true

-- ---- statements in front of others

abbrev pub scoped_front : List Clause → Checked → Checked → Checked
scoped_front [] given next = next
scoped_front (x ∷ xs) given next = scoped x given (scoped_front xs given next)

abbrev pub paid_front : List Clause → Paid → Paid → Paid
paid_front [] giving onward = onward
paid_front (x ∷ xs) giving onward = paid x giving (paid_front xs giving onward)

abbrev pub old_front : List Clause → Old
old_front [] vals olds rest = rest
old_front (x ∷ xs) vals olds rest = clauses.action vals olds x (old_front xs vals olds rest)

-- each goes on, and names no body
abbrev pub all_go_on : List Clause → Type 0
all_go_on [] = Unit {0}
all_go_on (x ∷ xs) = (standing x ≡ goes_on) × all_go_on xs

-- what follows statements passes its tests, from what is in scope, to spare and taken there
pub record Gone (own from : ℕ) (h : Continuation) (spare : ℕ) (taken : ℕ → Bool) (old : Old) (change : New) (next : Checked) (onward : Paid) : Type 0 where
  pub scope : InScope
  pub left : ℕ
  pub after : ℕ → Bool
  pub scoped : next scope ≡ true
  pub paid : onward left ≡ true
  pub free : IsFree own from scope.vars after
  pub carries : Carries h spare taken left after old change

-- Statements that go on, in front of what is made: a change of it, which carries them. What is made already has its fresh variables below
-- `from`, and these have theirs between there and `to`.
pub record Before (own : ℕ) (from to : Numbers) (h : Continuation) (stmts : List Clause) (rest new : List Stmt) : Type 0 where
  pub change : New
  pub is : (vals : Vals) (news : RelationActs) → made new vals news ≡ change vals news (made rest vals news)
  pub by : IsUnder h from.name → (s : InScope) (c : ℕ) (taken : ℕ → Bool) (given next : Checked) (giving onward : Paid) → AreFit own stmts → all_go_on stmts
      → scoped_front stmts given next s ≡ true → paid_front stmts giving onward c ≡ true → IsFree own to.variable s.vars taken
      → Gone own from.variable h c taken (old_front stmts) change next onward

-- ---- blocks

-- a block, told the failure h, whose fresh variables are below `to`
pub record Passes (own to : ℕ) (h : Continuation) (stmts : List Clause) (new : NewBlock) : Type 0 where
  pub by : (s : InScope) (c : ℕ) (taken : ℕ → Bool) → AreFit own stmts → block_ends (map standing stmts) ≡ true
      → scopes.in_turn (map scoped stmts) at_end s ≡ true → pays.in_turn (map paid stmts) nothing c ≡ true → IsFree own to s.vars taken
      → BlockCarries h c taken (λ vals olds. clauses.block vals olds stmts) new

-- ---- alternatives

abbrev pub alternative_scoped : Alternative → scopes.Block
alternative_scoped = fold-Alternative scopes.Action scopes.Block scopes.Block scoped_at alternative_scoped_at case_scoped_at

abbrev pub case_scoped : Case → scopes.Block
case_scoped = fold-Case scopes.Action scopes.Block scopes.Block scoped_at alternative_scoped_at case_scoped_at

abbrev pub alternative_paid : Alternative → pays.Block
alternative_paid = fold-Alternative pays.Action pays.Block pays.Block paid_at alternative_paid_at case_paid_at

abbrev pub case_paid : Case → pays.Block
case_paid = fold-Case pays.Action pays.Block pays.Block paid_at alternative_paid_at case_paid_at

abbrev pub alternative_ends : Alternative → Bool
alternative_ends = fold-Alternative Standing Bool Bool standing_at alternative_ends_at case_ends_at

abbrev pub case_ends : Case → Bool
case_ends = fold-Case Standing Bool Bool standing_at alternative_ends_at case_ends_at

abbrev pub alternative_fits : Signatures → ℕ → ℕ → Alternative → Bool
alternative_fits n vars bodies = fold-Alternative Bool Bool Bool (stmt_fits_at n vars bodies) alternative_fits_at (case_fits_at n vars)

abbrev pub case_fits : Signatures → ℕ → ℕ → Case → Bool
case_fits n vars bodies = fold-Case Bool Bool Bool (stmt_fits_at n vars bodies) alternative_fits_at (case_fits_at n vars)

-- alternatives in order, told the failure h, whose fresh variables are below `to`
pub record AllPass (own to : ℕ) (h : Continuation) (alternatives : List Alternative) (new : NewBlock) : Type 0 where
  pub by : (n : Signatures) (bodies : ℕ) (s : InScope) (c : ℕ) (taken : ℕ → Bool) → every (map (alternative_fits n own bodies) alternatives) ≡ true → every (map alternative_ends alternatives) ≡ true
      → scopes.all_scoped (map alternative_scoped alternatives) at_end s ≡ true → pays.in_order (map alternative_paid alternatives) nothing c ≡ true → IsFree own to s.vars taken
      → BlockCarries h c taken (λ vals olds. clauses.in_order (map (clauses.alternative vals olds) alternatives)) new

-- numbers only rise
pub record Rise (from to : Numbers) : Type 0 where
  pub variables : from.variable ≤ to.variable
  pub names : from.name ≤ to.name

-- ---- cases

-- what is made of a case: the arguments that it binds are taken, part by part, and then comes its block
pub record CaseMade (own to : ℕ) (h : Continuation) (x : ℕ) (k : Case) (new : NewCase) : Type 0 where
  pub lines : List Stmt
  pub tag : (out-NewCase new).tag ≡ (out-Case k).tag
  pub taken : (vals : Vals) (news : RelationActs) → block vals news (out-NewCase new).block ≡ new_fields x 1 (out-Case k).vars vals news (made lines vals news)
  pub passes : Passes own to h (out-Case k).block (made lines)

abbrev pub CasesMade : ℕ → ℕ → Continuation → ℕ → List Case → List NewCase → Type 0
CasesMade own to h x [] [] = Unit {0}
CasesMade own to h x [] (c ∷ cs) = ⊥
CasesMade own to h x (k ∷ ks) [] = ⊥
CasesMade own to h x (k ∷ ks) (c ∷ cs) = CaseMade own to h x k c × CasesMade own to h x ks cs
