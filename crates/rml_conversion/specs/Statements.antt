-- What the pass makes of a statement: a change of what is made already, which comes after it.
use Rattle.std.specs.Prelude.{ℕ, suc, List, [], ◌∷◌, ◌++◌, reverse}
use Rattle.rml_fol.specs.declared.statements.Callee.{Callee}
use Rattle.rml_fol.specs.declared.statements.Tag.{Tag}
use Rattle.rml_fol.specs.declared.statements.Stmt.{Stmt as Clause, fold-Stmt}
use Rattle.rml_fol.specs.declared.statements.Stmt.TheOpen.{Stmt-F as Clause-F, Alternative-F, Case-F}
use Rattle.rml_fol.specs.declared.statements.Alternative.{Alternative, fold-Alternative}
use Rattle.rml_fol.specs.declared.statements.Case.{Case as Choice, fold-Case}
use Rattle.rml_cps.specs.declared.statements.Continuation.{Continuation}
use Rattle.rml_cps.specs.declared.statements.Continuation.TheVariants as continuation
use Rattle.rml_cps.specs.declared.statements.Stmt.{Stmt}
use Rattle.rml_cps.specs.declared.statements.Stmt.TheVariants as line
use Rattle.rml_cps.specs.declared.statements.Case.{Case}
use Rattle.rml_tocps.specs.declared.pass.numbers.Numbers.{Numbers}
use Rattle.rml_conversion.specs.Hand.{Hand, Making, hand, one_name, empty, only, with_line, or_else, case_of, all_but_last}
use Rattle.rml_conversion.specs.Patterns.{pattern_made}

-- ---- blocks

-- a block, told what follows its failure
abbrev pub BlockMaking : Type 0
BlockMaking = Continuation → Numbers → Hand

-- statements in front of what is made
abbrev pub in_front : List Making → Making
in_front [] h at_hand = at_hand
in_front (m ∷ ms) h at_hand = m h (in_front ms h at_hand)

abbrev pub block_of : List Making → BlockMaking
block_of ms h n = in_front ms h (empty n)

-- ---- statements

-- what is made follows the answer of the call
abbrev pub called : Callee → List ℕ → List ℕ → Making
called f xs ys h at_hand =
    hand (line.Call f xs (continuation.Named at_hand.numbers.name) h ∷ line.Success at_hand.numbers.name ys (reverse at_hand.lines) ∷ []) (one_name at_hand.numbers)

-- what is made follows the failure of the goal, and the failure follows its answer
abbrev pub negated : List Making → Making
negated goal h at_hand =
    or_else at_hand.numbers.name at_hand.lines (in_front (all_but_last goal) (continuation.Named at_hand.numbers.name) (only (line.Fail h) (one_name at_hand.numbers)))

-- an alternative before those that are made
abbrev pub one_more : BlockMaking → Making
one_more a h other = or_else other.numbers.name other.lines (a (continuation.Named other.numbers.name) (one_name other.numbers))

abbrev pub others : List BlockMaking → Making
others [] h at_hand = at_hand
others (a ∷ rest) h at_hand = one_more a h (others rest h at_hand)

-- the last alternative is told what follows the failure of all
abbrev pub or_of : List BlockMaking → BlockMaking
or_of [] h n = only (line.Fail h) n
or_of (a ∷ []) h n = a h n
or_of (a ∷ b ∷ rest) h n = one_more a h (or_of (b ∷ rest) h n)

-- the first block before the second, where the third is made
abbrev pub cond_rest : ℕ → List Making → List Making → Making
cond_rest name first second h other =
    or_else name other.lines (in_front (all_but_last first) (continuation.Named name) (block_of second h other.numbers))

abbrev pub cond_of : List Making → List Making → List Making → BlockMaking
cond_of first second third h n = cond_rest n.name first second h (block_of third h (one_name n))

-- ---- cases

pub record CaseMaking : Type 0 where
  pub tag : Tag
  pub vars : List ℕ
  pub block : BlockMaking

-- cases that are made already, of which the last is the first
pub record Cased : Type 0 where
  pub cases : List Case
  pub numbers : Numbers

abbrev pub cased : List Case → Numbers → Cased
cased cases numbers = record { cases = cases; numbers = numbers }

-- the arguments of what x stands for, from this number on, each in a variable
abbrev pub fields_made : ℕ → ℕ → List ℕ → List Stmt → List Stmt
fields_made x i [] lines = lines
fields_made x i (y ∷ ys) lines = fields_made x (suc i) ys lines ++ line.Field y x i ∷ []

-- a case whose block is made
abbrev pub closed_case : CaseMaking → ℕ → List Stmt → Case
closed_case k x lines = case_of k.tag (reverse (fields_made x 1 k.vars lines))

-- one more case, whose block is in hand
abbrev pub with_case : CaseMaking → ℕ → List Case → Hand → Cased
with_case k x cases at_hand = cased (cases ++ closed_case k x at_hand.lines ∷ []) at_hand.numbers

abbrev pub all_cases : List CaseMaking → ℕ → Continuation → Cased → Cased
all_cases [] x h so_far = so_far
all_cases (k ∷ ks) x h so_far = with_case k x (all_cases ks x h so_far).cases (k.block h (all_cases ks x h so_far).numbers)

abbrev pub switched : ℕ → List Stmt → Cased → Hand
switched x otherwise so_far = only (line.Switch x (reverse so_far.cases) otherwise) so_far.numbers

-- the cases, where what comes behind them is made
abbrev pub switch_rest : ℕ → List CaseMaking → Making
switch_rest x ks h other = switched x (reverse other.lines) (all_cases ks x h (cased [] other.numbers))

-- a named block, whose failure is the one that is handed on
abbrev pub named : ℕ → List ℕ → ℕ → List Stmt → Hand → Hand
named j xs name rest at_hand = hand (rest ++ line.Body j xs name (reverse at_hand.lines) ∷ []) at_hand.numbers

-- ---- all

abbrev pub made_at : Clause-F Making BlockMaking CaseMaking → Making
made_at (Clause-F.Match x p) h at_hand = (pattern_made p).whole x h at_hand
made_at (Clause-F.Set x e) h at_hand = with_line (line.Set x e) at_hand
made_at (Clause-F.Call f xs ys) h at_hand = called f xs ys h at_hand
made_at (Clause-F.Builtin k xs ys) h at_hand = with_line (line.Builtin k xs ys h) at_hand
made_at (Clause-F.Equal x y) h at_hand = with_line (line.Equal x y h) at_hand
made_at (Clause-F.Not goal) h at_hand = negated goal h at_hand
made_at (Clause-F.Or alternatives) h at_hand = or_of alternatives h at_hand.numbers
made_at (Clause-F.Cond first second third) h at_hand = cond_of first second third h at_hand.numbers
made_at (Clause-F.Switch x cases otherwise) h at_hand = switch_rest x cases h (block_of otherwise h at_hand.numbers)
made_at (Clause-F.Body j xs block) h at_hand =
    named j xs at_hand.numbers.name at_hand.lines (block_of block (continuation.Named at_hand.numbers.name) (one_name at_hand.numbers))
made_at (Clause-F.Goto j xs) h at_hand = only (line.Goto j xs h) at_hand.numbers
made_at (Clause-F.Give xs) h at_hand = only (line.Answer continuation.Own xs) at_hand.numbers
made_at Clause-F.Fail h at_hand = only (line.Fail h) at_hand.numbers

abbrev pub alternative_at : Alternative-F Making BlockMaking CaseMaking → BlockMaking
alternative_at a = block_of a.block

abbrev pub case_at : Case-F Making BlockMaking CaseMaking → CaseMaking
case_at k = record { tag = k.tag; vars = k.vars; block = block_of k.block }

abbrev pub stmt_made : Clause → Making
stmt_made = fold-Stmt Making BlockMaking CaseMaking made_at alternative_at case_at

abbrev pub alternative_made : Alternative → BlockMaking
alternative_made = fold-Alternative Making BlockMaking CaseMaking made_at alternative_at case_at

abbrev pub case_made : Choice → CaseMaking
case_made = fold-Case Making BlockMaking CaseMaking made_at alternative_at case_at
