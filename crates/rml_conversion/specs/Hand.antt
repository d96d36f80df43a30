-- What the pass has in hand: the lines that are made already, of which the last is the first, and the numbers that are not used yet.
use Rattle.std.specs.Prelude.{ℕ, suc, ◌+◌, List, [], ◌∷◌, ◌++◌, reverse}
use Rattle.rml_fol.specs.declared.statements.Tag.{Tag}
use Rattle.rml_cps.specs.declared.statements.Continuation.{Continuation}
use Rattle.rml_cps.specs.declared.statements.Stmt.{Stmt}
use Rattle.rml_cps.specs.declared.statements.Stmt.TheVariants as line
use Rattle.rml_cps.specs.declared.statements.Case.{Case, roll-Case}
use Rattle.rml_tocps.specs.declared.pass.numbers.Numbers.{Numbers}

pub record Hand : Type 0 where
  pub lines : List Stmt
  pub numbers : Numbers

abbrev pub hand : List Stmt → Numbers → Hand
hand lines numbers = record { lines = lines; numbers = numbers }

-- a change of what is in hand, told what follows a failure
abbrev pub Making : Type 0
Making = Continuation → Hand → Hand

-- ---- numbers

abbrev pub one_variable : Numbers → Numbers
one_variable n = record { variable = suc n.variable; name = n.name }

abbrev pub more_variables : ℕ → Numbers → Numbers
more_variables count n = record { variable = n.variable + count; name = n.name }

abbrev pub one_name : Numbers → Numbers
one_name n = record { variable = n.variable; name = suc n.name }

-- ---- lines

-- nothing is made yet
abbrev pub empty : Numbers → Hand
empty n = hand [] n

-- a line that nothing follows
abbrev pub only : Stmt → Numbers → Hand
only x n = hand (x ∷ []) n

-- one line in front of what is made
abbrev pub with_line : Stmt → Hand → Hand
with_line x at_hand = hand (at_hand.lines ++ x ∷ []) at_hand.numbers

-- what is made is tried; the other block follows its failure, which has this name
abbrev pub or_else : ℕ → List Stmt → Hand → Hand
or_else name other tried = with_line (line.Failure name (reverse other)) tried

abbrev pub case_of : Tag → List Stmt → Case
case_of t block = roll-Case (record { tag = t; block = block })

-- what is made goes on where the variable has this tag, and else the failure follows
abbrev pub tested : Tag → ℕ → Making
tested t x h at_hand = only (line.Switch x (case_of t (reverse at_hand.lines) ∷ []) (line.Fail h ∷ [])) at_hand.numbers

-- ---- lists

abbrev pub all_but_last : {A : Type 0} → List A → List A
all_but_last [] = []
all_but_last (x ∷ []) = []
all_but_last (x ∷ y ∷ ys) = x ∷ all_but_last (y ∷ ys)

abbrev pub last_of : {A : Type 0} → A → List A → A
last_of x [] = x
last_of x (y ∷ ys) = last_of y ys
