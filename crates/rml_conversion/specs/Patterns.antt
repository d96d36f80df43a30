-- What the pass makes of a pattern: lines that test what a variable stands for and take it apart, part by part, in front of what is made.
use Rattle.std.specs.Prelude.{ℕ, suc, List, [], ◌∷◌, length}
use Rattle.rml_value.specs.declared.value.TheConstants.{NIL, CONS}
use Rattle.rml_fol.specs.declared.terms.Expression.TheVariants as expression
use Rattle.rml_fol.specs.declared.terms.Pattern.{Pattern, fold-Pattern}
use Rattle.rml_fol.specs.declared.terms.Pattern.TheOpen.{Pattern-F}
use Rattle.rml_fol.specs.declared.statements.Tag.TheVariants as tag
use Rattle.rml_cps.specs.declared.statements.Stmt.TheVariants as line
use Rattle.rml_tocps.specs.Matching.{place_at}
use Rattle.rml_conversion.specs.Hand.{Hand, Making, hand, one_variable, more_variables, with_line, tested, all_but_last, last_of}

-- a pattern against what a variable stands for; and against the argument of a number, from 1, of what a variable stands for
pub record PatternMaking : Type 0 where
  pub whole : ℕ → Making
  pub part : ℕ → ℕ → Making

-- a part that is neither `_` nor has a name is taken into a fresh variable
abbrev pub fresh_part : (ℕ → Making) → ℕ → ℕ → Making
fresh_part whole x i h at_hand =
    with_line (line.Field at_hand.numbers.variable x i) (whole at_hand.numbers.variable h (hand at_hand.lines (one_variable at_hand.numbers)))

-- parts from this number on
abbrev pub parts_made : List PatternMaking → ℕ → ℕ → Making
parts_made [] x i h at_hand = at_hand
parts_made (m ∷ ms) x i h at_hand = m.part x i h (parts_made ms x (suc i) h at_hand)

-- Items in front of what matches the rest of a list. The list that x stands for has its rest in the first of the fresh variables in a row, and
-- so on.
abbrev pub items_made : List PatternMaking → ℕ → ℕ → Making
items_made [] x first h at_hand = at_hand
items_made (m ∷ ms) x first h at_hand =
    tested (tag.Con CONS) x h (m.part x 1 h (with_line (line.Field first x 2) (items_made ms first (suc first) h at_hand)))

-- as many fresh variables in a row
abbrev pub reserved : ℕ → Hand → Hand
reserved count at_hand = hand at_hand.lines (more_variables count at_hand.numbers)

-- `[p, ..]`: the list ends behind the items
abbrev pub list_made : List PatternMaking → ℕ → Making
list_made ms x h at_hand =
    items_made ms x at_hand.numbers.variable h (tested (tag.Con NIL) (place_at x at_hand.numbers.variable (length ms)) h (reserved (length ms) at_hand))

-- `p :: .. :: tail`
abbrev pub tail_made : List PatternMaking → PatternMaking → ℕ → Making
tail_made ms tail x h at_hand =
    items_made ms x at_hand.numbers.variable h (tail.whole (place_at x at_hand.numbers.variable (length ms)) h (reserved (length ms) at_hand))

abbrev pub chain_made : List PatternMaking → ℕ → Making
chain_made [] x h at_hand = at_hand
chain_made (m ∷ ms) x h at_hand = tail_made (all_but_last (m ∷ ms)) (last_of m ms) x h at_hand

abbrev pub whole_at : Pattern-F PatternMaking → ℕ → Making
whole_at Pattern-F.Any x h at_hand = at_hand
whole_at (Pattern-F.Lit l) x h at_hand = tested (tag.Lit l) x h at_hand
whole_at (Pattern-F.Var y) x h at_hand = with_line (line.Set y (expression.Var x)) at_hand
whole_at (Pattern-F.Con c ms) x h at_hand = tested (tag.Con c) x h (parts_made ms x 1 h at_hand)
whole_at (Pattern-F.Tuple ms) x h at_hand = parts_made ms x 1 h at_hand
whole_at (Pattern-F.List ms) x h at_hand = list_made ms x h at_hand
whole_at (Pattern-F.Cons ms) x h at_hand = chain_made ms x h at_hand
whole_at (Pattern-F.Bind y m) x h at_hand = with_line (line.Set y (expression.Var x)) (m.whole x h at_hand)

abbrev pub part_at : Pattern-F PatternMaking → ℕ → ℕ → Making
part_at Pattern-F.Any x i h at_hand = at_hand
part_at (Pattern-F.Var y) x i h at_hand = with_line (line.Field y x i) at_hand
part_at (Pattern-F.Bind y m) x i h at_hand = with_line (line.Field y x i) (m.whole y h at_hand)
part_at (Pattern-F.Lit l) x i h at_hand = fresh_part (whole_at (Pattern-F.Lit l)) x i h at_hand
part_at (Pattern-F.Con c ms) x i h at_hand = fresh_part (whole_at (Pattern-F.Con c ms)) x i h at_hand
part_at (Pattern-F.Tuple ms) x i h at_hand = fresh_part (whole_at (Pattern-F.Tuple ms)) x i h at_hand
part_at (Pattern-F.List ms) x i h at_hand = fresh_part (whole_at (Pattern-F.List ms)) x i h at_hand
part_at (Pattern-F.Cons ms) x i h at_hand = fresh_part (whole_at (Pattern-F.Cons ms)) x i h at_hand

abbrev pub pattern_at : Pattern-F PatternMaking → PatternMaking
pattern_at y = record { whole = whole_at y; part = part_at y }

abbrev pub pattern_made : Pattern → PatternMaking
pattern_made = fold-Pattern PatternMaking pattern_at
