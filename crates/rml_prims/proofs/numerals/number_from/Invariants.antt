use Rattle.std.proofs.Common.{◌≡◌, ℕ, ◌≤◌, ◌^◌, List, drop}
use Rattle.rml_builtin.specs.Decimal.{natural_of, number_after}
use Rattle.rml_builtin.specs.Capped.{capped}
use Rattle.rml_heap.specs.declared.cell.Cell.{Cell}
use Rattle.rml_prims.specs.Shapes.{IsText}
use Rattle.rml_prims.proofs.numerals.number_from.Given as goal

abbrev pub invariant-loop-i : goal.invariant-loop-i
invariant-loop-i l = record {
  small : l.n ≤ 2 ^ 30;
  whole : (c : Cell) (bytes : List ℕ) → IsText l.heap.values c l.text.at l.text.size bytes → capped (natural_of (drop l.first bytes)) ≡ capped (number_after l.n (drop l.i bytes));
}
