use Rattle.std.proofs.Common.{◌≡◌, ℕ, ◌<◌, get_or, map, drop}
use Rattle.rml_value.specs.declared.value.Value.{Value}
use Rattle.rml_value.specs.Same.{same, all_same}
use Rattle.rml_value.proofs.equality.+equality.Given as goal

abbrev pub invariant-all_equal-loop-i : goal.invariant-all_equal-loop-i
invariant-all_equal-loop-i l = record {
  before : (k : ℕ) (d : Value) → k < l.i → get_or l.xs k d ≡ get_or l.ys k d;
  after : all_same (map same l.xs) l.ys ≡ all_same (map same (drop l.i l.xs)) (drop l.i l.ys);
}
