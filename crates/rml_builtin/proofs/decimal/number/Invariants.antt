use Rattle.std.proofs.Common.{◌≡◌, ◌≤◌, ◌^◌, drop}
use Rattle.rml_builtin.specs.Decimal.{natural_of, number_after}
use Rattle.rml_builtin.specs.Capped.{capped}
use Rattle.rml_builtin.proofs.decimal.number.Given as goal

abbrev pub invariant-loop-c : goal.invariant-loop-c
invariant-loop-c l = record {
  small : l.n ≤ 2 ^ 30;
  whole : capped (natural_of l.digits) ≡ capped (number_after l.n (drop l.c-index l.digits));
}
