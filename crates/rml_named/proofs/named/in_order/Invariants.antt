use Rattle.std.proofs.Common.{◌≡◌}
use Rattle.std.specs.Prelude.{nat_eq}
use Rattle.std.specs.List.{filter, range_with_len}
use Rattle.rml_tables.specs.Words.{has}
use Rattle.rml_named.proofs.named.in_order.Given as goal

abbrev pub invariant-loop-row : goal.invariant-loop-row
invariant-loop-row l = l.named ≡ filter (λ row. has nat_eq row l.rows) (range_with_len 0 l.row)
