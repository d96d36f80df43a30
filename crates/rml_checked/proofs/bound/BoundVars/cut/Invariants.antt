use Rattle.std.proofs.Common.{◌≡◌, take, length}
use Rattle.rml_resolved.specs.Bound.{IsCounted}
use Rattle.rml_checked.proofs.bound.BoundVars.cut.Given as goal

abbrev pub invariant-loop-order : goal.invariant-loop-order
invariant-loop-order l = record {
  front : take l.count l.order.items ≡ take l.count l.fn.self;
  counted : IsCounted l.order.items l.counts.items;
}

abbrev pub decreases-loop-order : goal.decreases-loop-order
decreases-loop-order l = length l.order.items
