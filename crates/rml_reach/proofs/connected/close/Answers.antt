use Rattle.std.proofs.Common.{arith}
use Rattle.rml_reach.proofs.connected.close.Goals as goal

pub returns : goal.returns
returns c =
    let inv = c.loop-at.invariant in
    record {
      count = inv.count;
      closed = λ k le lt. inv.closed k le (omega arith);
      others = λ n apart. inv.others n (λ k le lt. apart k le (omega arith));
    }
