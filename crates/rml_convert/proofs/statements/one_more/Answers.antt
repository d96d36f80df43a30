use Rattle.std.proofs.Common.{arith}
use Rattle.rml_convert.proofs.Lasts.{split-last, one-more-turn, alternatives-work}
use Rattle.rml_convert.proofs.statements.one_more.Goals as goal

pub returns-in_ok-wait-in-len1-up-3-clause-made : goal.returns-in_ok-wait-in-len1-up-3-clause-made
returns-in_ok-wait-in-len1-up-3-clause-made c = one-more-turn c.args.alternatives.now c.last-item.result c.as_slice.result.now c.args.failure c.args.numbers.now c.fresh_name.new.numbers c.in_ok-name-in-len1-up.name c.closed-block.new.made.items c.args.made.now.items c.closed-block.result c.args.waiting.now.items c.wait.new.waiting.items c.wait-in-len1-up.new.waiting.items c.wait-in-len1-up-2.new.waiting.items (split-last _ _ c.in-len1-up.len_at_least c.last-item.is) c.closed-block.ensures.nothing c.as_slice.ensures c.in_ok-name-in-len1-up.ensures.value c.in_ok-name-in-len1-up.ensures.next c.closed-block.ensures.block c.in_ok-wait-in-len1-up.ensures.made c.in_ok-wait-in-len1-up-2.ensures.made c.in_ok-wait-in-len1-up-3.ensures.made

pub returns-in_ok-wait-in-len1-up-3-clause-work : goal.returns-in_ok-wait-in-len1-up-3-clause-work
returns-in_ok-wait-in-len1-up-3-clause-work c =
    alternatives-work c.args.alternatives.now c.last-item.result c.as_slice.result.now _ _ (split-last _ _ c.in-len1-up.len_at_least c.last-item.is) c.as_slice.ensures (omega (arith, c.in_ok-wait-in-len1-up.ensures.work, c.in_ok-wait-in-len1-up-2.ensures.work, c.in_ok-wait-in-len1-up-3.ensures.work))
