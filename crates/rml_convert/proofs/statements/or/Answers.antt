use Rattle.std.proofs.Common.{◌+◌, ◌<◌, arith}
use Rattle.std.specs.Prelude.{sum_by}
use Rattle.rml_convert.specs.Waiting.{work, others_work}
use Rattle.rml_convert.proofs.Lasts.{split-last, or-turn, alternatives-work}
use Rattle.rml_convert.proofs.statements.or.Goals as goal

pub returns-in_ok-wait-in-len1-up-2-clause-made : goal.returns-in_ok-wait-in-len1-up-2-clause-made
returns-in_ok-wait-in-len1-up-2-clause-made c = λ n. or-turn c.args.alternatives.now c.last-item.result c.as_slice.result.now c.args.failure n c.new.result.items c.args.waiting.now.items c.wait.new.waiting.items c.wait-in-len1-up.new.waiting.items (split-last _ _ c.in-len1-up.len_at_least c.last-item.is) c.new.ensures.items c.as_slice.ensures c.in_ok-wait-in-len1-up.ensures.made c.in_ok-wait-in-len1-up-2.ensures.made

pub returns-in_ok-wait-in-len1-up-2-clause-work : goal.returns-in_ok-wait-in-len1-up-2-clause-work
returns-in_ok-wait-in-len1-up-2-clause-work c =
    let before = sum_by work c.args.waiting.now.items in
    let after = sum_by work c.wait-in-len1-up.new.waiting.items in
    let less : after < others_work c.args.alternatives.now + before = alternatives-work c.args.alternatives.now c.last-item.result c.as_slice.result.now before after (split-last _ _ c.in-len1-up.len_at_least c.last-item.is) c.as_slice.ensures (omega (arith, c.in_ok-wait-in-len1-up.ensures.work, c.in_ok-wait-in-len1-up-2.ensures.work)) in
    omega arith
