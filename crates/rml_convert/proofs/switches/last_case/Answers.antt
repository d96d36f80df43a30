use Rattle.std.proofs.Common.{arith}
use Rattle.rml_convert.proofs.Lasts.{split-last, case-turn, cases-work}
use Rattle.rml_convert.proofs.switches.last_case.Goals as goal

pub returns-in_ok-wait-in-len1-up-2-clause-made : goal.returns-in_ok-wait-in-len1-up-2-clause-made
returns-in_ok-wait-in-len1-up-2-clause-made c = λ n. case-turn c.args.choices.now c.last-item.result c.as_slice.result.now c.args.x c.args.failure c.args.otherwise c.new.result.items c.args.cases.items n c.args.waiting.now.items c.wait.new.waiting.items c.wait-in-len1-up.new.waiting.items (split-last _ _ c.in-len1-up.len_at_least c.last-item.is) c.new.ensures.items c.as_slice.ensures c.in_ok-wait-in-len1-up.ensures.made c.in_ok-wait-in-len1-up-2.ensures.made

pub returns-in_ok-wait-in-len1-up-2-clause-work : goal.returns-in_ok-wait-in-len1-up-2-clause-work
returns-in_ok-wait-in-len1-up-2-clause-work c =
    cases-work c.args.choices.now c.last-item.result c.as_slice.result.now _ _ (split-last _ _ c.in-len1-up.len_at_least c.last-item.is) c.as_slice.ensures (omega (arith, c.in_ok-wait-in-len1-up.ensures.work, c.in_ok-wait-in-len1-up-2.ensures.work))
