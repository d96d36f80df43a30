use Rattle.rml_convert.proofs.Lasts.{split-last, chain-turn}
use Rattle.rml_convert.proofs.patterns.chain.Goals as goal

pub returns-in_ok-wait-in-len1-up-2-clause-made : goal.returns-in_ok-wait-in-len1-up-2-clause-made
returns-in_ok-wait-in-len1-up-2-clause-made c = chain-turn c.args.patterns.now c.last-item.result c.args.x c.in_ok-first-in-len1-up.first c.in_ok-position-in-len1-up.position c.in_ok-tail-in-len1-up.tail c.args.failure c.args.made.now.items c.args.numbers.now c.fresh_row.new.numbers c.args.waiting.now.items c.wait.new.waiting.items c.wait-in-len1-up.new.waiting.items (split-last _ _ c.in-len1-up.len_at_least c.last-item.is) c.in_ok-position-in-len1-up.ensures c.in_ok-first-in-len1-up.ensures.value c.in_ok-first-in-len1-up.ensures.next c.in_ok-tail-in-len1-up.ensures c.in_ok-wait-in-len1-up.ensures.made c.in_ok-wait-in-len1-up-2.ensures.made
