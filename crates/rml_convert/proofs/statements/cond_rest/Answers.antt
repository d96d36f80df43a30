use Rattle.rml_convert.proofs.Lasts.{cond-turn}
use Rattle.rml_convert.proofs.statements.cond_rest.Goals as goal

pub returns-clause-made : goal.returns-clause-made
returns-clause-made c = λ n. cond-turn c.args.name c.args.first.now c.before_give.result.now c.args.second.now c.args.failure n c.args.made.now.items c.closed-block.result c.closed-block.new.made.items c.args.waiting.now.items c.wait.new.waiting.items c.wait-2.new.waiting.items c.wait-3.new.waiting.items c.closed-block.ensures.block c.closed-block.ensures.nothing c.before_give.ensures.made c.in_ok-wait.ensures.made c.in_ok-wait-2.ensures.made c.in_ok-wait-3.ensures.made
