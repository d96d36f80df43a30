use Rattle.std.proofs.Common.{arith}
use Rattle.rml_conversion.specs.Hand.{hand}
use Rattle.rml_convert.proofs.Opened.{con-nodes, tuple-nodes, list-nodes, chain-nodes, parts-work, con-turn, list-turn, whole-chain-turn}
use Rattle.rml_convert.proofs.patterns.whole.Goals as goal

pub returns-in_ok-wait-in-Con-2-clause-made : goal.returns-in_ok-wait-in-Con-2-clause-made
returns-in_ok-wait-in-Con-2-clause-made c = con-turn c.args.pattern.now c.in-Con.c c.args.x c.in-Con.parts c.as_slice.result.now c.args.failure (hand c.args.made.now.items c.args.numbers.now) c.args.waiting.now.items c.wait.new.waiting.items c.wait-in-Con.new.waiting.items c.in-Con.is c.as_slice.ensures c.in_ok-wait-in-Con.ensures.made c.in_ok-wait-in-Con-2.ensures.made

pub returns-in_ok-wait-in-Con-2-clause-work : goal.returns-in_ok-wait-in-Con-2-clause-work
returns-in_ok-wait-in-Con-2-clause-work c = parts-work c.args.pattern.now c.in-Con.parts c.as_slice.result.now _ _ (con-nodes _ _ _ c.in-Con.is) c.as_slice.ensures (omega (arith, c.in_ok-wait-in-Con.ensures.work, c.in_ok-wait-in-Con-2.ensures.work))

pub returns-in_ok-wait-in-Tuple-clause-work : goal.returns-in_ok-wait-in-Tuple-clause-work
returns-in_ok-wait-in-Tuple-clause-work c = parts-work c.args.pattern.now c.in-Tuple.parts c.as_slice-in-Tuple.result.now _ _ (tuple-nodes _ _ c.in-Tuple.is) c.as_slice-in-Tuple.ensures (omega (arith, c.in_ok-wait-in-Tuple.ensures.work))

pub returns-in_ok-list-in-List-clause-made : goal.returns-in_ok-list-in-List-clause-made
returns-in_ok-list-in-List-clause-made c = list-turn c.args.pattern.now c.args.x c.in-List.items c.as_slice-in-List.result.now c.args.failure (hand c.args.made.now.items c.args.numbers.now) (hand c.list.new.made.items c.list.new.numbers) c.args.waiting.now.items c.list.new.waiting.items c.in-List.is c.as_slice-in-List.ensures c.in_ok-list-in-List.ensures.made

pub returns-in_ok-list-in-List-clause-work : goal.returns-in_ok-list-in-List-clause-work
returns-in_ok-list-in-List-clause-work c = parts-work c.args.pattern.now c.in-List.items c.as_slice-in-List.result.now _ _ (list-nodes _ _ c.in-List.is) c.as_slice-in-List.ensures (omega (arith, c.in_ok-list-in-List.ensures.work))

pub returns-in_ok-chain-in-Cons-clause-made : goal.returns-in_ok-chain-in-Cons-clause-made
returns-in_ok-chain-in-Cons-clause-made c = whole-chain-turn c.args.pattern.now c.args.x c.in-Cons.items c.as_slice-in-Cons.result.now c.args.failure (hand c.args.made.now.items c.args.numbers.now) (hand c.args.made.now.items c.chain.new.numbers) c.args.waiting.now.items c.chain.new.waiting.items c.in-Cons.is c.as_slice-in-Cons.ensures c.in_ok-chain-in-Cons.ensures.made

pub returns-in_ok-chain-in-Cons-clause-work : goal.returns-in_ok-chain-in-Cons-clause-work
returns-in_ok-chain-in-Cons-clause-work c = parts-work c.args.pattern.now c.in-Cons.items c.as_slice-in-Cons.result.now _ _ (chain-nodes _ _ c.in-Cons.is) c.as_slice-in-Cons.ensures (omega (arith, c.in_ok-chain-in-Cons.ensures.work))
