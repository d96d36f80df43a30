use Rattle.std.proofs.Common.{arith}
use Rattle.rml_fol.specs.Size.{size}
use Rattle.rml_conversion.specs.Hand.{hand}
use Rattle.rml_convert.proofs.Lasts.{split-last, sum-last, stmts-turn}
use Rattle.rml_convert.proofs.statements.last_stmt.Goals as goal

pub returns-in_ok-stmt-in-len1-up-clause-made : goal.returns-in_ok-stmt-in-len1-up-clause-made
returns-in_ok-stmt-in-len1-up-clause-made c = stmts-turn c.args.stmts.now c.last-item.result c.args.failure (hand c.args.made.now.items c.args.numbers.now) (hand c.stmt.new.made.items c.stmt.new.numbers) c.args.waiting.now.items c.wait.new.waiting.items c.stmt.new.waiting.items (split-last _ _ c.in-len1-up.len_at_least c.last-item.is) c.in_ok-wait-in-len1-up.ensures.made c.in_ok-stmt-in-len1-up.ensures.made

pub returns-in_ok-stmt-in-len1-up-clause-work : goal.returns-in_ok-stmt-in-len1-up-clause-work
returns-in_ok-stmt-in-len1-up-clause-work c = omega (arith, sum-last size c.args.stmts.now _ c.last-item.result (split-last _ _ c.in-len1-up.len_at_least c.last-item.is), c.in_ok-wait-in-len1-up.ensures.work, c.in_ok-stmt-in-len1-up.ensures.work)
