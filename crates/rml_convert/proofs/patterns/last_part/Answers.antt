use Rattle.std.proofs.Common.{arith}
use Rattle.rml_fol.specs.Size.{pattern_nodes}
use Rattle.rml_conversion.specs.Hand.{hand}
use Rattle.rml_convert.proofs.Lasts.{split-last, sum-last, parts-turn}
use Rattle.rml_convert.proofs.patterns.last_part.Goals as goal

pub returns-in_ok-part-in-len1-up-clause-made : goal.returns-in_ok-part-in-len1-up-clause-made
returns-in_ok-part-in-len1-up-clause-made c = parts-turn c.args.patterns.now c.last-item.result c.args.x c.in_ok-number-in-len1-up.number c.args.failure (hand c.args.made.now.items c.args.numbers.now) (hand c.part.new.made.items c.part.new.numbers) c.args.waiting.now.items c.wait.new.waiting.items c.part.new.waiting.items (split-last _ _ c.in-len1-up.len_at_least c.last-item.is) c.in_ok-number-in-len1-up.ensures c.in_ok-wait-in-len1-up.ensures.made c.in_ok-part-in-len1-up.ensures.made

pub returns-in_ok-part-in-len1-up-clause-work : goal.returns-in_ok-part-in-len1-up-clause-work
returns-in_ok-part-in-len1-up-clause-work c = omega (arith, sum-last pattern_nodes c.args.patterns.now _ c.last-item.result (split-last _ _ c.in-len1-up.len_at_least c.last-item.is), c.in_ok-wait-in-len1-up.ensures.work, c.in_ok-part-in-len1-up.ensures.work)
