use Rattle.std.proofs.Common.{refl, sym, ◌∙◌, arith}
use Rattle.rml_fol.specs.declared.statements.Stmt.TheOpen.{Stmt-F as Clause-F}
use Rattle.rml_fol.specs.declared.statements.Stmt.TheVariants as clause
use Rattle.rml_conversion.specs.Hand.{hand}
use Rattle.rml_convert.specs.Waiting.{all_made}
use Rattle.rml_convert.proofs.Opened.{match-turn, set-turn, call-turn, built-in-turn, equal-turn, not-turn, or-as-turn, cond-as-turn, switch-turn, body-turn, goto-turn, give-turn, fail-turn, match-size, some-size, not-size, or-size, cond-size, switch-size, body-size}
use Rattle.rml_convert.proofs.statements.stmt.Goals as goal

pub returns-in_ok-whole-in-Match-clause-made : goal.returns-in_ok-whole-in-Match-clause-made
returns-in_ok-whole-in-Match-clause-made c = match-turn c.args.stmt.now c.in-Match.x c.in-Match.pattern c.args.failure (hand c.args.made.now.items c.args.numbers.now) c.args.waiting.now.items (all_made c.whole.new.waiting.items (hand c.whole.new.made.items c.whole.new.numbers)) c.in-Match.is c.in_ok-whole-in-Match.ensures.made

pub returns-in_ok-whole-in-Match-clause-work : goal.returns-in_ok-whole-in-Match-clause-work
returns-in_ok-whole-in-Match-clause-work c = omega (arith, match-size c.args.stmt.now c.in-Match.x c.in-Match.pattern c.in-Match.is, c.in_ok-whole-in-Match.ensures.work)

pub returns-in_ok-put-in-Set-clause-made : goal.returns-in_ok-put-in-Set-clause-made
returns-in_ok-put-in-Set-clause-made c = set-turn c.args.stmt.now c.in-Set.x c.in-Set.expression c.in_ok-copy-in-Set.copy c.args.failure c.args.made.now.items c.put.new.made.items c.args.numbers.now c.args.waiting.now.items c.in-Set.is c.in_ok-copy-in-Set.ensures c.in_ok-put-in-Set.ensures

pub returns-in_ok-put-in-Set-clause-work : goal.returns-in_ok-put-in-Set-clause-work
returns-in_ok-put-in-Set-clause-work c = some-size c.args.stmt.now (Clause-F.Set c.in-Set.x c.in-Set.expression) _ _ (clause.rolls-Set c.in-Set.x c.in-Set.expression ∙ sym c.in-Set.is) refl refl

pub returns-in_ok-call-in-Call-clause-made : goal.returns-in_ok-call-in-Call-clause-made
returns-in_ok-call-in-Call-clause-made c = call-turn c.args.stmt.now c.in-Call.callee c.in-Call.xs c.in-Call.ys c.as_slice.result.now c.as_slice-in-Call.result.now c.args.failure (hand c.args.made.now.items c.args.numbers.now) (hand c.call.new.made.items c.call.new.numbers) c.args.waiting.now.items c.in-Call.is c.as_slice.ensures c.as_slice-in-Call.ensures c.in_ok-call-in-Call.ensures

pub returns-in_ok-call-in-Call-clause-work : goal.returns-in_ok-call-in-Call-clause-work
returns-in_ok-call-in-Call-clause-work c = some-size c.args.stmt.now (Clause-F.Call c.in-Call.callee c.in-Call.xs c.in-Call.ys) _ _ (clause.rolls-Call c.in-Call.callee c.in-Call.xs c.in-Call.ys ∙ sym c.in-Call.is) refl refl

pub returns-in_ok-built_in-in-Builtin-clause-made : goal.returns-in_ok-built_in-in-Builtin-clause-made
returns-in_ok-built_in-in-Builtin-clause-made c = built-in-turn c.args.stmt.now c.in-Builtin.number c.in-Builtin.xs c.in-Builtin.ys c.as_slice-in-Builtin.result.now c.as_slice-in-Builtin-2.result.now c.args.failure c.args.made.now.items c.built_in.new.made.items c.args.numbers.now c.args.waiting.now.items c.in-Builtin.is c.as_slice-in-Builtin.ensures c.as_slice-in-Builtin-2.ensures c.in_ok-built_in-in-Builtin.ensures

pub returns-in_ok-built_in-in-Builtin-clause-work : goal.returns-in_ok-built_in-in-Builtin-clause-work
returns-in_ok-built_in-in-Builtin-clause-work c = some-size c.args.stmt.now (Clause-F.Builtin c.in-Builtin.number c.in-Builtin.xs c.in-Builtin.ys) _ _ (clause.rolls-Builtin c.in-Builtin.number c.in-Builtin.xs c.in-Builtin.ys ∙ sym c.in-Builtin.is) refl refl

pub returns-in_ok-put-in-Equal-clause-made : goal.returns-in_ok-put-in-Equal-clause-made
returns-in_ok-put-in-Equal-clause-made c = equal-turn c.args.stmt.now c.in-Equal.x c.in-Equal.y c.args.failure c.args.made.now.items c.put-in-Equal.new.made.items c.args.numbers.now c.args.waiting.now.items c.in-Equal.is c.in_ok-put-in-Equal.ensures

pub returns-in_ok-put-in-Equal-clause-work : goal.returns-in_ok-put-in-Equal-clause-work
returns-in_ok-put-in-Equal-clause-work c = some-size c.args.stmt.now (Clause-F.Equal c.in-Equal.x c.in-Equal.y) _ _ (clause.rolls-Equal c.in-Equal.x c.in-Equal.y ∙ sym c.in-Equal.is) refl refl

pub returns-in_ok-not-in-Not-clause-made : goal.returns-in_ok-not-in-Not-clause-made
returns-in_ok-not-in-Not-clause-made c = not-turn c.args.stmt.now c.in-Not.goal c.as_slice-in-Not.result.now c.args.failure (hand c.args.made.now.items c.args.numbers.now) (all_made c.not.new.waiting.items (hand c.not.new.made.items c.not.new.numbers)) c.args.waiting.now.items c.in-Not.is c.as_slice-in-Not.ensures c.in_ok-not-in-Not.ensures.made

pub returns-in_ok-not-in-Not-clause-work : goal.returns-in_ok-not-in-Not-clause-work
returns-in_ok-not-in-Not-clause-work c = omega (arith, not-size c.args.stmt.now c.in-Not.goal c.as_slice-in-Not.result.now c.in-Not.is c.as_slice-in-Not.ensures, c.in_ok-not-in-Not.ensures.work)

pub returns-in_ok-or-in-Or-clause-made : goal.returns-in_ok-or-in-Or-clause-made
returns-in_ok-or-in-Or-clause-made c = or-as-turn c.args.stmt.now c.in-Or.alternatives c.as_slice-in-Or.result.now c.args.failure (hand c.args.made.now.items c.args.numbers.now) (all_made c.or.new.waiting.items (hand c.or.new.made.items c.args.numbers.now)) c.args.waiting.now.items c.in-Or.is c.as_slice-in-Or.ensures (c.in_ok-or-in-Or.ensures.made c.args.numbers.now)

pub returns-in_ok-or-in-Or-clause-work : goal.returns-in_ok-or-in-Or-clause-work
returns-in_ok-or-in-Or-clause-work c = omega (arith, or-size c.args.stmt.now c.in-Or.alternatives c.as_slice-in-Or.result.now c.in-Or.is c.as_slice-in-Or.ensures, c.in_ok-or-in-Or.ensures.work)

pub returns-in_ok-cond-in-Cond-clause-made : goal.returns-in_ok-cond-in-Cond-clause-made
returns-in_ok-cond-in-Cond-clause-made c = cond-as-turn c.args.stmt.now c.in-Cond.first c.in-Cond.second c.in-Cond.third c.as_slice-in-Cond.result.now c.as_slice-in-Cond-2.result.now c.as_slice-in-Cond-3.result.now c.args.failure (hand c.args.made.now.items c.args.numbers.now) (all_made c.cond.new.waiting.items (hand c.cond.new.made.items c.cond.new.numbers)) c.args.waiting.now.items c.in-Cond.is c.as_slice-in-Cond.ensures c.as_slice-in-Cond-2.ensures c.as_slice-in-Cond-3.ensures c.in_ok-cond-in-Cond.ensures.made

pub returns-in_ok-cond-in-Cond-clause-work : goal.returns-in_ok-cond-in-Cond-clause-work
returns-in_ok-cond-in-Cond-clause-work c = omega (arith, cond-size c.args.stmt.now c.in-Cond.first c.in-Cond.second c.in-Cond.third c.as_slice-in-Cond.result.now c.as_slice-in-Cond-2.result.now c.as_slice-in-Cond-3.result.now c.in-Cond.is c.as_slice-in-Cond.ensures c.as_slice-in-Cond-2.ensures c.as_slice-in-Cond-3.ensures, c.in_ok-cond-in-Cond.ensures.work)

pub returns-in_ok-switch-in-Switch-clause-made : goal.returns-in_ok-switch-in-Switch-clause-made
returns-in_ok-switch-in-Switch-clause-made c = switch-turn c.args.stmt.now c.in-Switch.x c.in-Switch.cases c.as_slice-in-Switch.result.now c.in-Switch.otherwise c.as_slice-in-Switch-2.result.now c.args.failure (hand c.args.made.now.items c.args.numbers.now) (all_made c.switch.new.waiting.items (hand c.switch.new.made.items c.args.numbers.now)) c.args.waiting.now.items c.in-Switch.is c.as_slice-in-Switch.ensures c.as_slice-in-Switch-2.ensures (c.in_ok-switch-in-Switch.ensures.made c.args.numbers.now)

pub returns-in_ok-switch-in-Switch-clause-work : goal.returns-in_ok-switch-in-Switch-clause-work
returns-in_ok-switch-in-Switch-clause-work c = omega (arith, switch-size c.args.stmt.now c.in-Switch.x c.in-Switch.cases c.as_slice-in-Switch.result.now c.in-Switch.otherwise c.as_slice-in-Switch-2.result.now c.in-Switch.is c.as_slice-in-Switch.ensures c.as_slice-in-Switch-2.ensures, c.in_ok-switch-in-Switch.ensures.work)

pub returns-in_ok-body-in-Body-clause-made : goal.returns-in_ok-body-in-Body-clause-made
returns-in_ok-body-in-Body-clause-made c = body-turn c.args.stmt.now c.in-Body.j c.in-Body.xs c.as_slice-in-Body.result.now c.in-Body.block c.as_slice-in-Body-2.result.now c.args.failure (hand c.args.made.now.items c.args.numbers.now) (all_made c.body.new.waiting.items (hand c.body.new.made.items c.body.new.numbers)) c.args.waiting.now.items c.in-Body.is c.as_slice-in-Body.ensures c.as_slice-in-Body-2.ensures c.in_ok-body-in-Body.ensures.made

pub returns-in_ok-body-in-Body-clause-work : goal.returns-in_ok-body-in-Body-clause-work
returns-in_ok-body-in-Body-clause-work c = omega (arith, body-size c.args.stmt.now c.in-Body.j c.in-Body.xs c.in-Body.block c.as_slice-in-Body-2.result.now c.in-Body.is c.as_slice-in-Body-2.ensures, c.in_ok-body-in-Body.ensures.work)

pub returns-in_ok-only_line-in-Goto-clause-made : goal.returns-in_ok-only_line-in-Goto-clause-made
returns-in_ok-only_line-in-Goto-clause-made c = goto-turn c.args.stmt.now c.in-Goto.j c.in-Goto.xs c.as_slice-in-Goto.result.now c.in_ok-handed-in-Goto.handed c.args.failure c.args.made.now.items c.only_line.new.made.items c.args.numbers.now c.args.waiting.now.items c.in-Goto.is c.as_slice-in-Goto.ensures c.in_ok-handed-in-Goto.ensures c.in_ok-only_line-in-Goto.ensures

pub returns-in_ok-only_line-in-Goto-clause-work : goal.returns-in_ok-only_line-in-Goto-clause-work
returns-in_ok-only_line-in-Goto-clause-work c = some-size c.args.stmt.now (Clause-F.Goto c.in-Goto.j c.in-Goto.xs) _ _ (clause.rolls-Goto c.in-Goto.j c.in-Goto.xs ∙ sym c.in-Goto.is) refl refl

pub returns-in_ok-only_line-in-Give-clause-made : goal.returns-in_ok-only_line-in-Give-clause-made
returns-in_ok-only_line-in-Give-clause-made c = give-turn c.args.stmt.now c.in-Give.xs c.as_slice-in-Give.result.now c.in_ok-given-in-Give.given c.args.failure c.args.made.now.items c.only_line-in-Give.new.made.items c.args.numbers.now c.args.waiting.now.items c.in-Give.is c.as_slice-in-Give.ensures c.in_ok-given-in-Give.ensures c.in_ok-only_line-in-Give.ensures

pub returns-in_ok-only_line-in-Give-clause-work : goal.returns-in_ok-only_line-in-Give-clause-work
returns-in_ok-only_line-in-Give-clause-work c = some-size c.args.stmt.now (Clause-F.Give c.in-Give.xs) _ _ (clause.rolls-Give c.in-Give.xs ∙ sym c.in-Give.is) refl refl

pub returns-in_ok-only_line-in-Fail-clause-made : goal.returns-in_ok-only_line-in-Fail-clause-made
returns-in_ok-only_line-in-Fail-clause-made c = fail-turn c.args.stmt.now c.args.failure c.args.made.now.items c.only_line-in-Fail.new.made.items c.args.numbers.now c.args.waiting.now.items c.in-Fail.is c.in_ok-only_line-in-Fail.ensures

pub returns-in_ok-only_line-in-Fail-clause-work : goal.returns-in_ok-only_line-in-Fail-clause-work
returns-in_ok-only_line-in-Fail-clause-work c = some-size c.args.stmt.now Clause-F.Fail _ _ (clause.rolls-Fail ∙ sym c.in-Fail.is) refl refl
