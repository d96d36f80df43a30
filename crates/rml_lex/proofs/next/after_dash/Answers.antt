use Rattle.rml_lex.proofs.Firsts.{dashes-longest, dashless}
use Rattle.rml_lex.proofs.next.after_dash.Goals as goal

pub returns-then-first-eq45 : goal.returns-then-first-eq45
returns-then-first-eq45 c = dashes-longest c.args.bytes.now c.in_ok-first.first.now c.in_ok-first.more.now c.dashes_length.result c.in_ok-first.ensures.cases.0 c.if-first-eq45.true c.dashes_length.ensures

pub returns : goal.returns
returns c = dashless c.args.bytes.now c.in_ok-first.first.now c.in_ok-first.more.now _ c.in_ok-first.ensures.cases.0 c.if-first-eq45.false c.number_at.ensures
