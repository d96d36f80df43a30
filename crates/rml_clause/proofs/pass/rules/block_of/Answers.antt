use Rattle.std.proofs.Common.{List, length, subst}
use Rattle.std.specs.Prelude.{sum_by}
use Rattle.rml_resolved.specs.declared.trees.RPat.{RPat}
use Rattle.rml_resolved.specs.declared.trees.RExp.{RExp}
use Rattle.rml_resolved.specs.declared.trees.RGoal.{RGoal}
use Rattle.rml_resolved.specs.Size.{exp_size, goal_size}
use Rattle.rml_clause.specs.Plain.{numbers_from, AreIn, AreMatched, ArePremises}
use Rattle.rml_clause.specs.Added.{Adds}
use Rattle.rml_clause.proofs.Blocks.{block-made}
use Rattle.rml_clause.proofs.pass.rules.block_of.Goals as goal

pub returns : goal.returns
returns c =
    block-made c.args.names.now c.args.params c.args.rule.now c.new-making.result c.match_each.new.making c.premises.new.making c.places.new.making c.add.new.self c.in_ok-results.results
    c.requires.counted c.new-making.ensures.stmts c.new-making.ensures.next
    (subst (λ (ps : List RPat). Adds c.new-making.result c.match_each.new.making 0 (AreMatched c.args.names.now c.args.params ps (numbers_from 0 (length ps)))) c.as_slice.ensures c.in_ok-match_each.ensures)
    (subst (λ (gs : List RGoal). Adds c.match_each.new.making c.premises.new.making (sum_by goal_size gs) (ArePremises c.args.names.now c.args.params gs)) c.as_slice-2.ensures c.in_ok-premises.ensures)
    (subst (λ (es : List RExp). Adds c.premises.new.making c.places.new.making (sum_by exp_size es) (AreIn c.args.names.now c.args.params es c.in_ok-results.results)) c.as_slice-3.ensures c.in_ok-results.ensures)
    c.in_ok-add.ensures.stmts c.in_ok-add.ensures.next
