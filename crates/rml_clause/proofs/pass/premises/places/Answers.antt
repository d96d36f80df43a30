use Rattle.std.proofs.Common.{◌-◌, ℕ, List, [], sym, subst}
use Rattle.rml_clause.specs.Plain.{AreIn}
use Rattle.rml_clause.specs.Within.{expression_within}
use Rattle.rml_clause.specs.Added.{Adds}
use Rattle.rml_clause.proofs.Adding.{adds-nothing}
use Rattle.rml_clause.proofs.Rows.{every-at}
use Rattle.rml_clause.proofs.MadePremises.{placed-more}
use Rattle.rml_clause.proofs.pass.premises.places.Goals as goal

pub loop-exp-init : goal.loop-exp-init
loop-exp-init c =
    subst (λ (ys : List ℕ). Adds c.args.making.now c.args.making.now 0 (AreIn c.args.names.now c.args.params [] ys)) (sym c.new-variables.ensures)
    (adds-nothing c.args.making.now 0 AreIn.none)

pub place-requires-clause-within : goal.place-requires-clause-within
place-requires-clause-within c =
    every-at (expression_within (4294967296 - c.args.params)) c.args.exps.now c.loop-exp.exp-index c.exp-item.result c.exp-item.result c.loop-exp-test.true c.exp-item.is c.requires.within

pub loop-exp-preserved : goal.loop-exp-preserved
loop-exp-preserved c =
    placed-more c.args.names.now c.args.params c.args.making.now c.loop-exp.making c.place.new.making c.args.exps.now c.loop-exp.exp-index c.exp-item.result c.exp-item.result
    c.loop-exp.variables c.push.new.self c.in_ok-variable.variable c.loop-exp-test.true c.exp-item.is c.loop-exp.invariant c.in_ok-variable.ensures c.in_ok-push.ensures.ok
