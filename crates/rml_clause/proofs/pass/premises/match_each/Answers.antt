use Rattle.std.proofs.Common.{◌-◌, arith}
use Rattle.rml_clause.specs.Plain.{AreMatched}
use Rattle.rml_clause.specs.Within.{pattern_within}
use Rattle.rml_clause.proofs.Adding.{adds-nothing}
use Rattle.rml_clause.proofs.Rows.{every-at}
use Rattle.rml_clause.proofs.MadePremises.{matched-more}
use Rattle.rml_clause.proofs.pass.premises.match_each.Goals as goal

pub loop-one-init : goal.loop-one-init
loop-one-init c = record { variable = omega arith; added = adds-nothing c.args.making.now 0 AreMatched.none }

pub pattern-requires : goal.pattern-requires
pattern-requires c =
    every-at (pattern_within (4294967296 - c.args.params)) c.args.patterns.now c.loop-one.one-index c.one-item.result c.one-item.result c.loop-one-test.true c.one-item.is c.requires.within

pub loop-one-preserved : goal.loop-one-preserved
loop-one-preserved c = record {
  variable = omega (arith, c.loop-one.invariant.variable);
  added =
      matched-more c.args.names.now c.args.params c.args.making.now c.loop-one.making c.add.new.self c.args.patterns.now c.loop-one.one-index c.one-item.result c.one-item.result
      c.loop-one.variable c.args.first c.in_ok-matched.matched c.loop-one-test.true c.one-item.is c.loop-one.invariant.added c.in_ok-matched.ensures c.loop-one.invariant.variable
      c.in_ok-add.ensures.stmts c.in_ok-add.ensures.next;
}
