use Rattle.std.proofs.Common.{arith}
use Rattle.std.proofs.lemmas.Result.{err_from_is_err_and}
use Rattle.rml_stages.specs.Reading.{IsRefused}
use Rattle.rml_stages.proofs.Causes.{moved}
use Rattle.rml_stages.proofs.Turns.{names-more, one-more, small, stops-here}
use Rattle.rml_stages.proofs.read.read_all.Goals as goal

pub returns-in_err-text-clause-answer : goal.returns-in_err-text-clause-answer
returns-in_err-text-clause-answer c =
    let p = err_from_is_err_and c.from_residual.result c.from_residual.ensures.1 in
    rw p.1 (λ some. stops-here c.args.sources.now c.loop-number.number c.index-sources-number.result c.loop-number-test.true c.index-sources-number.is
    c.args.names.now c.loop-number.names c.loop-number.texts.items p.0 c.loop-number.invariant.read
    (moved (λ r. IsRefused c.loop-number.number c.index-sources-number.result.bytes c.loop-number.names r) p.0 c.in_err-text.field-0.0 p.2 (rw c.as_slice.ensures at c.in_err-text.ensures.answer) some))

pub returns-in_err-push-clause-names : goal.returns-in_err-push-clause-names
returns-in_err-push-clause-names c =
    names-more c.loop-number.number _ _ c.args.names.now c.loop-number.names c.read_text.new.names c.loop-number.invariant.names (rw c.as_slice.ensures at c.in_ok-text.ensures.names)
    (small c.args.sources.now c.loop-number.number c.index-sources-number.result c.loop-number-test.true c.index-sources-number.is c.requires.size) c.loop-number-test.true

pub loop-number-preserved : goal.loop-number-preserved
loop-number-preserved c = record {
  read = rw c.in_ok-push.ensures.items (one-more c.args.sources.now c.loop-number.number c.index-sources-number.result c.loop-number-test.true c.index-sources-number.is
      c.args.names.now c.loop-number.names c.read_text.new.names c.loop-number.texts.items c.in_ok-text.text c.loop-number.invariant.read (rw c.as_slice.ensures at c.in_ok-text.ensures.answer));
  names = names-more c.loop-number.number _ _ c.args.names.now c.loop-number.names c.read_text.new.names c.loop-number.invariant.names (rw c.as_slice.ensures at c.in_ok-text.ensures.names)
      (small c.args.sources.now c.loop-number.number c.index-sources-number.result c.loop-number-test.true c.index-sources-number.is c.requires.size) (omega arith);
}
