use Rattle.std.proofs.Common.{arith}
use Rattle.std.proofs.lemmas.Result.{err_from_is_err_and}
use Rattle.rml_io.proofs.Fronts.{wrote_more, wrote_front, wrote_no_more}
use Rattle.rml_io.proofs.sink.write_whole.Goals as goal

pub returns-in_err-count-clause-err : goal.returns-in_err-count-clause-err
returns-in_err-count-clause-err g c =
    let p = err_from_is_err_and c.from_residual.result c.from_residual.ensures.1 in
    rw p.1 (wrote_front _ _ _ _ _ c.loop-rest.invariant.wrote c.in_err-count.ensures.err)

pub returns-in-0-clause-err : goal.returns-in-0-clause-err
returns-in-0-clause-err g c =
    wrote_no_more _ _ _ _ _ c.loop-rest.invariant.wrote (rw c.in-0.is at c.in_ok-count.ensures.ok)

pub loop-rest-preserved : goal.loop-rest-preserved
loop-rest-preserved g c = record {
  wrote = wrote_more _ _ _ _ _ _ c.loop-rest.invariant.wrote c.in_ok-count.ensures.ok;
  later = omega (arith, c.loop-rest.invariant.later, c.write.ensures.cause.later);
}
