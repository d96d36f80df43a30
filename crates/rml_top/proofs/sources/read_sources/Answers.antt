use Rattle.std.proofs.Common.{◌<◌, length, refl, sym}
use Rattle.rml_top.specs.Names.{names_in}
use Rattle.rml_top.proofs.Turns.{read-next, stops, stops-late}
use Rattle.rml_top.proofs.sources.read_sources.Goals as goal

pub returns-in-Err-clause-stopped : goal.returns-in-Err-clause-stopped
returns-in-Err-clause-stopped g c = let n = c.name.ensures in let s = rw n at c.in-Err.ensures.stopped in let t : c.loop-k.k < length (names_in c.args.names.now) = rw (sym c.len-k-end.ensures) c.loop-k-test.true in
    stops (names_in c.args.names.now) c.loop-k.k c.loop-k.bytes c.loop-k.k _ _ _ c.loop-k.sources.items c.in-Err.why t refl c.loop-k.invariant s

pub returns-in_err-push-clause-stopped : goal.returns-in_err-push-clause-stopped
returns-in_err-push-clause-stopped g c = let n = c.name.ensures in let s = rw n at c.in-Ok.ensures.next in let t : c.loop-k.k < length (names_in c.args.names.now) = rw (sym c.len-k-end.ensures) c.loop-k-test.true in
    stops-late (names_in c.args.names.now) c.loop-k.k c.loop-k.bytes _ _ _ c.loop-k.sources.items c.in-Ok.source _ t c.loop-k.invariant s c.from_residual.ensures.1

pub loop-k-preserved : goal.loop-k-preserved
loop-k-preserved g c = let n = c.name.ensures in let s = rw n at c.in-Ok.ensures.next in let t : c.loop-k.k < length (names_in c.args.names.now) = rw (sym c.len-k-end.ensures) c.loop-k-test.true in
    rw (c.as_slice.ensures, c.in_ok-push.ensures.items)
    (read-next (names_in c.args.names.now) c.loop-k.k c.loop-k.bytes _ _ _ c.loop-k.sources.items c.in-Ok.source t c.loop-k.invariant s c.in-Ok.ensures.held c.in-Ok.ensures.later)
