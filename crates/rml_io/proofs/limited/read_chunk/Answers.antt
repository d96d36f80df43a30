use Rattle.std.proofs.Common.{arith}
use Rattle.std.proofs.lemmas.Grind.{common_steps}
use Rattle.rml_io.proofs.Taken.{took_more}
use Rattle.rml_io.proofs.limited.read_chunk.Goals as goal

pub returns-clause-took : goal.returns-clause-took
returns-clause-took g c =
    λ start counted before was.
    took_more start _ _ c.args.bytes.now.items c.read.new.buf c.in-Ok.count _ counted _ _ before (omega (arith, was, c.args.bytes.now.ok.0))
    c.in-Ok.ensures.bytes.0 (omega (arith, c.in-Ok.ensures.bound)) (grind (arith, common_steps, c.in-Ok.ensures.bound, c.args.bytes.now.ok.0)) c.saturating_add.ensures
