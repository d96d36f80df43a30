use Rattle.std.proofs.Common.{ap, arith}
use Rattle.rml_code.specs.Stretch.{Stretch}
use Rattle.rml_acts.proofs.Framed.{enters}
use Rattle.rml_acts.proofs.frames.enter.Goals as goal

pub frame_cell-requires : goal.frame_cell-requires
frame_cell-requires c = (enters c.args.at c.args.state.now (omega (arith, c.bottom-bottom.ensures.frames)) c.requires.right).here

pub returns : goal.returns
returns c = let r = enters c.args.at c.args.state.now (omega (arith, c.bottom-bottom.ensures.frames)) c.requires.right in let does = ap (λ (a : Stretch). a.next) r.does in cc
