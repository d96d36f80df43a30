use Rattle.std.proofs.Common.{arith}
use Rattle.rml_acts.proofs.Framed.{forgets}
use Rattle.rml_acts.proofs.frames.forget.Goals as goal

pub frame_cell-requires : goal.frame_cell-requires
frame_cell-requires c = (forgets c.args.state.now (omega (arith, c.bottom-bottom.ensures.frames)) c.requires.right).four

pub returns : goal.returns
returns c = let r = forgets c.args.state.now (omega (arith, c.bottom-bottom.ensures.frames)) c.requires.right in let does = r.does in cc
