use Rattle.std.proofs.Common.{ap, ◌∙◌, arith}
use Rattle.rml_heap.specs.declared.cell.Cell.{Cell}
use Rattle.rml_heap.specs.Form.{address}
use Rattle.rml_acts.proofs.Framed.{resumes, resumed-as}
use Rattle.rml_acts.proofs.frames.resume.Goals as goal

pub frame_cell-requires : goal.frame_cell-requires
frame_cell-requires c = (resumes c.args.rs.now c.args.state.now (omega (arith, c.bottom-bottom.ensures.frames)) c.requires.right).one

pub frame_cell-requires-2 : goal.frame_cell-requires-2
frame_cell-requires-2 c = (resumes c.args.rs.now c.args.state.now (omega (arith, c.bottom-bottom.ensures.frames)) c.requires.right).two

pub overflow_add-at : goal.overflow_add-at
overflow_add-at c = let r = resumes c.args.rs.now c.args.state.now (omega (arith, c.bottom-bottom.ensures.frames)) c.requires.right in omega (arith, r.high, c.used-used.ensures.limit)

pub load-requires-clause-low : goal.load-requires-clause-low
load-requires-clause-low c = (resumes c.args.rs.now c.args.state.now (omega (arith, c.bottom-bottom.ensures.frames)) c.requires.right).low

pub load-requires-clause-high : goal.load-requires-clause-high
load-requires-clause-high c = (resumes c.args.rs.now c.args.state.now (omega (arith, c.bottom-bottom.ensures.frames)) c.requires.right).high

pub overflow_add-at-2 : goal.overflow_add-at-2
overflow_add-at-2 c = let r = resumes c.args.rs.now c.args.state.now (omega (arith, c.bottom-bottom.ensures.frames)) c.requires.right in omega (arith, r.high, c.used-used.ensures.limit)

pub overflow_cast-rs : goal.overflow_cast-rs
overflow_cast-rs c = let r = resumes c.args.rs.now c.args.state.now (omega (arith, c.bottom-bottom.ensures.frames)) c.requires.right in omega (arith, r.high, c.used-used.ensures.limit)

pub overflow_add-at-3 : goal.overflow_add-at-3
overflow_add-at-3 c = let r = resumes c.args.rs.now c.args.state.now (omega (arith, c.bottom-bottom.ensures.frames)) c.requires.right in omega (arith, r.high, c.used-used.ensures.limit)

pub cut-requires-clause-high : goal.cut-requires-clause-high
cut-requires-clause-high c = let r = resumes c.args.rs.now c.args.state.now (omega (arith, c.bottom-bottom.ensures.frames)) c.requires.right in omega (arith, r.high)

pub returns : goal.returns
returns c =
    resumed-as c.args.rs.now c.args.state.now _ _ _ _ (resumes c.args.rs.now c.args.state.now (omega (arith, c.bottom-bottom.ensures.frames)) c.requires.right) c.load.ensures c.cut.ensures.cut
    (c.address_of-success.ensures ∙ ap (λ (d : Cell). address d.number) c.frame_cell.ensures) (c.address_of-failure.ensures ∙ ap (λ (d : Cell). address d.number) c.frame_cell-2.ensures)
