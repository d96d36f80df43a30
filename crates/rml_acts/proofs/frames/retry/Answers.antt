use Rattle.std.proofs.Common.{length, ap, sym, ◌∙◌, arith, subst}
use Rattle.rml_heap.specs.declared.cell.Cell.{Cell}
use Rattle.rml_heap.specs.HeapState.{HeapState}
use Rattle.rml_heap.specs.Form.{address}
use Rattle.rml_trail.specs.TrailState.{Fits}
use Rattle.rml_acts.proofs.Framed.{retries, undoes-frames, retried-as, retried-fits}
use Rattle.rml_acts.proofs.frames.retry.Goals as goal

pub frame_cell-requires : goal.frame_cell-requires
frame_cell-requires c = (retries c.args.rs.now c.args.state.now (omega (arith, c.bottom-bottom.ensures.frames)) c.requires.right).one

pub frame_cell-requires-2 : goal.frame_cell-requires-2
frame_cell-requires-2 c = (retries c.args.rs.now c.args.state.now (omega (arith, c.bottom-bottom.ensures.frames)) c.requires.right).two

pub frame_cell-requires-3 : goal.frame_cell-requires-3
frame_cell-requires-3 c = (retries c.args.rs.now c.args.state.now (omega (arith, c.bottom-bottom.ensures.frames)) c.requires.right).three

pub frame_cell-requires-4 : goal.frame_cell-requires-4
frame_cell-requires-4 c = (retries c.args.rs.now c.args.state.now (omega (arith, c.bottom-bottom.ensures.frames)) c.requires.right).four

pub undo_to-requires-clause-within : goal.undo_to-requires-clause-within
undo_to-requires-clause-within c = let r = (retries c.args.rs.now c.args.state.now (omega (arith, c.bottom-bottom.ensures.frames)) c.requires.right) in rw (c.address_of-mark.ensures ∙ ap (λ (d : Cell). address d.number) c.frame_cell.ensures) r.mark

pub reset-requires : goal.reset-requires
reset-requires c = let r = (retries c.args.rs.now c.args.state.now (omega (arith, c.bottom-bottom.ensures.frames)) c.requires.right) in let top = c.address_of-top.ensures ∙ ap (λ (d : Cell). address d.number) c.frame_cell-2.ensures in omega (arith, r.top, top, c.undo_to.ensures.used)

pub overflow_add-at : goal.overflow_add-at
overflow_add-at c = let r = (retries c.args.rs.now c.args.state.now (omega (arith, c.bottom-bottom.ensures.frames)) c.requires.right) in omega (arith, r.high, c.used-used.ensures.limit)

pub load-requires-clause-low : goal.load-requires-clause-low
load-requires-clause-low c =
    let r = (retries c.args.rs.now c.args.state.now (omega (arith, c.bottom-bottom.ensures.frames)) c.requires.right) in
    let same = undoes-frames c.args.state.now c.address_of-mark.result c.address_of-top.result c.undo_to.new.self c.undo_to.new.heap c.reset.new.self (record {
      mark_is = c.address_of-mark.ensures ∙ ap (λ (d : Cell). address d.number) c.frame_cell.ensures;
      top_is = c.address_of-top.ensures ∙ ap (λ (d : Cell). address d.number) c.frame_cell-2.ensures;
      trail_is = c.undo_to.ensures.trail;
      undone_is = c.undo_to.ensures.heap;
      reset_is = c.reset.ensures;
    }) in
    omega (arith, r.low, ap length same.0, same.1)

pub load-requires-clause-high : goal.load-requires-clause-high
load-requires-clause-high c =
    let r = (retries c.args.rs.now c.args.state.now (omega (arith, c.bottom-bottom.ensures.frames)) c.requires.right) in
    let same = undoes-frames c.args.state.now c.address_of-mark.result c.address_of-top.result c.undo_to.new.self c.undo_to.new.heap c.reset.new.self (record {
      mark_is = c.address_of-mark.ensures ∙ ap (λ (d : Cell). address d.number) c.frame_cell.ensures;
      top_is = c.address_of-top.ensures ∙ ap (λ (d : Cell). address d.number) c.frame_cell-2.ensures;
      trail_is = c.undo_to.ensures.trail;
      undone_is = c.undo_to.ensures.heap;
      reset_is = c.reset.ensures;
    }) in
    omega (arith, r.high, same.1)

pub overflow_add-at-2 : goal.overflow_add-at-2
overflow_add-at-2 c = let r = (retries c.args.rs.now c.args.state.now (omega (arith, c.bottom-bottom.ensures.frames)) c.requires.right) in omega (arith, r.high, c.used-used.ensures.limit)

pub overflow_cast-rs : goal.overflow_cast-rs
overflow_cast-rs c = let r = (retries c.args.rs.now c.args.state.now (omega (arith, c.bottom-bottom.ensures.frames)) c.requires.right) in omega (arith, r.high, c.used-used.ensures.limit)

pub overflow_add-at-3 : goal.overflow_add-at-3
overflow_add-at-3 c = let r = (retries c.args.rs.now c.args.state.now (omega (arith, c.bottom-bottom.ensures.frames)) c.requires.right) in omega (arith, r.high, c.used-used.ensures.limit)

pub cut-requires-clause-low : goal.cut-requires-clause-low
cut-requires-clause-low c =
    let r = (retries c.args.rs.now c.args.state.now (omega (arith, c.bottom-bottom.ensures.frames)) c.requires.right) in
    let same = undoes-frames c.args.state.now c.address_of-mark.result c.address_of-top.result c.undo_to.new.self c.undo_to.new.heap c.reset.new.self (record {
      mark_is = c.address_of-mark.ensures ∙ ap (λ (d : Cell). address d.number) c.frame_cell.ensures;
      top_is = c.address_of-top.ensures ∙ ap (λ (d : Cell). address d.number) c.frame_cell-2.ensures;
      trail_is = c.undo_to.ensures.trail;
      undone_is = c.undo_to.ensures.heap;
      reset_is = c.reset.ensures;
    }) in
    omega (arith, r.low, ap length same.0, same.1)

pub cut-requires-clause-high : goal.cut-requires-clause-high
cut-requires-clause-high c =
    let r = (retries c.args.rs.now c.args.state.now (omega (arith, c.bottom-bottom.ensures.frames)) c.requires.right) in
    let same = undoes-frames c.args.state.now c.address_of-mark.result c.address_of-top.result c.undo_to.new.self c.undo_to.new.heap c.reset.new.self (record {
      mark_is = c.address_of-mark.ensures ∙ ap (λ (d : Cell). address d.number) c.frame_cell.ensures;
      top_is = c.address_of-top.ensures ∙ ap (λ (d : Cell). address d.number) c.frame_cell-2.ensures;
      trail_is = c.undo_to.ensures.trail;
      undone_is = c.undo_to.ensures.heap;
      reset_is = c.reset.ensures;
    }) in
    omega (arith, r.high, same.1)

pub returns-clause-did : goal.returns-clause-did
returns-clause-did c =
    retried-as c.args.rs.now c.args.state.now c.address_of-mark.result c.address_of-top.result c.undo_to.new.self c.undo_to.new.heap c.reset.new.self _ _ _ _ (retries c.args.rs.now c.args.state.now (omega (arith, c.bottom-bottom.ensures.frames)) c.requires.right) (record {
      mark_is = c.address_of-mark.ensures ∙ ap (λ (d : Cell). address d.number) c.frame_cell.ensures;
      top_is = c.address_of-top.ensures ∙ ap (λ (d : Cell). address d.number) c.frame_cell-2.ensures;
      trail_is = c.undo_to.ensures.trail;
      undone_is = c.undo_to.ensures.heap;
      reset_is = c.reset.ensures;
    }) c.load.ensures c.cut.ensures.cut
    (c.address_of-success.ensures ∙ ap (λ (d : Cell). address d.number) c.frame_cell-3.ensures) (c.address_of-failure.ensures ∙ ap (λ (d : Cell). address d.number) c.frame_cell-4.ensures)

pub returns-clause-fits : goal.returns-clause-fits
returns-clause-fits c =
    let P : HeapState → Type 0 = λ h. Fits c.undo_to.new.self h in
    subst P (sym c.cut.ensures.cut) (retried-fits c.args.rs.now c.args.state.now c.address_of-mark.result c.address_of-top.result c.undo_to.new.self c.undo_to.new.heap c.reset.new.self _ (retries c.args.rs.now c.args.state.now (omega (arith, c.bottom-bottom.ensures.frames)) c.requires.right) (record {
      mark_is = c.address_of-mark.ensures ∙ ap (λ (d : Cell). address d.number) c.frame_cell.ensures;
      top_is = c.address_of-top.ensures ∙ ap (λ (d : Cell). address d.number) c.frame_cell-2.ensures;
      trail_is = c.undo_to.ensures.trail;
      undone_is = c.undo_to.ensures.heap;
      reset_is = c.reset.ensures;
    }) c.undo_to.ensures.fits)
