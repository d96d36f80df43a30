use Rattle.std.proofs.Common.{ap, sym, subst, ◌∙◌, List}
use Rattle.std.specs.Prelude.{Option, IsSomeAnd}
use Rattle.rml_builtin.specs.declared.row.Row.{Row}
use Rattle.rml_heap.specs.declared.cell.Cell.{Cell}
use Rattle.rml_prims.specs.Exact as exact
use Rattle.rml_prims.specs.Exact.{CanRun}
use Rattle.rml_prims.specs.declared.run.PrimEnd.TheVariants as prim
use Rattle.rml_code.specs.declared.instructions.Instr.TheVariants as instr
use Rattle.rml_code.specs.declared.state.State.{State}
use Rattle.rml_code.specs.Stretch.{Stretch}
use Rattle.rml_code.specs.Effects.{effect, otherwise}
use Rattle.rml_acts.specs.Did.{IsRight}
use Rattle.rml_acts.proofs.Looked.{otherwise-stays}
use Rattle.rml_acts.proofs.Rows.{runs-on, can-run, did, fine-row, moved}
use Rattle.rml_acts.proofs.built_in.run_at.Goals as goal

pub prim-requires-clause-row : goal.prim-requires-clause-row
prim-requires-clause-row c =
    let s : State = c.args.state.now in
    let r = runs-on c.args.number c.args.rs.now c.args.ys.now c.args.otherwise c.args.state.now c.requires.right in
    let fine = fine-row c.args.number _ _ r.row r.there c.requires.row in
    let P : Option Row → Type 0 = λ o. IsSomeAnd o (λ (row : Row). CanRun row s.heap.values c.gather.new.places c.args.outputs.now) in
    let Q : List Cell → Type 0 = λ places. CanRun r.row s.heap.values places c.args.outputs.now in
    subst P (sym r.there) (subst Q (sym c.gather.ensures) (can-run c.args.number c.args.rs.now c.args.ys.now c.args.otherwise s c.args.outputs.now r fine.0 (c.requires.results ∙ sym fine.2)))

pub leave-requires : goal.leave-requires
leave-requires c =
    let s : State = c.args.state.now in
    let d = did c.args.number c.args.rs.now c.args.ys.now c.args.otherwise c.args.state.now c.gather.new.places c.args.outputs.now (record { heap = c.prim.new.heap; trail = c.prim.new.trail; outputs = c.prim.new.outputs }) prim.No (runs-on c.args.number c.args.rs.now c.args.ys.now c.args.otherwise c.args.state.now c.requires.right) c.gather.ensures c.in-No.ensures.exact in
    let P : exact.State → Type 0 = λ a. IsRight (otherwise c.args.otherwise (record s { heap = a.heap; trail = a.trail })) in
    record { right = subst P (sym d.1) (moved (effect (instr.Builtin c.args.number c.args.rs.now c.args.ys.now c.args.otherwise) s) (otherwise c.args.otherwise s) d.0 c.requires.right) }

pub returns-in-Done-clause-next : goal.returns-in-Done-clause-next
returns-in-Done-clause-next c =
    let d = did c.args.number c.args.rs.now c.args.ys.now c.args.otherwise c.args.state.now c.gather.new.places c.args.outputs.now (record { heap = c.prim.new.heap; trail = c.prim.new.trail; outputs = c.prim.new.outputs }) prim.Done (runs-on c.args.number c.args.rs.now c.args.ys.now c.args.otherwise c.args.state.now c.requires.right) c.gather.ensures c.in-Done.ensures.exact in
    sym d.next

pub returns-in-Done-clause-state : goal.returns-in-Done-clause-state
returns-in-Done-clause-state c =
    let s : State = c.args.state.now in
    let d = did c.args.number c.args.rs.now c.args.ys.now c.args.otherwise c.args.state.now c.gather.new.places c.args.outputs.now (record { heap = c.prim.new.heap; trail = c.prim.new.trail; outputs = c.prim.new.outputs }) prim.Done (runs-on c.args.number c.args.rs.now c.args.ys.now c.args.otherwise c.args.state.now c.requires.right) c.gather.ensures c.in-Done.ensures.exact in
    ap (λ (registers : List Cell). record s { registers = registers; heap = c.prim.new.heap; trail = c.prim.new.trail }) c.scatter.ensures ∙ sym d.state

pub returns-in-No-clause-next : goal.returns-in-No-clause-next
returns-in-No-clause-next c =
    let s : State = c.args.state.now in
    let d = did c.args.number c.args.rs.now c.args.ys.now c.args.otherwise c.args.state.now c.gather.new.places c.args.outputs.now (record { heap = c.prim.new.heap; trail = c.prim.new.trail; outputs = c.prim.new.outputs }) prim.No (runs-on c.args.number c.args.rs.now c.args.ys.now c.args.otherwise c.args.state.now c.requires.right) c.gather.ensures c.in-No.ensures.exact in
    c.leave.ensures ∙ ap (λ (a : exact.State). (otherwise c.args.otherwise (record s { heap = a.heap; trail = a.trail })).next) d.1 ∙ ap (λ (a : Stretch). a.next) (sym d.0)

pub returns-in-No-clause-state : goal.returns-in-No-clause-state
returns-in-No-clause-state c =
    let s : State = c.args.state.now in
    let d = did c.args.number c.args.rs.now c.args.ys.now c.args.otherwise c.args.state.now c.gather.new.places c.args.outputs.now (record { heap = c.prim.new.heap; trail = c.prim.new.trail; outputs = c.prim.new.outputs }) prim.No (runs-on c.args.number c.args.rs.now c.args.ys.now c.args.otherwise c.args.state.now c.requires.right) c.gather.ensures c.in-No.ensures.exact in
    ap (λ (a : exact.State). record s { heap = a.heap; trail = a.trail }) d.1 ∙ sym (otherwise-stays c.args.otherwise s) ∙ ap (λ (a : Stretch). a.state) (sym d.0)

pub returns-in-Full-clause-next : goal.returns-in-Full-clause-next
returns-in-Full-clause-next c =
    let d = did c.args.number c.args.rs.now c.args.ys.now c.args.otherwise c.args.state.now c.gather.new.places c.args.outputs.now (record { heap = c.prim.new.heap; trail = c.prim.new.trail; outputs = c.prim.new.outputs }) (prim.Full c.in-Full.used c.in-Full.need) (runs-on c.args.number c.args.rs.now c.args.ys.now c.args.otherwise c.args.state.now c.requires.right) c.gather.ensures c.in-Full.ensures.exact in
    ap (λ (a : Stretch). a.next) (sym d.0)

pub returns-in-Full-clause-state : goal.returns-in-Full-clause-state
returns-in-Full-clause-state c =
    let s : State = c.args.state.now in
    let d = did c.args.number c.args.rs.now c.args.ys.now c.args.otherwise c.args.state.now c.gather.new.places c.args.outputs.now (record { heap = c.prim.new.heap; trail = c.prim.new.trail; outputs = c.prim.new.outputs }) (prim.Full c.in-Full.used c.in-Full.need) (runs-on c.args.number c.args.rs.now c.args.ys.now c.args.otherwise c.args.state.now c.requires.right) c.gather.ensures c.in-Full.ensures.exact in
    ap (λ (a : exact.State). record s { heap = a.heap; trail = a.trail }) d.1 ∙ ap (λ (a : Stretch). a.state) (sym d.0)
