use Rattle.std.proofs.Common.{◌≡◌, ◌<◌, ◌≤◌, ◌^◌, length, get_or, ap, arith}
use Rattle.std.specs.Prelude.{pos}
use Rattle.rml_heap.specs.declared.cell.Cell.{Cell}
use Rattle.rml_heap.specs.HeapState.{cells_used}
use Rattle.rml_prims.proofs.VariableRows.{SetRead, set-read, set-ends, refused-ends}
use Rattle.rml_prims.proofs.run.run_set.Goals as goal

pub bounds-inputs-0 : goal.bounds-inputs-0
bounds-inputs-0 c =
    let d : Cell = record { kind = 0; number = pos 0 } in
    let a : SetRead c.args.heap.now.values c.args.inputs.now d = set-read c.args.heap.now.values c.args.inputs.now d c.requires.runs.applies in
    let size : length c.args.inputs.now ≡ 2 = ap length a.is in
    omega (arith, size)

pub bounds-inputs-1 : goal.bounds-inputs-1
bounds-inputs-1 c =
    let d : Cell = record { kind = 0; number = pos 0 } in
    let a : SetRead c.args.heap.now.values c.args.inputs.now d = set-read c.args.heap.now.values c.args.inputs.now d c.requires.runs.applies in
    let size : length c.args.inputs.now ≡ 2 = ap length a.is in
    omega (arith, size)

pub set-requires-clause-lvar : goal.set-requires-clause-lvar
set-requires-clause-lvar c = (set-read c.args.heap.now.values c.args.inputs.now (record { kind = 0; number = pos 0 }) c.requires.runs.applies).variable

pub set-requires-clause-value : goal.set-requires-clause-value
set-requires-clause-value c = (set-read c.args.heap.now.values c.args.inputs.now (record { kind = 0; number = pos 0 }) c.requires.runs.applies).word

pub returns-then-set-clause-runs : goal.returns-then-set-clause-runs
returns-then-set-clause-runs c =
    let small : length c.args.heap.now.values < 2 ^ 32 = omega (arith, c.used-used.ensures.used, c.used-used.ensures.within, c.used-used.ensures.limit) in
    let within : cells_used c.args.heap.now ≤ c.args.heap.now.limit = omega (arith, c.used-used.ensures.used, c.used-used.ensures.within) in
    let d : Cell = record { kind = 0; number = pos 0 } in
    let a : SetRead c.args.heap.now.values c.args.inputs.now d = set-read c.args.heap.now.values c.args.inputs.now d c.requires.runs.applies in
    let yes = c.if-set.true in
    set-ends c.args.heap.now _ c.args.trail.now _ c.args.inputs.now c.args.outputs.now (get_or c.args.inputs.now 0 d) (get_or c.args.inputs.now 1 d) within small c.requires.runs.results a.variable a.is
    (c.set.ensures.unset.0 yes) (c.set.ensures.heap yes) (c.set.ensures.trail yes)

pub returns-else-set-clause-runs : goal.returns-else-set-clause-runs
returns-else-set-clause-runs c =
    let small : length c.args.heap.now.values < 2 ^ 32 = omega (arith, c.used-used.ensures.used, c.used-used.ensures.within, c.used-used.ensures.limit) in
    let within : cells_used c.args.heap.now ≤ c.args.heap.now.limit = omega (arith, c.used-used.ensures.used, c.used-used.ensures.within) in
    let d : Cell = record { kind = 0; number = pos 0 } in
    let a : SetRead c.args.heap.now.values c.args.inputs.now d = set-read c.args.heap.now.values c.args.inputs.now d c.requires.runs.applies in
    let no = c.if-set.false in
    let same = c.set.ensures.same no in
    refused-ends c.args.heap.now _ c.args.trail.now _ c.args.inputs.now c.args.outputs.now (get_or c.args.inputs.now 0 d) (get_or c.args.inputs.now 1 d) small a.variable a.is
    (λ e. let yes = c.set.ensures.unset.1 e in cc) same.0 same.1
