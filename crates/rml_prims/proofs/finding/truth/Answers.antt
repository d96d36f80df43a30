use Rattle.std.proofs.Common.{◌≡◌, Option, Some, get_or, ap, subst, sym, ◌∙◌, rules}
use Rattle.std.specs.Prelude.{pos}
use Rattle.std.specs.Int.{w64}
use Rattle.std.proofs.lemmas.Int.{to_z-of_z}
use mir.Val.{to_z, of_z}
use Rattle.rml_heap.specs.declared.cell.Cell.{Cell}
use Rattle.std.specs.Prelude.{if◌then◌else◌}
use Rattle.rml_value.specs.declared.value.TheConstants.{FALSE, TRUE}
use Rattle.rml_prims.specs.Shapes.{TwoInts, con_cell}
use Rattle.rml_prims.specs.Calculated.{compared}
use Rattle.rml_prims.specs.Found.{Finds}
use Rattle.rml_prims.proofs.Calculations.{comparison-finds, ints-read}
use Rattle.rml_prims.proofs.finding.truth.Goals as goal

pub returns : goal.returns
returns c =
    let t : TwoInts c.args.inputs.now = c.requires.inputs in
    let d : Cell = record { kind = 0; number = pos 0 } in
    let reads = ints-read c.args.inputs.now t d in
    let first : to_z w64 (of_z w64 (get_or c.args.inputs.now 0 d).number) ≡ t.m = to_z-of_z w64 (get_or c.args.inputs.now 0 d).number (search rules) ∙ reads.0 in
    let second : to_z w64 (of_z w64 (get_or c.args.inputs.now 1 d).number) ≡ t.n = to_z-of_z w64 (get_or c.args.inputs.now 1 d).number (search rules) ∙ reads.1 in
    let holds : c.compared-holds.result ≡ compared c.args.row t.m t.n = rw (first, second) at c.compared-holds.ensures in
    let cell : c.truth_of.result ≡ con_cell (if compared c.args.row t.m t.n then TRUE else FALSE) = c.truth_of.ensures ∙ ap (λ b. con_cell (if b then TRUE else FALSE)) holds in
    λ cells.
    let F : Option Cell → Type 0 = λ o. Finds c.args.row cells c.args.inputs.now o in
    subst F (ap Some (sym cell)) (comparison-finds c.args.row c.args.inputs.now c.requires.row t cells)
