use Rattle.std.proofs.Common.{◌≡◌, Option, Some, None, get_or, ap, subst, sym, ◌∙◌, rules, ℤ}
use Rattle.std.specs.Prelude.{pos}
use Rattle.std.specs.Int.{w64}
use Rattle.std.specs.Option.{option_map}
use Rattle.std.proofs.lemmas.Int.{to_z-of_z}
use mir.Val.{to_z, of_z}
use Rattle.rml_heap.specs.declared.cell.Cell.{Cell}
use Rattle.rml_prims.specs.Shapes.{OneInt, int_cell}
use Rattle.rml_prims.specs.Calculated.{turned}
use Rattle.rml_prims.specs.Found.{Finds}
use Rattle.rml_prims.proofs.Calculations.{turn-finds, int-read}
use Rattle.rml_prims.proofs.finding.over_one_int.Goals as goal

pub returns-in-Some : goal.returns-in-Some
returns-in-Some c =
    let t : OneInt c.args.inputs.now = c.requires.inputs in
    let d : Cell = record { kind = 0; number = pos 0 } in
    let first : to_z w64 (of_z w64 (get_or c.args.inputs.now 0 d).number) ≡ t.n = to_z-of_z w64 (get_or c.args.inputs.now 0 d).number (search rules) ∙ int-read c.args.inputs.now t d in
    let value : Some c.in-Some.n ≡ turned c.args.row t.n = rw first at c.in-Some.ensures in
    let cell : c.int.result ≡ int_cell c.in-Some.n = rw (to_z-of_z w64 c.in-Some.n (search rules)) at c.int.ensures in
    λ cells.
    let F : Option Cell → Type 0 = λ o. Finds c.args.row cells c.args.inputs.now o in
    subst F (ap (option_map int_cell) (sym value) ∙ ap Some (sym cell)) (turn-finds c.args.row c.args.inputs.now c.requires.row t cells)

pub returns-in-None : goal.returns-in-None
returns-in-None c =
    let t : OneInt c.args.inputs.now = c.requires.inputs in
    let d : Cell = record { kind = 0; number = pos 0 } in
    let first : to_z w64 (of_z w64 (get_or c.args.inputs.now 0 d).number) ≡ t.n = to_z-of_z w64 (get_or c.args.inputs.now 0 d).number (search rules) ∙ int-read c.args.inputs.now t d in
    let none_is : Option ℤ = None in
    let value : none_is ≡ turned c.args.row t.n = rw first at c.in-None.ensures in
    λ cells.
    let F : Option Cell → Type 0 = λ o. Finds c.args.row cells c.args.inputs.now o in
    subst F (ap (option_map int_cell) (sym value)) (turn-finds c.args.row c.args.inputs.now c.requires.row t cells)
