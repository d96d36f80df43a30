use Rattle.std.proofs.Common.{◌≡◌, Option, Some, get_or, ap, subst, sym, ◌∙◌, rules}
use Rattle.std.specs.Prelude.{pos}
use Rattle.std.specs.Int.{w64}
use Rattle.std.proofs.lemmas.Int.{to_z-of_z}
use mir.Val.{to_z, of_z}
use Rattle.rml_heap.specs.declared.cell.Cell.{Cell}
use Rattle.rml_builtin.specs.declared.row.Row.TheVariants.{CharInt}
use Rattle.rml_prims.specs.Shapes.{OneChar, int_cell}
use Rattle.rml_prims.specs.Found.{Finds}
use Rattle.rml_prims.proofs.Calculations.{code-finds, char-read}
use Rattle.rml_prims.proofs.finding.code.Goals as goal

pub returns : goal.returns
returns c =
    let t : OneChar c.args.inputs.now = c.requires in
    let d : Cell = record { kind = 0; number = pos 0 } in
    let first : to_z w64 (of_z w64 (get_or c.args.inputs.now 0 d).number) ≡ pos t.c = to_z-of_z w64 (get_or c.args.inputs.now 0 d).number (search rules) ∙ char-read c.args.inputs.now t d in
    let cell : c.int.result ≡ int_cell (pos t.c) = rw first at c.int.ensures in
    λ cells.
    let F : Option Cell → Type 0 = λ o. Finds CharInt cells c.args.inputs.now o in
    subst F (ap Some (sym cell)) (code-finds c.args.inputs.now t cells)
