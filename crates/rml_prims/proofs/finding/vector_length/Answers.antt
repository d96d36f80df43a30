use Rattle.std.proofs.Common.{◌≡◌, List, [], ◌∷◌, Option, get_or, ap, subst, sym, ◌∙◌}
use Rattle.std.specs.Prelude.{pos}
use Rattle.rml_heap.specs.declared.cell.Cell.{Cell}
use Rattle.rml_builtin.specs.declared.row.Row.TheVariants.{VectorLength}
use Rattle.rml_prims.specs.Shapes.{OneVector}
use Rattle.rml_prims.specs.Found.{Finds}
use Rattle.rml_prims.proofs.VectorCells.{length-finds}
use Rattle.rml_prims.proofs.finding.vector_length.Goals as goal

pub returns : goal.returns
returns c =
    let t : OneVector c.args.heap.now.values c.args.inputs.now = c.requires in
    let cells : List Cell = c.args.heap.now.values in
    let x : Cell = get_or c.args.inputs.now 0 (record { kind = 0; number = pos 0 }) in
    let first : t.c ≡ x = sym (ap (λ (cs : List Cell). get_or cs 0 (record { kind = 0; number = pos 0 })) t.is) in
    let whole : c.args.inputs.now ≡ x ∷ [] = t.is ∙ ap (λ (d : Cell). d ∷ []) first in
    let G : List Cell → Type 0 = λ is. Finds VectorLength cells is c.length.result in
    let H : Option Cell → Type 0 = λ o. Finds VectorLength cells (x ∷ []) o in
    subst G (sym whole) (subst H (sym c.length.ensures) (length-finds cells x c.vector_of.result.at c.vector_of.result.size c.vector_of.ensures))
