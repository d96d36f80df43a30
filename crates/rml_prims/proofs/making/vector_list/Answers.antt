use Rattle.std.proofs.Common.{◌≡◌, List, [], ◌∷◌, get_or, ap, subst, sym, ◌∙◌}
use Rattle.std.specs.Prelude.{pos}
use Rattle.rml_heap.specs.declared.cell.Cell.{Cell}
use Rattle.rml_builtin.specs.declared.row.Row.TheVariants.{VectorList}
use Rattle.rml_prims.specs.Shapes.{OneVector}
use Rattle.rml_prims.specs.Found.{Makes}
use Rattle.rml_prims.proofs.making.vector_list.Goals as goal

pub returns-clause-makes : goal.returns-clause-makes
returns-clause-makes c =
    let t : OneVector c.args.heap.now.values c.args.inputs.now = c.requires in
    let x : Cell = get_or c.args.inputs.now 0 (record { kind = 0; number = pos 0 }) in
    let first : t.c ≡ x = sym (ap (λ (cs : List Cell). get_or cs 0 (record { kind = 0; number = pos 0 })) t.is) in
    let whole : c.args.inputs.now ≡ x ∷ [] = t.is ∙ ap (λ (d : Cell). d ∷ []) first in
    let P : List Cell → Type 0 = λ is. Makes VectorList c.args.heap.now is c.list_of_vector.new.heap c.list_of_vector.result in
    subst P (sym whole) (c.list_of_vector.ensures.makes x c.vector_of-vector.ensures)
