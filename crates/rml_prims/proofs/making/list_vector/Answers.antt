use Rattle.std.proofs.Common.{◌≡◌, List, [], ◌∷◌, length, get_or, ap, subst, sym, ◌∙◌}
use Rattle.std.specs.Prelude.{pos}
use Rattle.rml_heap.specs.declared.cell.Cell.{Cell}
use Rattle.rml_builtin.specs.declared.row.Row.TheVariants.{ListVector}
use Rattle.rml_prims.specs.Shapes.{OneList, IsList}
use Rattle.rml_prims.specs.Found.{Makes}
use Rattle.rml_prims.proofs.making.list_vector.Goals as goal

pub vector_of_list-requires : goal.vector_of_list-requires
vector_of_list-requires c =
    let t : OneList c.args.heap.now.values c.args.inputs.now = c.requires in
    let first : t.c ≡ get_or c.args.inputs.now 0 (record { kind = 0; number = pos 0 }) = sym (ap (λ (cs : List Cell). get_or cs 0 (record { kind = 0; number = pos 0 })) t.is) in
    let P : Cell → Type 0 = λ x. IsList c.args.heap.now.values (length c.args.heap.now.values) x t.items in
    (t.items, subst P first t.list)

pub returns-clause-makes : goal.returns-clause-makes
returns-clause-makes c =
    let t : OneList c.args.heap.now.values c.args.inputs.now = c.requires in
    let x : Cell = get_or c.args.inputs.now 0 (record { kind = 0; number = pos 0 }) in
    let first : t.c ≡ x = sym (ap (λ (cs : List Cell). get_or cs 0 (record { kind = 0; number = pos 0 })) t.is) in
    let whole : c.args.inputs.now ≡ x ∷ [] = t.is ∙ ap (λ (d : Cell). d ∷ []) first in
    let P : Cell → Type 0 = λ y. IsList c.args.heap.now.values (length c.args.heap.now.values) y t.items in
    let Q : List Cell → Type 0 = λ is. Makes ListVector c.args.heap.now is c.vector_of_list.new.heap c.vector_of_list.result in
    subst Q (sym whole) (c.vector_of_list.ensures.makes t.items (subst P first t.list))
