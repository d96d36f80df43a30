use Rattle.std.proofs.Common.{◌≡◌, List, [], ◌∷◌, get_or, ap, subst, sym, ◌∙◌}
use Rattle.std.specs.Prelude.{pos}
use Rattle.rml_heap.specs.declared.cell.Cell.{Cell}
use Rattle.rml_builtin.specs.declared.row.Row.TheVariants.{ListString}
use Rattle.rml_prims.specs.Shapes.{AreChars, OneSpelling}
use Rattle.rml_prims.specs.Found.{Makes}
use Rattle.rml_prims.proofs.PackedRows.{chars-makes, placed-grows}
use Rattle.rml_prims.proofs.making.list_string.Goals as goal

pub returns-clause-makes : goal.returns-clause-makes
returns-clause-makes c =
    let t : OneSpelling c.args.heap.now.values c.args.inputs.now = c.requires in
    let x : Cell = get_or c.args.inputs.now 0 (record { kind = 0; number = pos 0 }) in
    let first : t.c ≡ x = sym (ap (λ (cs : List Cell). get_or cs 0 (record { kind = 0; number = pos 0 })) t.is) in
    let whole : c.args.inputs.now ≡ x ∷ [] = t.is ∙ ap (λ (d : Cell). d ∷ []) first in
    let P : Cell → Type 0 = λ y. AreChars c.args.heap.now.values y t.bytes in
    let Q : List Cell → Type 0 = λ is. Makes ListString c.args.heap.now is c.text_of_list.new.heap c.text_of_list.result in
    let chars : AreChars c.args.heap.now.values x t.bytes = subst P first t.chars in
    subst Q (sym whole) (chars-makes c.args.heap.now c.text_of_list.new.heap x t.bytes c.text_of_list.result chars (c.text_of_list.ensures t.bytes chars))

pub returns-clause-grows : goal.returns-clause-grows
returns-clause-grows c =
    let t : OneSpelling c.args.heap.now.values c.args.inputs.now = c.requires in
    let P : Cell → Type 0 = λ y. AreChars c.args.heap.now.values y t.bytes in
    let first : t.c ≡ get_or c.args.inputs.now 0 (record { kind = 0; number = pos 0 }) = sym (ap (λ (cs : List Cell). get_or cs 0 (record { kind = 0; number = pos 0 })) t.is) in
    placed-grows c.args.heap.now c.text_of_list.new.heap t.bytes c.text_of_list.result (c.text_of_list.ensures t.bytes (subst P first t.chars))
