use Rattle.std.proofs.Common.{◌≡◌, List, [], ◌∷◌, get_or, ap, subst, sym, ◌∙◌}
use Rattle.std.specs.Prelude.{pos}
use Rattle.rml_heap.specs.declared.cell.Cell.{Cell}
use Rattle.rml_builtin.specs.declared.row.Row.TheVariants.{StringList}
use Rattle.rml_prims.specs.Shapes.{IsText, OneText}
use Rattle.rml_prims.specs.Found.{Makes}
use Rattle.rml_prims.proofs.making.string_list.Goals as goal

pub text_of-text-requires : goal.text_of-text-requires
text_of-text-requires c =
    let t : OneText c.args.heap.now.values c.args.inputs.now = c.requires in
    let first : t.c ≡ get_or c.args.inputs.now 0 (record { kind = 0; number = pos 0 }) = sym (ap (λ (cs : List Cell). get_or cs 0 (record { kind = 0; number = pos 0 })) t.is) in
    let P : Cell → Type 0 = λ x. IsText c.args.heap.now.values x t.at t.size t.bytes in
    (t.at, t.size, t.bytes, subst P first t.text)

pub list_of_text-requires : goal.list_of_text-requires
list_of_text-requires c = (get_or c.args.inputs.now 0 (record { kind = 0; number = pos 0 }), c.text_of-text.ensures.0, c.text_of-text.ensures.1)

pub returns-clause-makes : goal.returns-clause-makes
returns-clause-makes c =
    let t : OneText c.args.heap.now.values c.args.inputs.now = c.requires in
    let x : Cell = get_or c.args.inputs.now 0 (record { kind = 0; number = pos 0 }) in
    let first : t.c ≡ x = sym (ap (λ (cs : List Cell). get_or cs 0 (record { kind = 0; number = pos 0 })) t.is) in
    let whole : c.args.inputs.now ≡ x ∷ [] = t.is ∙ ap (λ (d : Cell). d ∷ []) first in
    let P : List Cell → Type 0 = λ is. Makes StringList c.args.heap.now is c.list_of_text.new.heap c.list_of_text.result in
    subst P (sym whole) (c.list_of_text.ensures.makes x c.text_of-text.ensures.0 c.text_of-text.ensures.1)
