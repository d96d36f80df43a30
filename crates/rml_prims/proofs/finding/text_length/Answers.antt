use Rattle.std.proofs.Common.{◌≡◌, List, [], ◌∷◌, Option, get_or, ap, subst, sym, ◌∙◌}
use Rattle.std.specs.Prelude.{pos}
use Rattle.rml_heap.specs.declared.cell.Cell.{Cell}
use Rattle.rml_builtin.specs.declared.row.Row.TheVariants.{StringLength}
use Rattle.rml_prims.specs.Shapes.{IsText, OneText}
use Rattle.rml_prims.specs.Found.{Finds}
use Rattle.rml_prims.proofs.TextCells.{text_length-finds}
use Rattle.rml_prims.proofs.finding.text_length.Goals as goal

pub text_of-requires : goal.text_of-requires
text_of-requires c =
    let t : OneText c.args.heap.now.values c.args.inputs.now = c.requires in
    let first : t.c ≡ get_or c.args.inputs.now 0 (record { kind = 0; number = pos 0 }) = sym (ap (λ (cs : List Cell). get_or cs 0 (record { kind = 0; number = pos 0 })) t.is) in
    let P : Cell → Type 0 = λ x. IsText c.args.heap.now.values x t.at t.size t.bytes in
    (t.at, t.size, t.bytes, subst P first t.text)

pub returns : goal.returns
returns c =
    let t : OneText c.args.heap.now.values c.args.inputs.now = c.requires in
    let cells : List Cell = c.args.heap.now.values in
    let x : Cell = get_or c.args.inputs.now 0 (record { kind = 0; number = pos 0 }) in
    let first : t.c ≡ x = sym (ap (λ (cs : List Cell). get_or cs 0 (record { kind = 0; number = pos 0 })) t.is) in
    let whole : c.args.inputs.now ≡ x ∷ [] = t.is ∙ ap (λ (d : Cell). d ∷ []) first in
    let G : List Cell → Type 0 = λ is. Finds StringLength cells is c.length.result in
    let H : Option Cell → Type 0 = λ o. Finds StringLength cells (x ∷ []) o in
    subst G (sym whole) (subst H (sym c.length.ensures) (text_length-finds cells x c.text_of.result.at c.text_of.result.size c.text_of.ensures.0 c.text_of.ensures.1))
