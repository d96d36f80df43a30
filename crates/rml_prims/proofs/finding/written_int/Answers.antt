use Rattle.std.proofs.Common.{◌≡◌, ℕ, List, [], ◌∷◌, Option, Some, None, get_or, ap, subst, sym, ◌∙◌, rules}
use Rattle.std.specs.Prelude.{ℤ, pos}
use Rattle.std.specs.Int.{w64}
use Rattle.std.specs.Option.{option_map}
use Rattle.std.proofs.lemmas.Int.{to_z-of_z}
use Rattle.rml_heap.specs.declared.cell.Cell.{Cell}
use Rattle.rml_builtin.specs.declared.row.Row.TheVariants.{StringInt}
use Rattle.rml_builtin.specs.Decimal.{read}
use Rattle.rml_prims.specs.Shapes.{IsText, OneText, int_cell}
use Rattle.rml_prims.specs.Found.{Finds}
use Rattle.rml_prims.proofs.TextCells.{int-finds}
use Rattle.rml_prims.proofs.finding.written_int.Goals as goal

pub text_of-requires : goal.text_of-requires
text_of-requires c =
    let t : OneText c.args.heap.now.values c.args.inputs.now = c.requires in
    let first : t.c ≡ get_or c.args.inputs.now 0 (record { kind = 0; number = pos 0 }) = sym (ap (λ (cs : List Cell). get_or cs 0 (record { kind = 0; number = pos 0 })) t.is) in
    let P : Cell → Type 0 = λ x. IsText c.args.heap.now.values x t.at t.size t.bytes in
    (t.at, t.size, t.bytes, subst P first t.text)

pub returns-in-Some : goal.returns-in-Some
returns-in-Some c =
    let t : OneText c.args.heap.now.values c.args.inputs.now = c.requires in
    let cells : List Cell = c.args.heap.now.values in
    let x : Cell = get_or c.args.inputs.now 0 (record { kind = 0; number = pos 0 }) in
    let bytes : List ℕ = c.text_of.ensures.0 in
    let first : t.c ≡ x = sym (ap (λ (cs : List Cell). get_or cs 0 (record { kind = 0; number = pos 0 })) t.is) in
    let whole : c.args.inputs.now ≡ x ∷ [] = t.is ∙ ap (λ (d : Cell). d ∷ []) first in
    let value : read bytes ≡ Some c.in-Some.n = sym (c.read_int.ensures x bytes c.text_of.ensures.1) ∙ c.in-Some.is in
    let found : option_map int_cell (read bytes) ≡ Some c.int.result = ap (option_map int_cell) value ∙ ap (λ (n : ℤ). Some (int_cell n)) (sym (to_z-of_z w64 c.in-Some.n (search rules))) ∙ ap Some (sym c.int.ensures) in
    let G : List Cell → Type 0 = λ is. Finds StringInt cells is (Some c.int.result) in
    let H : Option Cell → Type 0 = λ o. Finds StringInt cells (x ∷ []) o in
    subst G (sym whole) (subst H found (int-finds cells x c.text_of.result.at c.text_of.result.size bytes c.text_of.ensures.1))

pub returns-in-None : goal.returns-in-None
returns-in-None c =
    let t : OneText c.args.heap.now.values c.args.inputs.now = c.requires in
    let cells : List Cell = c.args.heap.now.values in
    let x : Cell = get_or c.args.inputs.now 0 (record { kind = 0; number = pos 0 }) in
    let bytes : List ℕ = c.text_of.ensures.0 in
    let first : t.c ≡ x = sym (ap (λ (cs : List Cell). get_or cs 0 (record { kind = 0; number = pos 0 })) t.is) in
    let whole : c.args.inputs.now ≡ x ∷ [] = t.is ∙ ap (λ (d : Cell). d ∷ []) first in
    let nothing : Option ℤ = None in
    let value : read bytes ≡ nothing = sym (c.read_int.ensures x bytes c.text_of.ensures.1) ∙ c.in-None.is in
    let found : option_map int_cell (read bytes) ≡ None = ap (option_map int_cell) value in
    let G : List Cell → Type 0 = λ is. Finds StringInt cells is None in
    let H : Option Cell → Type 0 = λ o. Finds StringInt cells (x ∷ []) o in
    subst G (sym whole) (subst H found (int-finds cells x c.text_of.result.at c.text_of.result.size bytes c.text_of.ensures.1))
