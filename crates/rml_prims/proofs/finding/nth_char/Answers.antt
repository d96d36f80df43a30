use Rattle.std.proofs.Common.{◌≡◌, ℕ, List, [], ◌∷◌, Option, Some, None, get_or, ap, subst, sym, ◌∙◌, rules}
use Rattle.std.specs.Prelude.{pos}
use Rattle.std.specs.Int.{w64}
use Rattle.std.proofs.lemmas.Int.{to_z-of_z}
use mir.Val.{to_z, of_z}
use Rattle.std.specs.Option.{option_map}
use Rattle.rml_heap.specs.declared.cell.Cell.{Cell}
use Rattle.rml_builtin.specs.declared.row.Row.TheVariants.{StringNth}
use Rattle.rml_prims.specs.Shapes.{IsText, TextAndInt, char_cell, int_cell, index_in}
use Rattle.rml_prims.specs.Found.{Finds}
use Rattle.rml_prims.proofs.TextCells.{nth_char-finds}
use Rattle.rml_prims.proofs.finding.nth_char.Goals as goal

pub text_of-text-requires : goal.text_of-text-requires
text_of-text-requires c =
    let t : TextAndInt c.args.heap.now.values c.args.inputs.now = c.requires in
    let first : t.c ≡ get_or c.args.inputs.now 0 (record { kind = 0; number = pos 0 }) = sym (ap (λ (cs : List Cell). get_or cs 0 (record { kind = 0; number = pos 0 })) t.is) in
    let P : Cell → Type 0 = λ x. IsText c.args.heap.now.values x t.at t.size t.bytes in
    (t.at, t.size, t.bytes, subst P first t.text)

pub returns-in-Some : goal.returns-in-Some
returns-in-Some c =
    let t : TextAndInt c.args.heap.now.values c.args.inputs.now = c.requires in
    let cells : List Cell = c.args.heap.now.values in
    let d : Cell = record { kind = 0; number = pos 0 } in
    let x : Cell = get_or c.args.inputs.now 0 d in
    let at : ℕ = c.text_of-text.result.at in
    let size : ℕ = c.text_of-text.result.size in
    let bytes : List ℕ = c.text_of-text.ensures.0 in
    let first : t.c ≡ x = sym (ap (λ (cs : List Cell). get_or cs 0 d) t.is) in
    let whole : c.args.inputs.now ≡ x ∷ int_cell t.n ∷ [] = t.is ∙ ap (λ (e : Cell). e ∷ int_cell t.n ∷ []) first in
    let number : to_z w64 (of_z w64 (get_or c.args.inputs.now 1 d).number) ≡ t.n = to_z-of_z w64 (get_or c.args.inputs.now 1 d).number (search rules) ∙ ap (λ (cs : List Cell). (get_or cs 1 d).number) t.is in
    let all = nth_char-finds cells x at size bytes t.n c.text_of-text.ensures.1 in
    let value : Some c.in-Some.i ≡ index_in t.n size = rw number at c.in-Some.ensures in
    let byte : c.byte_at.result ≡ get_or bytes c.in-Some.i 0 = c.byte_at.ensures x bytes c.text_of-text.ensures.1 in
    let cell : char_cell (get_or bytes c.in-Some.i 0) ≡ c.char.result = ap char_cell (sym byte) ∙ sym c.char.ensures in
    let item : option_map (λ i. char_cell (get_or bytes i 0)) (index_in t.n size) ≡ Some c.char.result = ap (option_map (λ i. char_cell (get_or bytes i 0))) (sym value) ∙ ap Some cell in
    let G : List Cell → Type 0 = λ is. Finds StringNth cells is (Some c.char.result) in
    let H : Option Cell → Type 0 = λ o. Finds StringNth cells (x ∷ int_cell t.n ∷ []) o in
    subst G (sym whole) (subst H item all)

pub returns-in-None : goal.returns-in-None
returns-in-None c =
    let t : TextAndInt c.args.heap.now.values c.args.inputs.now = c.requires in
    let cells : List Cell = c.args.heap.now.values in
    let d : Cell = record { kind = 0; number = pos 0 } in
    let x : Cell = get_or c.args.inputs.now 0 d in
    let at : ℕ = c.text_of-text.result.at in
    let size : ℕ = c.text_of-text.result.size in
    let bytes : List ℕ = c.text_of-text.ensures.0 in
    let first : t.c ≡ x = sym (ap (λ (cs : List Cell). get_or cs 0 d) t.is) in
    let whole : c.args.inputs.now ≡ x ∷ int_cell t.n ∷ [] = t.is ∙ ap (λ (e : Cell). e ∷ int_cell t.n ∷ []) first in
    let number : to_z w64 (of_z w64 (get_or c.args.inputs.now 1 d).number) ≡ t.n = to_z-of_z w64 (get_or c.args.inputs.now 1 d).number (search rules) ∙ ap (λ (cs : List Cell). (get_or cs 1 d).number) t.is in
    let all = nth_char-finds cells x at size bytes t.n c.text_of-text.ensures.1 in
    let none_is : Option ℕ = None in
    let no_cell : Option Cell = None in
    let value : none_is ≡ index_in t.n size = rw number at c.in-None.ensures in
    let item : option_map (λ i. char_cell (get_or bytes i 0)) (index_in t.n size) ≡ no_cell = ap (option_map (λ i. char_cell (get_or bytes i 0))) (sym value) in
    let G : List Cell → Type 0 = λ is. Finds StringNth cells is None in
    let H : Option Cell → Type 0 = λ o. Finds StringNth cells (x ∷ int_cell t.n ∷ []) o in
    subst G (sym whole) (subst H item all)
