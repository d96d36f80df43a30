use Rattle.std.proofs.Common.{◌≡◌, ℕ, suc, ◌+◌, List, [], ◌∷◌, Option, Some, None, get_or, ap, subst, sym, ◌∙◌, rules}
use Rattle.std.specs.Prelude.{pos}
use Rattle.std.specs.Int.{w64}
use Rattle.std.proofs.lemmas.Int.{to_z-of_z}
use mir.Val.{to_z, of_z}
use Rattle.std.specs.Option.{option_map}
use Rattle.rml_heap.specs.declared.cell.Cell.{Cell}
use Rattle.rml_heap.specs.Reading.{look}
use Rattle.rml_builtin.specs.declared.row.Row.TheVariants.{VectorNth}
use Rattle.rml_prims.specs.Shapes.{VectorAndInt, int_cell, index_in}
use Rattle.rml_prims.specs.Found.{Finds}
use Rattle.rml_prims.proofs.VectorCells.{nth-finds}
use Rattle.rml_prims.proofs.finding.nth_item.Goals as goal

pub returns-in-Some : goal.returns-in-Some
returns-in-Some c =
    let t : VectorAndInt c.args.heap.now.values c.args.inputs.now = c.requires in
    let cells : List Cell = c.args.heap.now.values in
    let d : Cell = record { kind = 0; number = pos 0 } in
    let x : Cell = get_or c.args.inputs.now 0 d in
    let at : ℕ = c.vector_of-vector.result.at in
    let size : ℕ = c.vector_of-vector.result.size in
    let first : t.c ≡ x = sym (ap (λ (cs : List Cell). get_or cs 0 d) t.is) in
    let whole : c.args.inputs.now ≡ x ∷ int_cell t.n ∷ [] = t.is ∙ ap (λ (e : Cell). e ∷ int_cell t.n ∷ []) first in
    let number : to_z w64 (of_z w64 (get_or c.args.inputs.now 1 d).number) ≡ t.n = to_z-of_z w64 (get_or c.args.inputs.now 1 d).number (search rules) ∙ ap (λ (cs : List Cell). (get_or cs 1 d).number) t.is in
    let value : Some c.in-Some.i ≡ index_in t.n size = rw number at c.in-Some.ensures in
    let item : option_map (λ i. look cells (suc (at + i))) (index_in t.n size) ≡ Some c.item_at.result = ap (option_map (λ i. look cells (suc (at + i)))) (sym value) ∙ ap Some (sym c.item_at.ensures) in
    let G : List Cell → Type 0 = λ is. Finds VectorNth cells is (Some c.item_at.result) in
    let H : Option Cell → Type 0 = λ o. Finds VectorNth cells (x ∷ int_cell t.n ∷ []) o in
    subst G (sym whole) (subst H item (nth-finds cells x at size t.n c.vector_of-vector.ensures))

pub returns-in-None : goal.returns-in-None
returns-in-None c =
    let t : VectorAndInt c.args.heap.now.values c.args.inputs.now = c.requires in
    let cells : List Cell = c.args.heap.now.values in
    let d : Cell = record { kind = 0; number = pos 0 } in
    let x : Cell = get_or c.args.inputs.now 0 d in
    let at : ℕ = c.vector_of-vector.result.at in
    let size : ℕ = c.vector_of-vector.result.size in
    let first : t.c ≡ x = sym (ap (λ (cs : List Cell). get_or cs 0 d) t.is) in
    let whole : c.args.inputs.now ≡ x ∷ int_cell t.n ∷ [] = t.is ∙ ap (λ (e : Cell). e ∷ int_cell t.n ∷ []) first in
    let number : to_z w64 (of_z w64 (get_or c.args.inputs.now 1 d).number) ≡ t.n = to_z-of_z w64 (get_or c.args.inputs.now 1 d).number (search rules) ∙ ap (λ (cs : List Cell). (get_or cs 1 d).number) t.is in
    let none_is : Option ℕ = None in
    let no_cell : Option Cell = None in
    let value : none_is ≡ index_in t.n size = rw number at c.in-None.ensures in
    let item : option_map (λ i. look cells (suc (at + i))) (index_in t.n size) ≡ no_cell = ap (option_map (λ i. look cells (suc (at + i)))) (sym value) in
    let G : List Cell → Type 0 = λ is. Finds VectorNth cells is None in
    let H : Option Cell → Type 0 = λ o. Finds VectorNth cells (x ∷ int_cell t.n ∷ []) o in
    subst G (sym whole) (subst H item (nth-finds cells x at size t.n c.vector_of-vector.ensures))
