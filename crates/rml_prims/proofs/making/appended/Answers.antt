use Rattle.std.proofs.Common.{◌≡◌, ℕ, List, [], ◌∷◌, ◌++◌, get_or, refl, ap, subst, sym, ◌∙◌}
use Rattle.std.specs.Prelude.{pos}
use Rattle.rml_heap.specs.declared.cell.Cell.{Cell}
use Rattle.rml_builtin.specs.declared.row.Row.TheVariants.{StringAppend}
use Rattle.rml_prims.specs.Shapes.{AreJoined, TwoTexts}
use Rattle.rml_prims.specs.Found.{Makes}
use Rattle.rml_prims.proofs.PackedRows.{joined-makes, placed-grows}
use Rattle.rml_prims.proofs.making.appended.Goals as goal

pub joined-requires : goal.joined-requires
joined-requires c =
    let d : Cell = record { kind = 0; number = pos 0 } in
    let left : List ℕ = c.text_of-first.ensures.0 in
    let right : List ℕ = c.text_of-second.ensures.0 in
    (left ++ right, record { c = get_or c.args.inputs.now 0 d; d = get_or c.args.inputs.now 1 d; left = left; right = right; first = c.text_of-first.ensures.1; second = c.text_of-second.ensures.1; whole = refl })

pub returns-clause-makes : goal.returns-clause-makes
returns-clause-makes c =
    let t : TwoTexts c.args.heap.now.values c.args.inputs.now = c.requires in
    let d : Cell = record { kind = 0; number = pos 0 } in
    let x : Cell = get_or c.args.inputs.now 0 d in
    let y : Cell = get_or c.args.inputs.now 1 d in
    let left : List ℕ = c.text_of-first.ensures.0 in
    let right : List ℕ = c.text_of-second.ensures.0 in
    let both : AreJoined c.args.heap.now.values c.text_of-first.result.at c.text_of-first.result.size c.text_of-second.result.at c.text_of-second.result.size (left ++ right) =
    record { c = x; d = y; left = left; right = right; first = c.text_of-first.ensures.1; second = c.text_of-second.ensures.1; whole = refl }
    in
    let first : t.c ≡ x = sym (ap (λ (cs : List Cell). get_or cs 0 d) t.is) in
    let second : t.d ≡ y = sym (ap (λ (cs : List Cell). get_or cs 1 d) t.is) in
    let whole : c.args.inputs.now ≡ x ∷ y ∷ [] = t.is ∙ ap (λ (e : Cell). e ∷ t.d ∷ []) first ∙ ap (λ (e : Cell). x ∷ e ∷ []) second in
    let Q : List Cell → Type 0 = λ is. Makes StringAppend c.args.heap.now is c.joined.new.heap c.joined.result in
    subst Q (sym whole) (joined-makes c.args.heap.now c.joined.new.heap x y c.text_of-first.result.at c.text_of-first.result.size c.text_of-second.result.at c.text_of-second.result.size left right c.joined.result
    c.text_of-first.ensures.1 c.text_of-second.ensures.1 (c.joined.ensures (left ++ right) both))

pub returns-clause-grows : goal.returns-clause-grows
returns-clause-grows c =
    let d : Cell = record { kind = 0; number = pos 0 } in
    let left : List ℕ = c.text_of-first.ensures.0 in
    let right : List ℕ = c.text_of-second.ensures.0 in
    placed-grows c.args.heap.now c.joined.new.heap (left ++ right) c.joined.result (c.joined.ensures (left ++ right)
    (record { c = get_or c.args.inputs.now 0 d; d = get_or c.args.inputs.now 1 d; left = left; right = right; first = c.text_of-first.ensures.1; second = c.text_of-second.ensures.1; whole = refl }))
