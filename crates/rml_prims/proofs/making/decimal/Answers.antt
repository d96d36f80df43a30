use Rattle.std.proofs.Common.{◌≡◌, ℕ, List, get_or, ap, subst, sym, ◌∙◌, arith, rules}
use Rattle.std.specs.Prelude.{pos}
use Rattle.std.specs.Int.{w64}
use Rattle.std.proofs.lemmas.Int.{to_z-of_z}
use mir.Val.{to_z, of_z}
use Rattle.rml_heap.specs.declared.cell.Cell.{Cell}
use Rattle.std.specs.Fmt.{signed_decimal}
use Rattle.rml_builtin.specs.declared.row.Row.TheVariants.{IntString}
use Rattle.rml_builtin.specs.Decimal.{decimal_of}
use Rattle.rml_heap.proofs.Callers.{EachByte}
use Rattle.rml_prims.specs.Shapes.{OneInt}
use Rattle.rml_prims.specs.Found.{Makes}
use Rattle.rml_prims.proofs.Calculations.{int-read}
use Rattle.rml_prims.proofs.MadeTexts.{decimal-ends, text-grows}
use Rattle.rml_prims.proofs.making.decimal.Goals as goal

pub returns-clause-makes : goal.returns-clause-makes
returns-clause-makes c =
    let t : OneInt c.args.inputs.now = c.requires in
    let d : Cell = record { kind = 0; number = pos 0 } in
    let number : to_z w64 (of_z w64 (get_or c.args.inputs.now 0 d).number) ≡ t.n = to_z-of_z w64 (get_or c.args.inputs.now 0 d).number (search rules) ∙ int-read c.args.inputs.now t d in
    let bytes : List ℕ = c.as_bytes.result.now in
    let text : bytes ≡ decimal_of t.n = c.as_bytes.ensures.value ∙ c.format.ensures.text ∙ ap signed_decimal number in
    let each : EachByte bytes = λ i. let same : get_or bytes i 0 ≡ get_or c.format.result.now i 0 = ap (λ bs. get_or bs i 0) c.as_bytes.ensures.value in let low = c.format.ensures.ascii i in omega (arith, same, low) in
    let e = c.place_text.ensures in
    let P : List Cell → Type 0 = λ is. Makes IntString c.args.heap.now is c.place_text.new.heap c.place_text.result in
    subst P (sym t.is) (decimal-ends c.args.heap.now c.place_text.new.heap t.n bytes c.place_text.result text each e.room e.made e.cell e.full e.err)

pub returns-clause-grows : goal.returns-clause-grows
returns-clause-grows c = text-grows c.args.heap.now _ _ _ c.place_text.ensures.made c.place_text.ensures.err
