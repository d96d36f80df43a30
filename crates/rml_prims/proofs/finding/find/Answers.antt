use Rattle.std.proofs.Common.{subst}
use Rattle.rml_builtin.specs.declared.row.Row.{Row}
use Rattle.rml_prims.specs.Found.{CanApply}
use Rattle.rml_prims.proofs.Calculations.{char-int, code-char, over-ints-taken, rest-ints}
use Rattle.rml_prims.proofs.VectorCells.{length-vector, nth-vector}
use Rattle.rml_prims.proofs.TextCells.{int-text, length-text-cell, nth-text}
use Rattle.rml_prims.proofs.finding.find.Goals as goal

pub character-requires : goal.character-requires
character-requires c =
    let P : Row → Type 0 = λ row. CanApply row c.args.heap.now.values c.args.inputs.now in
    char-int c.args.heap.now.values c.args.inputs.now (subst P c.in-IntChar.is c.requires.applies)

pub code-requires : goal.code-requires
code-requires c =
    let P : Row → Type 0 = λ row. CanApply row c.args.heap.now.values c.args.inputs.now in
    code-char c.args.heap.now.values c.args.inputs.now (subst P c.in-CharInt.is c.requires.applies)

pub vector_length-requires : goal.vector_length-requires
vector_length-requires c =
    let P : Row → Type 0 = λ row. CanApply row c.args.heap.now.values c.args.inputs.now in
    length-vector c.args.heap.now.values c.args.inputs.now (subst P c.in-VectorLength.is c.requires.applies)

pub nth_item-requires : goal.nth_item-requires
nth_item-requires c =
    let P : Row → Type 0 = λ row. CanApply row c.args.heap.now.values c.args.inputs.now in
    nth-vector c.args.heap.now.values c.args.inputs.now (subst P c.in-VectorNth.is c.requires.applies)

pub over_ints-requires : goal.over_ints-requires
over_ints-requires c =
    let is = rest-ints c.args.row c.requires.row c.in_default.not-IntChar c.in_default.not-CharInt c.in_default.not-StringLength c.in_default.not-StringNth c.in_default.not-VectorLength c.in_default.not-VectorNth c.in_default.not-StringInt in
    record { row = is; inputs = over-ints-taken c.args.row c.args.heap.now.values c.args.inputs.now is c.requires.applies }

pub text_length-requires : goal.text_length-requires
text_length-requires c =
    let P : Row → Type 0 = λ row. CanApply row c.args.heap.now.values c.args.inputs.now in
    length-text-cell c.args.heap.now.values c.args.inputs.now (subst P c.in-StringLength.is c.requires.applies)

pub nth_char-requires : goal.nth_char-requires
nth_char-requires c =
    let P : Row → Type 0 = λ row. CanApply row c.args.heap.now.values c.args.inputs.now in
    nth-text c.args.heap.now.values c.args.inputs.now (subst P c.in-StringNth.is c.requires.applies)

pub written_int-requires : goal.written_int-requires
written_int-requires c =
    let P : Row → Type 0 = λ row. CanApply row c.args.heap.now.values c.args.inputs.now in
    int-text c.args.heap.now.values c.args.inputs.now (subst P c.in-StringInt.is c.requires.applies)
