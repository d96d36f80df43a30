use Rattle.std.proofs.Common.{subst}
use Rattle.rml_builtin.specs.declared.row.Row.{Row}
use Rattle.rml_prims.specs.Found.{CanApply}
use Rattle.rml_prims.proofs.MadeTexts.{decimal-int}
use Rattle.rml_prims.proofs.MadeLists.{list-vector, last-making}
use Rattle.rml_prims.proofs.MadeVectors.{one-list}
use Rattle.rml_prims.proofs.PackedRows.{one-spelling, two-texts}
use Rattle.rml_prims.proofs.SpelledLists.{spelled-text}
use Rattle.rml_prims.proofs.making.make.Goals as goal

pub decimal-requires : goal.decimal-requires
decimal-requires c =
    let P : Row → Type 0 = λ row. CanApply row c.args.heap.now.values c.args.inputs.now in
    decimal-int c.args.heap.now.values c.args.inputs.now (subst P c.in-IntString.is c.requires.applies)

pub vector_list-requires : goal.vector_list-requires
vector_list-requires c =
    let P : Row → Type 0 = λ row. CanApply row c.args.heap.now.values c.args.inputs.now in
    list-vector c.args.heap.now.values c.args.inputs.now (subst P (last-making c.args.row c.requires.row c.in_default.not-IntString c.in_default.not-StringAppend c.in_default.not-StringList c.in_default.not-ListString c.in_default.not-LvarGet c.in_default.not-ListVector) c.requires.applies)

pub list_vector-requires : goal.list_vector-requires
list_vector-requires c =
    let P : Row → Type 0 = λ row. CanApply row c.args.heap.now.values c.args.inputs.now in
    one-list c.args.heap.now.values c.args.inputs.now (subst P c.in-ListVector.is c.requires.applies)

pub string_list-requires : goal.string_list-requires
string_list-requires c =
    let P : Row → Type 0 = λ row. CanApply row c.args.heap.now.values c.args.inputs.now in
    spelled-text c.args.heap.now.values c.args.inputs.now (subst P c.in-StringList.is c.requires.applies)

pub appended-requires : goal.appended-requires
appended-requires c =
    let P : Row → Type 0 = λ row. CanApply row c.args.heap.now.values c.args.inputs.now in
    two-texts c.args.heap.now.values c.args.inputs.now (subst P c.in-StringAppend.is c.requires.applies)

pub list_string-requires : goal.list_string-requires
list_string-requires c =
    let P : Row → Type 0 = λ row. CanApply row c.args.heap.now.values c.args.inputs.now in
    one-spelling c.args.heap.now.values c.args.inputs.now (subst P c.in-ListString.is c.requires.applies)
