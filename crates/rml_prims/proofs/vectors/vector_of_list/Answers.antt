use Rattle.std.proofs.Common.{List, [], refl, ap, sym, arith}
use Rattle.std.proofs.lemmas.List.{append-nil}
use Rattle.rml_heap.specs.declared.cell.Cell.{Cell}
use Rattle.rml_prims.proofs.MadeVectors.{vector-full}
use Rattle.rml_prims.proofs.vectors.vector_of_list.Goals as goal

pub returns-in-Err-clause-makes : goal.returns-in-Err-clause-makes
returns-in-Err-clause-makes c = λ items is.
    let long = c.list_size-size.ensures.size items is in
    vector-full c.args.heap.now _ c.args.list c.in-Err.full items c.list_size-size.result c.in-Err.ensures.full refl (sym long) is

pub returns-in-Err-clause-grows : goal.returns-in-Err-clause-grows
returns-in-Err-clause-grows c = record { cells = []; is = ap (λ (vs : List Cell). record c.args.heap.now { values = vs }) (sym (append-nil c.args.heap.now.values)) }

pub add_vector-requires-clause-list : goal.add_vector-requires-clause-list
add_vector-requires-clause-list c = (c.requires.0, c.requires.1, sym (c.list_size-size.ensures.size c.requires.0 c.requires.1))

pub returns-in-Ok-clause-makes : goal.returns-in-Ok-clause-makes
returns-in-Ok-clause-makes c = λ items is. c.add_vector.ensures.makes items is (sym (c.list_size-size.ensures.size items is))

pub overflow_add-size : goal.overflow_add-size
overflow_add-size c =
    let few = c.list_size-size.ensures.small in
    omega (arith, few, c.used-used.ensures.used, c.used-used.ensures.within, c.used-used.ensures.limit)
