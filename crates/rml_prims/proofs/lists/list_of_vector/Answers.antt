use Rattle.std.proofs.Common.{List, [], refl, ap, sym, arith}
use Rattle.std.proofs.lemmas.List.{append-nil}
use Rattle.rml_heap.specs.declared.cell.Cell.{Cell}
use Rattle.rml_prims.proofs.MadeLists.{list-full}
use Rattle.rml_prims.proofs.lists.list_of_vector.Goals as goal

pub overflow_mul-vector : goal.overflow_mul-vector
overflow_mul-vector c =
    let fits = c.requires.1.fits in
    omega (arith, c.used-used.ensures.used, c.used-used.ensures.within, c.used-used.ensures.limit, fits)

pub returns-in-Err-clause-makes : goal.returns-in-Err-clause-makes
returns-in-Err-clause-makes c = λ k vector. list-full c.args.heap.now _ k c.in-Err.full c.args.vector.at c.args.vector.size c.in-Err.ensures.full refl vector

pub returns-in-Err-clause-grows : goal.returns-in-Err-clause-grows
returns-in-Err-clause-grows c = record { cells = []; is = ap (λ (vs : List Cell). record c.args.heap.now { values = vs }) (sym (append-nil c.args.heap.now.values)) }
