use Rattle.std.proofs.Common.{◌≡◌, ◌+◌, ◌<◌, ◌↔◌, List, [], ◌∷◌, ◌++◌, length, subst, sym, ap, arith}
use Rattle.rml_heap.specs.declared.cell.Cell.{Cell}
use Rattle.rml_heap.specs.declared.equality.Task.{Task}
use Rattle.rml_heap.specs.HeapState.{free_cell}
use Rattle.rml_heap.specs.Compared.{AreNested, AreReadable, AreSame, total}
use Rattle.rml_heap.proofs.Tasks.{last-some, readable-split}
use Rattle.rml_heap.proofs.Passing.{pass-leaves, pass-nested, pass-total, passed, task-inside}
use Rattle.rml_heap.proofs.equality.pass.Goals as goal

pub same_cells-same-requires-clause-some : goal.same_cells-same-requires-clause-some
same_cells-same-requires-clause-some c =
    let cells : List Cell = c.args.cells.now in
    let front : List Task = c.pop.new.self.items in
    let t : Task = c.unwrap-task.result in
    let before : c.args.tasks.now.items ≡ front ++ t ∷ [] = rw c.unwrap-task.ensures at c.pop.ensures.items in
    let Nested : List Task → Type 0 = λ ts. AreNested (length cells) ts in
    last-some cells front t free_cell (subst Nested before c.requires.nested)

pub same_cells-same-requires-clause-left : goal.same_cells-same-requires-clause-left
same_cells-same-requires-clause-left c =
    let cells : List Cell = c.args.cells.now in
    let front : List Task = c.pop.new.self.items in
    let t : Task = c.unwrap-task.result in
    let before : c.args.tasks.now.items ≡ front ++ t ∷ [] = rw c.unwrap-task.ensures at c.pop.ensures.items in
    let Nested : List Task → Type 0 = λ ts. AreNested (length cells) ts in
    let some : 0 < t.count = last-some cells front t free_cell (subst Nested before c.requires.nested) in
    let Read : List Task → Type 0 = λ ts. AreReadable cells c.requires.readable.0 ts in
    let readable : AreReadable cells c.requires.readable.0 (front ++ t ∷ []) = subst Read before c.requires.readable.1 in
    (task-inside cells c.requires.readable.0 t some (readable-split cells c.requires.readable.0 front (t ∷ []) readable).1.0).0

pub same_cells-same-requires-clause-right : goal.same_cells-same-requires-clause-right
same_cells-same-requires-clause-right c =
    let cells : List Cell = c.args.cells.now in
    let front : List Task = c.pop.new.self.items in
    let t : Task = c.unwrap-task.result in
    let before : c.args.tasks.now.items ≡ front ++ t ∷ [] = rw c.unwrap-task.ensures at c.pop.ensures.items in
    let Nested : List Task → Type 0 = λ ts. AreNested (length cells) ts in
    let some : 0 < t.count = last-some cells front t free_cell (subst Nested before c.requires.nested) in
    let Read : List Task → Type 0 = λ ts. AreReadable cells c.requires.readable.0 ts in
    let readable : AreReadable cells c.requires.readable.0 (front ++ t ∷ []) = subst Read before c.requires.readable.1 in
    (task-inside cells c.requires.readable.0 t some (readable-split cells c.requires.readable.0 front (t ∷ []) readable).1.0).1

pub overflow_add-task : goal.overflow_add-task
overflow_add-task c =
    let cells : List Cell = c.args.cells.now in
    let front : List Task = c.pop.new.self.items in
    let t : Task = c.unwrap-task.result in
    let before : c.args.tasks.now.items ≡ front ++ t ∷ [] = rw c.unwrap-task.ensures at c.pop.ensures.items in
    let Nested : List Task → Type 0 = λ ts. AreNested (length cells) ts in
    let some : 0 < t.count = last-some cells front t free_cell (subst Nested before c.requires.nested) in
    let Read : List Task → Type 0 = λ ts. AreReadable cells c.requires.readable.0 ts in
    let readable : AreReadable cells c.requires.readable.0 (front ++ t ∷ []) = subst Read before c.requires.readable.1 in
    let inside = (task-inside cells c.requires.readable.0 t some (readable-split cells c.requires.readable.0 front (t ∷ []) readable).1.0).0 in
    omega (arith, inside, c.requires.small, c.same_cells-same.ensures.within)

pub overflow_add-task-2 : goal.overflow_add-task-2
overflow_add-task-2 c =
    let cells : List Cell = c.args.cells.now in
    let front : List Task = c.pop.new.self.items in
    let t : Task = c.unwrap-task.result in
    let before : c.args.tasks.now.items ≡ front ++ t ∷ [] = rw c.unwrap-task.ensures at c.pop.ensures.items in
    let Nested : List Task → Type 0 = λ ts. AreNested (length cells) ts in
    let some : 0 < t.count = last-some cells front t free_cell (subst Nested before c.requires.nested) in
    let Read : List Task → Type 0 = λ ts. AreReadable cells c.requires.readable.0 ts in
    let readable : AreReadable cells c.requires.readable.0 (front ++ t ∷ []) = subst Read before c.requires.readable.1 in
    let inside = (task-inside cells c.requires.readable.0 t some (readable-split cells c.requires.readable.0 front (t ∷ []) readable).1.0).1 in
    omega (arith, inside, c.requires.small, c.same_cells-same.ensures.within)

pub returns-clause-left : goal.returns-clause-left
returns-clause-left c = λ names readable.
    let cells : List Cell = c.args.cells.now in
    let front : List Task = c.pop.new.self.items in
    let t : Task = c.unwrap-task.result in
    let before : c.args.tasks.now.items ≡ front ++ t ∷ [] = rw c.unwrap-task.ensures at c.pop.ensures.items in
    let after : c.push.new.self.items ≡ front ++ passed c.same_cells-same.result t ∷ [] = rw c.unwrap.ensures at c.push.ensures.items in
    let Read : List Task → Type 0 = λ ts. AreReadable cells names ts in
    let leaves = pass-leaves cells names front t c.same_cells-same.result c.same_cells-same.ensures.within c.same_cells-same.ensures.same (subst Read before readable) in
    let Q : List Task → Type 0 = λ ts. AreReadable cells names ts × (AreSame cells names (front ++ t ∷ []) ↔ AreSame cells names ts) in
    let P : List Task → Type 0 = λ ts. AreReadable cells names c.push.new.self.items × (AreSame cells names ts ↔ AreSame cells names c.push.new.self.items) in
    subst P (sym before) (subst Q (sym after) leaves)

pub returns-clause-nested : goal.returns-clause-nested
returns-clause-nested c =
    let cells : List Cell = c.args.cells.now in
    let front : List Task = c.pop.new.self.items in
    let t : Task = c.unwrap-task.result in
    let before : c.args.tasks.now.items ≡ front ++ t ∷ [] = rw c.unwrap-task.ensures at c.pop.ensures.items in
    let after : c.push.new.self.items ≡ front ++ passed c.same_cells-same.result t ∷ [] = rw c.unwrap.ensures at c.push.ensures.items in
    let Nested : List Task → Type 0 = λ ts. AreNested (length cells) ts in
    subst Nested (sym after) (pass-nested (length cells) front t c.same_cells-same.result c.same_cells-same.ensures.within (subst Nested before c.requires.nested))

pub returns-clause-total : goal.returns-clause-total
returns-clause-total c =
    let front : List Task = c.pop.new.self.items in
    let t : Task = c.unwrap-task.result in
    let before : c.args.tasks.now.items ≡ front ++ t ∷ [] = rw c.unwrap-task.ensures at c.pop.ensures.items in
    let after : c.push.new.self.items ≡ front ++ passed c.same_cells-same.result t ∷ [] = rw c.unwrap.ensures at c.push.ensures.items in
    let less = pass-total front t c.same_cells-same.result c.same_cells-same.ensures.within in
    let was = ap total before in
    let is = ap total after in
    omega (arith, less, was, is)
