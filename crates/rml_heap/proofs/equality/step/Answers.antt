use Rattle.std.proofs.Common.{◌≡◌, ◌+◌, ◌-◌, ◌↔◌, List, [], ◌∷◌, ◌++◌, length, sym, ap, subst, ◌∙◌, arith}
use Rattle.std.proofs.lemmas.List.{append_assoc, length_push}
use Rattle.rml_heap.specs.declared.cell.Cell.{Cell}
use Rattle.rml_heap.specs.declared.equality.Task.{Task}
use Rattle.rml_heap.specs.HeapState.{free_cell}
use Rattle.rml_heap.specs.Compared.{rest_of, IsBelow, AreNested, AreReadable, AreSame, total}
use Rattle.rml_heap.proofs.Tasks.{nested-room, rest-falls, parts-fall, last-some, last-reads, last-values, step-same, step-different, step-parts, step-below, step-rest, step-nested}
use Rattle.rml_heap.proofs.equality.step.Goals as goal

pub put_back-requires-clause-left : goal.put_back-requires-clause-left
put_back-requires-clause-left c =
    let cells : List Cell = c.args.cells.now in
    let front : List Task = c.pop.new.self.items in
    let t : Task = c.unwrap-task.result in
    let before : c.args.tasks.now.items ≡ front ++ t ∷ [] = rw c.unwrap-task.ensures at c.pop.ensures.items in
    let Nested : List Task → Type 0 = λ ts. AreNested (length cells) ts in
    let nested : AreNested (length cells) (front ++ t ∷ []) = subst Nested before c.requires.nested in
    let Read : List Task → Type 0 = λ ts. AreReadable cells c.requires.readable.0 ts in
    let readable : AreReadable cells c.requires.readable.0 (front ++ t ∷ []) = subst Read before c.requires.readable.1 in
    let inside = (last-reads cells front t free_cell c.requires.readable.0 nested readable).inside in
    omega (arith, inside, c.requires.small)

pub put_back-requires-clause-right : goal.put_back-requires-clause-right
put_back-requires-clause-right c =
    let cells : List Cell = c.args.cells.now in
    let front : List Task = c.pop.new.self.items in
    let t : Task = c.unwrap-task.result in
    let before : c.args.tasks.now.items ≡ front ++ t ∷ [] = rw c.unwrap-task.ensures at c.pop.ensures.items in
    let Nested : List Task → Type 0 = λ ts. AreNested (length cells) ts in
    let nested : AreNested (length cells) (front ++ t ∷ []) = subst Nested before c.requires.nested in
    let Read : List Task → Type 0 = λ ts. AreReadable cells c.requires.readable.0 ts in
    let readable : AreReadable cells c.requires.readable.0 (front ++ t ∷ []) = subst Read before c.requires.readable.1 in
    let inside = (last-reads cells front t free_cell c.requires.readable.0 nested readable).inside' in
    omega (arith, inside, c.requires.small)

pub bounds-cells-task : goal.bounds-cells-task
bounds-cells-task c =
    let cells : List Cell = c.args.cells.now in
    let front : List Task = c.pop.new.self.items in
    let t : Task = c.unwrap-task.result in
    let before : c.args.tasks.now.items ≡ front ++ t ∷ [] = rw c.unwrap-task.ensures at c.pop.ensures.items in
    let Nested : List Task → Type 0 = λ ts. AreNested (length cells) ts in
    let nested : AreNested (length cells) (front ++ t ∷ []) = subst Nested before c.requires.nested in
    let Read : List Task → Type 0 = λ ts. AreReadable cells c.requires.readable.0 ts in
    let readable : AreReadable cells c.requires.readable.0 (front ++ t ∷ []) = subst Read before c.requires.readable.1 in
    (last-reads cells front t free_cell c.requires.readable.0 nested readable).inside

pub bounds-cells-task-2 : goal.bounds-cells-task-2
bounds-cells-task-2 c =
    let cells : List Cell = c.args.cells.now in
    let front : List Task = c.pop.new.self.items in
    let t : Task = c.unwrap-task.result in
    let before : c.args.tasks.now.items ≡ front ++ t ∷ [] = rw c.unwrap-task.ensures at c.pop.ensures.items in
    let Nested : List Task → Type 0 = λ ts. AreNested (length cells) ts in
    let nested : AreNested (length cells) (front ++ t ∷ []) = subst Nested before c.requires.nested in
    let Read : List Task → Type 0 = λ ts. AreReadable cells c.requires.readable.0 ts in
    let readable : AreReadable cells c.requires.readable.0 (front ++ t ∷ []) = subst Read before c.requires.readable.1 in
    (last-reads cells front t free_cell c.requires.readable.0 nested readable).inside'

pub compare-requires-clause-values : goal.compare-requires-clause-values
compare-requires-clause-values c =
    let cells : List Cell = c.args.cells.now in
    let front : List Task = c.pop.new.self.items in
    let t : Task = c.unwrap-task.result in
    let before : c.args.tasks.now.items ≡ front ++ t ∷ [] = rw c.unwrap-task.ensures at c.pop.ensures.items in
    let Nested : List Task → Type 0 = λ ts. AreNested (length cells) ts in
    let nested : AreNested (length cells) (front ++ t ∷ []) = subst Nested before c.requires.nested in
    let Read : List Task → Type 0 = λ ts. AreReadable cells c.requires.readable.0 ts in
    let readable : AreReadable cells c.requires.readable.0 (front ++ t ∷ []) = subst Read before c.requires.readable.1 in
    last-values cells front t free_cell c.requires.readable.0 nested readable

pub unwrap-requires : goal.unwrap-requires
unwrap-requires c =
    let cells : List Cell = c.args.cells.now in
    let front : List Task = c.pop.new.self.items in
    let t : Task = c.unwrap-task.result in
    let before : c.args.tasks.now.items ≡ front ++ t ∷ [] = rw c.unwrap-task.ensures at c.pop.ensures.items in
    let Nested : List Task → Type 0 = λ ts. AreNested (length cells) ts in
    let nested : AreNested (length cells) (front ++ t ∷ []) = subst Nested before c.requires.nested in
    let Read : List Task → Type 0 = λ ts. AreReadable cells c.requires.readable.0 ts in
    let readable : AreReadable cells c.requires.readable.0 (front ++ t ∷ []) = subst Read before c.requires.readable.1 in
    let p : Task = c.in-Parts.parts in
    let below : IsBelow (t.left - 1) p = step-below cells front t free_cell c.requires.readable.0 p nested readable c.in-Parts.ensures in
    let room = nested-room (length cells) (front ++ (rest_of t ++ p ∷ [])) (step-nested cells front t free_cell p nested below) in
    let long : length (front ++ (rest_of t ++ p ∷ [])) ≡ length c.put_back.new.tasks.items + 1 =
    ap length (sym (append_assoc front (rest_of t) (p ∷ []))) ∙ length_push (front ++ rest_of t) p ∙ ap (λ ts. length ts + 1) (sym c.put_back.ensures.items)
    in
    c.push.ensures.succeeds (omega (arith, room, long, c.put_back.ensures.room, c.pop.ensures.capacity, c.requires.room, c.put_back.new.tasks.ok))

pub returns-in-Same-clause-left : goal.returns-in-Same-clause-left
returns-in-Same-clause-left c = λ names readable.
    let cells : List Cell = c.args.cells.now in
    let front : List Task = c.pop.new.self.items in
    let t : Task = c.unwrap-task.result in
    let before : c.args.tasks.now.items ≡ front ++ t ∷ [] = rw c.unwrap-task.ensures at c.pop.ensures.items in
    let Nested : List Task → Type 0 = λ ts. AreNested (length cells) ts in
    let nested : AreNested (length cells) (front ++ t ∷ []) = subst Nested before c.requires.nested in
    let Read : List Task → Type 0 = λ ts. AreReadable cells names ts in
    let old : AreReadable cells names (front ++ t ∷ []) = subst Read before readable in
    let step = step-same cells front t free_cell names nested old c.in-Same.ensures in
    let From : List Task → Type 0 = λ ts. AreReadable cells names (front ++ rest_of t) × (AreSame cells names ts ↔ AreSame cells names (front ++ rest_of t)) in
    let To : List Task → Type 0 = λ ts. AreReadable cells names ts × (AreSame cells names c.args.tasks.now.items ↔ AreSame cells names ts) in
    subst To (sym c.put_back.ensures.items) (subst From (sym before) step)

pub returns-in-Same-clause-nested : goal.returns-in-Same-clause-nested
returns-in-Same-clause-nested c = λ _.
    let cells : List Cell = c.args.cells.now in
    let front : List Task = c.pop.new.self.items in
    let t : Task = c.unwrap-task.result in
    let before : c.args.tasks.now.items ≡ front ++ t ∷ [] = rw c.unwrap-task.ensures at c.pop.ensures.items in
    let Nested : List Task → Type 0 = λ ts. AreNested (length cells) ts in
    let nested : AreNested (length cells) (front ++ t ∷ []) = subst Nested before c.requires.nested in
    subst Nested (sym c.put_back.ensures.items) (step-rest cells front t free_cell nested)

pub returns-in-Same-clause-fewer : goal.returns-in-Same-clause-fewer
returns-in-Same-clause-fewer c = λ _.
    let cells : List Cell = c.args.cells.now in
    let front : List Task = c.pop.new.self.items in
    let t : Task = c.unwrap-task.result in
    let before : c.args.tasks.now.items ≡ front ++ t ∷ [] = rw c.unwrap-task.ensures at c.pop.ensures.items in
    let Nested : List Task → Type 0 = λ ts. AreNested (length cells) ts in
    let nested : AreNested (length cells) (front ++ t ∷ []) = subst Nested before c.requires.nested in
    let falls = rest-falls front t (last-some cells front t free_cell nested) in
    omega (arith, falls, ap total before, ap total c.put_back.ensures.items)

pub returns-in-Different-clause-left : goal.returns-in-Different-clause-left
returns-in-Different-clause-left c = λ names readable same.
    let cells : List Cell = c.args.cells.now in
    let front : List Task = c.pop.new.self.items in
    let t : Task = c.unwrap-task.result in
    let before : c.args.tasks.now.items ≡ front ++ t ∷ [] = rw c.unwrap-task.ensures at c.pop.ensures.items in
    let Nested : List Task → Type 0 = λ ts. AreNested (length cells) ts in
    let nested : AreNested (length cells) (front ++ t ∷ []) = subst Nested before c.requires.nested in
    let Read : List Task → Type 0 = λ ts. AreReadable cells names ts in
    let old : AreReadable cells names (front ++ t ∷ []) = subst Read before readable in
    let Same : List Task → Type 0 = λ ts. AreSame cells names ts in
    step-different cells front t free_cell names nested old c.in-Different.ensures (subst Same before same)

pub returns-in-Parts-clause-left : goal.returns-in-Parts-clause-left
returns-in-Parts-clause-left c = λ names readable.
    let cells : List Cell = c.args.cells.now in
    let front : List Task = c.pop.new.self.items in
    let t : Task = c.unwrap-task.result in
    let before : c.args.tasks.now.items ≡ front ++ t ∷ [] = rw c.unwrap-task.ensures at c.pop.ensures.items in
    let Nested : List Task → Type 0 = λ ts. AreNested (length cells) ts in
    let nested : AreNested (length cells) (front ++ t ∷ []) = subst Nested before c.requires.nested in
    let p : Task = c.in-Parts.parts in
    let after : c.push.new.self.items ≡ front ++ (rest_of t ++ p ∷ []) =
    (rw c.unwrap.ensures at c.push.ensures.items) ∙ ap (λ ts. ts ++ p ∷ []) c.put_back.ensures.items ∙ append_assoc front (rest_of t) (p ∷ [])
    in
    let Read : List Task → Type 0 = λ ts. AreReadable cells names ts in
    let old : AreReadable cells names (front ++ t ∷ []) = subst Read before readable in
    let step = step-parts cells front t free_cell names p nested old c.in-Parts.ensures in
    let From : List Task → Type 0 = λ ts. AreReadable cells names (front ++ (rest_of t ++ p ∷ [])) × (AreSame cells names ts ↔ AreSame cells names (front ++ (rest_of t ++ p ∷ []))) in
    let To : List Task → Type 0 = λ ts. AreReadable cells names ts × (AreSame cells names c.args.tasks.now.items ↔ AreSame cells names ts) in
    subst To (sym after) (subst From (sym before) step)

pub returns-in-Parts-clause-nested : goal.returns-in-Parts-clause-nested
returns-in-Parts-clause-nested c = λ _.
    let cells : List Cell = c.args.cells.now in
    let front : List Task = c.pop.new.self.items in
    let t : Task = c.unwrap-task.result in
    let before : c.args.tasks.now.items ≡ front ++ t ∷ [] = rw c.unwrap-task.ensures at c.pop.ensures.items in
    let Nested : List Task → Type 0 = λ ts. AreNested (length cells) ts in
    let nested : AreNested (length cells) (front ++ t ∷ []) = subst Nested before c.requires.nested in
    let Read : List Task → Type 0 = λ ts. AreReadable cells c.requires.readable.0 ts in
    let readable : AreReadable cells c.requires.readable.0 (front ++ t ∷ []) = subst Read before c.requires.readable.1 in
    let p : Task = c.in-Parts.parts in
    let below : IsBelow (t.left - 1) p = step-below cells front t free_cell c.requires.readable.0 p nested readable c.in-Parts.ensures in
    let after : c.push.new.self.items ≡ front ++ (rest_of t ++ p ∷ []) =
    (rw c.unwrap.ensures at c.push.ensures.items) ∙ ap (λ ts. ts ++ p ∷ []) c.put_back.ensures.items ∙ append_assoc front (rest_of t) (p ∷ [])
    in
    subst Nested (sym after) (step-nested cells front t free_cell p nested below)

pub returns-in-Parts-clause-fewer : goal.returns-in-Parts-clause-fewer
returns-in-Parts-clause-fewer c = λ _.
    let cells : List Cell = c.args.cells.now in
    let front : List Task = c.pop.new.self.items in
    let t : Task = c.unwrap-task.result in
    let before : c.args.tasks.now.items ≡ front ++ t ∷ [] = rw c.unwrap-task.ensures at c.pop.ensures.items in
    let Nested : List Task → Type 0 = λ ts. AreNested (length cells) ts in
    let nested : AreNested (length cells) (front ++ t ∷ []) = subst Nested before c.requires.nested in
    let Read : List Task → Type 0 = λ ts. AreReadable cells c.requires.readable.0 ts in
    let readable : AreReadable cells c.requires.readable.0 (front ++ t ∷ []) = subst Read before c.requires.readable.1 in
    let p : Task = c.in-Parts.parts in
    let below : IsBelow (t.left - 1) p = step-below cells front t free_cell c.requires.readable.0 p nested readable c.in-Parts.ensures in
    let after : c.push.new.self.items ≡ front ++ (rest_of t ++ p ∷ []) =
    (rw c.unwrap.ensures at c.push.ensures.items) ∙ ap (λ ts. ts ++ p ∷ []) c.put_back.ensures.items ∙ append_assoc front (rest_of t) (p ∷ [])
    in
    let falls = parts-fall front t p (last-some cells front t free_cell nested) below in
    omega (arith, falls, ap total before, ap total after)
