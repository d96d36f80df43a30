use Rattle.std.proofs.Common.{◌≡◌, ◌↔◌, List, [], ◌∷◌, ◌++◌, length, vec_len, refl, sym, ap, subst, ◌∙◌, arith}
use Rattle.std.proofs.lemmas.List.{nil_from_length}
use Rattle.std.proofs.lemmas.Bool.{eqb-true}
use Rattle.rml_heap.specs.declared.equality.Task.{Task}
use Rattle.rml_heap.specs.Compared.{IsBelow, ByParts, AreNested, AreReadable, AreSame}
use Rattle.rml_heap.proofs.equality.are_equal.Goals as goal

pub returns-in-Different-clause-equal : goal.returns-in-Different-clause-equal
returns-in-Different-clause-equal c = λ names top below v w h k. (λ f. absurd (cc), λ same. absurd (c.in-Different.ensures names top below v w h k same))

pub unwrap-requires : goal.unwrap-requires
unwrap-requires c =
    let values = c.requires.values in
    let by = c.in-Parts.ensures values.names values.top values.below values.left values.right values.left_stands values.right_stands in
    let left = by.below.left in
    let count = by.below.count in
    let within = by.below.within in
    let top = values.within in
    c.push.ensures.succeeds (omega (arith, left, count, within, top, c.requires.room, c.clear.ensures.len, c.clear.ensures.capacity))

pub tasks-init : goal.tasks-init
tasks-init c =
    let values = c.requires.values in
    let task : Task = c.in-Parts.task in
    let by = c.in-Parts.ensures values.names values.top values.below values.left values.right values.left_stands values.right_stands in
    let pushed : c.push.new.self.items ≡ task ∷ [] = (rw c.unwrap.ensures at c.push.ensures.items) ∙ ap (λ (ts : List Task). ts ++ task ∷ []) c.clear.ensures.items in
    let Nested : List Task → Type 0 = λ ts. AreNested (length c.args.cells.now) ts in
    let wide : IsBelow (length c.args.cells.now) task = record {
      left = by.below.left;
      right = by.below.right;
      count = by.below.count;
      within = let within = by.below.within in let top = values.within in omega (arith, within, top);
    } in
    record {
      nested = subst Nested (sym pushed) (wide, tt);
      room = omega (arith, c.push.ensures.capacity, c.clear.ensures.capacity, c.requires.room);
      grown = omega (arith, c.push.ensures.capacity, c.clear.ensures.capacity);
      waits = λ names top below v w h k.
          let told : ByParts c.args.cells.now names top v w task = c.in-Parts.ensures names top below v w h k in
          let P : List Task → Type 0 = λ ts. AreReadable c.args.cells.now names ts × ((v ≡ w) ↔ AreSame c.args.cells.now names ts) in
          subst P (sym pushed) ((told.readable, tt), (λ same. (told.same.0 same, tt), λ each. told.same.1 each.0));
    }

pub pass-requires-clause-readable : goal.pass-requires-clause-readable
pass-requires-clause-readable c =
    let values = c.requires.values in
    (values.names, (c.tasks.invariant.waits values.names values.top values.below values.left values.right values.left_stands values.right_stands).0)

pub step-requires-clause-readable : goal.step-requires-clause-readable
step-requires-clause-readable c =
    let values = c.requires.values in
    let waits = c.tasks.invariant.waits values.names values.top values.below values.left values.right values.left_stands values.right_stands in
    (values.names, (c.pass.ensures.left values.names waits.0).0)

pub returns-then-not-step-clause-equal : goal.returns-then-not-step-clause-equal
returns-then-not-step-clause-equal c = λ names top below v w h k.
    let waits = c.tasks.invariant.waits names top below v w h k in
    let over = c.pass.ensures.left names waits.0 in
    (λ f. absurd (cc), λ same. absurd (c.if-not-step.ensures.left names over.0 (over.1.0 (waits.1.0 same))))

pub tasks-preserved : goal.tasks-preserved
tasks-preserved c =
    record {
      nested = c.if-not-step.ensures.nested refl;
      room = omega (arith, c.tasks.invariant.room, c.pass.ensures.room, c.step.ensures.room);
      grown = omega (arith, c.tasks.invariant.grown, c.pass.ensures.room, c.step.ensures.room);
      waits = λ names top below v w h k.
          let waits = c.tasks.invariant.waits names top below v w h k in
          let over = c.pass.ensures.left names waits.0 in
          let left = c.if-not-step.ensures.left names over.0 in
          (left.0, (λ same. left.1.0 (over.1.0 (waits.1.0 same)), λ each. waits.1.1 (over.1.1 (left.1.1 each))));
    }

pub returns-clause-equal : goal.returns-clause-equal
returns-clause-equal c = λ names top below v w h k.
    let waits = c.tasks.invariant.waits names top below v w h k in
    let empty : vec_len c.tasks.tasks ≡ 0 = eqb-true (vec_len c.tasks.tasks) 0 (sym c.is_empty.ensures ∙ c.tasks-test.false) in
    let none : c.tasks.tasks.items ≡ [] = nil_from_length c.tasks.tasks.items (omega (arith, empty, c.tasks.tasks.ok)) in
    let P : List Task → Type 0 = λ ts. AreSame c.args.cells.now names ts in
    (λ _. waits.1.1 (subst P (sym none) tt), λ _. refl)
