use Rattle.std.proofs.Common.{◌≡◌, ◌≢◌, Bool, true, false, not, refl, ◌<◌, sym, ◌∙◌, arith, inl, inr}
use Rattle.rml_heap.specs.HeapState.{free_cell}
use Rattle.rml_heap.proofs.Told.{equal-cells, other-cells, told-same, told-words, AreBlocks, read-blocks, read-ne, read-lvars, IsOneHead, read-none, read-parts, read-small}
use Rattle.rml_heap.proofs.equality.compare.Goals as goal
use Rattle.rml_heap.proofs.equality.compare.Goals.{then-a-ne-BLOCK-via-then-a-ne-BLOCK, then-a-ne-BLOCK-via-else-a-ne-BLOCK+then-b-ne-BLOCK, then-ne-via-then-ne, then-ne-via-else-ne+then-is_lvar}

not-true : (b : Bool) → not b ≡ true → b ≡ false
not-true true h = absurd (cc)
not-true false h = refl

not-false : (b : Bool) → not b ≡ false → b ≡ true
not-false true h = refl
not-false false h = absurd (cc)

pub returns-then-eq : goal.returns-then-eq
returns-then-eq c = λ names top below v w h k. told-same c.args.cells.now names top below c.args.a c.args.b v w (equal-cells c.args.a c.args.b (sym c.eq.ensures ∙ c.if-eq.true)) h k

pub returns-then-a-ne-BLOCK : goal.returns-then-a-ne-BLOCK
returns-then-a-ne-BLOCK c = λ names top below v w h k.
    let differ : c.args.a ≢ c.args.b = other-cells c.args.a c.args.b (sym c.eq.ensures ∙ c.if-eq.false) in
    elim c.then-a-ne-BLOCK.branch [
      | then-a-ne-BLOCK-via-then-a-ne-BLOCK w' ↦ told-words c.args.cells.now names top below c.args.a c.args.b v w differ (inl w'.if-a-ne-BLOCK.true) h k
      | then-a-ne-BLOCK-via-else-a-ne-BLOCK+then-b-ne-BLOCK w' ↦ told-words c.args.cells.now names top below c.args.a c.args.b v w differ (inr w'.if-b-ne-BLOCK.true) h k
    ]

pub bounds-cells-left : goal.bounds-cells-left
bounds-cells-left c =
    let blocks : AreBlocks c.args.cells.now c.requires.values.names c.requires.values.top c.requires.values.below c.args.a c.args.b c.requires.values.left c.requires.values.right c.address_of-left.result c.address_of-right.result free_cell = record {
      small = c.requires.small;
      kind = c.if-a-ne-BLOCK.false;
      kind' = c.if-b-ne-BLOCK.false;
      left_is = c.address_of-left.ensures;
      right_is = c.address_of-right.ensures;
      stands = c.requires.values.left_stands;
      stands' = c.requires.values.right_stands;
    } in
    let read = read-blocks c.args.cells.now c.requires.values.names c.requires.values.top c.requires.values.below c.args.a c.args.b c.requires.values.left c.requires.values.right c.address_of-left.result c.address_of-right.result free_cell blocks in
    let inside = read.inside in
    let at = read.at in
    omega (arith, inside, at)

pub bounds-cells-right : goal.bounds-cells-right
bounds-cells-right c =
    let blocks : AreBlocks c.args.cells.now c.requires.values.names c.requires.values.top c.requires.values.below c.args.a c.args.b c.requires.values.left c.requires.values.right c.address_of-left.result c.address_of-right.result free_cell = record {
      small = c.requires.small;
      kind = c.if-a-ne-BLOCK.false;
      kind' = c.if-b-ne-BLOCK.false;
      left_is = c.address_of-left.ensures;
      right_is = c.address_of-right.ensures;
      stands = c.requires.values.left_stands;
      stands' = c.requires.values.right_stands;
    } in
    let read = read-blocks c.args.cells.now c.requires.values.names c.requires.values.top c.requires.values.below c.args.a c.args.b c.requires.values.left c.requires.values.right c.address_of-left.result c.address_of-right.result free_cell blocks in
    let inside = read.inside' in
    let at = read.at' in
    omega (arith, inside, at)

pub returns-then-ne : goal.returns-then-ne
returns-then-ne c = λ names top below v w h k.
    let blocks : AreBlocks c.args.cells.now names top below c.args.a c.args.b v w c.address_of-left.result c.address_of-right.result free_cell = record {
      small = c.requires.small;
      kind = c.if-a-ne-BLOCK.false;
      kind' = c.if-b-ne-BLOCK.false;
      left_is = c.address_of-left.ensures;
      right_is = c.address_of-right.ensures;
      stands = h;
      stands' = k;
    } in
    let differ : c.args.a ≢ c.args.b = other-cells c.args.a c.args.b (sym c.eq.ensures ∙ c.if-eq.false) in
    elim c.then-ne.branch [
      | then-ne-via-then-ne w' ↦ read-ne c.args.cells.now names top below c.args.a c.args.b v w c.address_of-left.result c.address_of-right.result free_cell blocks (other-cells _ _ (not-true _ (sym c.ne.ensures ∙ w'.if-ne.true)))
      | then-ne-via-else-ne+then-is_lvar w' ↦ read-lvars c.args.cells.now names top below c.args.a c.args.b v w c.address_of-left.result c.address_of-right.result free_cell blocks differ (equal-cells _ _ (not-false _ (sym c.ne.ensures ∙ w'.if-ne.false))) (w'.if-is_lvar.ensures.0 refl)
    ]

pub returns-then-count-eq0 : goal.returns-then-count-eq0
returns-then-count-eq0 c = λ names top below v w h k.
    let blocks : AreBlocks c.args.cells.now names top below c.args.a c.args.b v w c.address_of-left.result c.address_of-right.result free_cell = record {
      small = c.requires.small;
      kind = c.if-a-ne-BLOCK.false;
      kind' = c.if-b-ne-BLOCK.false;
      left_is = c.address_of-left.ensures;
      right_is = c.address_of-right.ensures;
      stands = h;
      stands' = k;
    } in
    let one : IsOneHead c.args.cells.now names top below c.args.a c.args.b v w c.address_of-left.result c.address_of-right.result free_cell c.parts_of-count.result = record {
      same = equal-cells _ _ (not-false _ (sym c.ne.ensures ∙ c.if-ne.false));
      other = (λ kind. let e = c.if-is_lvar.ensures.1 kind in absurd (cc));
      count_is = c.parts_of-count.ensures;
    } in
    read-none c.args.cells.now names top below c.args.a c.args.b v w c.address_of-left.result c.address_of-right.result free_cell blocks c.parts_of-count.result one c.if-count-eq0.true

pub returns : goal.returns
returns c = λ names top below v w h k.
    let blocks : AreBlocks c.args.cells.now names top below c.args.a c.args.b v w c.address_of-left.result c.address_of-right.result free_cell = record {
      small = c.requires.small;
      kind = c.if-a-ne-BLOCK.false;
      kind' = c.if-b-ne-BLOCK.false;
      left_is = c.address_of-left.ensures;
      right_is = c.address_of-right.ensures;
      stands = h;
      stands' = k;
    } in
    let one : IsOneHead c.args.cells.now names top below c.args.a c.args.b v w c.address_of-left.result c.address_of-right.result free_cell c.parts_of-count.result = record {
      same = equal-cells _ _ (not-false _ (sym c.ne.ensures ∙ c.if-ne.false));
      other = (λ kind. let e = c.if-is_lvar.ensures.1 kind in absurd (cc));
      count_is = c.parts_of-count.ensures;
    } in
    let some : 0 < c.parts_of-count.result = omega (arith, c.if-count-eq0.false) in
    read-parts c.args.cells.now names top below c.args.a c.args.b v w c.address_of-left.result c.address_of-right.result free_cell blocks c.parts_of-count.result one some

pub overflow_cast-count : goal.overflow_cast-count
overflow_cast-count c =
    let blocks : AreBlocks c.args.cells.now c.requires.values.names c.requires.values.top c.requires.values.below c.args.a c.args.b c.requires.values.left c.requires.values.right c.address_of-left.result c.address_of-right.result free_cell = record {
      small = c.requires.small;
      kind = c.if-a-ne-BLOCK.false;
      kind' = c.if-b-ne-BLOCK.false;
      left_is = c.address_of-left.ensures;
      right_is = c.address_of-right.ensures;
      stands = c.requires.values.left_stands;
      stands' = c.requires.values.right_stands;
    } in
    let one : IsOneHead c.args.cells.now c.requires.values.names c.requires.values.top c.requires.values.below c.args.a c.args.b c.requires.values.left c.requires.values.right c.address_of-left.result c.address_of-right.result free_cell c.parts_of-count.result = record {
      same = equal-cells _ _ (not-false _ (sym c.ne.ensures ∙ c.if-ne.false));
      other = (λ kind. let e = c.if-is_lvar.ensures.1 kind in absurd (cc));
      count_is = c.parts_of-count.ensures;
    } in
    let small = read-small c.args.cells.now c.requires.values.names c.requires.values.top c.requires.values.below c.args.a c.args.b c.requires.values.left c.requires.values.right c.address_of-left.result c.address_of-right.result free_cell blocks c.parts_of-count.result one c.requires.values.within in
    omega (arith, small, c.requires.small)

pub overflow_add-result : goal.overflow_add-result
overflow_add-result c =
    let blocks : AreBlocks c.args.cells.now c.requires.values.names c.requires.values.top c.requires.values.below c.args.a c.args.b c.requires.values.left c.requires.values.right c.address_of-left.result c.address_of-right.result free_cell = record {
      small = c.requires.small;
      kind = c.if-a-ne-BLOCK.false;
      kind' = c.if-b-ne-BLOCK.false;
      left_is = c.address_of-left.ensures;
      right_is = c.address_of-right.ensures;
      stands = c.requires.values.left_stands;
      stands' = c.requires.values.right_stands;
    } in
    let read = read-blocks c.args.cells.now c.requires.values.names c.requires.values.top c.requires.values.below c.args.a c.args.b c.requires.values.left c.requires.values.right c.address_of-left.result c.address_of-right.result free_cell blocks in
    let inside = read.inside in
    let at = read.at in
    omega (arith, inside, at, c.requires.small)

pub overflow_add-result-2 : goal.overflow_add-result-2
overflow_add-result-2 c =
    let blocks : AreBlocks c.args.cells.now c.requires.values.names c.requires.values.top c.requires.values.below c.args.a c.args.b c.requires.values.left c.requires.values.right c.address_of-left.result c.address_of-right.result free_cell = record {
      small = c.requires.small;
      kind = c.if-a-ne-BLOCK.false;
      kind' = c.if-b-ne-BLOCK.false;
      left_is = c.address_of-left.ensures;
      right_is = c.address_of-right.ensures;
      stands = c.requires.values.left_stands;
      stands' = c.requires.values.right_stands;
    } in
    let read = read-blocks c.args.cells.now c.requires.values.names c.requires.values.top c.requires.values.below c.args.a c.args.b c.requires.values.left c.requires.values.right c.address_of-left.result c.address_of-right.result free_cell blocks in
    let inside = read.inside' in
    let at = read.at' in
    omega (arith, inside, at, c.requires.small)
