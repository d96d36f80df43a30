use Rattle.std.proofs.Common.{◌≡◌, ℕ, ◌<◌, ◌^◌, List, length, ap, subst, sym, ◌∙◌, arith}
use Rattle.rml_heap.specs.declared.cell.Cell.{Cell}
use Rattle.rml_heap.specs.Form.{or_zero}
use Rattle.rml_heap.specs.Reading.{cell_at}
use Rattle.rml_prims.specs.Shapes.{IsVector}
use Rattle.rml_prims.proofs.VectorCells.{VectorRead, vector-read}
use Rattle.rml_prims.proofs.vectors.vector_of.Goals as goal

pub overflow_cast-size : goal.overflow_cast-size
overflow_cast-size c =
    let small : length c.args.heap.now.values < 2 ^ 32 = omega (arith, c.used-used.ensures.used, c.used-used.ensures.within, c.used-used.ensures.limit) in
    let cells : List Cell = c.args.heap.now.values in
    let r : VectorRead cells c.args.cell c.requires.0 c.requires.1 = vector-read cells c.args.cell c.requires.0 c.requires.1 small c.requires.2 in
    let at_is : c.address_of-at.result ≡ c.requires.0 = c.address_of-at.ensures ∙ r.place in
    let inside : c.address_of-at.result < length cells = let i = r.inside in omega (arith, i, at_is) in
    let cell : c.get.result ≡ cell_at cells c.requires.0 = c.get.ensures.value inside ∙ ap (cell_at cells) at_is in
    let size : c.count_of-size.result ≡ c.requires.1 = c.count_of-size.ensures ∙ ap (λ (d : Cell). or_zero d.number) cell ∙ r.count in
    let low = r.small in omega (arith, size, low)

pub returns : goal.returns
returns c =
    let small : length c.args.heap.now.values < 2 ^ 32 = omega (arith, c.used-used.ensures.used, c.used-used.ensures.within, c.used-used.ensures.limit) in
    let cells : List Cell = c.args.heap.now.values in
    let r : VectorRead cells c.args.cell c.requires.0 c.requires.1 = vector-read cells c.args.cell c.requires.0 c.requires.1 small c.requires.2 in
    let at_is : c.address_of-at.result ≡ c.requires.0 = c.address_of-at.ensures ∙ r.place in
    let inside : c.address_of-at.result < length cells = let i = r.inside in omega (arith, i, at_is) in
    let cell : c.get.result ≡ cell_at cells c.requires.0 = c.get.ensures.value inside ∙ ap (cell_at cells) at_is in
    let size : c.count_of-size.result ≡ c.requires.1 = c.count_of-size.ensures ∙ ap (λ (d : Cell). or_zero d.number) cell ∙ r.count in
    let A : ℕ → Type 0 = λ a. IsVector cells c.args.cell a c.count_of-size.result in
    let S : ℕ → Type 0 = λ s. IsVector cells c.args.cell c.requires.0 s in
    subst A (sym at_is) (subst S (sym size) c.requires.2)
