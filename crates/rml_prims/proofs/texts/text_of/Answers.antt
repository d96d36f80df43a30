use Rattle.std.proofs.Common.{◌≡◌, ℕ, ◌<◌, ◌^◌, List, length, ap, subst, sym, ◌∙◌, arith, inl}
use Rattle.rml_heap.specs.declared.cell.Cell.{Cell}
use Rattle.rml_heap.specs.Form.{or_zero}
use Rattle.rml_heap.specs.Reading.{cell_at}
use Rattle.rml_prims.specs.Shapes.{IsText}
use Rattle.rml_prims.proofs.TextCells.{TextPlace, text-place}
use Rattle.rml_prims.proofs.texts.text_of.Goals as goal

pub get-requires : goal.get-requires
get-requires c =
    let cells : List Cell = c.args.heap.now.values in
    let small : length cells < 2 ^ 27 = omega (arith, c.used-used.ensures.used, c.used-used.ensures.within, c.used-used.ensures.limit) in
    let r : TextPlace cells c.args.cell c.requires.0 c.requires.1 = text-place cells c.args.cell c.requires.0 c.requires.1 c.requires.2 small c.requires.3 in
    let at_is : c.address_of-at.result ≡ c.requires.0 = c.address_of-at.ensures ∙ r.place in
    let low : c.address_of-at.result < length cells = let i = r.inside in omega (arith, i, at_is) in
    inl low

pub overflow_cast-size : goal.overflow_cast-size
overflow_cast-size c =
    let cells : List Cell = c.args.heap.now.values in
    let small : length cells < 2 ^ 27 = omega (arith, c.used-used.ensures.used, c.used-used.ensures.within, c.used-used.ensures.limit) in
    let r : TextPlace cells c.args.cell c.requires.0 c.requires.1 = text-place cells c.args.cell c.requires.0 c.requires.1 c.requires.2 small c.requires.3 in
    let at_is : c.address_of-at.result ≡ c.requires.0 = c.address_of-at.ensures ∙ r.place in
    let inside : c.address_of-at.result < length cells = let i = r.inside in omega (arith, i, at_is) in
    let cell : c.get.result ≡ cell_at cells c.requires.0 = c.get.ensures.value inside ∙ ap (cell_at cells) at_is in
    let size : c.count_of-size.result ≡ c.requires.1 = c.count_of-size.ensures ∙ ap (λ (d : Cell). or_zero d.number) cell ∙ r.count in
    let low = r.small in omega (arith, size, low)

pub returns : goal.returns
returns c =
    let cells : List Cell = c.args.heap.now.values in
    let small : length cells < 2 ^ 27 = omega (arith, c.used-used.ensures.used, c.used-used.ensures.within, c.used-used.ensures.limit) in
    let r : TextPlace cells c.args.cell c.requires.0 c.requires.1 = text-place cells c.args.cell c.requires.0 c.requires.1 c.requires.2 small c.requires.3 in
    let at_is : c.address_of-at.result ≡ c.requires.0 = c.address_of-at.ensures ∙ r.place in
    let inside : c.address_of-at.result < length cells = let i = r.inside in omega (arith, i, at_is) in
    let cell : c.get.result ≡ cell_at cells c.requires.0 = c.get.ensures.value inside ∙ ap (cell_at cells) at_is in
    let size : c.count_of-size.result ≡ c.requires.1 = c.count_of-size.ensures ∙ ap (λ (d : Cell). or_zero d.number) cell ∙ r.count in
    let A : ℕ → Type 0 = λ a. IsText cells c.args.cell a c.count_of-size.result c.requires.2 in
    let S : ℕ → Type 0 = λ s. IsText cells c.args.cell c.requires.0 s c.requires.2 in
    (c.requires.2, subst A (sym at_is) (subst S (sym size) c.requires.3))
