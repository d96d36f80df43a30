use Rattle.std.proofs.Common.{ap, ◌∙◌, arith, inl}
use Rattle.rml_heap.specs.declared.cell.Cell.{Cell}
use Rattle.rml_heap.specs.Form.{address}
use Rattle.rml_acts.proofs.Looked.{takes, taken}
use Rattle.rml_acts.proofs.values.take_part.Goals as goal

pub overflow_cast-i : goal.overflow_cast-i
overflow_cast-i c =
    let t = takes c.args.a c.args.b c.args.i c.args.state.now (omega (arith, c.used-used.ensures.used, c.used-used.ensures.within, c.used-used.ensures.limit)) c.requires.right in
    omega (arith, t.inside, c.used-used.ensures.used, c.used-used.ensures.within, c.used-used.ensures.limit)

pub overflow_add-address_of : goal.overflow_add-address_of
overflow_add-address_of c =
    let t = takes c.args.a c.args.b c.args.i c.args.state.now (omega (arith, c.used-used.ensures.used, c.used-used.ensures.within, c.used-used.ensures.limit)) c.requires.right in
    let at = c.address_of.ensures ∙ ap (λ (d : Cell). address d.number) c.get-block.ensures in
    omega (arith, t.inside, at, c.used-used.ensures.used, c.used-used.ensures.within, c.used-used.ensures.limit)

pub get-part-requires : goal.get-part-requires
get-part-requires c =
    let t = takes c.args.a c.args.b c.args.i c.args.state.now (omega (arith, c.used-used.ensures.used, c.used-used.ensures.within, c.used-used.ensures.limit)) c.requires.right in
    let at = c.address_of.ensures ∙ ap (λ (d : Cell). address d.number) c.get-block.ensures in
    inl (omega (arith, t.inside, at))

pub returns : goal.returns
returns c =
    let t = takes c.args.a c.args.b c.args.i c.args.state.now (omega (arith, c.used-used.ensures.used, c.used-used.ensures.within, c.used-used.ensures.limit)) c.requires.right in
    let at = c.address_of.ensures ∙ ap (λ (d : Cell). address d.number) c.get-block.ensures in
    let there = c.get-part.ensures.value (omega (arith, t.inside, at)) in
    taken c.args.a c.args.b c.args.i c.args.state.now c.address_of.result c.get-part.result _ t at there c.put.ensures
