use Rattle.std.proofs.Common.{ℕ, ap, sym, ◌∙◌, inl, arith}
use Rattle.rml_heap.specs.declared.cell.Cell.{Cell}
use Rattle.std.specs.Prelude.{◌/◌}
use Rattle.rml_heap.specs.Form.{or_zero}
use Rattle.rml_code.specs.Seen as seen
use Rattle.rml_acts.proofs.Sights.{see-inside, see-text, see-con-block, see-cons}
use Rattle.rml_acts.proofs.sight.see_block.Goals as goal

pub get-head-requires : goal.get-head-requires
get-head-requires c = inl (see-inside c.args.heap.now.values c.args.at c.requires.0 c.requires.1)

pub returns-in-5 : goal.returns-in-5
returns-in-5 c = λ s h.
    let inside = see-inside c.args.heap.now.values c.args.at s h in
    see-text c.args.heap.now.values c.args.at s (ap (λ (d : Cell). d.kind) (sym (c.get-head.ensures.value inside)) ∙ c.in-5.is) h

pub returns-in-6 : goal.returns-in-6
returns-in-6 c = λ s h.
    let inside = see-inside c.args.heap.now.values c.args.at s h in
    see-con-block c.args.heap.now.values c.args.at s (ap (λ (d : Cell). d.kind) (sym (c.get-head.ensures.value inside)) ∙ c.in-6.is) h
    ∙ ap (λ (n : ℕ). seen.Con (n / 1048576)) (sym (c.count_of.ensures ∙ ap (λ (d : Cell). or_zero d.number) (c.get-head.ensures.value inside)))

pub returns-in_default : goal.returns-in_default
returns-in_default c = λ s h.
    let inside = see-inside c.args.heap.now.values c.args.at s h in
    let kind = ap (λ (d : Cell). d.kind) (c.get-head.ensures.value inside) in
    see-cons c.args.heap.now.values c.args.at s (λ e. omega (arith, kind, e)) (λ e. omega (arith, kind, e)) h
    ∙ ap seen.Con (sym c.from.ensures)
