use Rattle.std.proofs.Common.{◌≡◌, ℕ, ◌-◌, ◌<◌, ◌≤◌, List, length, reverse, set, sym, ap, subst, ◌∙◌, arith}
use Rattle.std.proofs.lemmas.List.{length-reverse}
use Rattle.rml_heap.specs.declared.cell.Cell.{Cell}
use Rattle.rml_heap.specs.HeapState.{HeapState, bottom_of}
use Rattle.rml_heap.proofs.Stacks.{reverse-set}
use Rattle.rml_heap.proofs.heap.Heap.put.Goals as goal

pub returns-else-at-len-clause-frame : goal.returns-else-at-len-clause-frame
returns-else-at-len-clause-frame c = λ inside.
    let frames : List Cell = c.self.inside.frames.items in
    let limit : ℕ = c.self.inside.limit in
    let Low : HeapState → Type 0 = λ h. bottom_of h ≤ c.args.at in
    let High : HeapState → Type 0 = λ h. c.args.at < h.limit in
    let low : limit - length (reverse frames) ≤ c.args.at = subst Low (sym c.self.view_is) inside.low in
    let high : c.args.at < limit = subst High (sym c.self.view_is) inside.high in
    let within : length frames ≤ limit = omega (arith, c.self.invariant.0, c.self.inside.frames.ok) in
    let place : limit - 1 - c.args.at < length frames = omega (arith, length-reverse frames, low, high, within) in
    let back : length frames - 1 - (limit - 1 - c.args.at) ≡ c.args.at - (limit - length (reverse frames)) = omega (arith, length-reverse frames, low, high, within) in
    let P : HeapState → Type 0 = λ h. record { values = c.self.inside.values.items; frames = reverse (set frames (limit - 1 - c.args.at) c.args.cell); limit = limit } ≡ record h { frames = set h.frames (c.args.at - bottom_of h) c.args.cell } in
    subst P c.self.view_is
    (ap (λ (fs : List Cell). record { values = c.self.inside.values.items; frames = fs; limit = limit })
    (reverse-set frames (limit - 1 - c.args.at) c.args.cell place ∙ ap (λ (n : ℕ). set (reverse frames) n c.args.cell) back))
