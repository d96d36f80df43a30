use Rattle.std.proofs.Common.{◌≡◌, ℕ, ◌-◌, ◌≤◌, List, length, reverse, drop, sym, ap, subst, ◌∙◌, arith}
use Rattle.std.proofs.lemmas.List.{length-reverse}
use Rattle.rml_heap.specs.declared.cell.Cell.{Cell}
use Rattle.rml_heap.specs.HeapState.{HeapState, bottom_of}
use Rattle.rml_heap.proofs.Stacks.{reverse-take}
use Rattle.rml_heap.proofs.heap.Heap.cut.Goals as goal

pub returns-clause-cut : goal.returns-clause-cut
returns-clause-cut c =
    let frames : List Cell = c.self.inside.frames.items in
    let limit : ℕ = c.self.inside.limit in
    let Low : HeapState → Type 0 = λ h. bottom_of h ≤ c.args.at in
    let High : HeapState → Type 0 = λ h. c.args.at ≤ h.limit in
    let low : limit - length (reverse frames) ≤ c.args.at = subst Low (sym c.self.view_is) c.requires.low in
    let high : c.args.at ≤ limit = subst High (sym c.self.view_is) c.requires.high in
    let within : length frames ≤ limit = omega (arith, c.self.invariant.0, c.self.inside.frames.ok) in
    let gone : length frames - (limit - c.args.at) ≡ c.args.at - (limit - length (reverse frames)) = omega (arith, length-reverse frames, low, high, within) in
    let P : HeapState → Type 0 = λ h. record { values = c.self.inside.values.items; frames = reverse c.truncate.new.self.items; limit = limit } ≡ record h { frames = drop (c.args.at - bottom_of h) h.frames } in
    subst P c.self.view_is
    (ap (λ (fs : List Cell). record { values = c.self.inside.values.items; frames = fs; limit = limit })
    (ap reverse c.truncate.ensures.items ∙ reverse-take frames (limit - c.args.at) ∙ ap (λ (n : ℕ). drop n (reverse frames)) gone))
