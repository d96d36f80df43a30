use Rattle.std.proofs.Common.{◌≡◌, ℕ, ◌+◌, ◌-◌, ◌≤◌, List, ◌++◌, length, reverse, replicate, take, ap, subst, ◌∙◌, arith, vec_len}
use Rattle.std.proofs.lemmas.List.{take_all}
use Rattle.rml_heap.specs.declared.cell.Cell.{Cell}
use Rattle.rml_heap.specs.HeapState.{HeapState, free_cell}
use Rattle.rml_heap.proofs.Stacks.{reverse-grown}
use Rattle.rml_heap.proofs.heap.Heap.push.Goals as goal

pub returns-clause-ok : goal.returns-clause-ok
returns-clause-ok c =
    let frames : List Cell = c.self.inside.frames.items in
    let long : c.len.result ≡ length frames = omega (arith, c.len.ensures, c.self.inside.frames.ok) in
    let all : length frames ≤ c.len.result + c.args.n = omega (arith, long) in
    let more : c.len.result + c.args.n - vec_len c.self.inside.frames ≡ c.args.n = omega (arith, c.len.ensures) in
    let made : c.resize.new.self.items ≡ take (c.len.result + c.args.n) frames ++ replicate (c.len.result + c.args.n - vec_len c.self.inside.frames) free_cell = rw c.unwrap.ensures at c.resize.ensures.items in
    let items : c.resize.new.self.items ≡ frames ++ replicate c.args.n free_cell =
    made ∙ ap (λ (xs : List Cell). xs ++ replicate (c.len.result + c.args.n - vec_len c.self.inside.frames) free_cell) (take_all (c.len.result + c.args.n) frames all)
    ∙ ap (λ (n : ℕ). frames ++ replicate n free_cell) more
    in
    let P : HeapState → Type 0 = λ h. record { values = c.self.inside.values.items; frames = reverse c.resize.new.self.items; limit = c.self.inside.limit } ≡ record h { frames = replicate c.args.n free_cell ++ h.frames } in
    subst P c.self.view_is (ap (λ (fs : List Cell). record { values = c.self.inside.values.items; frames = fs; limit = c.self.inside.limit }) (ap reverse items ∙ reverse-grown frames c.args.n free_cell))
