use Rattle.std.proofs.Common.{◌≡◌, ℕ, List, [], ◌∷◌, ◌++◌, ◌<◌, ◌≤◌, ◌+◌, ap, arith, length, subst, refl, inl, length-append}
use Rattle.rml_trail.specs.TrailState.{Fits}
use Rattle.rml_trail.proofs.Trails.{undo-inside, undoing-step, Undoing}
use Rattle.rml_trail.proofs.trail.Trail.undo_to.Goals as goal

pub put-requires : goal.put-requires
put-requires c =
    let items : c.loop-unset.self-inside.entries.items ≡ c.pop.new.self.items ++ c.unwrap-at.result ∷ [] = rw c.unwrap-at.ensures at c.pop.ensures.items in
    let P : List ℕ → Type 0 = λ es. Fits (record { entries = es; limit = c.loop-unset.self-inside.limit }) c.loop-unset.heap in
    inl (undo-inside c.loop-unset.heap.values c.loop-unset.heap.frames c.loop-unset.heap.limit c.loop-unset.self-inside.limit c.pop.new.self.items c.unwrap-at.result (subst P items c.loop-unset.invariant.0.fits))

pub loop-unset-preserved : goal.loop-unset-preserved
loop-unset-preserved c =
    let items : c.loop-unset.self-inside.entries.items ≡ c.pop.new.self.items ++ c.unwrap-at.result ∷ [] = rw c.unwrap-at.ensures at c.pop.ensures.items in
    let P : List ℕ → Type 0 = λ es. Undoing c.args.self.now c.args.heap.now c.args.mark (record { entries = es; limit = c.loop-unset.self-inside.limit }) c.loop-unset.heap in
    let longer : c.args.mark < c.loop-unset.self-inside.entries.len = omega (arith, c.loop-unset-test.true, c.len.ensures) in
    let short : c.args.mark ≤ length c.pop.new.self.items = let long : length (c.pop.new.self.items ++ c.unwrap-at.result ∷ []) ≡ length c.pop.new.self.items + 1 = length-append c.pop.new.self.items (c.unwrap-at.result ∷ []) in omega (arith, long, longer, c.loop-unset.self-inside.entries.ok, ap length items) in
    let step = undoing-step c.args.self.now c.args.heap.now c.args.mark c.pop.new.self.items c.unwrap-at.result c.loop-unset.self-inside.limit c.loop-unset.heap.limit c.loop-unset.heap.values c.loop-unset.heap.frames short (subst P items c.loop-unset.invariant.0) in
    let Q : List ℕ → Type 0 = λ es. Fits (record { entries = es; limit = c.loop-unset.self-inside.limit }) c.loop-unset.heap in
    let inside = undo-inside c.loop-unset.heap.values c.loop-unset.heap.frames c.loop-unset.heap.limit c.loop-unset.self-inside.limit c.pop.new.self.items c.unwrap-at.result (subst Q items c.loop-unset.invariant.0.fits) in
    (rw (c.put.ensures.value inside) step, omega (arith, c.pop.ensures.len, c.loop-unset.invariant.1), omega (arith, c.pop.ensures.capacity, c.loop-unset.invariant.2), c.loop-unset.invariant.3, refl)
