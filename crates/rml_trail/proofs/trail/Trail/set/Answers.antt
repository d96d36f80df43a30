use Rattle.std.proofs.Common.{◌≡◌, ℕ, List, [], ◌∷◌, ◌++◌, ◌<◌, ◌≤◌, ◌/◌, sym, arith, length, subst}
use Rattle.rml_trail.specs.TrailState.{Fits, TrailState}
use Rattle.rml_trail.proofs.Trails.{set-room, set-fits}
use Rattle.rml_trail.proofs.trail.Trail.set.Goals as goal

pub unwrap-requires : goal.unwrap-requires
unwrap-requires c =
    let P : TrailState → Type 0 = λ t. Fits t c.args.heap.now in
    let fits = subst P (sym c.self.view_is) c.requires.fits in
    let within : length c.args.heap.now.values ≤ c.args.heap.now.limit = omega (arith, c.used-used.ensures.used, c.used-used.ensures.within) in
    let room : length c.self.inside.entries.items < c.self.inside.limit / 2 =
    set-room c.args.heap.now.values c.args.heap.now.frames c.args.heap.now.limit c.self.inside.limit c.self.inside.entries.items c.args.at c.args.cell fits c.requires.content c.requires.unset c.requires.inside c.requires.value within
    in
    c.push.ensures.succeeds (omega (arith, room, c.self.inside.entries.ok, c.self.invariant.1))

pub invariant_of-self : goal.invariant_of-self
invariant_of-self c =
    let P : TrailState → Type 0 = λ t. Fits t c.args.heap.now in
    let fits = subst P (sym c.self.view_is) c.requires.fits in
    let within : length c.args.heap.now.values ≤ c.args.heap.now.limit = omega (arith, c.used-used.ensures.used, c.used-used.ensures.within) in
    let room : length c.self.inside.entries.items < c.self.inside.limit / 2 =
    set-room c.args.heap.now.values c.args.heap.now.frames c.args.heap.now.limit c.self.inside.limit c.self.inside.entries.items c.args.at c.args.cell fits c.requires.content c.requires.unset c.requires.inside c.requires.value within
    in
    (omega (arith, c.push.ensures.upper_bound, room, c.self.inside.entries.ok), omega (arith, c.push.ensures.capacity, c.self.invariant.1), c.self.invariant.2)

pub returns-clause-fits : goal.returns-clause-fits
returns-clause-fits c =
    let P : TrailState → Type 0 = λ t. Fits t c.args.heap.now in
    let fits = subst P (sym c.self.view_is) c.requires.fits in
    let items : c.push.new.self.items ≡ c.self.inside.entries.items ++ c.args.at ∷ [] = rw c.unwrap.ensures at c.push.ensures.items in
    let after =
    set-fits c.args.heap.now.values c.args.heap.now.frames c.args.heap.now.limit c.self.inside.limit c.self.inside.entries.items c.args.at c.args.cell fits c.requires.content c.requires.unset c.requires.inside c.requires.value
    in
    let Q : List ℕ → Type 0 = λ es. Fits (record { entries = es; limit = c.self.inside.limit }) c.put.new.self in
    subst Q (sym items) (rw (c.put.ensures.value c.requires.inside) after)
