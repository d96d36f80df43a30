use Rattle.std.proofs.Common.{◌≡◌, ℕ, sym, ap, subst, ◌∙◌, arith, rules, add-one}
use Rattle.std.specs.Prelude.{ℤ, pos}
use Rattle.std.specs.Int.{w64}
use Rattle.std.proofs.lemmas.Int.{to_z-of_z}
use mir.Val.{to_z, of_z}
use Rattle.rml_prims.specs.Shapes.{int_cell}
use Rattle.rml_cell_bench.proofs.PlacedValues.{Listed, listed-start, listed-step}
use Rattle.rml_cell_bench.proofs.placing.list_below.Goals as goal

pub loop-i-init : goal.loop-i-init
loop-i-init c =
    let number : to_z w64 (of_z w64 c.from.result) ≡ pos 0 = to_z-of_z w64 c.from.result (search rules) ∙ c.from.ensures in
    listed-start c.args.heap.now (record { kind = 4; number = to_z w64 (of_z w64 c.from.result) }) c.requires (ap (λ (n : ℤ). record { kind = 4; number = n }) number)

pub loop-i-preserved : goal.loop-i-preserved
loop-i-preserved c =
    let number : to_z w64 (of_z w64 c.from-in-loop-i.result) ≡ pos c.loop-i.i = to_z-of_z w64 c.from-in-loop-i.result (search rules) ∙ c.from-in-loop-i.ensures in
    let item : c.int.result ≡ int_cell (pos c.loop-i.i) = c.int.ensures ∙ ap int_cell number in
    let P : ℕ → Type 0 = λ n. Listed c.args.heap.now c.place_cons.new.heap n c.in_ok-list.list in
    subst P (sym (add-one c.loop-i.i)) (listed-step c.args.heap.now c.loop-i.heap c.place_cons.new.heap c.loop-i.i c.loop-i.list c.int.result c.in_ok-list.list c.loop-i.invariant item c.in_ok-list.ensures.made c.in_ok-list.ensures.cell)

pub returns-clause-list : goal.returns-clause-list
returns-clause-list c =
    let end : c.loop-i.i ≡ c.args.n = omega (arith, c.loop-i-test.false, c.loop-i.auto.i-end) in
    let P : ℕ → Type 0 = λ n. Listed c.args.heap.now c.loop-i.heap n c.loop-i.list in
    let h : Listed c.args.heap.now c.loop-i.heap c.args.n c.loop-i.list = subst P end c.loop-i.invariant in
    h.stands

pub returns-clause-binds : goal.returns-clause-binds
returns-clause-binds c = c.loop-i.invariant.binds

pub returns-clause-grows : goal.returns-clause-grows
returns-clause-grows c = c.loop-i.invariant.grows
