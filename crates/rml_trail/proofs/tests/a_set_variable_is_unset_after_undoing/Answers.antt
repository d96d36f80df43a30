use Rattle.std.proofs.Common.{◌≡◌, ◌≤◌, [], ◌∷◌, ◌++◌, refl, sym, ap, subst, ◌∙◌, arith}
use Rattle.rml_heap.specs.HeapState.{HeapState, unset_cell, lvar_head}
use Rattle.rml_heap.specs.Form.{form}
use Rattle.rml_trail.specs.TrailState.{TrailState, IsContent, Fits}
use Rattle.rml_trail.proofs.Trails.{fits-nothing}
use Rattle.rml_trail.proofs.tests.a_set_variable_is_unset_after_undoing.Goals as goal

after_two : (a b c : HeapState) → a ≡ record { values = []; frames = []; limit = 8 } → b ≡ record a { values = a.values ++ lvar_head ∷ [] } → c ≡ record b { values = b.values ++ unset_cell ∷ [] } → c ≡ record { values = lvar_head ∷ unset_cell ∷ []; frames = []; limit = 8 }
after_two a b c p q r = r ∙ ap (λ (h : HeapState). record h { values = h.values ++ unset_cell ∷ [] }) (q ∙ ap (λ (h : HeapState). record h { values = h.values ++ lvar_head ∷ [] }) p)

pub set-requires-clause-fits : goal.set-requires-clause-fits
set-requires-clause-fits g c =
    let heap : c.add-2.new.self ≡ record { values = lvar_head ∷ unset_cell ∷ []; frames = []; limit = 8 } = after_two c.in_ok-heap.heap c.add.new.self c.add-2.new.self c.in_ok-heap.ensures c.add.ensures c.add-2.ensures in
    let wide : c.add-2.new.self.limit ≤ 8 = let e = ap (λ (h : HeapState). h.limit) heap in omega (arith, e) in
    let P : TrailState → Type 0 = λ t. Fits t c.add-2.new.self in
    subst P (sym c.in_ok-trail.ensures) (fits-nothing c.add-2.new.self 8 wide)

pub set-requires-clause-content : goal.set-requires-clause-content
unfolding form
set-requires-clause-content g c =
    let heap : c.add-2.new.self ≡ record { values = lvar_head ∷ unset_cell ∷ []; frames = []; limit = 8 } = after_two c.in_ok-heap.heap c.add.new.self c.add-2.new.self c.in_ok-heap.ensures c.add.ensures c.add-2.ensures in
    let P : HeapState → Type 0 = λ h. IsContent h.values 1 in
    subst P (sym heap) (record { positive = omega arith; head = refl })

pub set-requires-clause-value : goal.set-requires-clause-value
unfolding form
set-requires-clause-value g c = tt
