use Rattle.std.proofs.Common.{◌≡◌, ◌∙◌, ◌+◌, ◌<◌, ◌++◌, ◌∷◌, [], true, false, List, ℕ, sym, ap, subst, refl, length, drop, get_or, map, arith}
use Rattle.std.specs.List.{list_any}
use Rattle.rml_base.specs.Numbering.{same, is_known}
use Rattle.rml_base.proofs.Callers.{any-map, names-after}
use Rattle.rml_checked.proofs.Apart.{is_new, new_none, new_at, known_at}
use Rattle.rml_resolved.proofs.Callers.{same_told}
use Rattle.rml_checked.proofs.names.do_names_differ.Goals as goal

pub loop-name-init : goal.loop-name-init
loop-name-init c = sym (ap (λ s. is_new same (map (λ v. v.items) s) c.args.names.now) c.new-met.ensures.empty ∙ new_none same c.args.names.now)

pub returns-then-contains : goal.returns-then-contains
returns-then-contains c =
    let less : c.loop-name.name-index < length c.args.names.now = omega arith in
    let name : c.as_slice-bytes.result.now ≡ get_or c.args.names.now c.loop-name.name-index c.name-item.result = c.as_slice-bytes.ensures ∙ c.name-item.is in
    let known = any-map (λ v. v.items) (same c.as_slice-bytes.result.now) c.loop-name.met.keys ∙ sym c.contains.ensures ∙ c.if-contains.true in
    sym (c.loop-name.invariant ∙ known_at same same_told _ c.args.names.now c.loop-name.name-index c.name-item.result less
    (subst (λ (b : List ℕ). list_any (same b) (map (λ v. v.items) c.loop-name.met.keys) ≡ true) name known))

pub loop-name-preserved : goal.loop-name-preserved
loop-name-preserved c =
    let less : c.loop-name.name-index < length c.args.names.now = omega arith in
    let name : c.as_slice-bytes.result.now ≡ get_or c.args.names.now c.loop-name.name-index c.name-item.result = c.as_slice-bytes.ensures ∙ c.name-item.is in
    let absent = sym c.contains.ensures ∙ c.if-contains.false in
    let unknown = any-map (λ v. v.items) (same c.as_slice-bytes.result.now) c.loop-name.met.keys ∙ absent in
    let after = names-after (λ v. v.items) c.loop-name.met.keys c.insert.new.self.keys c.in_ok-to_vec.field-0 c.as_slice-bytes.result.now
    (c.in_ok-to_vec.ensures.items_if_clones_equal (λ x y e. e)) absent c.in_ok-insert.ensures.keys in
    let grown : map (λ v. v.items) c.insert.new.self.keys ≡ map (λ v. v.items) c.loop-name.met.keys ++ c.as_slice-bytes.result.now ∷ [] = after ∙ rw unknown refl in
    c.loop-name.invariant
    ∙ new_at same same_told _ c.args.names.now c.loop-name.name-index c.name-item.result less
    (subst (λ (b : List ℕ). list_any (same b) (map (λ v. v.items) c.loop-name.met.keys) ≡ false) name unknown)
    ∙ sym (ap (λ s. is_new same s (drop (c.loop-name.name-index + 1) c.args.names.now)) (grown ∙ ap (λ b. map (λ v. v.items) c.loop-name.met.keys ++ b ∷ []) name))
