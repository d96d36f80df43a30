use Rattle.std.proofs.Common.{◌/◌, ◌<◌, ◌∙◌, length, ap, arith}
use Rattle.std.specs.List.{filter}
use Rattle.std.specs.Vec.{vec_len}
use Rattle.rml_alone.proofs.Callers.{not-both}
use Rattle.rml_base.specs.Order.{is_before}
use Rattle.rml_groups.specs.declared.spots.Spot.{Spot}
use Rattle.rml_groups.specs.Spots.{comes_after}
use Rattle.rml_groups.proofs.Searched.{less-left, none-left, searching-after, searching-before, searching-begun, searching-ended, some-left}
use Rattle.rml_groups.proofs.least.least_rule.Goals as goal

pub loop-alloc-init : goal.loop-alloc-init
loop-alloc-init c = λ p text is never. searching-begun p text c.args.unit.now.rels.now c.args.unit.now.number c.in_ok-left.left.items is.rels is.number c.in_ok-left.ensures never

pub loop-alloc-smaller-then-branch : goal.loop-alloc-smaller-then-branch
loop-alloc-smaller-then-branch c =
    let some = some-left (vec_len c.loop-alloc.left) c.loop-alloc-test.ensures in let ok = c.loop-alloc.left.ok.0 in
    let lt : c.len.result / 2 < length c.loop-alloc.left.items = omega arith in
    less-left (λ s. comes_after s c.remove-middle.result) c.loop-alloc.left.items c.remove-middle.new.self.items c.keep_after.new.spots.items (c.len.result / 2) lt c.remove-middle.ensures.items c.keep_after.ensures

pub loop-alloc-preserved-then-branch : goal.loop-alloc-preserved-then-branch
loop-alloc-preserved-then-branch c = λ p text is never.
    let some = some-left (vec_len c.loop-alloc.left) c.loop-alloc-test.ensures in let ok = c.loop-alloc.left.ok.0 in
    let lt : c.len.result / 2 < length c.loop-alloc.left.items = omega arith in
    searching-after p text c.loop-alloc.left.items c.loop-alloc.found (c.loop-alloc.invariant p text is never) (c.len.result / 2) c.remove-middle.result lt c.remove-middle.ensures.value
    ((c.in_ok-can_be_typed.ensures p text is).0 c.if-branch.true) c.keep_after.new.spots.items (c.keep_after.ensures ∙ ap (filter (λ (x : Spot). comes_after x c.remove-middle.result)) c.remove-middle.ensures.items)

pub loop-alloc-smaller : goal.loop-alloc-smaller
loop-alloc-smaller c =
    let some = some-left (vec_len c.loop-alloc.left) c.loop-alloc-test.ensures in let ok = c.loop-alloc.left.ok.0 in
    let lt : c.len.result / 2 < length c.loop-alloc.left.items = omega arith in
    less-left (λ s. is_before s.place c.remove-middle.result.place) c.loop-alloc.left.items c.remove-middle.new.self.items c.keep_before.new.spots.items (c.len.result / 2) lt c.remove-middle.ensures.items c.keep_before.ensures

pub loop-alloc-preserved : goal.loop-alloc-preserved
loop-alloc-preserved c = λ p text is never.
    let some = some-left (vec_len c.loop-alloc.left) c.loop-alloc-test.ensures in let ok = c.loop-alloc.left.ok.0 in
    let lt : c.len.result / 2 < length c.loop-alloc.left.items = omega arith in
    searching-before p text c.loop-alloc.left.items c.loop-alloc.found (c.loop-alloc.invariant p text is never) (c.len.result / 2) c.remove-middle.result lt c.remove-middle.ensures.value
    (λ typed. not-both c.in_ok-can_be_typed.field-0 ((c.in_ok-can_be_typed.ensures p text is).1 typed) c.if-branch.false) c.keep_before.new.spots.items (c.keep_before.ensures ∙ ap (filter (λ (x : Spot). is_before x.place c.remove-middle.result.place)) c.remove-middle.ensures.items)

pub returns : goal.returns
returns c = λ p text is never.
    let ok = c.loop-alloc.left.ok.0 in
    searching-ended p text c.loop-alloc.left.items c.loop-alloc.found (none-left c.loop-alloc.left.items (vec_len c.loop-alloc.left) (omega arith) c.loop-alloc-test.ensures) (c.loop-alloc.invariant p text is never)
