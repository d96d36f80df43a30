use Rattle.std.proofs.Common.{ap, sym, ◌∙◌, refl}
use Rattle.rml_code.specs.Stretch.{Stretch}
use Rattle.rml_acts.proofs.Switched.{switched, chosen-then, chosen-end, switch-stays}
use Rattle.rml_acts.proofs.switch.choose.Goals as goal

pub see-sight-requires : goal.see-sight-requires
see-sight-requires c = let w = switched c.args.a c.args.cases.now c.args.otherwise c.args.state.now c.requires.right in (w.seen, rw c.get.ensures w.sees)

pub has_tag-requires-clause-sees : goal.has_tag-requires-clause-sees
has_tag-requires-clause-sees c =
    let w = switched c.args.a c.args.cases.now c.args.otherwise c.args.state.now c.requires.right in
    let sees = c.see-sight.ensures w.seen (rw c.get.ensures w.sees) in
    (w.seen, sees)

pub returns-then-has_tag-clause-next : goal.returns-then-has_tag-clause-next
returns-then-has_tag-clause-next c =
    let w = switched c.args.a c.args.cases.now c.args.otherwise c.args.state.now c.requires.right in
    let sees = c.see-sight.ensures w.seen (rw c.get.ensures w.sees) in
    ap (λ (x : Stretch). x.next)
    (chosen-then w.seen c.args.cases.now c.args.otherwise c.args.state.now c.loop-case.case-index _ _ c.has_tag.result c.loop-case-test.true refl (c.has_tag.ensures w.seen sees) c.if-has_tag.true
    ∙ c.loop-case.invariant w.seen sees ∙ sym w.is)

pub leave-requires : goal.leave-requires
leave-requires c =
    let w = switched c.args.a c.args.cases.now c.args.otherwise c.args.state.now c.requires.right in
    let sees = c.see-sight.ensures w.seen (rw c.get.ensures w.sees) in
    let is = w.is ∙ sym (c.loop-case.invariant w.seen sees) ∙ chosen-end w.seen c.args.cases.now c.args.otherwise c.args.state.now c.loop-case.case-index c.loop-case-test.false in
    record { right = λ wrong. c.requires.right (ap (λ (x : Stretch). x.next) is ∙ wrong) }

pub returns-clause-next : goal.returns-clause-next
returns-clause-next c =
    let w = switched c.args.a c.args.cases.now c.args.otherwise c.args.state.now c.requires.right in
    let sees = c.see-sight.ensures w.seen (rw c.get.ensures w.sees) in
    let is = w.is ∙ sym (c.loop-case.invariant w.seen sees) ∙ chosen-end w.seen c.args.cases.now c.args.otherwise c.args.state.now c.loop-case.case-index c.loop-case-test.false in
    c.leave.ensures ∙ ap (λ (x : Stretch). x.next) (sym is)

pub returns-then-has_tag-clause-state : goal.returns-then-has_tag-clause-state
returns-then-has_tag-clause-state c = sym (switch-stays c.args.a c.args.cases.now c.args.otherwise c.args.state.now c.requires.right)

pub returns-clause-state : goal.returns-clause-state
returns-clause-state c = sym (switch-stays c.args.a c.args.cases.now c.args.otherwise c.args.state.now c.requires.right)
