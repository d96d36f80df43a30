use Rattle.std.proofs.Common.{ap, sym, ◌∙◌, subst}
use Rattle.rml_heap.specs.HeapState.{HeapState}
use Rattle.rml_code.specs.declared.state.State.{State}
use Rattle.rml_code.specs.Stretch.{Stretch}
use Rattle.rml_code.specs.Effects.{otherwise}
use Rattle.rml_acts.specs.Did.{IsRight}
use Rattle.rml_acts.proofs.Looked.{compared-values, compared-then, compared-else, otherwise-stays}
use Rattle.rml_acts.proofs.values.compare.Goals as goal

pub equal-requires : goal.equal-requires
equal-requires c = compared-values c.args.a c.args.b c.args.otherwise c.args.state.now c.get-left.result c.get-right.result c.get-left.ensures c.get-right.ensures c.requires.meaning

pub leave-requires : goal.leave-requires
leave-requires c =
    let s : State = c.args.state.now in
    let P : HeapState → Type 0 = λ h. IsRight (otherwise c.args.otherwise (record s { heap = h })) in
    let is = compared-else c.args.a c.args.b c.args.otherwise c.args.state.now c.get-left.result c.get-right.result c.get-left.ensures c.get-right.ensures c.requires.meaning c.equal.result c.equal.ensures.equal c.if-equal.false in
    record { right = subst P (sym c.equal.ensures.same) (λ wrong. c.requires.meaning (ap (λ (a : Stretch). a.next) (sym is) ∙ wrong)) }

pub returns-then-equal-clause-next : goal.returns-then-equal-clause-next
returns-then-equal-clause-next c = ap (λ (a : Stretch). a.next) (compared-then c.args.a c.args.b c.args.otherwise c.args.state.now c.get-left.result c.get-right.result c.get-left.ensures c.get-right.ensures c.requires.meaning c.equal.result c.equal.ensures.equal c.if-equal.true)

pub returns-then-equal-clause-state : goal.returns-then-equal-clause-state
returns-then-equal-clause-state c =
    let s : State = c.args.state.now in
    ap (λ (h : HeapState). record s { heap = h }) c.equal.ensures.same ∙ ap (λ (a : Stretch). a.state) (compared-then c.args.a c.args.b c.args.otherwise c.args.state.now c.get-left.result c.get-right.result c.get-left.ensures c.get-right.ensures c.requires.meaning c.equal.result c.equal.ensures.equal c.if-equal.true)

pub returns-else-equal-clause-next : goal.returns-else-equal-clause-next
returns-else-equal-clause-next c =
    let s : State = c.args.state.now in
    c.leave.ensures ∙ ap (λ (h : HeapState). (otherwise c.args.otherwise (record s { heap = h })).next) c.equal.ensures.same
    ∙ ap (λ (a : Stretch). a.next) (compared-else c.args.a c.args.b c.args.otherwise c.args.state.now c.get-left.result c.get-right.result c.get-left.ensures c.get-right.ensures c.requires.meaning c.equal.result c.equal.ensures.equal c.if-equal.false)

pub returns-else-equal-clause-state : goal.returns-else-equal-clause-state
returns-else-equal-clause-state c =
    let s : State = c.args.state.now in
    ap (λ (h : HeapState). record s { heap = h }) c.equal.ensures.same ∙ sym (otherwise-stays c.args.otherwise s)
    ∙ ap (λ (a : Stretch). a.state) (compared-else c.args.a c.args.b c.args.otherwise c.args.state.now c.get-left.result c.get-right.result c.get-left.ensures c.get-right.ensures c.requires.meaning c.equal.result c.equal.ensures.equal c.if-equal.false)
