use Rattle.std.proofs.Common.{◌≡◌, ◌≤◌, ◌+◌, ◌*◌, ℕ, List, ◌++◌, Option, Some, None, IfOk, drop, length, arith, refl, sym, ap, subst, ◌∙◌}
use Rattle.std.proofs.lemmas.List.{drop_all}
use Rattle.rml_simulation.specs.declared.partial.Trace.{Trace}
use Rattle.rml_simulation.specs.declared.partial.Partial.{Partial}
use Rattle.rml_simulation.specs.declared.partial.Partial.TheVariants.{Yes, No, CutOff, GoneWrong}
use Rattle.rml_simulation.specs.Partial.{after, then_go, or_else, either}
use Rattle.rml_value.specs.declared.value.Value.{Value, out-Value}
use Rattle.rml_builtin.specs.declared.applied.Answer.{Answer}
use Rattle.rml_terms.specs.Env.{Env}
use Rattle.rml_terms.specs.Calling.{with_value}
use Rattle.rml_evaluation.proofs.Callers.{after_joined, part-le}
use Rattle.rml_fol.specs.declared.statements.Stmt.{Stmt}
use Rattle.rml_fol.specs.declared.statements.Case.{out-Case}
use Rattle.rml_fol.specs.Weights.{entry_weight}
use Rattle.rml_fol.specs.Statements.{Given, weight_alone, retried, bind_all, arguments_at, relation_of, call, values_of}
use Rattle.rml_fol.specs.Relations.{answered}
use Rattle.rml_fol_plain.specs.declared.named.Named.{Named}
use Rattle.rml_fol_plain.specs.Sizes.{stmts_size, bodies_size, relation_size, relations_size}
use Rattle.rml_fol_plain.specs.Given.{calls_in, alone, block_in, known, in_order_in, chosen_in}
use Rattle.rml_fol_plain.proofs.Calls.{relation_none, relation_runs, call_answers, depth_falls}
use Rattle.rml_fol_plain.proofs.Firsts.{cond_by, retried_more}
use Rattle.rml_fol_plain.proofs.Smaller.{less_is_left, named_is_left, fewer_bodies}
use Rattle.rml_fol_plain.proofs.Steps.{failed_cut, failed_more}
use Rattle.rml_fol_plain.proofs.Turns.{block_names, block_goes_on, order_ends, order_last, order_more, chosen_now, chosen_later, body_here, body_before}
use Rattle.rml_fol_plain.proofs.blocks.+blocks.Goals as goal
use Rattle.rml_fol_plain.proofs.blocks.+blocks.Goals.{block-in-Body+in_ok-copy_env+in_ok-push, block-in_default+in_ok-state+in-Yes+in_ok-trace-in-Yes}

pub block-returns-in-No : goal.block-returns-in-No
block-returns-in-No t c =
    let gives = c.in_ok-state.ensures ∙ ap (λ (bs : List Named). alone c.args.tables.now c.args.depth c.stmt-item.result (known c.args.tables.now c.args.depth bs) c.loop-stmt.env c.loop-stmt.store c.loop-stmt.left) c.new.ensures in
    ap (λ (u : Trace). No u c.in-No.m) c.in_ok-join-in-No.ensures
    ∙ sym (block_goes_on c.args.tables.now c.args.depth _ c.loop-stmt.trace c.args.stmts.now c.loop-stmt.stmt-index c.stmt-item.result c.loop-stmt.env c.loop-stmt.store c.loop-stmt.left (known c.args.tables.now c.args.depth c.loop-stmt.bodies) c.in_ok-state.field-0 (No c.in-No.more c.in-No.m)
    c.loop-stmt.invariant.0 (omega arith) c.stmt-item.is (sym c.is_last.ensures ∙ c.if-is_last.false) c.in_default.not-Body gives c.in-No.is)

pub block-returns-in-CutOff : goal.block-returns-in-CutOff
block-returns-in-CutOff t c =
    let gives = c.in_ok-state.ensures ∙ ap (λ (bs : List Named). alone c.args.tables.now c.args.depth c.stmt-item.result (known c.args.tables.now c.args.depth bs) c.loop-stmt.env c.loop-stmt.store c.loop-stmt.left) c.new.ensures in
    ap (λ (u : Trace). CutOff u) c.in_ok-join-in-CutOff.ensures
    ∙ sym (block_goes_on c.args.tables.now c.args.depth _ c.loop-stmt.trace c.args.stmts.now c.loop-stmt.stmt-index c.stmt-item.result c.loop-stmt.env c.loop-stmt.store c.loop-stmt.left (known c.args.tables.now c.args.depth c.loop-stmt.bodies) c.in_ok-state.field-0 (CutOff c.in-CutOff.more)
    c.loop-stmt.invariant.0 (omega arith) c.stmt-item.is (sym c.is_last.ensures ∙ c.if-is_last.false) c.in_default.not-Body gives c.in-CutOff.is)

pub block-returns-in-GoneWrong : goal.block-returns-in-GoneWrong
block-returns-in-GoneWrong t c =
    let gives = c.in_ok-state.ensures ∙ ap (λ (bs : List Named). alone c.args.tables.now c.args.depth c.stmt-item.result (known c.args.tables.now c.args.depth bs) c.loop-stmt.env c.loop-stmt.store c.loop-stmt.left) c.new.ensures in
    ap (λ (u : Trace). GoneWrong u) c.in_ok-join-in-GoneWrong.ensures
    ∙ sym (block_goes_on c.args.tables.now c.args.depth _ c.loop-stmt.trace c.args.stmts.now c.loop-stmt.stmt-index c.stmt-item.result c.loop-stmt.env c.loop-stmt.store c.loop-stmt.left (known c.args.tables.now c.args.depth c.loop-stmt.bodies) c.in_ok-state.field-0 (GoneWrong c.in-GoneWrong.more)
    c.loop-stmt.invariant.0 (omega arith) c.stmt-item.is (sym c.is_last.ensures ∙ c.if-is_last.false) c.in_default.not-Body gives c.in-GoneWrong.is)

pub block-loop-stmt-preserved : goal.block-loop-stmt-preserved
block-loop-stmt-preserved t c = elim c.match-stmt.branch [
  | block-in-Body+in_ok-copy_env+in_ok-push w ↦
      let pushed = w.bodies-is ∙ w.in_ok-push.ensures.ok in (
        rw (w.trace-is, w.env-is, w.store-is, w.left-is)
            (block_names c.args.tables.now c.args.depth _ c.loop-stmt.trace c.args.stmts.now c.loop-stmt.stmt-index c.stmt-item.result c.loop-stmt.env c.loop-stmt.store c.loop-stmt.left c.loop-stmt.bodies c.match-stmt.bodies _ w.in-Body.number w.in-Body.vars w.in-Body.block
            c.loop-stmt.invariant.0 (omega arith) c.stmt-item.is w.in-Body.is pushed refl w.as_slice.ensures w.as_slice-in-Body.ensures (w.in_ok-copy_env.ensures ∙ w.as_slice-in-Body-2.ensures)),
        named_is_left c.args.stmts.now c.loop-stmt.stmt-index c.stmt-item.result (omega arith) c.stmt-item.is c.loop-stmt.bodies c.match-stmt.bodies _ w.in-Body.number w.in-Body.vars w.in-Body.block _ w.in-Body.is pushed w.as_slice-in-Body.ensures c.loop-stmt.invariant.1,
      )
  | block-in_default+in_ok-state+in-Yes+in_ok-trace-in-Yes w ↦
      let B = known c.args.tables.now c.args.depth c.loop-stmt.bodies in
      let rest : Given → Partial Given = λ g. block_in c.args.tables.now c.args.depth (drop (c.loop-stmt.stmt-index + 1) c.args.stmts.now) B g.env g.store w.in-Yes.m in
      let gives = w.in_ok-state.ensures ∙ ap (λ (bs : List Named). alone c.args.tables.now c.args.depth c.stmt-item.result (known c.args.tables.now c.args.depth bs) c.loop-stmt.env c.loop-stmt.store c.loop-stmt.left) w.new.ensures in (
        rw (w.trace-is, w.env-is, w.store-is, w.left-is, w.bodies-is)
            (block_goes_on c.args.tables.now c.args.depth _ c.loop-stmt.trace c.args.stmts.now c.loop-stmt.stmt-index c.stmt-item.result c.loop-stmt.env c.loop-stmt.store c.loop-stmt.left B w.in_ok-state.field-0 (Yes w.in-Yes.state w.in-Yes.more w.in-Yes.m)
            c.loop-stmt.invariant.0 (omega arith) c.stmt-item.is (sym c.is_last.ensures ∙ c.if-is_last.false) w.in_default.not-Body gives w.in-Yes.is
            ∙ sym (after_joined c.loop-stmt.trace w.in-Yes.more (rest w.in-Yes.state))
            ∙ ap (λ (u : Trace). after u (rest w.in-Yes.state)) (sym w.in_ok-trace-in-Yes.ensures)
            ∙ ap (λ (g : Given). after w.in_ok-trace-in-Yes.trace (rest g)) (sym w.parts-parts.ensures)),
        rw w.bodies-is (less_is_left c.args.stmts.now c.loop-stmt.stmt-index c.stmt-item.result (omega arith) c.stmt-item.is c.loop-stmt.bodies _ c.loop-stmt.invariant.1),
      )
]

pub by_relation-block-requires : goal.by_relation-block-requires
by_relation-block-requires t c =
    let small : relation_size c.in-Some.def.now ≤ relations_size c.args.tables.now.rels.now = part-le relation_size c.args.tables.now.rels.now c.args.rel c.in-Some.def.now (sym c.in-Some.ensures) in
    let stmts : stmts_size c.as_slice-stmts.result.now ≤ relations_size c.args.tables.now.rels.now = rw c.as_slice-stmts.ensures small in
    let none : bodies_size c.new.result ≡ 0 = rw c.new.ensures refl in
    (omega (arith, none, depth_falls c.args.depth (4 * relations_size c.args.tables.now.rels.now + 9) (4 * stmts_size c.as_slice-stmts.result.now + 4) (omega arith) (omega (arith, stmts))), tt)

pub by_relation-returns-in-None : goal.by_relation-returns-in-None
by_relation-returns-in-None t c =
    ap (λ (u : Trace). No u c.args.n) c.no_trace-in-None.ensures
    ∙ sym (relation_none c.args.tables.now c.args.depth c.args.rel (record { values = c.args.args.now; store = c.args.store }) c.args.n (omega arith) c.in-None.ensures)

pub by_relation-returns-in_ok-answer-in-Yes : goal.by_relation-returns-in_ok-answer-in-Yes
by_relation-returns-in_ok-answer-in-Yes t c =
    let runs = relation_runs c.args.tables.now c.args.depth c.args.rel c.in-Some.def.now c.args.args.now c.args.store c.args.n (omega arith) c.in-Some.ensures c.as_slice-stmts.result.now c.new.result c.in_ok-env-in-Some.env c.in_ok-state-in-Some.field-0
    c.if-def-args.false c.as_slice-stmts.ensures c.new.ensures c.in_ok-env-in-Some.ensures c.in_ok-state-in-Some.ensures in
    let weighs : c.met-weight.result ≡ weight_alone (entry_weight (length c.args.args.now)) = c.met-weight.ensures ∙ ap weight_alone c.in_ok-entry-in-Some.ensures in
    let given = c.in_ok-answer-in-Yes.ensures ∙ ap (λ (x : Partial Answer). after c.in-Yes.trace x) c.in_ok-answered-in-Yes.ensures in
    let is =
    ap (λ (u : Trace). after u c.in_ok-answer-in-Yes.answer) weighs
    ∙ ap (λ (x : Partial Answer). after (weight_alone (entry_weight (length c.args.args.now))) x) given
    ∙ ap (λ (x : Partial Given). after (weight_alone (entry_weight (length c.args.args.now))) (then_go x answered)) (sym c.in-Yes.is)
    ∙ sym runs in
    subst (λ (x : Partial Answer). IfOk c.put_before-in-Yes.result (λ w. w ≡ x)) is c.put_before-in-Yes.ensures

pub by_relation-returns-in-No : goal.by_relation-returns-in-No
by_relation-returns-in-No t c =
    let runs = relation_runs c.args.tables.now c.args.depth c.args.rel c.in-Some.def.now c.args.args.now c.args.store c.args.n (omega arith) c.in-Some.ensures c.as_slice-stmts.result.now c.new.result c.in_ok-env-in-Some.env c.in_ok-state-in-Some.field-0
    c.if-def-args.false c.as_slice-stmts.ensures c.new.ensures c.in_ok-env-in-Some.ensures c.in_ok-state-in-Some.ensures in
    let weighs : c.met-weight.result ≡ weight_alone (entry_weight (length c.args.args.now)) = c.met-weight.ensures ∙ ap weight_alone c.in_ok-entry-in-Some.ensures in
    let is =
    ap (λ (u : Trace). after u (No c.in-No.trace c.in-No.m)) weighs
    ∙ ap (λ (x : Partial Given). after (weight_alone (entry_weight (length c.args.args.now))) (then_go x answered)) (sym c.in-No.is)
    ∙ sym runs in
    subst (λ (x : Partial Answer). IfOk c.put_before-in-No.result (λ w. w ≡ x)) is c.put_before-in-No.ensures

pub by_relation-returns-in-CutOff : goal.by_relation-returns-in-CutOff
by_relation-returns-in-CutOff t c =
    let runs = relation_runs c.args.tables.now c.args.depth c.args.rel c.in-Some.def.now c.args.args.now c.args.store c.args.n (omega arith) c.in-Some.ensures c.as_slice-stmts.result.now c.new.result c.in_ok-env-in-Some.env c.in_ok-state-in-Some.field-0
    c.if-def-args.false c.as_slice-stmts.ensures c.new.ensures c.in_ok-env-in-Some.ensures c.in_ok-state-in-Some.ensures in
    let weighs : c.met-weight.result ≡ weight_alone (entry_weight (length c.args.args.now)) = c.met-weight.ensures ∙ ap weight_alone c.in_ok-entry-in-Some.ensures in
    let is =
    ap (λ (u : Trace). after u (CutOff c.in-CutOff.trace)) weighs
    ∙ ap (λ (x : Partial Given). after (weight_alone (entry_weight (length c.args.args.now))) (then_go x answered)) (sym c.in-CutOff.is)
    ∙ sym runs in
    subst (λ (x : Partial Answer). IfOk c.put_before-in-CutOff.result (λ w. w ≡ x)) is c.put_before-in-CutOff.ensures

pub by_relation-returns-in-GoneWrong : goal.by_relation-returns-in-GoneWrong
by_relation-returns-in-GoneWrong t c =
    let runs = relation_runs c.args.tables.now c.args.depth c.args.rel c.in-Some.def.now c.args.args.now c.args.store c.args.n (omega arith) c.in-Some.ensures c.as_slice-stmts.result.now c.new.result c.in_ok-env-in-Some.env c.in_ok-state-in-Some.field-0
    c.if-def-args.false c.as_slice-stmts.ensures c.new.ensures c.in_ok-env-in-Some.ensures c.in_ok-state-in-Some.ensures in
    let weighs : c.met-weight.result ≡ weight_alone (entry_weight (length c.args.args.now)) = c.met-weight.ensures ∙ ap weight_alone c.in_ok-entry-in-Some.ensures in
    let is =
    ap (λ (u : Trace). after u (GoneWrong c.in-GoneWrong.trace)) weighs
    ∙ ap (λ (x : Partial Given). after (weight_alone (entry_weight (length c.args.args.now))) (then_go x answered)) (sym c.in-GoneWrong.is)
    ∙ sym runs in
    subst (λ (x : Partial Answer). IfOk c.put_before-in-GoneWrong.result (λ w. w ≡ x)) is c.put_before-in-GoneWrong.ensures

pub called-returns-in_ok-put_before-in-Yes : goal.called-returns-in_ok-put_before-in-Yes
called-returns-in_ok-put_before-in-Yes t c =
    let values = ap (λ (e : Env). values_of c.args.xs.now e) (sym c.as_slice.ensures) ∙ sym c.in_ok-values_of.ensures ∙ c.in-Some.is in
    let rel = c.relation-rel.ensures ∙ ap (λ (e : Env). relation_of c.args.callee e) c.as_slice-in-Some.ensures in
    let answers =
    ap (λ (vs : List Value). call (calls_in c.args.tables.now c.args.depth) c.relation-rel.result vs c.args.store c.args.n) (sym c.as_slice-in-Some-2.ensures)
    ∙ sym c.in_ok-answer-in-Some.ensures ∙ c.in-Yes.is in
    let begins = c.met-begun.ensures ∙ ap weight_alone c.in_ok-entry-in-Yes.ensures in
    let is =
    ap (λ (x : Partial Given). after c.met-weight.result x)
    (c.in_ok-put_before-in-Yes.ensures ∙ ap (λ (x : Partial Given). after c.in-Yes.trace x) c.in_ok-part-in-Yes.ensures)
    ∙ call_answers c.args.tables.now c.args.depth c.args.callee c.args.xs.now c.args.ys.now c.args.env c.args.store c.args.n c.in-Yes.m c.in-Some.args c.relation-rel.result c.in-Yes.answer c.met-weight.result c.in-Yes.trace c.met-begun.result c.in_ok-received-in-Yes.field-0
    c.met-weight.ensures values rel answers begins c.in_ok-received-in-Yes.ensures in
    subst (λ (x : Partial Given). IfOk c.put_before-in-Yes-2.result (λ w. w ≡ x)) is c.put_before-in-Yes-2.ensures

pub chosen-returns-in-None : goal.chosen-returns-in-None
chosen-returns-in-None t c =
    let k = c.case-item.result in
    let v = out-Value c.args.value.now in
    let none : bind_all (out-Case k).vars (arguments_at v) c.args.env ≡ None =
    ap (λ (xs : List ℕ). bind_all xs (arguments_at v) c.args.env) (sym c.as_slice.ensures)
    ∙ ap (λ (vs : List Value). bind_all c.as_slice.result.now vs c.args.env) (sym c.arguments.ensures)
    ∙ sym c.in_ok-bind_all.ensures ∙ c.in-None.is in
    ap (λ (u : Trace). GoneWrong u) c.no_trace.ensures
    ∙ ap (λ (o : Option Env). with_value o (λ next. block_in c.args.tables.now c.args.depth (out-Case k).block (known c.args.tables.now c.args.depth c.loop-case.bodies) next c.loop-case.store) c.args.n) (sym none)
    ∙ sym (chosen_now c.args.tables.now c.args.depth _ c.args.blocks.0.now c.args.blocks.1.now c.loop-case.case-index k v (known c.args.tables.now c.args.depth c.loop-case.bodies) c.args.env c.loop-case.store c.args.n c.loop-case.invariant.0 (omega arith) c.case-item.is (sym c.has_tag.ensures ∙ c.if-has_tag.true))

pub chosen-returns-in-Some : goal.chosen-returns-in-Some
chosen-returns-in-Some t c =
    let k = c.case-item.result in
    let v = out-Value c.args.value.now in
    let B = known c.args.tables.now c.args.depth c.loop-case.bodies in
    let some : bind_all (out-Case k).vars (arguments_at v) c.args.env ≡ Some c.in-Some.env =
    ap (λ (xs : List ℕ). bind_all xs (arguments_at v) c.args.env) (sym c.as_slice.ensures)
    ∙ ap (λ (vs : List Value). bind_all c.as_slice.result.now vs c.args.env) (sym c.arguments.ensures)
    ∙ sym c.in_ok-bind_all.ensures ∙ c.in-Some.is in
    let is =
    ap (λ (ss : List Stmt). block_in c.args.tables.now c.args.depth ss B c.in-Some.env c.loop-case.store c.args.n) c.as_slice-in-Some.ensures
    ∙ ap (λ (o : Option Env). with_value o (λ next. block_in c.args.tables.now c.args.depth (out-Case k).block B next c.loop-case.store) c.args.n) (sym some)
    ∙ sym (chosen_now c.args.tables.now c.args.depth _ c.args.blocks.0.now c.args.blocks.1.now c.loop-case.case-index k v B c.args.env c.loop-case.store c.args.n c.loop-case.invariant.0 (omega arith) c.case-item.is (sym c.has_tag.ensures ∙ c.if-has_tag.true)) in
    subst (λ (x : Partial Given). IfOk c.block.result (λ w. w ≡ x)) is c.block.ensures

pub chosen-loop-case-preserved : goal.chosen-loop-case-preserved
chosen-loop-case-preserved t c = (
  chosen_later c.args.tables.now c.args.depth _ c.args.blocks.0.now c.args.blocks.1.now c.loop-case.case-index c.case-item.result (out-Value c.args.value.now) (known c.args.tables.now c.args.depth c.loop-case.bodies) c.args.env c.loop-case.store c.args.n
      c.loop-case.invariant.0 (omega arith) c.case-item.is (sym c.has_tag.ensures ∙ c.if-has_tag.false),
  c.loop-case.invariant.1,
)

pub chosen-returns : goal.chosen-returns
chosen-returns t c =
    let B = known c.args.tables.now c.args.depth c.loop-case.bodies in
    let all = drop_all c.loop-case.case-index c.args.blocks.0.now (omega arith) in
    let is = sym (c.loop-case.invariant.0 ∙ ap (λ ks. chosen_in c.args.tables.now c.args.depth ks c.args.blocks.1.now (out-Value c.args.value.now) B c.args.env c.loop-case.store c.args.n) all) in
    subst (λ (x : Partial Given). IfOk c.block-2.result (λ w. w ≡ x)) is c.block-2.ensures

pub cond-returns-in_ok-block-in-No : goal.cond-returns-in_ok-block-in-No
cond-returns-in_ok-block-in-No t c =
    let K = known c.args.tables.now c.args.depth c.args.bodies in
    let first = c.args.blocks.0.now in
    let third = c.args.blocks.2.now in
    let gives = c.in_ok-state.ensures ∙ ap (λ (bs : List Named). block_in c.args.tables.now c.args.depth first (known c.args.tables.now c.args.depth bs) c.in_ok-own_env.own_env c.in_ok-own.own c.args.n) c.new.ensures in
    let by = cond_by c.args.tables.now c.args.depth first c.args.env c.in_ok-own_env.own_env c.args.store c.in_ok-own.own c.args.n c.in_ok-state.field-0
    (c.in_ok-own_env.ensures ∙ c.as_slice.ensures) (c.in_ok-own.ensures ∙ c.as_slice-2.ensures) gives c.args.blocks.1.now third K in
    let is =
    ap (λ (x : Partial Given). after c.in_ok-begun-in-No.begun x) c.in_ok-block-in-No.ensures
    ∙ sym (by
    ∙ ap (λ (x : Partial Given). either x (λ (g : Given). block_in c.args.tables.now c.args.depth c.args.blocks.1.now K (c.args.env ++ g.env) g.store) (retried (block_in c.args.tables.now c.args.depth third K c.args.env c.args.store))) c.in-No.is
    ∙ retried_more c.in-No.trace c.met.result c.in_ok-begun-in-No.begun (block_in c.args.tables.now c.args.depth third K c.args.env c.args.store) c.in-No.m (c.met.ensures ∙ ap weight_alone c.in_ok-entry-in-No.ensures) c.in_ok-begun-in-No.ensures (omega arith)) in
    subst (λ (x : Partial Given). IfOk c.put_before-in-No.result (λ w. w ≡ x)) is c.put_before-in-No.ensures

pub goto-returns-in-None : goal.goto-returns-in-None
goto-returns-in-None t c =
    let b = c.in-Some.named in
    let block : Env → ℕ → Partial Given = λ next m. block_in c.args.tables.now c.args.depth b.block.now (known c.args.tables.now c.args.depth c.pop.new.self) next c.args.store m in
    let here = c.loop-named.invariant.0 ∙ body_here c.args.tables.now c.args.depth c.loop-named.before c.pop.new.self b c.args.number c.in-Some.ensures c.if-named-number.true in
    ap (λ (u : Trace). GoneWrong u) c.no_trace.ensures
    ∙ ap (λ (o : Option Env). with_value o block c.args.n) (sym c.in-None.is ∙ c.in_ok-bind_all.ensures)
    ∙ sym (ap (λ o. with_value o (λ does. does c.args.values.now c.args.store) c.args.n) here)

pub goto-returns-in-Some-2 : goal.goto-returns-in-Some-2
goto-returns-in-Some-2 t c =
    let b = c.in-Some.named in
    let block : Env → ℕ → Partial Given = λ next m. block_in c.args.tables.now c.args.depth b.block.now (known c.args.tables.now c.args.depth c.pop.new.self) next c.args.store m in
    let here = c.loop-named.invariant.0 ∙ body_here c.args.tables.now c.args.depth c.loop-named.before c.pop.new.self b c.args.number c.in-Some.ensures c.if-named-number.true in
    let is =
    ap (λ s. block_in c.args.tables.now c.args.depth b.block.now (known c.args.tables.now c.args.depth c.pop.new.self) c.in-Some-2.env s c.args.n) c.loop-named.invariant.1
    ∙ ap (λ (o : Option Env). with_value o block c.args.n) (sym c.in-Some-2.is ∙ c.in_ok-bind_all.ensures)
    ∙ sym (ap (λ o. with_value o (λ does. does c.args.values.now c.args.store) c.args.n) here) in
    subst (λ (x : Partial Given). IfOk c.block.result (λ w. w ≡ x)) is c.block.ensures

pub goto-loop-named-preserved : goal.goto-loop-named-preserved
goto-loop-named-preserved t c =
    (c.loop-named.invariant.0 ∙ body_before c.args.tables.now c.args.depth c.loop-named.before c.pop.new.self c.in-Some.named c.args.number c.in-Some.ensures c.if-named-number.false, c.loop-named.invariant.1, fewer_bodies c.loop-named.before c.pop.new.self c.in-Some.named _ c.in-Some.ensures c.loop-named.invariant.2)

pub in_order-returns-then-i-alternatives : goal.in_order-returns-then-i-alternatives
in_order-returns-then-i-alternatives t c =
    ap (λ (u : Trace). No u c.in-No.m) c.in_ok-trace-in-No.ensures
    ∙ sym (order_last c.args.tables.now c.args.depth _ c.loop-i.trace c.args.alternatives.now c.loop-i.i c.index-alternatives-i.result c.as_slice-stmts.result.now (known c.args.tables.now c.args.depth c.args.bodies) (known c.args.tables.now c.args.depth c.in_ok-own_bodies.own_bodies) c.args.env c.in_ok-own_env.own_env c.args.store c.in_ok-own.own c.loop-i.left
    c.loop-i.invariant (omega arith) c.index-alternatives-i.is c.as_slice-stmts.ensures (ap (λ (bs : List Named). known c.args.tables.now c.args.depth bs) (c.in_ok-own_bodies.ensures ∙ c.as_slice.ensures)) (c.in_ok-own_env.ensures ∙ c.as_slice-in-loop-i.ensures) (c.in_ok-own.ensures ∙ c.as_slice-in-loop-i-2.ensures)
    c.in_ok-part.part c.in_ok-part.ensures (omega arith)
    ∙ ap (λ (x : Partial Given). after c.loop-i.trace x) c.in-No.is)

pub in_order-returns-then-m-eq0 : goal.in_order-returns-then-m-eq0
in_order-returns-then-m-eq0 t c =
    sym (order_more c.args.tables.now c.args.depth _ c.loop-i.trace c.args.alternatives.now c.loop-i.i c.index-alternatives-i.result c.as_slice-stmts.result.now (known c.args.tables.now c.args.depth c.args.bodies) (known c.args.tables.now c.args.depth c.in_ok-own_bodies.own_bodies) c.args.env c.in_ok-own_env.own_env c.args.store c.in_ok-own.own c.loop-i.left
    c.loop-i.invariant (omega arith) c.index-alternatives-i.is c.as_slice-stmts.ensures (ap (λ (bs : List Named). known c.args.tables.now c.args.depth bs) (c.in_ok-own_bodies.ensures ∙ c.as_slice.ensures)) (c.in_ok-own_env.ensures ∙ c.as_slice-in-loop-i.ensures) (c.in_ok-own.ensures ∙ c.as_slice-in-loop-i-2.ensures)
    c.in_ok-part.part c.in_ok-part.ensures (omega arith)
    ∙ ap (λ (x : Partial Given). after c.loop-i.trace (or_else x (retried (in_order_in c.args.tables.now c.args.depth (drop (c.loop-i.i + 1) c.args.alternatives.now) (known c.args.tables.now c.args.depth c.args.bodies) c.args.env c.args.store)))) c.in-No.is
    ∙ failed_cut c.loop-i.trace c.in-No.more c.in_ok-trace-in-No.trace (in_order_in c.args.tables.now c.args.depth (drop (c.loop-i.i + 1) c.args.alternatives.now) (known c.args.tables.now c.args.depth c.args.bodies) c.args.env c.args.store) c.in-No.m c.in_ok-trace-in-No.ensures (omega arith))

pub in_order-returns-in_default : goal.in_order-returns-in_default
in_order-returns-in_default t c =
    let is =
    sym (order_ends c.args.tables.now c.args.depth _ c.loop-i.trace c.args.alternatives.now c.loop-i.i c.index-alternatives-i.result c.as_slice-stmts.result.now (known c.args.tables.now c.args.depth c.args.bodies) (known c.args.tables.now c.args.depth c.in_ok-own_bodies.own_bodies) c.args.env c.in_ok-own_env.own_env c.args.store c.in_ok-own.own c.loop-i.left
    c.loop-i.invariant (omega arith) c.index-alternatives-i.is c.as_slice-stmts.ensures (ap (λ (bs : List Named). known c.args.tables.now c.args.depth bs) (c.in_ok-own_bodies.ensures ∙ c.as_slice.ensures)) (c.in_ok-own_env.ensures ∙ c.as_slice-in-loop-i.ensures) (c.in_ok-own.ensures ∙ c.as_slice-in-loop-i-2.ensures)
    c.in_ok-part.part c.in_ok-part.ensures c.in_default.not-No) in
    subst (λ (x : Partial Given). IfOk c.put_before.result (λ w. w ≡ x)) is c.put_before.ensures

pub in_order-loop-i-preserved : goal.in_order-loop-i-preserved
in_order-loop-i-preserved t c =
    order_more c.args.tables.now c.args.depth _ c.loop-i.trace c.args.alternatives.now c.loop-i.i c.index-alternatives-i.result c.as_slice-stmts.result.now (known c.args.tables.now c.args.depth c.args.bodies) (known c.args.tables.now c.args.depth c.in_ok-own_bodies.own_bodies) c.args.env c.in_ok-own_env.own_env c.args.store c.in_ok-own.own c.loop-i.left
    c.loop-i.invariant (omega arith) c.index-alternatives-i.is c.as_slice-stmts.ensures (ap (λ (bs : List Named). known c.args.tables.now c.args.depth bs) (c.in_ok-own_bodies.ensures ∙ c.as_slice.ensures)) (c.in_ok-own_env.ensures ∙ c.as_slice-in-loop-i.ensures) (c.in_ok-own.ensures ∙ c.as_slice-in-loop-i-2.ensures)
    c.in_ok-part.part c.in_ok-part.ensures (omega arith)
    ∙ ap (λ (x : Partial Given). after c.loop-i.trace (or_else x (retried (in_order_in c.args.tables.now c.args.depth (drop (c.loop-i.i + 1) c.args.alternatives.now) (known c.args.tables.now c.args.depth c.args.bodies) c.args.env c.args.store)))) c.in-No.is
    ∙ failed_more c.loop-i.trace c.in-No.more c.in_ok-trace-in-No.trace c.in_ok-trace-in-No-2.trace c.met.result (in_order_in c.args.tables.now c.args.depth (drop (c.loop-i.i + 1) c.args.alternatives.now) (known c.args.tables.now c.args.depth c.args.bodies) c.args.env c.args.store) c.in-No.m c.in_ok-trace-in-No.ensures (c.met.ensures ∙ ap weight_alone c.in_ok-entry-in-No.ensures) c.in_ok-trace-in-No-2.ensures (omega arith)
