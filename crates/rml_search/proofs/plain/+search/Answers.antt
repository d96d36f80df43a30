use Rattle.std.proofs.Common.{◌+◌, ◌≤◌, sum_by, rules, arith, drop, sym, ap, ◌∙◌}
use Rattle.rml_simulation.specs.declared.partial.Trace.{Trace}
use Rattle.rml_simulation.specs.declared.partial.Partial.TheVariants.{Yes, No, CutOff, GoneWrong}
use Rattle.rml_simulation.specs.Partial.{after}
use Rattle.rml_search.specs.Size.{goals_size, relation_size, relations_size}
use Rattle.rml_search.specs.Given.{context_in, relations_in}
use Rattle.rml_search.specs.Whole.{rules_of}
use Rattle.rml_search.specs.Search.{going, going_all, try}
use Rattle.rml_evaluation.proofs.Callers.{after_joined}
use Rattle.rml_search.proofs.Traces.{goals_go_on, rules_go_on, relations_to_some}
use Rattle.rml_evaluation.proofs.Callers.{part-le}
use Rattle.rml_search.proofs.plain.+search.Goals as goal

pub by_relation-by_rules-requires : goal.by_relation-by_rules-requires
by_relation-by_rules-requires t c =
    let small : sum_by goals_size c.as_slice-rules.result.now ≤ relations_size c.args.tables.now.rels.now =
    rw c.as_slice-rules.ensures (part-le relation_size c.args.tables.now.rels.now c.args.rel c.in-Some.def.now (sym c.in-Some.ensures)) in
    (search rules, small)

pub by_relation-returns-in-Some : goal.by_relation-returns-in-Some
by_relation-returns-in-Some t c =
    let by = rw c.as_slice-rules.ensures at c.by_rules.ensures in
    rw (relations_to_some (context_in c.args.tables.now) (rules_of c.args.tables.now.rels.now) c.args.depth c.args.rel (record { values = c.args.args.now; store = c.args.store.now }) c.args.n (omega arith), ← c.in-Some.ensures) by

pub by_rules-returns-in-Yes : goal.by_rules-returns-in-Yes
by_rules-returns-in-Yes t c =
    ap (λ (t : Trace). Yes c.in-Yes.a t c.in-Yes.m) c.in_ok-join-in-Yes.ensures
    ∙ sym (rules_go_on _ c.loop-rule.trace c.in_ok-begun.begun c.weight_of_step.result (context_in c.args.tables.now) (relations_in c.args.tables.now c.args.depth) c.args.rules.now c.loop-rule.rule-index c.rule-item.result c.args.args.now c.args.store.now c.in_ok-own.own c.loop-rule.left c.in_ok-a.field-0 (Yes c.in-Yes.a c.in-Yes.more c.in-Yes.m)
    c.loop-rule.invariant (omega arith) c.rule-item.is (omega arith) c.in_ok-own.ensures c.weight_of_step.ensures c.in_ok-begun.ensures c.in_ok-a.ensures c.in-Yes.is)

pub by_rules-returns-in-CutOff : goal.by_rules-returns-in-CutOff
by_rules-returns-in-CutOff t c =
    ap (λ (t : Trace). CutOff t) c.in_ok-join-in-CutOff.ensures
    ∙ sym (rules_go_on _ c.loop-rule.trace c.in_ok-begun.begun c.weight_of_step.result (context_in c.args.tables.now) (relations_in c.args.tables.now c.args.depth) c.args.rules.now c.loop-rule.rule-index c.rule-item.result c.args.args.now c.args.store.now c.in_ok-own.own c.loop-rule.left c.in_ok-a.field-0 (CutOff c.in-CutOff.more)
    c.loop-rule.invariant (omega arith) c.rule-item.is (omega arith) c.in_ok-own.ensures c.weight_of_step.ensures c.in_ok-begun.ensures c.in_ok-a.ensures c.in-CutOff.is)

pub by_rules-returns-in-GoneWrong : goal.by_rules-returns-in-GoneWrong
by_rules-returns-in-GoneWrong t c =
    ap (λ (t : Trace). GoneWrong t) c.in_ok-join-in-GoneWrong.ensures
    ∙ sym (rules_go_on _ c.loop-rule.trace c.in_ok-begun.begun c.weight_of_step.result (context_in c.args.tables.now) (relations_in c.args.tables.now c.args.depth) c.args.rules.now c.loop-rule.rule-index c.rule-item.result c.args.args.now c.args.store.now c.in_ok-own.own c.loop-rule.left c.in_ok-a.field-0 (GoneWrong c.in-GoneWrong.more)
    c.loop-rule.invariant (omega arith) c.rule-item.is (omega arith) c.in_ok-own.ensures c.weight_of_step.ensures c.in_ok-begun.ensures c.in_ok-a.ensures c.in-GoneWrong.is)

pub by_rules-loop-rule-preserved : goal.by_rules-loop-rule-preserved
by_rules-loop-rule-preserved t c =
    let rest = try (context_in c.args.tables.now) (relations_in c.args.tables.now c.args.depth) (drop (c.loop-rule.rule-index + 1) c.args.rules.now) (record { values = c.args.args.now; store = c.args.store.now }) c.in-No.m in
    rules_go_on _ c.loop-rule.trace c.in_ok-begun.begun c.weight_of_step.result (context_in c.args.tables.now) (relations_in c.args.tables.now c.args.depth) c.args.rules.now c.loop-rule.rule-index c.rule-item.result c.args.args.now c.args.store.now c.in_ok-own.own c.loop-rule.left c.in_ok-a.field-0 (No c.in-No.more c.in-No.m)
    c.loop-rule.invariant (omega arith) c.rule-item.is (omega arith) c.in_ok-own.ensures c.weight_of_step.ensures c.in_ok-begun.ensures c.in_ok-a.ensures c.in-No.is
    ∙ sym (after_joined c.in_ok-begun.begun c.in-No.more rest)
    ∙ ap (λ (t : Trace). after t rest) (sym c.in_ok-trace-in-No.ensures)

pub go_all-returns-in-No : goal.go_all-returns-in-No
go_all-returns-in-No t c =
    ap (λ (t : Trace). No t c.in-No.m) c.in_ok-join-in-No.ensures
    ∙ sym (goals_go_on _ c.loop-goal.trace (going (context_in c.args.tables.now) (relations_in c.args.tables.now c.args.depth)) c.args.goals.now c.loop-goal.goal-index c.goal-item.result c.loop-goal.env c.loop-goal.store c.loop-goal.left c.in_ok-state.field-0 (No c.in-No.more c.in-No.m)
    c.loop-goal.invariant (omega arith) c.goal-item.is c.in_ok-state.ensures c.in-No.is)

pub go_all-returns-in-CutOff : goal.go_all-returns-in-CutOff
go_all-returns-in-CutOff t c =
    ap (λ (t : Trace). CutOff t) c.in_ok-join-in-CutOff.ensures
    ∙ sym (goals_go_on _ c.loop-goal.trace (going (context_in c.args.tables.now) (relations_in c.args.tables.now c.args.depth)) c.args.goals.now c.loop-goal.goal-index c.goal-item.result c.loop-goal.env c.loop-goal.store c.loop-goal.left c.in_ok-state.field-0 (CutOff c.in-CutOff.more)
    c.loop-goal.invariant (omega arith) c.goal-item.is c.in_ok-state.ensures c.in-CutOff.is)

pub go_all-returns-in-GoneWrong : goal.go_all-returns-in-GoneWrong
go_all-returns-in-GoneWrong t c =
    ap (λ (t : Trace). GoneWrong t) c.in_ok-join-in-GoneWrong.ensures
    ∙ sym (goals_go_on _ c.loop-goal.trace (going (context_in c.args.tables.now) (relations_in c.args.tables.now c.args.depth)) c.args.goals.now c.loop-goal.goal-index c.goal-item.result c.loop-goal.env c.loop-goal.store c.loop-goal.left c.in_ok-state.field-0 (GoneWrong c.in-GoneWrong.more)
    c.loop-goal.invariant (omega arith) c.goal-item.is c.in_ok-state.ensures c.in-GoneWrong.is)

pub go_all-loop-goal-preserved : goal.go_all-loop-goal-preserved
go_all-loop-goal-preserved t c =
    let rest = going_all (context_in c.args.tables.now) (relations_in c.args.tables.now c.args.depth) (drop (c.loop-goal.goal-index + 1) c.args.goals.now) c.in-Yes.state.env c.in-Yes.state.store c.in-Yes.m in
    goals_go_on _ c.loop-goal.trace (going (context_in c.args.tables.now) (relations_in c.args.tables.now c.args.depth)) c.args.goals.now c.loop-goal.goal-index c.goal-item.result c.loop-goal.env c.loop-goal.store c.loop-goal.left c.in_ok-state.field-0 (Yes c.in-Yes.state c.in-Yes.more c.in-Yes.m)
    c.loop-goal.invariant (omega arith) c.goal-item.is c.in_ok-state.ensures c.in-Yes.is
    ∙ sym (after_joined c.loop-goal.trace c.in-Yes.more rest)
    ∙ ap (λ (t : Trace). after t rest) (sym c.in_ok-trace-in-Yes.ensures)
