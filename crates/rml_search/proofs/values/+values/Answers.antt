use Rattle.std.proofs.Common.{rules, arith, ◌≤◌, sum_by, sym, ◌∙◌}
use Rattle.rml_resolved.specs.Size.{val_size}
use Rattle.rml_terms.specs.Evaluating.{vals_to}
use Rattle.rml_search.specs.Values.{meaning, meaning_of_val}
use Rattle.rml_evaluation.proofs.Callers.{vals_to-some, part-le, all-more}
use Rattle.rml_search.proofs.values.+values.Goals as goal

pub val-val_by-requires : goal.val-val_by-requires
val-val_by-requires t c =
    let small : val_size c.in-Some.def.now ≤ sum_by val_size c.args.vals.now = part-le val_size c.args.vals.now c.args.k c.in-Some.def.now (sym c.in-Some.ensures) in
    (search rules, small)

pub val-returns-in-Some : goal.val-returns-in-Some
val-returns-in-Some t c = rw (vals_to-some (meaning_of_val c.args.names.now) c.args.vals.now c.args.depth c.args.k (omega arith), ← c.in-Some.ensures) c.val_by.ensures

pub val-returns-in-None : goal.val-returns-in-None
val-returns-in-None t c = search (rules, vals_to-some)

pub values-loop-exp-preserved : goal.values-loop-exp-preserved
values-loop-exp-preserved t c =
    c.loop-exp.invariant
    ∙ all-more (meaning c.args.names.now (vals_to (meaning_of_val c.args.names.now) c.args.vals.now c.args.depth)) c.args.exps.now c.loop-exp.exp-index c.exp-item.result c.args.env.now
    c.in-Some.v c.loop-exp.all c.push.new.self (omega arith) c.exp-item.is (sym c.in-Some.is ∙ c.in_ok-value.ensures) c.in_ok-push-in-Some.ensures.ok
