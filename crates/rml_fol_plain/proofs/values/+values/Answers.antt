use Rattle.std.proofs.Common.{rules, arith, ◌≤◌, sum_by, sym, refl, ◌∙◌}
use Rattle.rml_fol.specs.Size.{nodes}
use Rattle.rml_fol.specs.Expressions.{value_of}
use Rattle.rml_terms.specs.Evaluating.{vals_to}
use Rattle.rml_evaluation.proofs.Callers.{vals_to-some, part-le, all-more}
use Rattle.rml_fol_plain.specs.Given.{expressions_in}
use Rattle.rml_fol_plain.proofs.Vals.{expression-there, expression-none}
use Rattle.rml_fol_plain.proofs.values.+values.Goals as goal

pub val-val_by-requires : goal.val-val_by-requires
val-val_by-requires t c =
    let there = expression-there c.args.vals.now c.args.k c.in-Some.def.now (sym c.in-Some.ensures) in
    let small : nodes c.in-Some.def.now.value ≤ sum_by nodes (expressions_in c.args.vals.now) = part-le nodes (expressions_in c.args.vals.now) c.args.k c.in-Some.def.now.value there in
    (search rules, small)

pub val-returns-in-Some : goal.val-returns-in-Some
val-returns-in-Some t c =
    let there = expression-there c.args.vals.now c.args.k c.in-Some.def.now (sym c.in-Some.ensures) in
    rw (vals_to-some value_of (expressions_in c.args.vals.now) c.args.depth c.args.k (omega arith), there) c.val_by.ensures

pub val-returns-in-None : goal.val-returns-in-None
val-returns-in-None t c =
    let none = expression-none c.args.vals.now c.args.k (sym c.in-None.ensures) in
    rw (vals_to-some value_of (expressions_in c.args.vals.now) c.args.depth c.args.k (omega arith), none) refl

pub values-loop-expression-preserved : goal.values-loop-expression-preserved
values-loop-expression-preserved t c =
    c.loop-expression.invariant
    ∙ all-more (value_of (vals_to value_of (expressions_in c.args.vals.now) c.args.depth)) c.args.expressions.now c.loop-expression.expression-index c.expression-item.result c.args.env.now
    c.in-Some.v c.loop-expression.all c.push.new.self (omega arith) c.expression-item.is (sym c.in-Some.is ∙ c.in_ok-value.ensures) c.in_ok-push-in-Some.ensures.ok
