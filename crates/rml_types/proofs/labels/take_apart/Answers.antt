use Rattle.std.proofs.Common.{◌∙◌, ◌+◌, ◌++◌, ap, arith}
use Rattle.rml_types.specs.declared.form.TypeCon.TheVariants as con
use Rattle.rml_types.specs.Labels.{all_labels, labels, looked_at}
use Rattle.rml_types.proofs.LabelLists.{apart, apart-Rel}
use Rattle.rml_types.proofs.labels.take_apart.Goals as goal

pub returns-in_ok-wait-in-Named : goal.returns-in_ok-wait-in-Named
returns-in_ok-wait-in-Named c =
    ap (λ t. all_labels (looked_at c.args.waiting.now.items) ++ labels t) c.in-Named.is
    ∙ apart (con.Named c.in-Named.c) c.in-Named.args (looked_at c.args.waiting.now.items) (looked_at c.wait.new.waiting.items) c.len.result tt
    (c.in_ok-wait-in-Named.ensures ∙ ap (λ us. looked_at c.args.waiting.now.items ++ us) c.as_slice.ensures) c.len.ensures

pub returns-in_ok-wait-in-Tuple : goal.returns-in_ok-wait-in-Tuple
returns-in_ok-wait-in-Tuple c =
    ap (λ t. all_labels (looked_at c.args.waiting.now.items) ++ labels t) c.in-Tuple.is
    ∙ apart con.Tuple c.in-Tuple.parts (looked_at c.args.waiting.now.items) (looked_at c.wait-in-Tuple.new.waiting.items) c.len-in-Tuple.result tt
    (c.in_ok-wait-in-Tuple.ensures ∙ ap (λ us. looked_at c.args.waiting.now.items ++ us) c.as_slice-in-Tuple.ensures) c.len-in-Tuple.ensures

pub returns-in_ok-wait-in-Rel-2 : goal.returns-in_ok-wait-in-Rel-2
returns-in_ok-wait-in-Rel-2 c =
    ap (λ t. all_labels (looked_at c.args.waiting.now.items) ++ labels t) c.in-Rel.is
    ∙ apart-Rel c.in-Rel.inputs c.in-Rel.outputs (looked_at c.args.waiting.now.items) (looked_at c.wait-in-Rel.new.waiting.items) (looked_at c.wait-in-Rel-2.new.waiting.items) c.in-Ok.count (c.len-in-Rel-2.result + c.len-in-Rel-3.result)
    (c.in_ok-wait-in-Rel.ensures ∙ ap (λ us. looked_at c.args.waiting.now.items ++ us) c.as_slice-in-Rel.ensures)
    (c.in_ok-wait-in-Rel-2.ensures ∙ ap (λ us. looked_at c.wait-in-Rel.new.waiting.items ++ us) c.as_slice-in-Rel-2.ensures)
    (c.in-Ok.ensures.1 ∙ c.len-in-Rel.ensures) (let a = c.len-in-Rel-2.ensures in let b = c.len-in-Rel-3.ensures in omega (arith, a, b))
