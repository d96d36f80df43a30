use Rattle.std.proofs.Common.{◌≡◌, sym, ap, ◌∙◌}
use Rattle.rml_types.specs.declared.tree.SchemeTree.{SchemeTree}
use Rattle.rml_abbreviations.specs.Written.{meaning_in, written}
use Rattle.rml_type_facts.specs.Same.{are_one}
use Rattle.rml_type_facts.proofs.SameTypes.{one-type, same-type}
use Rattle.rml_type_facts.proofs.differences.are_one.Goals as goal

pub returns-then-branch : goal.returns-then-branch
returns-then-branch c =
    sym (same-type (written (meaning_in c.args.table.now) c.args.a.now) (written (meaning_in c.args.table.now) c.args.b.now)
    (ap (written (meaning_in c.args.table.now)) (c.in_ok-same_type.ensures.0 c.if-branch.true)))

pub returns : goal.returns
returns c =
    let a : c.tree.result.now ≡ written (meaning_in c.args.table.now) c.args.a.now = c.tree.ensures ∙ c.of-a.ensures ∙ c.in_ok-written.ensures in
    let b : c.tree-2.result.now ≡ written (meaning_in c.args.table.now) c.args.b.now = c.tree-2.ensures ∙ c.of-b.ensures ∙ c.in_ok-written-2.ensures in
    one-type c.in_ok-one.one c.tree.result.now c.tree-2.result.now c.in_ok-one.ensures
    ∙ ap (λ (t : SchemeTree). are_one t c.tree-2.result.now) a
    ∙ ap (λ (t : SchemeTree). are_one (written (meaning_in c.args.table.now) c.args.a.now) t) b
