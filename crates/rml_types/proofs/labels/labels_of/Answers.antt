use Rattle.std.proofs.Common.{◌<◌, ◌∙◌, ◌++◌, ◌∷◌, [], sym, ap, List, length, reverse, subst}
use Rattle.std.proofs.lemmas.List.{map-append}
use Rattle.std.specs.Borrow.{Bor}
use Rattle.rml_types.specs.declared.tree.SchemeTree.{SchemeTree}
use Rattle.rml_types.specs.Labels.{Label, all_labels, looked_at}
use Rattle.rml_types.proofs.LabelLists.{walk-falls, walked}
use Rattle.rml_types.proofs.labels.labels_of.Goals as goal

pub loop-tree-smaller : goal.loop-tree-smaller
loop-tree-smaller c =
    let popped = ap looked_at c.in-Some.ensures.items ∙ map-append (λ (b : Bor SchemeTree). b.now) c.pop.new.self.items (c.in-Some.tree ∷ []) in
    subst (λ (ts : List SchemeTree). length (all_labels (looked_at c.take_apart.new.waiting.items)) < length (all_labels ts)) (sym popped)
    (walk-falls (looked_at c.pop.new.self.items) (looked_at c.take_apart.new.waiting.items) c.in-Some.tree.now c.in_ok-label.label c.in_ok-label.ensures)

pub loop-tree-preserved : goal.loop-tree-preserved
loop-tree-preserved c =
    let popped = ap looked_at c.in-Some.ensures.items ∙ map-append (λ (b : Bor SchemeTree). b.now) c.pop.new.self.items (c.in-Some.tree ∷ []) in
    let turn = walked (looked_at c.pop.new.self.items) (looked_at c.take_apart.new.waiting.items) c.in-Some.tree.now c.in_ok-label.label c.loop-tree.labels.items c.in_ok-label.ensures in
    ap (λ (ls : List Label). all_labels (looked_at c.take_apart.new.waiting.items) ++ reverse ls) c.in_ok-push-2.ensures.items
    ∙ turn ∙ ap (λ ts. all_labels ts ++ reverse c.loop-tree.labels.items) (sym popped) ∙ c.loop-tree.invariant
