use Rattle.std.proofs.Common.{◌≡◌, ◌+◌, ◌++◌, ◌∷◌, [], ℕ, List, ◌∙◌, ap, length-append}
use Rattle.rml_reach.proofs.TurnedLemmas.{none-more}
use Rattle.rml_reach.proofs.turned.without_edges.Goals as goal

pub loop-preserved : goal.loop-preserved
loop-preserved c =
    let is : c.push.new.self.items ≡ c.loop.nodes.items ++ [] ∷ [] = c.in_ok-push.ensures.items ∙ ap (λ (es : List ℕ). c.loop.nodes.items ++ es ∷ []) c.new.ensures in
    rw is (length-append c.loop.nodes.items ([] ∷ []) ∙ ap (λ n. n + 1) c.loop.invariant.0, none-more c.loop.nodes.items c.loop.invariant.1)
