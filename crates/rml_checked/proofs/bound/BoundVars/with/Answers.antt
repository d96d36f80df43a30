use Rattle.std.proofs.Common.{arith, rules, subst, sym, ◌∙◌, ◌++◌, ◌∷◌, [], List, ℕ, set, length, ◌<◌, ◌+◌, ◌≡◌}
use Rattle.std.proofs.lemmas.List.{get_or_read}
use Rattle.rml_resolved.specs.Bound.{IsCounted}
use Rattle.rml_resolved.proofs.Callers.{counted-more, count-small}
use Rattle.rml_checked.proofs.bound.BoundVars.with.Goals as goal

pub overflow_add-index_mut : goal.overflow_add-index_mut
overflow_add-index_mut c =
    let place : c.args.x < length c.in_ok-counts.counts.items = omega (arith, c.in_ok-counts.ensures.place) in
    let read = get_or_read c.in_ok-counts.counts.items _ _ place c.index_mut.ensures.value 0 in
    omega (arith, c.in_ok-counts.ensures.same c.args.x, c.self.invariant c.args.x, count-small c.args.x c.self.inside.order.items)

pub invariant_of-result : goal.invariant_of-result
invariant_of-result c =
    let place : c.args.x < length c.in_ok-counts.counts.items = omega (arith, c.in_ok-counts.ensures.place) in
    let read = get_or_read c.in_ok-counts.counts.items _ _ place c.index_mut.ensures.value 0 in
    let counted : IsCounted c.self.inside.order.items c.in_ok-counts.counts.items = λ y. c.in_ok-counts.ensures.same y ∙ c.self.invariant y in
    let items : c.push.new.self.items ≡ c.self.inside.order.items ++ c.args.x ∷ [] = search rules in
    let more = counted-more c.self.inside.order.items c.in_ok-counts.counts.items c.args.x counted place in
    subst (λ (xs : List ℕ). IsCounted xs (set c.in_ok-counts.counts.items c.args.x (c.index_mut.result.now + 1))) (sym items)
    (subst (λ (n : ℕ). IsCounted (c.self.inside.order.items ++ c.args.x ∷ []) (set c.in_ok-counts.counts.items c.args.x (n + 1))) (sym read) more)
