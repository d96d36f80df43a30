use Rattle.std.proofs.Common.{arith, rules, subst, ap, sym, ◌∙◌, ◌++◌, ◌∷◌, [], List, ℕ, set, length, take, ◌≤◌, ◌-◌, ◌≡◌}
use Rattle.std.proofs.lemmas.List.{get_or_read, length-append, take-append-le}
use Rattle.rml_resolved.specs.Bound.{IsCounted}
use Rattle.rml_resolved.proofs.Callers.{last-counted, has-place, counted-less}
use Rattle.rml_checked.proofs.bound.BoundVars.cut.Goals as goal

pub index_mut-requires : goal.index_mut-requires
index_mut-requires c =
    let last : IsCounted (c.pop.new.self.items ++ c.in-Some.x ∷ []) c.loop-order.counts.items =
    subst (λ (xs : List ℕ). IsCounted xs c.loop-order.counts.items) (search rules) c.loop-order.invariant.counted in
    let more = last-counted c.pop.new.self.items c.loop-order.counts.items c.in-Some.x last in
    omega (arith, has-place c.loop-order.counts.items c.in-Some.x more)

pub overflow_sub-index_mut : goal.overflow_sub-index_mut
overflow_sub-index_mut c =
    let last : IsCounted (c.pop.new.self.items ++ c.in-Some.x ∷ []) c.loop-order.counts.items =
    subst (λ (xs : List ℕ). IsCounted xs c.loop-order.counts.items) (search rules) c.loop-order.invariant.counted in
    let more = last-counted c.pop.new.self.items c.loop-order.counts.items c.in-Some.x last in
    let place = has-place c.loop-order.counts.items c.in-Some.x more in
    omega (arith, more, get_or_read c.loop-order.counts.items _ _ place c.index_mut.ensures.value 0)

pub loop-order-preserved-in-Some : goal.loop-order-preserved-in-Some
loop-order-preserved-in-Some c =
    let last : IsCounted (c.pop.new.self.items ++ c.in-Some.x ∷ []) c.loop-order.counts.items =
    subst (λ (xs : List ℕ). IsCounted xs c.loop-order.counts.items) (search rules) c.loop-order.invariant.counted in
    let more = last-counted c.pop.new.self.items c.loop-order.counts.items c.in-Some.x last in
    let place = has-place c.loop-order.counts.items c.in-Some.x more in
    let read = get_or_read c.loop-order.counts.items _ _ place c.index_mut.ensures.value 0 in
    let items : c.loop-order.order.items ≡ c.pop.new.self.items ++ c.in-Some.x ∷ [] = search rules in
    let fits : c.args.count ≤ length c.pop.new.self.items = omega (arith, simp length-append at (ap length items)) in
    record {
      front = sym (take-append-le c.args.count c.pop.new.self.items (c.in-Some.x ∷ []) fits) ∙ ap (take c.args.count) (sym items) ∙ c.loop-order.invariant.front;
      counted = subst (λ (n : ℕ). IsCounted c.pop.new.self.items (set c.loop-order.counts.items c.in-Some.x (n - 1))) (sym read) (counted-less c.pop.new.self.items c.loop-order.counts.items c.in-Some.x last place);
    }
