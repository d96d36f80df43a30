use Rattle.std.proofs.Common.{◌∙◌, subst, false, List, ◌≡◌, ℕ, ◌<◌, ◌≤◌, length, arith}
use Rattle.std.specs.Prelude.{nat_lt}
use Rattle.std.proofs.lemmas.Bool.Decides.{nat_tests}
use Rattle.std.proofs.lemmas.List.{get_or_read}
use Rattle.rml_resolved.specs.Binding.{contains}
use Rattle.rml_resolved.proofs.Callers.{has-count, has-none}
use Rattle.rml_checked.proofs.bound.BoundVars.has.Goals as goal

pub returns-then-place-len : goal.returns-then-place-len
returns-then-place-len c =
    let place : c.args.x < length c.self.inside.counts.items = grind (arith, nat_tests) in
    let e = has-count c.self.inside.order.items c.self.inside.counts.items c.args.x c.index.result.now c.self.invariant (get_or_read c.self.inside.counts.items _ _ place c.index.ensures 0) in
    cc

pub returns-else-place-len : goal.returns-else-place-len
returns-else-place-len c =
    let out : length c.self.inside.counts.items ≤ c.args.x = grind (arith, nat_tests) in
    let view : c.self.inside.order.items ≡ c.args.self.now = cc in
    let off : nat_lt c.args.x c.len.result ≡ false = grind (arith, nat_tests) in
    off ∙ subst (λ (xs : List ℕ). false ≡ contains c.args.x xs) view (has-none c.self.inside.order.items c.self.inside.counts.items c.args.x c.self.invariant out)
