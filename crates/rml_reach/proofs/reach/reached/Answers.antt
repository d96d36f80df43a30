use Rattle.std.proofs.Common.{◌≡◌, arith, sym, subst, false, length, []}
use Rattle.std.specs.Prelude.{replicate}
use Rattle.rml_reach.specs.WorkList.{IsWorkList}
use Rattle.rml_reach.proofs.Lists.{no-item}
use Rattle.rml_reach.proofs.WorkListLemmas.{all-seen, begins}
use Rattle.rml_reach.proofs.reach.reached.Goals as goal

pub loop-node-init : goal.loop-node-init
loop-node-init c =
    let seen : replicate (length c.args.edges.now) false ≡ c.in_ok-seen.seen.items = sym (c.in_ok-seen.ensures.items_if_clones_equal (λ y e. e)) in
    let waiting : c.args.from.now ≡ c.in_ok-waiting.waiting.items = sym (c.in_ok-waiting.ensures.items_if_clones_equal (λ x y e. e)) in
    rw (← seen, ← waiting) (begins c.args.edges.now c.args.from.now c.requires.nodes)

pub returns-clause-exact : goal.returns-clause-exact
returns-clause-exact c n =
    let none : c.loop-node.waiting.items ≡ [] = no-item c.loop-node.waiting.items (let n = c.in_default.ensures.cases.0 in let l = c.loop-node.waiting.ok.0 in omega (arith, n, l)) in
    let ends : IsWorkList c.args.edges.now c.args.from.now c.loop-node.seen.items [] = subst (IsWorkList c.args.edges.now c.args.from.now c.loop-node.seen.items) none c.loop-node.invariant in
    (ends.seen_is n, all-seen c.args.edges.now c.args.from.now c.loop-node.seen.items ends n)
