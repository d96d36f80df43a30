use Rattle.std.proofs.Common.{◌≡◌, ◌∙◌, ◌++◌, ◌∷◌, [], ◌-◌, ap, arith, List, ℕ, length, drop, take, map}
use Rattle.rml_types.specs.Runs.{make, over}
use Rattle.rml_types.proofs.Growth.{placed, to-the-end}
use Rattle.rml_types.proofs.graph.Graph.take_label.Goals as goal

pub returns-clause-ok : goal.returns-clause-ok
returns-clause-ok c =
    let at : c.len.result ≡ length c.args.made.now.items = (let e = c.len.ensures in let o = c.args.made.now.ok.0 in omega (arith, e, o)) in
    placed (over c.args.vars.now) c.args.self.now c.labelled.new.self c.args.label c.args.made.now.items c.push.new.self.items c.in_ok-node.node
    c.in_ok-node.ensures.grows.kept c.requires.count c.requires.within c.in_ok-node.ensures.within
    (λ sigma h. c.in_ok-node.ensures.types sigma h
    ∙ ap (λ (ys : List ℕ). make (map sigma c.args.vars.now) c.args.label.0 (map sigma ys)) (to-the-end c.deref.result.now (c.len.result - c.args.label.1))
    ∙ ap (λ (ys : List ℕ). make (map sigma c.args.vars.now) c.args.label.0 (map sigma (drop (c.len.result - c.args.label.1) ys))) c.deref.ensures.value
    ∙ ap (λ k. make (map sigma c.args.vars.now) c.args.label.0 (map sigma (drop (k - c.args.label.1) c.args.made.now.items))) at)
    (c.in_ok-push.ensures.items ∙ ap (λ (xs : List ℕ). xs ++ c.in_ok-node.node ∷ []) (c.truncate.ensures.items ∙ ap (λ k. take (k - c.args.label.1) c.args.made.now.items) at))
