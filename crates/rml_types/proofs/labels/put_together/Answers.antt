use Rattle.std.proofs.Common.{◌≡◌, ◌-◌, ◌∷◌, ◌++◌, [], length, ap, ◌∙◌, arith, take, drop}
use Rattle.rml_types.proofs.LabelLists.{together}
use Rattle.rml_types.proofs.labels.put_together.Goals as goal

pub returns-clause-labels : goal.returns-clause-labels
returns-clause-labels c =
    let at : c.len.result ≡ length c.args.made.now.items = (let e = c.len.ensures in let o = c.args.made.now.ok.0 in omega (arith, e, o)) in
    together c.args.label.0 c.args.label.1 c.args.made.now.items c.in_ok-parts.parts.items c.push.new.self.items c.in_ok-tree.tree c.requires.count c.requires.fits
    (c.in_ok-parts.ensures.tail ∙ ap (λ k. drop (k - c.args.label.1) c.args.made.now.items) at) c.in_ok-tree.ensures
    (c.in_ok-push.ensures.items ∙ ap (λ xs. xs ++ c.in_ok-tree.tree ∷ []) (c.in_ok-parts.ensures.items ∙ ap (λ k. take (k - c.args.label.1) c.args.made.now.items) at))
