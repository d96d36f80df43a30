use Rattle.std.proofs.Common.{◌≡◌, ◌∙◌, ◌++◌, ◌∷◌, [], sym, ap, length, List, ℕ, arith}
use Rattle.rml_types.specs.UnionFind.{roots}
use Rattle.rml_types.proofs.ParentLists.{added, roots-length}
use Rattle.rml_types.proofs.union_find.UnionFind.add.Goals as goal

pub returns-clause-node : goal.returns-clause-node
returns-clause-node c = let v = ap length c.self.view_is in let l = roots-length c.self.inside.parents.items in let e = c.len-node.ensures in omega (arith, v, l, e)

pub returns-clause-ok : goal.returns-clause-ok
returns-clause-ok c =
    let node : c.len-node.result ≡ length c.self.inside.parents.items = let e = c.len-node.ensures in omega (arith, e) in
    let items : c.push.new.self.items ≡ c.self.inside.parents.items ++ length c.self.inside.parents.items ∷ [] = c.in_ok-push.ensures.items ∙ ap (λ x. c.self.inside.parents.items ++ x ∷ []) node in
    let grown : roots c.push.new.self.items ≡ roots c.self.inside.parents.items ++ length c.self.inside.parents.items ∷ [] = ap roots items ∙ added c.self.inside.parents.items c.self.invariant in
    grown ∙ ap (λ x. roots c.self.inside.parents.items ++ x ∷ []) (sym (roots-length c.self.inside.parents.items)) ∙ ap (λ (xs : List ℕ). xs ++ length xs ∷ []) c.self.view_is
