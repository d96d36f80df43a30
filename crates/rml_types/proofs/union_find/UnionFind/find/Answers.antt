use Rattle.std.proofs.Common.{◌≡◌, ◌<◌, length, sym, ◌∙◌, ap, arith, List, ℕ}
use Rattle.std.specs.Prelude.{slice_index}
use Rattle.std.proofs.lemmas.List.{with_items_is}
use Rattle.rml_types.specs.UnionFind.{root_of, roots}
use Rattle.rml_types.proofs.ParentLists.{roots-at, roots-length, root-root, root-le, same-roots}
use Rattle.rml_types.proofs.union_find.UnionFind.find.Goals as goal

inside : (c : goal.After-self-1) → c.args.node < length c.self.inside.parents.items
inside c = let v = ap length c.self.view_is in let l = roots-length c.self.inside.parents.items in let w = c.requires in omega (arith, v, l, w)

found : (c : goal.After-self-1) → c.find_by_halving.result ≡ root_of c.self.inside.parents.items c.args.node
found c = c.find_by_halving.ensures.root ∙ ap (λ (ps : List ℕ). root_of ps c.args.node) c.deref_mut.ensures.value

less : (c : goal.After-self-1) → c.find_by_halving.result < length c.self.inside.parents.items
less c = let f = found c in let i = inside c in let le = root-le c.self.inside.parents.items c.args.node c.self.invariant i in omega (arith, f, i, le)

pub find_by_halving-requires-clause-within : goal.find_by_halving-requires-clause-within
find_by_halving-requires-clause-within c = let v = ap length c.self.view_is in let l = roots-length c.self.inside.parents.items in let w = c.requires in omega (arith, v, l, w)

pub returns-clause-root : goal.returns-clause-root
returns-clause-root c = found c ∙ sym (roots-at c.self.inside.parents.items c.args.node 0 (inside c)) ∙ ap (λ (xs : List ℕ). slice_index xs c.args.node) c.self.view_is

pub returns-clause-own : goal.returns-clause-own
returns-clause-own c =
    ap (λ (xs : List ℕ). slice_index xs c.find_by_halving.result) (sym c.self.view_is)
    ∙ roots-at c.self.inside.parents.items c.find_by_halving.result 0 (less c)
    ∙ ap (root_of c.self.inside.parents.items) (found c)
    ∙ root-root c.self.inside.parents.items c.args.node c.self.invariant (inside c)
    ∙ sym (found c)

pub returns-clause-within : goal.returns-clause-within
returns-clause-within c = let v = ap length c.self.view_is in let l = roots-length c.self.inside.parents.items in let w = less c in omega (arith, v, l, w)

pub returns-clause-same : goal.returns-clause-same
returns-clause-same c =
    ap roots (with_items_is c.self.inside.parents c.find_by_halving.new.parents (c.find_by_halving.ensures.same.count ∙ c.deref_mut.ensures.len))
    ∙ same-roots c.deref_mut.result.now c.find_by_halving.new.parents c.find_by_halving.ensures.same ∙ ap roots c.deref_mut.ensures.value ∙ c.self.view_is
