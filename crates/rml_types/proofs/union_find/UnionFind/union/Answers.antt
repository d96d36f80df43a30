use Rattle.std.proofs.Common.{◌≡◌, ◌<◌, length, map, ◌∙◌, ap, arith, List, ℕ}
use Rattle.std.specs.Prelude.{slice_index}
use Rattle.rml_types.specs.UnionFind.{moved}
use Rattle.rml_types.proofs.ParentLists.{joined-roots, roots-length, kept-own}
use Rattle.rml_types.proofs.union_find.UnionFind.union.Goals as goal

pub index_mut-requires : goal.index_mut-requires
index_mut-requires c = let v = ap length c.self.view_is in let l = roots-length c.self.inside.parents.items in let w = c.requires.within in omega (arith, v, l, w)

pub returns : goal.returns
returns c =
    let v = ap length c.self.view_is in
    let l = roots-length c.self.inside.parents.items in
    let w = c.requires.within in
    let less = c.requires.order in
    let inside : c.args.lost < length c.self.inside.parents.items = omega (arith, v, l, w) in
    let kept : slice_index c.self.inside.parents.items c.args.kept ≡ c.args.kept = kept-own c.self.inside.parents.items c.args.kept c.self.invariant (omega arith) (ap (λ (xs : List ℕ). slice_index xs c.args.kept) c.self.view_is ∙ c.requires.kept_root) in
    let lost : slice_index c.self.inside.parents.items c.args.lost ≡ c.args.lost = kept-own c.self.inside.parents.items c.args.lost c.self.invariant inside (ap (λ (xs : List ℕ). slice_index xs c.args.lost) c.self.view_is ∙ c.requires.lost_root) in
    joined-roots c.self.inside.parents.items c.args.kept c.args.lost c.self.invariant less inside kept lost ∙ ap (map (moved c.args.kept c.args.lost)) c.self.view_is
