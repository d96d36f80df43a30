-- Types that are one up to names have the same instances, and no others do.
use Rattle.std.proofs.Common.{◌≡◌, ℕ, ◌<◌, List, [], ◌∷◌, map, refl, sym, ap, ◌∙◌, get_or}
use Rattle.std.specs.Prelude.{IsTrue, ◌↔◌}
use Rattle.std.specs.List.{AllByRecursion}
use Rattle.rml_types.specs.declared.tree.SchemeTree.{SchemeTree}
use Rattle.rml_types.specs.declared.tree.SchemeTree.TheVariants as tree
use Rattle.rml_types.specs.Instances.{IsInstance}
use Rattle.rml_types.specs.Schemes.{every, inst, unit, vars_below}
use Rattle.rml_types.specs.Spelled.{leaves}
use Rattle.rml_types.proofs.Callers.{below-Named, below-Rel, below-Tuple, below-Var, below-bound, both, fold-Named, fold-Rel, fold-Tuple, fold-Var, induct, inst-Named, inst-Rel, inst-Tuple, inst-Var, leaf-at}
use Rattle.rml_type_ops.specs.Renaming.{IsSameUpToNames, renamed, renamed_at}
use Rattle.rml_type_ops.proofs.Renamings.{symmetric}

-- types in place of renamed variables are types in place of the variables
module _ (n : ℕ) (name : ℕ → ℕ) (ts vs : List SchemeTree) (agree : (k : ℕ) → k < n → get_or ts (name k) unit ≡ get_or vs k unit) where
  abbrev Follows : SchemeTree → Type 0
  Follows t = IsTrue (vars_below n t) → inst ts (renamed name t) ≡ inst vs t

  all-follow : (us : List SchemeTree) → AllByRecursion Follows us → IsTrue (every (map (vars_below n) us)) → map (inst ts) (map (renamed name) us) ≡ map (inst vs) us
  all-follow [] a h = refl
  all-follow (u ∷ us) a h = let (p, q) = both (vars_below n u) (every (map (vars_below n) us)) h in rw (a.0 p, all-follow us a.1 q) refl

  inst-renamed : (t : SchemeTree) → Follows t
  inst-renamed = induct Follows
      (λ k h. ap (inst ts) (fold-Var SchemeTree (renamed_at name) k) ∙ inst-Var ts (name k) ∙ agree k (below-Var n k h) ∙ sym (inst-Var vs k))
      (λ c us a h. ap (inst ts) (fold-Named SchemeTree (renamed_at name) c us) ∙ inst-Named ts c (map (renamed name) us)
      ∙ ap (tree.Named c) (all-follow us a (below-Named n c us h)) ∙ sym (inst-Named vs c us))
      (λ us a h. ap (inst ts) (fold-Tuple SchemeTree (renamed_at name) us) ∙ inst-Tuple ts (map (renamed name) us)
      ∙ ap tree.Tuple (all-follow us a (below-Tuple n us h)) ∙ sym (inst-Tuple vs us))
      (λ ins outs a b h. (let (p, q) = below-Rel n ins outs h in
      ap (inst ts) (fold-Rel SchemeTree (renamed_at name) ins outs) ∙ inst-Rel ts (map (renamed name) ins) (map (renamed name) outs)
      ∙ ap (λ x. tree.Rel x (map (inst ts) (map (renamed name) outs))) (all-follow ins a p)
      ∙ ap (tree.Rel (map (inst vs) ins)) (all-follow outs b q) ∙ sym (inst-Rel vs ins outs)))

-- an instance of a type is one of each that it is up to names
there : (a b t : SchemeTree) → IsSameUpToNames b a → IsInstance a t → IsInstance b t
there a b t s i =
    let n = below-bound b in
    let vs = leaves (λ k. get_or i.0 (s.name k) unit) n.0 in
    (vs, i.1 ∙ ap (inst i.0) (sym s.is) ∙ inst-renamed n.0 s.name i.0 vs (λ k lt. sym (leaf-at (λ j. get_or i.0 (s.name j) unit) n.0 k lt)) b n.1)

pub same-instances : (a b t : SchemeTree) → IsSameUpToNames a b → IsInstance a t ↔ IsInstance b t
same-instances a b t s = (there a b t (symmetric a b s), there b a t s)
