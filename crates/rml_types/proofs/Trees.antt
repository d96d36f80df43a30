-- Induction over types, and what a fold over types gives at each form.
use Rattle.std.proofs.Common.{◌≡◌, ℕ, List, [], ◌∷◌, map, subst, sym, ap, ◌∙◌}
use Rattle.std.specs.List.{AllByRecursion}
use Rattle.rml_types.specs.declared.tree.SchemeTree.{SchemeTree, fold-SchemeTree, fold-roll-SchemeTree, ind-SchemeTree, roll-SchemeTree}
use Rattle.rml_types.specs.declared.tree.SchemeTree.TheOpen.{SchemeTree-F}
use Rattle.rml_types.specs.declared.tree.SchemeTree.TheVariants as tree
use Rattle.rml_types.specs.declared.tree.SchemeTree.TheVariants.{rolls-Var, rolls-Named, rolls-Tuple, rolls-Rel}

module _ (A : Type 0) (step : SchemeTree-F A → A) where
  abbrev of : SchemeTree → A
  of = fold-SchemeTree A step

  pub fold-Var : (k : ℕ) → of (tree.Var k) ≡ step (SchemeTree-F.Var k)
  fold-Var k = ap of (sym (rolls-Var k)) ∙ fold-roll-SchemeTree A step (SchemeTree-F.Var k)

  pub fold-Named : (c : ℕ) (ts : List SchemeTree) → of (tree.Named c ts) ≡ step (SchemeTree-F.Named c (map of ts))
  fold-Named c ts = ap of (sym (rolls-Named c ts)) ∙ fold-roll-SchemeTree A step (SchemeTree-F.Named c ts)

  pub fold-Tuple : (ts : List SchemeTree) → of (tree.Tuple ts) ≡ step (SchemeTree-F.Tuple (map of ts))
  fold-Tuple ts = ap of (sym (rolls-Tuple ts)) ∙ fold-roll-SchemeTree A step (SchemeTree-F.Tuple ts)

  pub fold-Rel : (ins outs : List SchemeTree) → of (tree.Rel ins outs) ≡ step (SchemeTree-F.Rel (map of ins) (map of outs))
  fold-Rel ins outs = ap of (sym (rolls-Rel ins outs)) ∙ fold-roll-SchemeTree A step (SchemeTree-F.Rel ins outs)

module _ (P : SchemeTree → Type 0) where
  proofs-of : (es : List ((t : SchemeTree) × P t)) → AllByRecursion P (map (λ e. e.0) es)
  proofs-of [] = tt
  proofs-of (e ∷ es) = (e.1, proofs-of es)

  abbrev erased : SchemeTree-F ((t : SchemeTree) × P t) → SchemeTree-F SchemeTree
  erased (SchemeTree-F.Var k) = SchemeTree-F.Var k
  erased (SchemeTree-F.Named c es) = SchemeTree-F.Named c (map (λ e. e.0) es)
  erased (SchemeTree-F.Tuple es) = SchemeTree-F.Tuple (map (λ e. e.0) es)
  erased (SchemeTree-F.Rel es fs) = SchemeTree-F.Rel (map (λ e. e.0) es) (map (λ e. e.0) fs)

  -- what holds of each form where it holds of the parts
  pub induct : ((k : ℕ) → P (tree.Var k))
      → ((c : ℕ) (ts : List SchemeTree) → AllByRecursion P ts → P (tree.Named c ts))
      → ((ts : List SchemeTree) → AllByRecursion P ts → P (tree.Tuple ts))
      → ((ins outs : List SchemeTree) → AllByRecursion P ins → AllByRecursion P outs → P (tree.Rel ins outs))
      → (t : SchemeTree) → P t
  induct var named tuple rel = ind-SchemeTree P (λ x y is. subst (λ z. P (roll-SchemeTree z)) is (layer y)) where
    layer : (y : SchemeTree-F ((t : SchemeTree) × P t)) → P (roll-SchemeTree (erased y))
    layer (SchemeTree-F.Var k) = subst P (sym (rolls-Var k)) (var k)
    layer (SchemeTree-F.Named c es) = subst P (sym (rolls-Named c (map (λ e. e.0) es))) (named c (map (λ e. e.0) es) (proofs-of es))
    layer (SchemeTree-F.Tuple es) = subst P (sym (rolls-Tuple (map (λ e. e.0) es))) (tuple (map (λ e. e.0) es) (proofs-of es))
    layer (SchemeTree-F.Rel es fs) = subst P (sym (rolls-Rel (map (λ e. e.0) es) (map (λ e. e.0) fs))) (rel (map (λ e. e.0) es) (map (λ e. e.0) fs) (proofs-of es) (proofs-of fs))
