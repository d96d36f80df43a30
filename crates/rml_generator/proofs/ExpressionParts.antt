-- What the typing of an expression says of its parts, and what is found for expressions.
use Rattle.std.proofs.Common.{◌≡◌, ℕ, List, [], ◌∷◌, Result, refl, sym, ap, subst, ◌∙◌}
use Rattle.std.specs.List.{AllZip}
use Rattle.rml_types.specs.declared.tree.SchemeTree.{SchemeTree}
use Rattle.rml_types.specs.declared.tree.SchemeTree.TheVariants as tree
use Rattle.rml_types.specs.Nodes.{Nodes}
use Rattle.rml_resolved.specs.declared.trees.RExp.{RExp, out-RExp, roll-RExp, out-roll-RExp}
use Rattle.rml_resolved.specs.declared.trees.RExp.TheOpen.{RExp-F}
use Rattle.rml_resolved.specs.declared.trees.RExp.TheVariants as exp
use Rattle.rml_builtin.specs.Types.{list}
use Rattle.rml_typed.specs.Typed.{Assigned, Declared, HasInstance, ExpOf, ExpsOf, Uses, type_of_literal}
use Rattle.rml_equations.specs.declared.stop.Stop.{Stop}
use Rattle.rml_equations.proofs.Callers.{IsChainOf, IsListOf}
use Rattle.rml_generator.specs.declared.scope.Scope.{Scope}
use Rattle.rml_generator.specs.Adds.{Finds, Alone, one_node}
use Rattle.rml_generator.specs.Scopes.{FindsNode, reads, uses, watched}
use Rattle.rml_generator.proofs.Adding.{node-like}

module _ (d : Declared) (may : Uses) (G : Assigned) where
  -- the parts of one form, and what holds of their types
  abbrev pub PartsOf : RExp-F RExp → SchemeTree → Type 0
  PartsOf (RExp-F.Lit l) t = t ≡ type_of_literal l
  PartsOf (RExp-F.Var x) t = t ≡ G x
  PartsOf (RExp-F.Val v) t = HasInstance (d.val v) t
  PartsOf (RExp-F.Rel r) t = may r t
  PartsOf (RExp-F.Con c es) t = (ts : List SchemeTree) × ExpsOf d may G es ts × HasInstance (d.con c) (tree.Rel ts (t ∷ []))
  PartsOf (RExp-F.Tuple es) t = (ts : List SchemeTree) × ExpsOf d may G es ts × (t ≡ tree.Tuple ts)
  PartsOf (RExp-F.List es) t = (ts : List SchemeTree) × ExpsOf d may G es ts × IsListOf ts t
  PartsOf (RExp-F.Cons es) t = (ts : List SchemeTree) × ExpsOf d may G es ts × IsChainOf ts t

  opened : (e : RExp) (y : RExp-F RExp) (t : SchemeTree) → roll-RExp y ≡ e → PartsOf y t → PartsOf (out-RExp e) t
  opened e y t is h = subst (λ z. PartsOf z t) (sym (ap out-RExp (sym is) ∙ out-roll-RExp y)) h

  out-parts : (e : RExp) (t : SchemeTree) → ExpOf d may G e t → PartsOf (out-RExp e) t
  out-parts e t (ExpOf.lit l) = opened (exp.Lit l) (RExp-F.Lit l) (type_of_literal l) (exp.rolls-Lit l) refl
  out-parts e t (ExpOf.var x) = opened (exp.Var x) (RExp-F.Var x) (G x) (exp.rolls-Var x) refl
  out-parts e t (ExpOf.val v u is) = opened (exp.Val v) (RExp-F.Val v) u (exp.rolls-Val v) is
  out-parts e t (ExpOf.rel r u is) = opened (exp.Rel r) (RExp-F.Rel r) u (exp.rolls-Rel r) is
  out-parts e t (ExpOf.con c es ts u is h) = opened (exp.Con c es) (RExp-F.Con c es) u (exp.rolls-Con c es) (ts, h, is)
  out-parts e t (ExpOf.tuple es ts h) = opened (exp.Tuple es) (RExp-F.Tuple es) (tree.Tuple ts) (exp.rolls-Tuple es) (ts, h, refl)
  out-parts e t (ExpOf.items es ts u are h) = opened (exp.List es) (RExp-F.List es) (list u) (exp.rolls-List es) (ts, h, (u, are, refl))
  out-parts e t (ExpOf.chain es ts u are h) = opened (exp.Cons es) (RExp-F.Cons es) (list u) (exp.rolls-Cons es) (ts, h, (u, are, refl))

  parts-of : (e : RExp) (y : RExp-F RExp) (t : SchemeTree) → roll-RExp y ≡ e → ExpOf d may G e t → PartsOf y t
  parts-of e y t is h = subst (λ z. PartsOf z t) (ap out-RExp (sym is) ∙ out-roll-RExp y) (out-parts e t h)

  -- an expression of these parts
  rolled : (y : RExp-F RExp) (e : RExp) (t : SchemeTree) → roll-RExp y ≡ e → PartsOf y t → ExpOf d may G e t
  rolled (RExp-F.Lit l) e t is h = subst (ExpOf d may G e) (sym h) (subst (λ q. ExpOf d may G q (type_of_literal l)) (sym (exp.rolls-Lit l) ∙ is) (ExpOf.lit l))
  rolled (RExp-F.Var x) e t is h = subst (ExpOf d may G e) (sym h) (subst (λ q. ExpOf d may G q (G x)) (sym (exp.rolls-Var x) ∙ is) (ExpOf.var x))
  rolled (RExp-F.Val v) e t is h = subst (λ q. ExpOf d may G q t) (sym (exp.rolls-Val v) ∙ is) (ExpOf.val v t h)
  rolled (RExp-F.Rel r) e t is h = subst (λ q. ExpOf d may G q t) (sym (exp.rolls-Rel r) ∙ is) (ExpOf.rel r t h)
  rolled (RExp-F.Con c es) e t is h = subst (λ q. ExpOf d may G q t) (sym (exp.rolls-Con c es) ∙ is) (ExpOf.con c es h.0 t h.2 h.1)
  rolled (RExp-F.Tuple es) e t is h = subst (ExpOf d may G e) (sym h.2) (subst (λ q. ExpOf d may G q (tree.Tuple h.0)) (sym (exp.rolls-Tuple es) ∙ is) (ExpOf.tuple es h.0 h.1))
  rolled (RExp-F.List es) e t is h = subst (ExpOf d may G e) (sym h.2.2) (subst (λ q. ExpOf d may G q (list h.2.0)) (sym (exp.rolls-List es) ∙ is) (ExpOf.items es h.0 h.2.0 h.2.1 h.1))
  rolled (RExp-F.Cons es) e t is h = subst (ExpOf d may G e) (sym h.2.2) (subst (λ q. ExpOf d may G q (list h.2.0)) (sym (exp.rolls-Cons es) ∙ is) (ExpOf.chain es h.0 h.2.0 h.2.1 h.1))

  -- expressions one by one
  pub zip-exps : (es : List RExp) (ts : List SchemeTree) → ExpsOf d may G es ts → AllZip (ExpOf d may G) es ts
  zip-exps es ts ExpsOf.none = tt
  zip-exps es ts (ExpsOf.more e t fs us h k) = (h, zip-exps fs us k)

  pub exps-zip : (es : List RExp) (ts : List SchemeTree) → AllZip (ExpOf d may G) es ts → ExpsOf d may G es ts
  exps-zip [] [] z = ExpsOf.none
  exps-zip [] (t ∷ ts) z = absurd z
  exps-zip (e ∷ es) [] z = absurd z
  exps-zip (e ∷ es) (t ∷ ts) z = ExpsOf.more e t es ts z.0 (exps-zip es ts z.1)

-- what is found of the parts of an expression is found of it
pub exp-found : (s : Scope) (g h : Nodes) (e : RExp) (y : RExp-F RExp) (r : Result ℕ Stop) → roll-RExp y ≡ e
    → Finds one_node s.coding (watched s) g h (Alone (λ told t. PartsOf (reads s) (uses s told) told.vars y t)) r → FindsNode s g h (λ told t. ExpOf (reads s) (uses s told) told.vars e t) r
exp-found s g h e y r is f =
    node-like s.coding (watched s) g h (λ told t. PartsOf (reads s) (uses s told) told.vars y t) (λ told t. ExpOf (reads s) (uses s told) told.vars e t) r
    (λ told t u. rolled (reads s) (uses s told) told.vars y e t is u) (λ told t u. parts-of (reads s) (uses s told) told.vars e y t is u) f
