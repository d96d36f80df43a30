-- The nodes of the relations of a group; and that calls leave the graph fit for further ones.
use Rattle.std.proofs.Common.{◌≡◌, ℕ, ◌==◌, ◌<◌, ◌≤◌, Bool, true, false, List, [], ◌∷◌, map, length, Option, Some, None, Ok, refl, sym, ap, subst, ◌∙◌, arith, eqb-true}
use Rattle.std.specs.Prelude.{All, unwrap_or}
use Rattle.std.proofs.lemmas.List.Elements.{All-head, All-weaker}
use Rattle.rml_types.specs.declared.tree.SchemeTree.{SchemeTree, out-SchemeTree}
use Rattle.rml_types.specs.Finite.{HasTypes}
use Rattle.rml_types.specs.Nodes.{Nodes}
use Rattle.rml_typed.specs.Parts.{as_type, sides}
use Rattle.rml_equations.specs.declared.coding.Coding.{Coding}
use Rattle.rml_equations.specs.Coding.{coded, decoded}
use Rattle.rml_equations.specs.Joins.{Extends}
use Rattle.rml_equations.proofs.Callers.{Solution}
use Rattle.rml_generator.specs.declared.scope.Scope.{Scope}
use Rattle.rml_generator.specs.Adds.{Watched, IsWithin, Told, Tells, Adds, Alone, one_node}
use Rattle.rml_generator.specs.Scopes.{AtOwnType, FindsNode, Serves, group_nodes, watched}
use Rattle.rml_generator.proofs.Adding.{Holding, alone-within, found, within-later}

pub not-same : (a b : ℕ) → (a ≡ b → ⊥) → (a == b) ≡ false
not-same a b differ = on (a == b) refl
  where
    on : (t : Bool) → (a == b) ≡ t → t ≡ false
    on true e = absurd (differ (eqb-true a b e))
    on false e = refl

adds-own : (c : Coding) (w : Watched) (g : Nodes) (r n : ℕ) → g.failed ≡ None → IsWithin c w g → w.node r ≡ Some n → Adds c w g g (Alone (λ told t. t ≡ as_type (told.group r))) (n ∷ [])
adds-own c w g r n live inside at = record {
  live = live;
  unfixed = λ none. none;
  count = omega arith;
  within = alone-within (length g.forms) n (inside.group r n at);
  old = λ types has. has;
  sound = λ types has. inside.relations r n at types has ∙ ap (λ o. as_type (sides (out-SchemeTree (decoded c (types (unwrap_or o 0)))))) (sym at);
  complete = complete;
}
  where
    complete : (types : Solution) (told : Told) (ts : List SchemeTree) → HasTypes g types → Tells c w types told → Alone (λ told t. t ≡ as_type (told.group r)) told ts
        → (later : Solution) × Extends g g types later × (map later (n ∷ []) ≡ map (coded c) ts)
    complete types told [] has tells is = absurd is
    complete types told (t ∷ []) has tells is = (types, record { has = has; same = λ m less. refl }, ap (λ u. u ∷ []) (tells.group r n at ∙ sym (ap (coded c) is)))
    complete types told (t ∷ u ∷ ts) has tells is = absurd is

-- inside the group a relation is used at its own type
pub own-found : (s : Scope) (g : Nodes) (r : ℕ) (o : Option ℕ) (n : ℕ) → Serves s g → group_nodes s.group r ≡ Some n → o ≡ Some n → FindsNode s g g (λ told t. AtOwnType o (told.group r) t) (Ok n)
own-found s g r o n serves at is =
    subst (λ (p : Option ℕ). FindsNode s g g (λ told t. AtOwnType p (told.group r) t) (Ok n)) (sym is)
    (found s.coding (watched s) one_node g g (Alone (λ told t. t ≡ as_type (told.group r))) n (adds-own s.coding (watched s) g r n serves.live serves.within at))

-- a graph with further equations serves as well
pub serves-later : (s : Scope) (g h : Nodes) (P : Holding) (xs : List ℕ) → Serves s g → Adds s.coding (watched s) g h P xs → Serves s h
serves-later s g h P xs serves a = record { live = a.live; within = within-later s.coding (watched s) g h a.count a.old serves.within }

-- the node that was found
pub node-within : (c : Coding) (w : Watched) (g h : Nodes) (P : Holding) (n : ℕ) → Adds c w g h P (n ∷ []) → n < length h.forms
node-within c w g h P n a = All-head (λ k. k < length h.forms) n [] a.within

-- stays a node
pub node-later : (c : Coding) (w : Watched) (g h i : Nodes) (P Q : Holding) (n m : ℕ) → Adds c w g h P (n ∷ []) → Adds c w h i Q (m ∷ []) → n < length i.forms
node-later c w g h i P Q n m a b = (let l = node-within c w g h P n a in let k = b.count in omega arith)

-- the nodes that were found, as a slice
pub nodes-within : (c : Coding) (w : Watched) (g h : Nodes) (P : Holding) (xs ys : List ℕ) → ys ≡ xs → Adds c w g h P xs → All (λ k. k < length h.forms) ys
nodes-within c w g h P xs ys is a = subst (All (λ k. k < length h.forms)) (sym is) a.within

pub nodes-later : (c : Coding) (w : Watched) (g h i : Nodes) (P Q : Holding) (xs ys ns : List ℕ) → ys ≡ xs → Adds c w g h P xs → Adds c w h i Q ns → All (λ k. k < length i.forms) ys
nodes-later c w g h i P Q xs ys ns is a b = All-weaker (λ k. k < length h.forms) (λ k. k < length i.forms) (λ k lt. (let l = b.count in omega arith)) ys (nodes-within c w g h P xs ys is a)

-- what stays a node of a graph with more of them
pub within-longer : (g h : Nodes) (xs : List ℕ) → length g.forms ≤ length h.forms → All (λ k. k < length g.forms) xs → All (λ k. k < length h.forms) xs
within-longer g h xs le a = All-weaker (λ k. k < length g.forms) (λ k. k < length h.forms) (λ k lt. omega arith) xs a
