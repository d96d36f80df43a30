-- What the typing of a pattern says of its parts, and what is found for patterns.
use Rattle.std.proofs.Common.{◌≡◌, ℕ, List, [], ◌∷◌, Result, Ok, Err, refl, sym, ap, subst, ◌∙◌}
use Rattle.std.specs.List.{AllZip}
use Rattle.rml_types.specs.declared.tree.SchemeTree.{SchemeTree}
use Rattle.rml_types.specs.declared.tree.SchemeTree.TheVariants as tree
use Rattle.rml_types.specs.Finite.{CannotEquateTypes}
use Rattle.rml_types.specs.Nodes.{Nodes}
use Rattle.rml_resolved.specs.declared.trees.RPat.{RPat, out-RPat, roll-RPat, out-roll-RPat}
use Rattle.rml_resolved.specs.declared.trees.RPat.TheOpen.{RPat-F}
use Rattle.rml_resolved.specs.declared.trees.RPat.TheVariants as pattern
use Rattle.rml_builtin.specs.Types.{list}
use Rattle.rml_typed.specs.Typed.{Assigned, Declared, HasInstance, PatternOf, PatternsOf, type_of_literal}
use Rattle.rml_equations.specs.declared.stop.Stop.{Stop}
use Rattle.rml_equations.specs.declared.stop.Stop.TheVariants as stop
use Rattle.rml_equations.proofs.Callers.{IsChainOf, IsListOf}
use Rattle.rml_generator.specs.declared.scope.Scope.{Scope}
use Rattle.rml_generator.specs.Adds.{Adds, Equates, Finds, Alone, IsWithin, Told, one_node}
use Rattle.rml_generator.specs.Scopes.{FindsNode, reads, watched}
use Rattle.rml_generator.proofs.Adding.{Left, adds-same, found, left-later, left-part, left-refuted, node-like, refutes-same}

module _ (d : Declared) (G : Assigned) where
  -- the parts of one form, and what holds of their types
  abbrev pub PartsOf : RPat-F RPat → SchemeTree → Type 0
  PartsOf RPat-F.Any t = Unit {0}
  PartsOf (RPat-F.Lit l) t = t ≡ type_of_literal l
  PartsOf (RPat-F.Var x) t = t ≡ G x
  PartsOf (RPat-F.Con c ps) t = (ts : List SchemeTree) × PatternsOf d G ps ts × HasInstance (d.con c) (tree.Rel ts (t ∷ []))
  PartsOf (RPat-F.Tuple ps) t = (ts : List SchemeTree) × PatternsOf d G ps ts × (t ≡ tree.Tuple ts)
  PartsOf (RPat-F.List ps) t = (ts : List SchemeTree) × PatternsOf d G ps ts × IsListOf ts t
  PartsOf (RPat-F.Cons ps) t = (ts : List SchemeTree) × PatternsOf d G ps ts × IsChainOf ts t
  PartsOf (RPat-F.Bind x p) t = PatternOf d G p t × (t ≡ G x)

  opened : (p : RPat) (y : RPat-F RPat) (t : SchemeTree) → roll-RPat y ≡ p → PartsOf y t → PartsOf (out-RPat p) t
  opened p y t is h = subst (λ z. PartsOf z t) (sym (ap out-RPat (sym is) ∙ out-roll-RPat y)) h

  out-parts : (p : RPat) (t : SchemeTree) → PatternOf d G p t → PartsOf (out-RPat p) t
  out-parts p t (PatternOf.any u) = opened pattern.Any RPat-F.Any u pattern.rolls-Any tt
  out-parts p t (PatternOf.lit l) = opened (pattern.Lit l) (RPat-F.Lit l) (type_of_literal l) (pattern.rolls-Lit l) refl
  out-parts p t (PatternOf.var x) = opened (pattern.Var x) (RPat-F.Var x) (G x) (pattern.rolls-Var x) refl
  out-parts p t (PatternOf.con c ps ts u is h) = opened (pattern.Con c ps) (RPat-F.Con c ps) u (pattern.rolls-Con c ps) (ts, h, is)
  out-parts p t (PatternOf.tuple ps ts h) = opened (pattern.Tuple ps) (RPat-F.Tuple ps) (tree.Tuple ts) (pattern.rolls-Tuple ps) (ts, h, refl)
  out-parts p t (PatternOf.items ps ts u are h) = opened (pattern.List ps) (RPat-F.List ps) (list u) (pattern.rolls-List ps) (ts, h, (u, are, refl))
  out-parts p t (PatternOf.chain ps ts u are h) = opened (pattern.Cons ps) (RPat-F.Cons ps) (list u) (pattern.rolls-Cons ps) (ts, h, (u, are, refl))
  out-parts p t (PatternOf.bind x q h) = opened (pattern.Bind x q) (RPat-F.Bind x q) (G x) (pattern.rolls-Bind x q) (h, refl)

  parts-of : (p : RPat) (y : RPat-F RPat) (t : SchemeTree) → roll-RPat y ≡ p → PatternOf d G p t → PartsOf y t
  parts-of p y t is h = subst (λ z. PartsOf z t) (ap out-RPat (sym is) ∙ out-roll-RPat y) (out-parts p t h)

  -- a pattern of these parts
  rolled : (y : RPat-F RPat) (p : RPat) (t : SchemeTree) → roll-RPat y ≡ p → PartsOf y t → PatternOf d G p t
  rolled RPat-F.Any p t is h = subst (λ q. PatternOf d G q t) (sym pattern.rolls-Any ∙ is) (PatternOf.any t)
  rolled (RPat-F.Lit l) p t is h = subst (PatternOf d G p) (sym h) (subst (λ q. PatternOf d G q (type_of_literal l)) (sym (pattern.rolls-Lit l) ∙ is) (PatternOf.lit l))
  rolled (RPat-F.Var x) p t is h = subst (PatternOf d G p) (sym h) (subst (λ q. PatternOf d G q (G x)) (sym (pattern.rolls-Var x) ∙ is) (PatternOf.var x))
  rolled (RPat-F.Con c ps) p t is h = subst (λ q. PatternOf d G q t) (sym (pattern.rolls-Con c ps) ∙ is) (PatternOf.con c ps h.0 t h.2 h.1)
  rolled (RPat-F.Tuple ps) p t is h = subst (PatternOf d G p) (sym h.2) (subst (λ q. PatternOf d G q (tree.Tuple h.0)) (sym (pattern.rolls-Tuple ps) ∙ is) (PatternOf.tuple ps h.0 h.1))
  rolled (RPat-F.List ps) p t is h = subst (PatternOf d G p) (sym h.2.2) (subst (λ q. PatternOf d G q (list h.2.0)) (sym (pattern.rolls-List ps) ∙ is) (PatternOf.items ps h.0 h.2.0 h.2.1 h.1))
  rolled (RPat-F.Cons ps) p t is h = subst (PatternOf d G p) (sym h.2.2) (subst (λ q. PatternOf d G q (list h.2.0)) (sym (pattern.rolls-Cons ps) ∙ is) (PatternOf.chain ps h.0 h.2.0 h.2.1 h.1))
  rolled (RPat-F.Bind x q) p t is h = subst (PatternOf d G p) (sym h.1) (subst (λ o. PatternOf d G o (G x)) (sym (pattern.rolls-Bind x q) ∙ is) (PatternOf.bind x q (subst (PatternOf d G q) h.1 h.0)))

  -- patterns one by one
  pub zip-patterns : (ps : List RPat) (ts : List SchemeTree) → PatternsOf d G ps ts → AllZip (PatternOf d G) ps ts
  zip-patterns ps ts PatternsOf.none = tt
  zip-patterns ps ts (PatternsOf.more p t qs us h k) = (h, zip-patterns qs us k)

  pub patterns-zip : (ps : List RPat) (ts : List SchemeTree) → AllZip (PatternOf d G) ps ts → PatternsOf d G ps ts
  patterns-zip [] [] z = PatternsOf.none
  patterns-zip [] (t ∷ ts) z = absurd z
  patterns-zip (p ∷ ps) [] z = absurd z
  patterns-zip (p ∷ ps) (t ∷ ts) z = PatternsOf.more p t ps ts z.0 (patterns-zip ps ts z.1)

-- what is found of the parts of a pattern is found of it
pub pattern-found : (s : Scope) (g h : Nodes) (p : RPat) (y : RPat-F RPat) (r : Result ℕ Stop) → roll-RPat y ≡ p
    → Finds one_node s.coding (watched s) g h (Alone (λ told t. PartsOf (reads s) told.vars y t)) r → FindsNode s g h (λ told t. PatternOf (reads s) told.vars p t) r
pattern-found s g h p y r is f =
    node-like s.coding (watched s) g h (λ told t. PartsOf (reads s) told.vars y t) (λ told t. PatternOf (reads s) told.vars p t) r
    (λ told t u. rolled (reads s) told.vars y p t is u) (λ told t u. parts-of (reads s) told.vars p y t is u) f

-- ---- a pattern that binds a variable to what another matches

module _ (s : Scope) (g h : Nodes) where
  abbrev OfPart : RPat → Told → SchemeTree → Type 0
  OfPart q told t = PatternOf (reads s) told.vars q t

  abbrev OfVariable : ℕ → Told → SchemeTree → Type 0
  OfVariable x told t = t ≡ told.vars x

  abbrev OfBoth : ℕ → RPat → Told → SchemeTree → Type 0
  OfBoth x q told t = OfPart q told t × OfVariable x told t

  -- what is found of the part and the variable is found of the pattern
  from-both : (j : Nodes) (p : RPat) (x : ℕ) (part q : RPat) (r : Result ℕ Stop) → p ≡ pattern.Bind x part → q ≡ part → Finds one_node s.coding (watched s) g j (Alone (OfBoth x q)) r
      → FindsNode s g j (λ told t. PatternOf (reads s) told.vars p t) r
  from-both j p x part q r is same f =
      pattern-found s g j p (RPat-F.Bind x part) r (pattern.rolls-Bind x part ∙ sym is) (subst (λ (o : RPat). Finds one_node s.coding (watched s) g j (Alone (OfBoth x o)) r) same f)

  both-left : (x : ℕ) (q : RPat) (told : Told) (ts : List SchemeTree) → Alone (OfBoth x q) told ts → Alone (OfPart q) told ts × Alone (OfVariable x) told ts
  both-left x q told [] u = absurd u
  both-left x q told (t ∷ []) u = u
  both-left x q told (t ∷ v ∷ ts) u = absurd u

  pub bind-left : (j : Nodes) (p : RPat) (x : ℕ) (part q : RPat) → p ≡ pattern.Bind x part → q ≡ part → (r : Result ℕ Stop) {e : Stop} → Left r e → FindsNode s g h (OfPart q) (Err e)
      → FindsNode s g j (λ told t. PatternOf (reads s) told.vars p t) r
  bind-left j p x part q is same r l f =
      from-both j p x part q r is same (left-part s.coding (watched s) one_node one_node g h j (Alone (OfPart q)) (Alone (OfBoth x q)) r l (λ told ts u. (ts, (both-left x q told ts u).0)) f)

  pub bind-left-later : (i j : Nodes) (p : RPat) (x : ℕ) (part q : RPat) → p ≡ pattern.Bind x part → q ≡ part → (m : ℕ) (r : Result ℕ Stop) {e : Stop} → Left r e → IsWithin s.coding (watched s) g
      → Adds s.coding (watched s) g h (Alone (OfPart q)) (m ∷ []) → FindsNode s h i (OfVariable x) (Err e) → FindsNode s g j (λ told t. PatternOf (reads s) told.vars p t) r
  bind-left-later i j p x part q is same m r l inside a f =
      from-both j p x part q r is same
      (left-later s.coding (watched s) one_node one_node g h i j (Alone (OfPart q)) (Alone (OfVariable x)) (Alone (OfBoth x q)) (m ∷ []) r l
      (λ told ts u. (let b = both-left x q told ts u in ((ts, b.0), (ts, b.1)))) inside a f)

  pub bind-refused : (i j : Nodes) (p : RPat) (x : ℕ) (part q : RPat) → p ≡ pattern.Bind x part → q ≡ part → (m n : ℕ) (r : Result ℕ Stop) {e : Stop} → Left r e → IsWithin s.coding (watched s) g
      → Adds s.coding (watched s) g h (Alone (OfPart q)) (m ∷ []) → Adds s.coding (watched s) h i (Alone (OfVariable x)) (n ∷ []) → (e ≡ stop.Untyped → CannotEquateTypes i m n)
      → FindsNode s g j (λ told t. PatternOf (reads s) told.vars p t) r
  bind-refused i j p x part q is same m n r l inside a b refuses =
      from-both j p x part q r is same
      (left-refuted s.coding (watched s) one_node g j (Alone (OfBoth x q)) r l (λ e. refutes-same s.coding (watched s) g h i (OfPart q) (OfVariable x) m n inside a b (refuses e)))

  pub bind-found : (i j : Nodes) (p : RPat) (x : ℕ) (part q : RPat) → p ≡ pattern.Bind x part → q ≡ part → (m n : ℕ) → IsWithin s.coding (watched s) g
      → Adds s.coding (watched s) g h (Alone (OfPart q)) (m ∷ []) → Adds s.coding (watched s) h i (Alone (OfVariable x)) (n ∷ []) → Equates i j m n
      → FindsNode s g j (λ told t. PatternOf (reads s) told.vars p t) (Ok m)
  bind-found i j p x part q is same m n inside a b e =
      from-both j p x part q (Ok m) is same (found s.coding (watched s) one_node g j (Alone (OfBoth x q)) m (adds-same s.coding (watched s) g h i j (OfPart q) (OfVariable x) m n inside a b e))
