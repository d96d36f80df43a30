-- What the typing of a goal says of its parts, and what is found for goals.
use Rattle.std.proofs.Common.{◌≡◌, List, [], ◌∷◌, Result, refl, sym, ap, subst, ◌∙◌}
use Rattle.std.specs.List.{AllByRecursion}
use Rattle.rml_types.specs.declared.tree.SchemeTree.{SchemeTree}
use Rattle.rml_types.specs.declared.tree.SchemeTree.TheVariants as tree
use Rattle.rml_types.specs.Nodes.{Nodes}
use Rattle.rml_resolved.specs.declared.trees.RExp.{RExp}
use Rattle.rml_resolved.specs.declared.trees.RPat.{RPat}
use Rattle.rml_resolved.specs.declared.trees.RGoal.{RGoal, out-RGoal, roll-RGoal, out-roll-RGoal}
use Rattle.rml_resolved.specs.declared.trees.RGoal.TheOpen.{RGoal-F}
use Rattle.rml_resolved.specs.declared.trees.RGoal.TheVariants as goal
use Rattle.rml_typed.specs.Typed.{Assigned, CalleeOf, Declared, ExpOf, ExpsOf, GoalOf, GoalsOf, PatternOf, PatternsOf, Uses}
use Rattle.rml_equations.specs.declared.stop.Stop.{Stop}
use Rattle.rml_generator.specs.declared.scope.Scope.{Scope}
use Rattle.rml_generator.specs.Adds.{Finds, Bare, no_node}
use Rattle.rml_generator.specs.Scopes.{FindsFact, reads, uses, watched}
use Rattle.rml_generator.proofs.Adding.{fact-like}

module _ (d : Declared) (may : Uses) (G : Assigned) where
  -- the relation type of a call
  abbrev pub SignatureOf : List RExp → List RPat → SchemeTree → Type 0
  SignatureOf es ps t = (us : List SchemeTree) × (ws : List SchemeTree) × ExpsOf d may G es us × PatternsOf d G ps ws × (t ≡ tree.Rel us ws)

  -- the parts of one form, and what holds of their types
  abbrev pub PartsOf : RGoal-F RGoal → Type 0
  PartsOf (RGoal-F.Call f es ps) = (t : SchemeTree) × CalleeOf d may G f t × SignatureOf es ps t
  PartsOf (RGoal-F.Equal a b) = (t : SchemeTree) × ExpOf d may G a t × ExpOf d may G b t
  PartsOf (RGoal-F.Let p e) = (t : SchemeTree) × PatternOf d G p t × ExpOf d may G e t
  PartsOf (RGoal-F.Not g) = GoalOf d may G g
  PartsOf (RGoal-F.All gs) = GoalsOf d may G gs

  opened : (g : RGoal) (y : RGoal-F RGoal) → roll-RGoal y ≡ g → PartsOf y → PartsOf (out-RGoal g)
  opened g y is h = subst PartsOf (sym (ap out-RGoal (sym is) ∙ out-roll-RGoal y)) h

  out-parts : (g : RGoal) → GoalOf d may G g → PartsOf (out-RGoal g)
  out-parts g (GoalOf.call f es ps us ws c h k) = opened (goal.Call f es ps) (RGoal-F.Call f es ps) (goal.rolls-Call f es ps) (tree.Rel us ws, c, (us, ws, h, k, refl))
  out-parts g (GoalOf.equal a b t h k) = opened (goal.Equal a b) (RGoal-F.Equal a b) (goal.rolls-Equal a b) (t, h, k)
  out-parts g (GoalOf.define p e t h k) = opened (goal.Let p e) (RGoal-F.Let p e) (goal.rolls-Let p e) (t, h, k)
  out-parts g (GoalOf.negate x h) = opened (goal.Not x) (RGoal-F.Not x) (goal.rolls-Not x) h
  out-parts g (GoalOf.all gs h) = opened (goal.All gs) (RGoal-F.All gs) (goal.rolls-All gs) h

  parts-of : (g : RGoal) (y : RGoal-F RGoal) → roll-RGoal y ≡ g → GoalOf d may G g → PartsOf y
  parts-of g y is h = subst PartsOf (ap out-RGoal (sym is) ∙ out-roll-RGoal y) (out-parts g h)

  -- a goal of these parts
  rolled : (y : RGoal-F RGoal) (g : RGoal) → roll-RGoal y ≡ g → PartsOf y → GoalOf d may G g
  rolled (RGoal-F.Call f es ps) g is h =
      subst (GoalOf d may G) (sym (goal.rolls-Call f es ps) ∙ is) (GoalOf.call f es ps h.2.0 h.2.1 (subst (CalleeOf d may G f) h.2.4 h.1) h.2.2 h.2.3)
  rolled (RGoal-F.Equal a b) g is h = subst (GoalOf d may G) (sym (goal.rolls-Equal a b) ∙ is) (GoalOf.equal a b h.0 h.1 h.2)
  rolled (RGoal-F.Let p e) g is h = subst (GoalOf d may G) (sym (goal.rolls-Let p e) ∙ is) (GoalOf.define p e h.0 h.1 h.2)
  rolled (RGoal-F.Not x) g is h = subst (GoalOf d may G) (sym (goal.rolls-Not x) ∙ is) (GoalOf.negate x h)
  rolled (RGoal-F.All gs) g is h = subst (GoalOf d may G) (sym (goal.rolls-All gs) ∙ is) (GoalOf.all gs h)

  -- goals one by one
  pub each-goal : (gs : List RGoal) → GoalsOf d may G gs → AllByRecursion (GoalOf d may G) gs
  each-goal gs GoalsOf.none = tt
  each-goal gs (GoalsOf.more g hs h k) = (h, each-goal hs k)

  pub goals-each : (gs : List RGoal) → AllByRecursion (GoalOf d may G) gs → GoalsOf d may G gs
  goals-each [] a = GoalsOf.none
  goals-each (g ∷ gs) a = GoalsOf.more g gs a.0 (goals-each gs a.1)

-- what is found of the parts of a goal is found of it
pub goal-found : (s : Scope) (g h : Nodes) (one : RGoal) (y : RGoal-F RGoal) (r : Result (Unit {0}) Stop) → roll-RGoal y ≡ one
    → Finds no_node s.coding (watched s) g h (Bare (λ told. PartsOf (reads s) (uses s told) told.vars y)) r → FindsFact s g h (λ told. GoalOf (reads s) (uses s told) told.vars one) r
goal-found s g h one y r is f =
    fact-like s.coding (watched s) g h (λ told. PartsOf (reads s) (uses s told) told.vars y) (λ told. GoalOf (reads s) (uses s told) told.vars one) r
    (λ told u. rolled (reads s) (uses s told) told.vars y one is u) (λ told u. parts-of (reads s) (uses s told) told.vars one y is u) f
