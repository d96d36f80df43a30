-- The scope behind what is made of a tree is the one behind its steps.
use Rattle.std.proofs.Common.{◌≡◌, ℕ, List, [], ◌∷◌, ◌++◌, map, refl, sym, ap, subst, ◌∙◌}
use Rattle.std.specs.Prelude.{length}
use Rattle.rml_syntax.specs.declared.rules.Exp.{Exp, map-Exp, roll-Exp, fold-roll-Exp, ind-Exp}
use Rattle.rml_syntax.specs.declared.rules.Exp.TheOpen.{Exp-F}
use Rattle.rml_syntax.specs.declared.rules.Goal.{Goal, map-Goal, roll-Goal, fold-roll-Goal, ind-Goal}
use Rattle.rml_syntax.specs.declared.rules.Goal.TheOpen.{Goal-F}
use Rattle.rml_syntax.specs.declared.rules.Long.{Long}
use Rattle.rml_syntax.specs.declared.rules.Pattern.{Pattern, map-Pattern, roll-Pattern, fold-roll-Pattern, ind-Pattern}
use Rattle.rml_syntax.specs.declared.rules.Pattern.TheOpen.{Pattern-F}
use Rattle.rml_syntax.specs.declared.rules.Rule.{Rule}
use Rattle.rml_scopes.specs.declared.role.Role.TheVariants as role
use Rattle.rml_scopes.specs.declared.scope.Scope.{Scope}
use Rattle.rml_scopes.specs.declared.world.World.{World}
use Rattle.rml_scopes.specs.Machine.{after_name, after_step}
use Rattle.rml_scopes.specs.Meaning.{binds}
use Rattle.rml_scopes.specs.Steps as steps
use Rattle.rml_scopes.specs.Steps.{Step, Name, Begins, Part, Enter, Leave, exp_steps, goal_steps, joined, pattern_steps, rule_steps, short}
use Rattle.rml_resolved.specs.declared.trees.RGoal.{RGoal}
use Rattle.rml_resolved.specs.declared.trees.RPat.{RPat}
use Rattle.rml_rules.specs.declared.env.Env.{Env}
use Rattle.rml_named.specs.Uses.{after_steps}
use Rattle.rml_named.proofs.Callers.{steps_over}
use Rattle.rml_rules.specs.Made.{Made, in_turn}
use Rattle.rml_rules.specs.Rules.{goal, goal_at, rule}
use Rattle.rml_rules.specs.Terms.{pattern, pattern_at}

module _ (w : World) where
  -- names that bind nothing

  constructor-stays : (n : ℕ) (l : Long) (s : Scope) → after_name w s (role.Constructor n) l ≡ s
  unfolding after_name binds
  constructor-stays n l s = refl

  value-stays : (l : Long) (s : Scope) → after_name w s role.Value l ≡ s
  unfolding after_name binds
  value-stays l s = refl

  callee-stays : (l : Long) (s : Scope) → after_name w s role.Callee l ≡ s
  unfolding after_name binds
  callee-stays l s = refl

  head-stays : (n : ℕ) (l : Long) (s : Scope) → after_name w s (role.Head n) l ≡ s
  unfolding after_name binds
  head-stays n l s = refl

  abbrev Stays : Exp → Type 0
  Stays e = (s : Scope) → after_steps w s (exp_steps e) ≡ s

  exps-stay : (es : List ((e : Exp) × Stays e)) (s : Scope) → after_steps w s (joined (map exp_steps (map (λ e. e.0) es))) ≡ s
  exps-stay [] s = refl
  exps-stay (e ∷ es) s =
      let rest = joined (map exp_steps (map (λ e. e.0) es)) in
      steps_over w (exp_steps e.0) rest s ∙ ap (λ (z : Scope). after_steps w z rest) (e.1 s) ∙ exps-stay es s

  exp-rolled : (y : Exp-F Exp) → ((s : Scope) → after_steps w s (steps.exp_at (map-Exp Exp (List Step) exp_steps y)) ≡ s) → Stays (roll-Exp y)
  exp-rolled y h s = ap (after_steps w s) (fold-roll-Exp (List Step) steps.exp_at y) ∙ h s

  exp-layer : (y : Exp-F ((e : Exp) × Stays e)) → Stays (roll-Exp (map-Exp ((e : Exp) × Stays e) Exp (λ e. e.0) y))
  exp-layer (Exp-F.Lit l) = exp-rolled (Exp-F.Lit l) (λ s. refl)
  exp-layer (Exp-F.Name l) = exp-rolled (Exp-F.Name l) (value-stays l)
  exp-layer (Exp-F.App l es) =
      exp-rolled (Exp-F.App l (map (λ e. e.0) es))
      (λ s. ap (λ (z : Scope). after_steps w z (joined (map exp_steps (map (λ e. e.0) es)))) (constructor-stays (length (map exp_steps (map (λ e. e.0) es))) l s) ∙ exps-stay es s)
  exp-layer (Exp-F.Tuple es) = exp-rolled (Exp-F.Tuple (map (λ e. e.0) es)) (exps-stay es)
  exp-layer (Exp-F.List es) = exp-rolled (Exp-F.List (map (λ e. e.0) es)) (exps-stay es)
  exp-layer (Exp-F.Cons es) = exp-rolled (Exp-F.Cons (map (λ e. e.0) es)) (exps-stay es)

  pub exp_stays : (e : Exp) → Stays e
  exp_stays = ind-Exp Stays (λ x y is. subst (λ z. Stays (roll-Exp z)) is (exp-layer y))

  pub all_stay : (es : List Exp) (s : Scope) → after_steps w s (joined (map exp_steps es)) ≡ s
  all_stay [] s = refl
  all_stay (e ∷ es) s =
      steps_over w (exp_steps e) (joined (map exp_steps es)) s ∙ ap (λ (z : Scope). after_steps w z (joined (map exp_steps es))) (exp_stays e s) ∙ all_stay es s

module _ {T Y : Type 0} (w : World) (f : T → Scope → Made Y) (g : T → List Step) where
  abbrev Follows : T → Type 0
  Follows t = (s : Scope) → (f t s).after ≡ after_steps w s (g t)

  each-follows : (ts : List ((t : T) × Follows t)) (s : Scope) → (in_turn (map f (map (λ t. t.0) ts)) s).after ≡ after_steps w s (joined (map g (map (λ t. t.0) ts)))
  each-follows [] s = refl
  each-follows (t ∷ ts) s =
      let rest = joined (map g (map (λ t. t.0) ts)) in
      each-follows ts (f t.0 s).after ∙ ap (λ (z : Scope). after_steps w z rest) (t.1 s) ∙ sym (steps_over w (g t.0) rest s)

  pub all_follow : ((t : T) → Follows t) → (ts : List T) (s : Scope) → (in_turn (map f ts) s).after ≡ after_steps w s (joined (map g ts))
  all_follow follows [] s = refl
  all_follow follows (t ∷ ts) s =
      all_follow follows ts (f t s).after ∙ ap (λ (z : Scope). after_steps w z (joined (map g ts))) (follows t s) ∙ sym (steps_over w (g t) (joined (map g ts)) s)

module _ (env : Env) where
  abbrev PatternFollows : Pattern → Type 0
  PatternFollows = Follows env.world (pattern env) pattern_steps

  pattern-rolled : (y : Pattern-F Pattern)
      → ((s : Scope) → (pattern_at env (map-Pattern Pattern (Scope → Made RPat) (pattern env) y) s).after ≡ after_steps env.world s (steps.pattern_at (map-Pattern Pattern (List Step) pattern_steps y)))
      → PatternFollows (roll-Pattern y)
  pattern-rolled y h s =
      ap (λ (m : Scope → Made RPat). (m s).after) (fold-roll-Pattern (Scope → Made RPat) (pattern_at env) y) ∙ h s
      ∙ ap (after_steps env.world s) (sym (fold-roll-Pattern (List Step) steps.pattern_at y))

  patterns-follow : (ps : List ((p : Pattern) × PatternFollows p)) (s : Scope)
      → (in_turn (map (pattern env) (map (λ p. p.0) ps)) s).after ≡ after_steps env.world s (joined (map pattern_steps (map (λ p. p.0) ps)))
  patterns-follow = each-follows env.world (pattern env) pattern_steps

  pattern-layer : (y : Pattern-F ((p : Pattern) × PatternFollows p)) → PatternFollows (roll-Pattern (map-Pattern ((p : Pattern) × PatternFollows p) Pattern (λ p. p.0) y))
  pattern-layer Pattern-F.Any = pattern-rolled Pattern-F.Any (λ s. refl)
  pattern-layer (Pattern-F.Lit l) = pattern-rolled (Pattern-F.Lit l) (λ s. refl)
  pattern-layer (Pattern-F.Name l) = pattern-rolled (Pattern-F.Name l) (λ s. refl)
  pattern-layer (Pattern-F.App l ps) =
      pattern-rolled (Pattern-F.App l (map (λ p. p.0) ps))
      (λ s. patterns-follow ps s
      ∙ ap (λ (z : Scope). after_steps env.world z (joined (map pattern_steps (map (λ p. p.0) ps)))) (sym (constructor-stays env.world (length (map pattern_steps (map (λ p. p.0) ps))) l s)))
  pattern-layer (Pattern-F.Tuple ps) = pattern-rolled (Pattern-F.Tuple (map (λ p. p.0) ps)) (patterns-follow ps)
  pattern-layer (Pattern-F.List ps) = pattern-rolled (Pattern-F.List (map (λ p. p.0) ps)) (patterns-follow ps)
  pattern-layer (Pattern-F.Cons ps) = pattern-rolled (Pattern-F.Cons (map (λ p. p.0) ps)) (patterns-follow ps)
  pattern-layer (Pattern-F.Bind x at p) = pattern-rolled (Pattern-F.Bind x at p.0) (λ s. p.1 (after_name env.world s role.Variable (short x at)))

  pub pattern_follows : (p : Pattern) (s : Scope) → (pattern env p s).after ≡ after_steps env.world s (pattern_steps p)
  pattern_follows = ind-Pattern PatternFollows (λ x y is. subst (λ z. PatternFollows (roll-Pattern z)) is (pattern-layer y))

  all-patterns : (ps : List Pattern) (s : Scope) → (in_turn (map (pattern env) ps) s).after ≡ after_steps env.world s (joined (map pattern_steps ps))
  all-patterns = all_follow env.world (pattern env) pattern_steps pattern_follows

  -- behind patterns a part ends
  parted : (ps : List Pattern) (s : Scope) → after_step env.world (in_turn (map (pattern env) ps) s).after Part ≡ after_steps env.world s (joined (map pattern_steps ps) ++ Part ∷ [])
  parted ps s = ap (λ (z : Scope). after_step env.world z Part) (all-patterns ps s) ∙ sym (steps_over env.world (joined (map pattern_steps ps)) (Part ∷ []) s)

  abbrev GoalFollows : Goal → Type 0
  GoalFollows = Follows env.world (goal env) goal_steps

  goal-rolled : (y : Goal-F Goal)
      → ((s : Scope) → (goal_at env (map-Goal Goal (Scope → Made RGoal) (goal env) y) s).after ≡ after_steps env.world s (steps.goal_at (map-Goal Goal (List Step) goal_steps y)))
      → GoalFollows (roll-Goal y)
  goal-rolled y h s =
      ap (λ (m : Scope → Made RGoal). (m s).after) (fold-roll-Goal (Scope → Made RGoal) (goal_at env) y) ∙ h s
      ∙ ap (after_steps env.world s) (sym (fold-roll-Goal (List Step) steps.goal_at y))

  call-follows : (l : Long) (es : List Exp) (ps : List Pattern) (s : Scope)
      → after_step env.world (in_turn (map (pattern env) ps) s).after Part ≡ after_steps env.world s (steps.call_steps l es ps)
  call-follows l es ps s =
      let w = env.world in
      let rest = joined (map pattern_steps ps) ++ Part ∷ [] in
      parted ps s ∙ ap (λ (z : Scope). after_steps w z rest) (sym (all_stay w es s)) ∙ sym (steps_over w (joined (map exp_steps es)) rest s)
      ∙ ap (λ (z : Scope). after_steps w z (joined (map exp_steps es) ++ rest)) (sym (callee-stays w l s))

  equal-follows : (l : Long) (e : Exp) (s : Scope) → after_step env.world s Part ≡ after_steps env.world s (steps.equal_steps l e)
  equal-follows l e s =
      let w = env.world in
      ap (λ (z : Scope). after_step w z Part) (sym (exp_stays w e s)) ∙ sym (steps_over w (exp_steps e) (Part ∷ []) s)
      ∙ ap (λ (z : Scope). after_steps w z (exp_steps e ++ Part ∷ [])) (sym (value-stays w l s))

  let-follows : (p : Pattern) (e : Exp) (s : Scope) → after_step env.world (pattern env p s).after Part ≡ after_steps env.world s (steps.let_steps p e)
  let-follows p e s =
      let w = env.world in
      ap (λ (z : Scope). after_step w z Part) (pattern_follows p s) ∙ sym (steps_over w (pattern_steps p) (Part ∷ []) s)
      ∙ ap (λ (z : Scope). after_steps w z (pattern_steps p ++ Part ∷ [])) (sym (exp_stays w e s)) ∙ sym (steps_over w (exp_steps e) (pattern_steps p ++ Part ∷ []) s)

  not-follows : (g : Goal) → GoalFollows g → (s : Scope)
      → after_step env.world (goal env g (after_step env.world s Enter)).after Leave ≡ after_steps env.world s (Enter ∷ (goal_steps g ++ Leave ∷ []))
  not-follows g h s =
      ap (λ (z : Scope). after_step env.world z Leave) (h (after_step env.world s Enter)) ∙ sym (steps_over env.world (goal_steps g) (Leave ∷ []) (after_step env.world s Enter))

  goal-layer : (y : Goal-F ((g : Goal) × GoalFollows g)) → GoalFollows (roll-Goal (map-Goal ((g : Goal) × GoalFollows g) Goal (λ g. g.0) y))
  goal-layer (Goal-F.Call l es ps) = goal-rolled (Goal-F.Call l es ps) (call-follows l es ps)
  goal-layer (Goal-F.Equal l e) = goal-rolled (Goal-F.Equal l e) (equal-follows l e)
  goal-layer (Goal-F.Let p e) = goal-rolled (Goal-F.Let p e) (let-follows p e)
  goal-layer (Goal-F.Not g) = goal-rolled (Goal-F.Not g.0) (not-follows g.0 g.1)
  goal-layer (Goal-F.All gs) = goal-rolled (Goal-F.All (map (λ g. g.0) gs)) (each-follows env.world (goal env) goal_steps gs)

  pub goal_follows : (g : Goal) (s : Scope) → (goal env g s).after ≡ after_steps env.world s (goal_steps g)
  goal_follows = ind-Goal GoalFollows (λ x y is. subst (λ z. GoalFollows (roll-Goal z)) is (goal-layer y))

  -- a rule: its head, its premises, and its results, which move nothing
  pub rule_follows : (name : ℕ) (r : Rule) (s : Scope) → (rule env r s).after ≡ after_steps env.world s (rule_steps name r)
  rule_follows name r s =
      let w = env.world in
      let begun = after_step w s Begins in
      let inputs = joined (map pattern_steps r.inputs) in
      let premises = joined (map goal_steps r.goals) in
      let results = joined (map exp_steps r.results) in
      let behind : Scope = after_step w (in_turn (map (pattern env) r.inputs) begun).after Part in
      all_follow w (goal env) goal_steps goal_follows r.goals behind
      ∙ sym (all_stay w r.results (after_steps w behind premises)) ∙ sym (steps_over w premises results behind)
      ∙ ap (λ (z : Scope). after_steps w (after_step w z Part) (premises ++ results)) (all-patterns r.inputs begun)
      ∙ sym (steps_over w inputs (Part ∷ (premises ++ results)) begun)
      ∙ ap (λ (z : Scope). after_steps w z (inputs ++ Part ∷ (premises ++ results))) (sym (head-stays w name (short r.head r.head_place) begun))
