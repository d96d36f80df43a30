-- A rule's typing looks at the rule's own variables alone, and at how relations may be used: what is typed by some types stays so
-- by others that are the same at its own variables, where relations may be used at more types.
use Rattle.std.proofs.Common.{◌≡◌, ℕ, ◌<◌, Bool, true, ◌&&◌, List, [], ◌∷◌, map, take, length, sym, ap, subst, ◌∙◌, ltb-true}
use Rattle.std.specs.Prelude.{All, nat_lt}
use Rattle.std.proofs.lemmas.List.Elements.{All-append, All-cons, All-nil, All-take}
use Rattle.rml_types.specs.Schemes.{every}
use Rattle.rml_types.specs.declared.tree.SchemeTree.{SchemeTree}
use Rattle.rml_types.specs.declared.tree.SchemeTree.TheVariants as tree
use Rattle.rml_types.proofs.Callers.{both}
use Rattle.rml_resolved.specs.declared.parts.Counts.{Counts}
use Rattle.rml_resolved.specs.declared.tables.ConDef.{ConDef}
use Rattle.rml_resolved.specs.declared.tables.RRule.{RRule}
use Rattle.rml_resolved.specs.declared.trees.RPat.{RPat, fold-roll-RPat}
use Rattle.rml_resolved.specs.declared.trees.RPat.TheOpen.{RPat-F}
use Rattle.rml_resolved.specs.declared.trees.RPat.TheVariants as pattern
use Rattle.rml_resolved.specs.declared.trees.RExp.{RExp, fold-roll-RExp}
use Rattle.rml_resolved.specs.declared.trees.RExp.TheOpen.{RExp-F}
use Rattle.rml_resolved.specs.declared.trees.RExp.TheVariants as exp
use Rattle.rml_resolved.specs.declared.trees.Callee.{Callee}
use Rattle.rml_resolved.specs.declared.trees.Callee.TheVariants as callee
use Rattle.rml_resolved.specs.declared.trees.RGoal.{RGoal, fold-roll-RGoal}
use Rattle.rml_resolved.specs.declared.trees.RGoal.TheOpen.{RGoal-F}
use Rattle.rml_resolved.specs.declared.trees.RGoal.TheVariants as goal
use Rattle.rml_resolved.specs.Fits.{callee_fits, con_fits, exp_at, exp_fits, exps_fit, goal_fits, goal_fits_at, goals_fit, pattern_at, pattern_fits, patterns_fit, rule_fits}
use Rattle.rml_typed.specs.Typed.{Assigned, Declared, Uses, PatternOf, PatternsOf, ExpOf, ExpsOf, CalleeOf, GoalOf, GoalsOf}
use Rattle.rml_typed.specs.Parts.{RelType, Piece, head, premise, results, pieces, PieceOf}

module _ (n : Counts) (cons : List ConDef) (vars : ℕ) where
  abbrev pattern-is : RPat → Bool
  pattern-is = pattern_fits n cons vars

  abbrev exp-is : RExp → Bool
  exp-is = exp_fits n cons vars

  abbrev goal-is : RGoal → Bool
  goal-is = goal_fits n cons vars

  -- ---- what fits has parts that fit

  pattern-var : (x : ℕ) → pattern-is (pattern.Var x) ≡ true → x < vars
  pattern-var x h = ltb-true x vars (sym (ap pattern-is (sym (pattern.rolls-Var x)) ∙ fold-roll-RPat Bool (pattern_at n cons vars) (RPat-F.Var x)) ∙ h)

  pattern-con : (c : ℕ) (ps : List RPat) → pattern-is (pattern.Con c ps) ≡ true → every (map pattern-is ps) ≡ true
  pattern-con c ps h =
      (both (con_fits cons c (length (map pattern-is ps))) (every (map pattern-is ps)) (sym (ap pattern-is (sym (pattern.rolls-Con c ps)) ∙ fold-roll-RPat Bool (pattern_at n cons vars) (RPat-F.Con c ps)) ∙ h)).1

  pattern-tuple : (ps : List RPat) → pattern-is (pattern.Tuple ps) ≡ true → every (map pattern-is ps) ≡ true
  pattern-tuple ps h = sym (ap pattern-is (sym (pattern.rolls-Tuple ps)) ∙ fold-roll-RPat Bool (pattern_at n cons vars) (RPat-F.Tuple ps)) ∙ h

  pattern-list : (ps : List RPat) → pattern-is (pattern.List ps) ≡ true → every (map pattern-is ps) ≡ true
  pattern-list ps h = sym (ap pattern-is (sym (pattern.rolls-List ps)) ∙ fold-roll-RPat Bool (pattern_at n cons vars) (RPat-F.List ps)) ∙ h

  pattern-chain : (ps : List RPat) → pattern-is (pattern.Cons ps) ≡ true → every (map pattern-is ps) ≡ true
  pattern-chain ps h = (both _ (every (map pattern-is ps)) (sym (ap pattern-is (sym (pattern.rolls-Cons ps)) ∙ fold-roll-RPat Bool (pattern_at n cons vars) (RPat-F.Cons ps)) ∙ h)).1

  pattern-bind : (x : ℕ) (p : RPat) → pattern-is (pattern.Bind x p) ≡ true → (x < vars) × (pattern-is p ≡ true)
  pattern-bind x p h =
      let two = both (nat_lt x vars) (pattern-is p) (sym (ap pattern-is (sym (pattern.rolls-Bind x p)) ∙ fold-roll-RPat Bool (pattern_at n cons vars) (RPat-F.Bind x p)) ∙ h) in
      (ltb-true x vars two.0, two.1)

  exp-var : (x : ℕ) → exp-is (exp.Var x) ≡ true → x < vars
  exp-var x h = ltb-true x vars (sym (ap exp-is (sym (exp.rolls-Var x)) ∙ fold-roll-RExp Bool (exp_at n cons vars) (RExp-F.Var x)) ∙ h)

  exp-con : (c : ℕ) (es : List RExp) → exp-is (exp.Con c es) ≡ true → every (map exp-is es) ≡ true
  exp-con c es h =
      (both (con_fits cons c (length (map exp-is es))) (every (map exp-is es)) (sym (ap exp-is (sym (exp.rolls-Con c es)) ∙ fold-roll-RExp Bool (exp_at n cons vars) (RExp-F.Con c es)) ∙ h)).1

  exp-tuple : (es : List RExp) → exp-is (exp.Tuple es) ≡ true → every (map exp-is es) ≡ true
  exp-tuple es h = sym (ap exp-is (sym (exp.rolls-Tuple es)) ∙ fold-roll-RExp Bool (exp_at n cons vars) (RExp-F.Tuple es)) ∙ h

  exp-list : (es : List RExp) → exp-is (exp.List es) ≡ true → every (map exp-is es) ≡ true
  exp-list es h = sym (ap exp-is (sym (exp.rolls-List es)) ∙ fold-roll-RExp Bool (exp_at n cons vars) (RExp-F.List es)) ∙ h

  exp-chain : (es : List RExp) → exp-is (exp.Cons es) ≡ true → every (map exp-is es) ≡ true
  exp-chain es h = (both _ (every (map exp-is es)) (sym (ap exp-is (sym (exp.rolls-Cons es)) ∙ fold-roll-RExp Bool (exp_at n cons vars) (RExp-F.Cons es)) ∙ h)).1

  goal-call : (f : Callee) (es : List RExp) (ps : List RPat) → goal-is (goal.Call f es ps) ≡ true → (callee_fits n vars f ≡ true) × (exps_fit n cons vars es ≡ true) × (patterns_fit n cons vars ps ≡ true)
  goal-call f es ps h =
      let two = both (callee_fits n vars f && exps_fit n cons vars es) (patterns_fit n cons vars ps)
      (sym (ap goal-is (sym (goal.rolls-Call f es ps)) ∙ fold-roll-RGoal Bool (goal_fits_at n cons vars) (RGoal-F.Call f es ps)) ∙ h) in
      let one = both (callee_fits n vars f) (exps_fit n cons vars es) two.0 in
      (one.0, one.1, two.1)

  goal-equal : (a b : RExp) → goal-is (goal.Equal a b) ≡ true → (exp-is a ≡ true) × (exp-is b ≡ true)
  goal-equal a b h = both (exp-is a) (exp-is b) (sym (ap goal-is (sym (goal.rolls-Equal a b)) ∙ fold-roll-RGoal Bool (goal_fits_at n cons vars) (RGoal-F.Equal a b)) ∙ h)

  goal-let : (p : RPat) (e : RExp) → goal-is (goal.Let p e) ≡ true → (pattern-is p ≡ true) × (exp-is e ≡ true)
  goal-let p e h = both (pattern-is p) (exp-is e) (sym (ap goal-is (sym (goal.rolls-Let p e)) ∙ fold-roll-RGoal Bool (goal_fits_at n cons vars) (RGoal-F.Let p e)) ∙ h)

  goal-not : (g : RGoal) → goal-is (goal.Not g) ≡ true → goal-is g ≡ true
  goal-not g h = sym (ap goal-is (sym (goal.rolls-Not g)) ∙ fold-roll-RGoal Bool (goal_fits_at n cons vars) (RGoal-F.Not g)) ∙ h

  goal-all : (gs : List RGoal) → goal-is (goal.All gs) ≡ true → every (map goal-is gs) ≡ true
  goal-all gs h = sym (ap goal-is (sym (goal.rolls-All gs)) ∙ fold-roll-RGoal Bool (goal_fits_at n cons vars) (RGoal-F.All gs)) ∙ h

  -- ---- what is typed

  module _ (d : Declared) (uses may : Uses) (more : (r : ℕ) (t : SchemeTree) → uses r t → may r t) (G H : Assigned) (agree : (x : ℕ) → x < vars → G x ≡ H x) where
    mutual
      pattern-carried : (q : RPat) (t : SchemeTree) → PatternOf d G q t → pattern-is q ≡ true → PatternOf d H q t
      pattern-carried q t (PatternOf.any u) fits = PatternOf.any u
      pattern-carried q t (PatternOf.lit l) fits = PatternOf.lit l
      pattern-carried q t (PatternOf.var x) fits = subst (PatternOf d H (pattern.Var x)) (sym (agree x (pattern-var x fits))) (PatternOf.var x)
      pattern-carried q t (PatternOf.con c ps ts u i hs) fits = PatternOf.con c ps ts u i (patterns-carried ps ts hs (pattern-con c ps fits))
      pattern-carried q t (PatternOf.tuple ps ts hs) fits = PatternOf.tuple ps ts (patterns-carried ps ts hs (pattern-tuple ps fits))
      pattern-carried q t (PatternOf.items ps ts u are hs) fits = PatternOf.items ps ts u are (patterns-carried ps ts hs (pattern-list ps fits))
      pattern-carried q t (PatternOf.chain ps ts u are hs) fits = PatternOf.chain ps ts u are (patterns-carried ps ts hs (pattern-chain ps fits))
      pattern-carried q t (PatternOf.bind x p h) fits =
          let two = pattern-bind x p fits in
          let same = agree x two.0 in
          subst (PatternOf d H (pattern.Bind x p)) (sym same) (PatternOf.bind x p (subst (PatternOf d H p) same (pattern-carried p (G x) h two.1)))

      patterns-carried : (qs : List RPat) (ts : List SchemeTree) → PatternsOf d G qs ts → every (map pattern-is qs) ≡ true → PatternsOf d H qs ts
      patterns-carried qs ts PatternsOf.none fits = PatternsOf.none
      patterns-carried qs ts (PatternsOf.more p t ps us h hs) fits =
          let two = both (pattern-is p) (every (map pattern-is ps)) fits in
          PatternsOf.more p t ps us (pattern-carried p t h two.0) (patterns-carried ps us hs two.1)

    mutual
      pub exp-carried : (e : RExp) (t : SchemeTree) → ExpOf d uses G e t → exp-is e ≡ true → ExpOf d may H e t
      exp-carried e t (ExpOf.lit l) fits = ExpOf.lit l
      exp-carried e t (ExpOf.var x) fits = subst (ExpOf d may H (exp.Var x)) (sym (agree x (exp-var x fits))) (ExpOf.var x)
      exp-carried e t (ExpOf.val v u h) fits = ExpOf.val v u h
      exp-carried e t (ExpOf.rel r u h) fits = ExpOf.rel r u (more r u h)
      exp-carried e t (ExpOf.con c es ts u i hs) fits = ExpOf.con c es ts u i (exps-carried es ts hs (exp-con c es fits))
      exp-carried e t (ExpOf.tuple es ts hs) fits = ExpOf.tuple es ts (exps-carried es ts hs (exp-tuple es fits))
      exp-carried e t (ExpOf.items es ts u are hs) fits = ExpOf.items es ts u are (exps-carried es ts hs (exp-list es fits))
      exp-carried e t (ExpOf.chain es ts u are hs) fits = ExpOf.chain es ts u are (exps-carried es ts hs (exp-chain es fits))

      exps-carried : (es : List RExp) (ts : List SchemeTree) → ExpsOf d uses G es ts → every (map exp-is es) ≡ true → ExpsOf d may H es ts
      exps-carried es ts ExpsOf.none fits = ExpsOf.none
      exps-carried es ts (ExpsOf.more e t fs us h hs) fits =
          let two = both (exp-is e) (every (map exp-is fs)) fits in
          ExpsOf.more e t fs us (exp-carried e t h two.0) (exps-carried fs us hs two.1)

    callee-carried : (f : Callee) (t : SchemeTree) → CalleeOf d uses G f t → callee_fits n vars f ≡ true → CalleeOf d may H f t
    callee-carried (callee.Rel r) t h fits = more r t h
    callee-carried (callee.Built k) t h fits = h
    callee-carried (callee.Var x) t h fits = h ∙ agree x (ltb-true x vars fits)
    callee-carried (callee.Val v) t h fits = h

    mutual
      goal-carried : (g : RGoal) → GoalOf d uses G g → goal-is g ≡ true → GoalOf d may H g
      goal-carried g (GoalOf.call f es ps us ws fh eh ph) fits =
          let all = goal-call f es ps fits in
          GoalOf.call f es ps us ws (callee-carried f (tree.Rel us ws) fh all.0) (exps-carried es us eh all.1) (patterns-carried ps ws ph all.2)
      goal-carried g (GoalOf.equal a b t ah bh) fits = let two = goal-equal a b fits in GoalOf.equal a b t (exp-carried a t ah two.0) (exp-carried b t bh two.1)
      goal-carried g (GoalOf.define p e t ph eh) fits = let two = goal-let p e fits in GoalOf.define p e t (pattern-carried p t ph two.0) (exp-carried e t eh two.1)
      goal-carried g (GoalOf.negate x h) fits = GoalOf.negate x (goal-carried x h (goal-not x fits))
      goal-carried g (GoalOf.all gs h) fits = GoalOf.all gs (goals-carried gs h (goal-all gs fits))

      goals-carried : (gs : List RGoal) → GoalsOf d uses G gs → every (map goal-is gs) ≡ true → GoalsOf d may H gs
      goals-carried gs GoalsOf.none fits = GoalsOf.none
      goals-carried gs (GoalsOf.more g hs h k) fits =
          let two = both (goal-is g) (every (map goal-is hs)) fits in
          GoalsOf.more g hs (goal-carried g h two.0) (goals-carried hs k two.1)

    abbrev PieceFits : Piece → Type 0
    PieceFits (head ps) = patterns_fit n cons vars ps ≡ true
    PieceFits (premise g) = goal-is g ≡ true
    PieceFits (results es) = exps_fit n cons vars es ≡ true

    piece-carried : (k : RelType) (x : Piece) → PieceFits x → PieceOf d uses k G x → PieceOf d may k H x
    piece-carried k (head ps) fits h = patterns-carried ps k.inputs h fits
    piece-carried k (premise g) fits h = goal-carried g h fits
    piece-carried k (results es) fits h = exps-carried es k.outputs h fits

    premises-fit : (gs : List RGoal) → goals_fit n cons vars gs ≡ true → All PieceFits (map premise gs)
    premises-fit [] h = All-nil PieceFits
    premises-fit (g ∷ gs) h = let two = both (goal-is g) (every (map goal-is gs)) h in All-cons PieceFits (premise g) (map premise gs) two.0 (premises-fit gs two.1)

    pieces-fit : (rule : RRule) → patterns_fit n cons vars rule.inputs ≡ true → goals_fit n cons vars rule.goals ≡ true → exps_fit n cons vars rule.results ≡ true → All PieceFits (pieces rule)
    pieces-fit rule ins goals outs =
        All-append PieceFits (head rule.inputs ∷ map premise rule.goals) (results rule.results ∷ [])
        (All-cons PieceFits (head rule.inputs) (map premise rule.goals) ins (premises-fit rule.goals goals))
        (All-cons PieceFits (results rule.results) [] outs (All-nil PieceFits))

    pub pieces-carried : (k : RelType) (rule : RRule) (m : ℕ) → patterns_fit n cons vars rule.inputs ≡ true → goals_fit n cons vars rule.goals ≡ true → exps_fit n cons vars rule.results ≡ true
        → All (PieceOf d uses k G) (take m (pieces rule)) → All (PieceOf d may k H) (take m (pieces rule))
    pieces-carried k rule m ins goals outs h =
        let fit = All-take PieceFits m (pieces rule) (pieces-fit rule ins goals outs) in
        λ i x lt. piece-carried k _ (fit i x lt) (h i x lt)

-- the same of a rule whose parts fit
pub rule-carried : (n : Counts) (cons : List ConDef) (d : Declared) (uses may : Uses) → ((r : ℕ) (t : SchemeTree) → uses r t → may r t) → (G H : Assigned) (k : RelType) (rule : RRule) (m : ℕ)
    → rule_fits n cons rule ≡ true → ((x : ℕ) → x < rule.vars → G x ≡ H x) → All (PieceOf d uses k G) (take m (pieces rule)) → All (PieceOf d may k H) (take m (pieces rule))
rule-carried n cons d uses may more G H k rule m fits agree h =
    let two = both (patterns_fit n cons rule.vars rule.inputs && goals_fit n cons rule.vars rule.goals) (exps_fit n cons rule.vars rule.results) fits in
    let one = both (patterns_fit n cons rule.vars rule.inputs) (goals_fit n cons rule.vars rule.goals) two.0 in
    pieces-carried n cons rule.vars d uses may more G H agree k rule m one.0 one.1 two.1 h
