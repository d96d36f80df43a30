-- What is typed stays so where relations may be used at more types. So the rules of a group are typed as all others are.
use Rattle.std.proofs.Common.{ℕ, List, length}
use Rattle.std.specs.List.{Contains}
use Rattle.rml_types.specs.declared.tree.SchemeTree.{SchemeTree}
use Rattle.rml_types.specs.declared.tree.SchemeTree.TheVariants as tree
use Rattle.rml_resolved.specs.declared.parts.Parts.{Parts}
use Rattle.rml_resolved.specs.declared.tables.RRule.{RRule}
use Rattle.rml_resolved.specs.declared.trees.RExp.{RExp}
use Rattle.rml_resolved.specs.declared.trees.Callee.{Callee}
use Rattle.rml_resolved.specs.declared.trees.Callee.TheVariants as callee
use Rattle.rml_resolved.specs.declared.trees.RGoal.{RGoal}
use Rattle.rml_typed.specs.Typed.{Assigned, Declared, Uses, ExpOf, ExpsOf, CalleeOf, GoalOf, GoalsOf}
use Rattle.rml_typed.specs.Parts.{RelType, Piece, head, premise, results, pieces, PieceOf, FirstTyped, RuleTyped}
use Rattle.rml_typed.specs.Units.{InGroup, GroupTypes, GroupTyped, Used, inside, alone, declared}

module _ (d : Declared) (uses may : Uses) (more : (r : ℕ) (t : SchemeTree) → uses r t → may r t) where
  module _ (G : Assigned) where
    mutual
      exp-more : (e : RExp) (t : SchemeTree) → ExpOf d uses G e t → ExpOf d may G e t
      exp-more e t (ExpOf.lit l) = ExpOf.lit l
      exp-more e t (ExpOf.var x) = ExpOf.var x
      exp-more e t (ExpOf.val v u h) = ExpOf.val v u h
      exp-more e t (ExpOf.rel r u h) = ExpOf.rel r u (more r u h)
      exp-more e t (ExpOf.con c es ts u at h) = ExpOf.con c es ts u at (exps-more es ts h)
      exp-more e t (ExpOf.tuple es ts h) = ExpOf.tuple es ts (exps-more es ts h)
      exp-more e t (ExpOf.items es ts u are h) = ExpOf.items es ts u are (exps-more es ts h)
      exp-more e t (ExpOf.chain es ts u are h) = ExpOf.chain es ts u are (exps-more es ts h)

      exps-more : (es : List RExp) (ts : List SchemeTree) → ExpsOf d uses G es ts → ExpsOf d may G es ts
      exps-more es ts ExpsOf.none = ExpsOf.none
      exps-more es ts (ExpsOf.more e t fs us h k) = ExpsOf.more e t fs us (exp-more e t h) (exps-more fs us k)

    callee-more : (f : Callee) (t : SchemeTree) → CalleeOf d uses G f t → CalleeOf d may G f t
    callee-more (callee.Rel r) t h = more r t h
    callee-more (callee.Built k) t h = h
    callee-more (callee.Var x) t h = h
    callee-more (callee.Val v) t h = h

    mutual
      goal-more : (g : RGoal) → GoalOf d uses G g → GoalOf d may G g
      goal-more g (GoalOf.call f es ps us ws fh eh ph) = GoalOf.call f es ps us ws (callee-more f (tree.Rel us ws) fh) (exps-more es us eh) ph
      goal-more g (GoalOf.equal a b t ah bh) = GoalOf.equal a b t (exp-more a t ah) (exp-more b t bh)
      goal-more g (GoalOf.define p e t ph eh) = GoalOf.define p e t ph (exp-more e t eh)
      goal-more g (GoalOf.negate x h) = GoalOf.negate x (goal-more x h)
      goal-more g (GoalOf.all gs h) = GoalOf.all gs (goals-more gs h)

      goals-more : (gs : List RGoal) → GoalsOf d uses G gs → GoalsOf d may G gs
      goals-more gs GoalsOf.none = GoalsOf.none
      goals-more gs (GoalsOf.more g hs h k) = GoalsOf.more g hs (goal-more g h) (goals-more hs k)

    piece-more : (k : RelType) (x : Piece) → PieceOf d uses k G x → PieceOf d may k G x
    piece-more k (head ps) h = h
    piece-more k (premise g) h = goal-more g h
    piece-more k (results es) h = exps-more es k.outputs h

  pub rule-more : (k : RelType) (rule : RRule) (n : ℕ) → FirstTyped d uses k rule n → FirstTyped d may k rule n
  rule-more k rule n h = (h.0, λ i x lt. piece-more h.0 k _ (h.1 i x lt))

-- the types of a group are types that its relations have where the whole group is typed
pub inside-outside : (p : Parts) (text m : ℕ) (S : GroupTypes) → GroupTyped p text S → (r : ℕ) (t : SchemeTree) → Used p text m (inside S) r t → alone p text m r t
inside-outside p text m S typed r t (Used.by_type rel s there is i) = Used.by_type rel s there is i
inside-outside p text m S typed r t (Used.by_group g e) = Used.by_group g (S, typed, e)

pub group-alone : (p : Parts) (text r : ℕ) (S : GroupTypes) (g : InGroup p text r) (rule : RRule) → GroupTyped p text S → Contains g.rel.rules rule
    → RuleTyped (declared p g.rel.«module») (alone p text g.rel.«module») (S r) rule
group-alone p text r S g rule typed among =
    rule-more (declared p g.rel.«module») (Used p text g.rel.«module» (inside S)) (alone p text g.rel.«module») (inside-outside p text g.rel.«module» S typed) (S r) rule (length (pieces rule)) (typed r g rule among)
