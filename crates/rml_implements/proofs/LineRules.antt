-- The rules of lines that need no instruction.
use Rattle.std.proofs.Common.{◌≡◌, ℕ, suc, ◌+◌, ◌≤◌, List, [], ◌∷◌, ◌++◌, length, Option, Some, None, refl, sym, ◌∙◌, subst, arith}
use Rattle.rml_base.specs.Run.{Rest, step}
use Rattle.rml_simulation.specs.Simulates.{Simulates}
use Rattle.rml_simulation.specs.Moves.{more_steps}
use Rattle.rml_simulation.proofs.Callers.{old_step, old_weigh, old_wrong, weaken}
use Rattle.rml_value.specs.declared.value.Value.{Value}
use Rattle.rml_builtin.specs.Applied.{Store}
use Rattle.rml_terms.specs.Env.{Env, bind, look}
use Rattle.rml_fol.specs.declared.terms.Expression.TheVariants as expression
use Rattle.rml_fol.specs.Expressions.{Vals, value_of}
use Rattle.std.specs.Prelude.{option_and_then}
use Rattle.rml_cps.specs.declared.statements.Continuation.TheVariants as continuation
use Rattle.rml_cps.specs.declared.statements.Stmt.TheVariants as stmt
use Rattle.rml_cps.specs.Weights.{entry_weight, set_weight, failure_weight}
use Rattle.rml_cps.specs.Statements.{RelationActs, Scope, with_known, argument_of, with_success, with_failure, with_body, success_of, failure_of, body_of, block}
use Rattle.rml_code.specs.declared.instructions.Instr.{Instr}
use Rattle.rml_code.specs.declared.state.State.{State}
use Rattle.rml_code.specs.Frames.{register}
use Rattle.rml_code.specs.Remaining.{remains}
use Rattle.rml_implements.specs.Layout.{Layout, Delayed, Entered}
use Rattle.rml_implements.specs.World.{credit, Chain, Covers, Within, Then, IsDelayed, Meets}
use Rattle.rml_implements.specs.Implements.{Called}
use Rattle.rml_implements.specs.Rules as rule
use Rattle.rml_implements.proofs.Runs.{along-old, spend}
use Rattle.rml_implements.proofs.Values.{later-same}
use Rattle.rml_implements.proofs.Parts.{field-there}
use Rattle.rml_implements.proofs.Frames.{chain-later, from-within}
use Rattle.rml_implements.proofs.Meetings.{meets-bind, meets-success, meets-failure, meets-body, meets-back}
use Rattle.rml_implements.proofs.Lines.{known, variable-value, line-Set, line-Field, line-Success, line-Failure, line-Body, line-Fail}

module _ (vals : Vals) (calls : RelationActs) (rels registers : ℕ) (constants : ℕ → Option Value) (blocks : List (List Instr)) where
  pub success-rule : rule.SuccessRule vals calls rels registers constants blocks
  success-rule at l spare is k params body rest fresh other next = record {
    by = λ i called n le scope env store t m.
        let now : Scope = with_success k (success_of params (block vals calls body) scope env) scope in
        along-old i (credit spare) (block vals calls rest now env store) (block vals calls (stmt.Success k params body ∷ rest) scope env store) (remains blocks n is t)
        (λ s. line-Success vals calls rest scope env store s k params body)
        (next.by i called n le now env store t (meets-success vals calls rels registers constants blocks i l scope env store t m k params body fresh other));
  }

  pub failure-rule : rule.FailureRule vals calls rels registers constants blocks
  failure-rule at l spare is h body rest fresh other next = record {
    by = λ i called n le scope env store t m.
        let now : Scope = with_failure h (failure_of (block vals calls body) scope env store) scope in
        along-old i (credit spare) _ (block vals calls (stmt.Failure h body ∷ rest) scope env store) (remains blocks n is t)
        (λ s. line-Failure vals calls rest scope env store s h body)
        (old_weigh i (credit spare) failure_weight (block vals calls rest now env store) (remains blocks n is t)
        (next.by i called n le now env store t (meets-failure vals calls rels registers constants blocks i l scope env store t m h body fresh other)));
  }

  pub body-rule : rule.BodyRule vals calls rels registers constants blocks
  body-rule at l spare is j params h body rest fresh next = record {
    by = λ i called n le scope env store t m.
        let now : Scope = with_body j (body_of params h (block vals calls body) scope env) scope in
        along-old i (credit spare) (block vals calls rest now env store) (block vals calls (stmt.Body j params h body ∷ rest) scope env store) (remains blocks n is t)
        (λ s. line-Body vals calls rest scope env store s j params h body)
        (next.by i called n le now env store t (meets-body vals calls rels registers constants blocks i l scope env store t m j params h body fresh));
  }

  pub same-rule : rule.SameRule vals calls rels registers constants blocks
  same-rule at l spare is x y p rest fresh has next = record {
    by = λ i called n le scope env store t m.
        let w : ℕ = set_weight (expression.Var y) in
        let go : Value → Rest = λ v. block vals calls rest scope (bind x v env) store in
        along-old i (credit spare) _ (block vals calls (stmt.Set x (expression.Var y) ∷ rest) scope env store) (remains blocks n is t)
        (λ s. line-Set vals calls rest scope env store s x (expression.Var y))
        (old_weigh i (credit spare) w (with_known (value_of vals (expression.Var y) env) go) (remains blocks n is t)
        (known i (credit (w + spare)) (value_of vals (expression.Var y) env) go (remains blocks n is t)
        (λ v e.
        spend i i (w + spare) spare (go v) (remains blocks n is t) (omega arith) (omega arith)
        (next.by i called n le scope (bind x v env) store t
        (meets-bind vals calls rels registers constants blocks i l scope env store t x p v fresh (m.places y p v has (sym (variable-value vals y env) ∙ e)) m)))));
  }

  pub field-rule : rule.FieldRule vals calls rels registers constants blocks
  field-rule at l spare is x y i p rest fresh has next = record {
    by = λ j called n le scope env store t m.
        let go : Value → Rest = λ v. block vals calls rest scope (bind x v env) store in
        along-old j (credit spare) _ (block vals calls (stmt.Field x y i ∷ rest) scope env store) (remains blocks n is t)
        (λ s. line-Field vals calls rest scope env store s x y i)
        (found j called n le scope env store t m (look y env) refl go refl);
  }
    where
      found : (j : ℕ) → Called vals calls rels registers constants blocks j → (n : ℕ) → length blocks ≤ n + suc at → (scope : Scope) (env : Env) (store : Store) (t : State) → Meets vals calls rels registers constants blocks j l scope env store t → (o : Option Value) → look y env ≡ o → (go : Value → Rest) → go ≡ (λ v. block vals calls rest scope (bind x v env) store)
          → Simulates j (credit spare) (with_known (option_and_then (argument_of i) o) go) (remains blocks n is t)
      found j called n le scope env store t m None e go is' = old_wrong j (credit spare) (with_known None go) (remains blocks n is t) 0 refl
      found j called n le scope env store t m (Some w) e go is' =
          known j (credit spare) (argument_of i w) go (remains blocks n is t)
          (λ v d.
          subst (λ (g : Value → Rest). Simulates j (credit spare) (g v) (remains blocks n is t)) (sym is')
          (next.by j called n le scope (bind x v env) store t
          (meets-bind vals calls rels registers constants blocks j l scope env store t x (record { register = p.register; path = p.path ++ (i ∷ []) }) v fresh
          (field-there rels t m.sound.there p.path (register t p.register) i w v (m.places y p w has e) d) m)))

  -- a failure without a frame goes on with what names stood for where it was named
  pub enter-meets : (i : ℕ) (l : Layout) (p : Delayed) (inner : Layout) (scope : Scope) (env : Env) (store : Store) (t : State) (go : Rest) → Entered l p inner → (m : Meets vals calls rels registers constants blocks i l scope env store t)
      → IsDelayed vals calls p l.time (m.past p.time) store go → Meets vals calls rels registers constants blocks i inner (m.past p.time).scope (m.past p.time).env store t
  enter-meets i l p inner scope env store t go entered m o =
      let was : Then = m.past p.time in
      let w : Within was (record { scope = scope; env = env }) = m.now p.time o.earlier in
      meets-back vals calls rels registers constants blocks i l scope env store t m i p.time inner t store (omega arith) o.earlier (later-same t) refl refl m.sound
      (subst (λ n. Covers n was) (sym entered.names) o.covers) entered.before
      (subst (λ fs. Chain rels registers constants blocks i t.heap.frames t.failure t fs was.scope.failure) (sym entered.failures)
      (chain-later rels registers constants blocks i i [] t.heap.frames t.failure t t l.failures scope.failure was.scope.failure (omega arith) (later-same t)
      (from-within rels registers constants blocks scope.failure was.scope.failure l.failures w.failures) m.failures))
      (λ x q v has e. m.places x q v (entered.places x q has) (w.variables x v e))
      (λ q d e. let a = entered.delayed q d e in (a.0, a.1, refl))

  pub enter-rule : rule.EnterRule vals calls rels registers constants blocks
  enter-rule at l spare is h p inner rest delayed entered next = record {
    by = λ i called n le scope env store t m.
        along-old i (credit spare) (with_known (scope.failure (continuation.Named h)) step) (block vals calls (stmt.Fail (continuation.Named h) ∷ rest) scope env store) (remains blocks n is t)
        (λ s. line-Fail vals calls rest scope env store s (continuation.Named h))
        (known i (credit spare) (scope.failure (continuation.Named h)) step (remains blocks n is t)
        (λ go e.
        let o = m.delayed h p go delayed e in
        let was : Then = m.past p.time in
        let inside : Rest = block vals calls p.body was.scope was.env store in
        old_step i (credit spare) go (remains blocks n is t)
        (subst (λ (g : Rest). Simulates i (more_steps 1 (credit spare)) g (remains blocks n is t)) (sym o.is)
        (old_weigh i (more_steps 1 (credit spare)) (entry_weight 0) inside (remains blocks n is t)
        (weaken i i (credit (entry_weight 0 + spare)) (record { steps = 1; made = 0; weighed = entry_weight 0 + spare }) inside (remains blocks n is t) (omega arith) (record { steps = omega arith; made = omega arith; weighed = omega arith })
        (next.by i called n le was.scope was.env store t (enter-meets i l p inner scope env store t go entered m o)))))));
  }
