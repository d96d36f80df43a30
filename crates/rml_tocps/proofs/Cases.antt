-- Cases.
use Rattle.std.proofs.Common.{◌≡◌, ℕ, suc, ◌+◌, ◌<◌, ◌≤◌, Bool, List, [], ◌∷◌, map, length, Option, Some, None, refl, sym, ap, subst, ◌∙◌, arith}
use Rattle.std.specs.Prelude.{option_and_then, slice_get}
use Rattle.rml_base.specs.Run.{Rest, Wrong, bare, step}
use Rattle.rml_simulation.specs.declared.partial.Partial.{Partial}
use Rattle.rml_simulation.specs.declared.partial.Partial.TheVariants.{GoneWrong}
use Rattle.rml_simulation.specs.Partial.{untraced, followed}
use Rattle.rml_simulation.specs.Simulates.{Credit, Simulates}
use Rattle.rml_simulation.specs.Moves.{more_weighed}
use Rattle.rml_simulation.proofs.Callers.{old_wrong}
use Rattle.rml_value.specs.declared.value.Value.{Value, out-Value}
use Rattle.rml_value.specs.declared.value.Value.TheOpen.{Value-F}
use Rattle.rml_builtin.specs.Applied.{Store}
use Rattle.rml_terms.specs.Env.{Env, bind, look}
use Rattle.rml_terms.specs.Calling.{RelationCalls, with_value}
use Rattle.rml_terms.proofs.Callers.{look_kept}
use Rattle.rml_fol.specs.Expressions.{Vals}
use Rattle.rml_fol.specs.Statements as clauses
use Rattle.rml_fol.specs.Statements.{Given, Bodies, bind_all, is_of_kind, has_tag, arguments_at}
use Rattle.rml_cps.specs.declared.statements.Continuation.{Continuation}
use Rattle.rml_cps.specs.Statements.{OnAnswer, RelationActs, Scope, Doing, with_known, argument_at, argument_of, chosen, switched}
use Rattle.rml_tocps.specs.Carries.{done, Agrees, take, take_all, AreNew, Below, Fails}
use Rattle.rml_tocps.specs.Blocks.{OldBlock, NewBlock, Follows, BlockCarries}
use Rattle.rml_tocps.specs.Cases.{new_fields, BothCase, old_case, new_case, EachCarries, old_switch, new_switch}
use Rattle.rml_tocps.proofs.Environments.{bind_agrees}
use Rattle.rml_tocps.proofs.Moves.{both_if}

-- what arguments there are is what `field` finds, from this number on
pub record AreArguments (v : Value) (from : ℕ) (args : List Value) : Type 0 where
  pub at : (i : ℕ) → i < length args → argument_of (suc (from + i)) v ≡ slice_get args i

pub next_arguments : (v a : Value) (from : ℕ) (args : List Value) → AreArguments v from (a ∷ args) → AreArguments v (suc from) args
next_arguments v a from args h = record {
  at = λ i lt. let e : suc from + i ≡ from + suc i = omega arith in subst (λ (n : ℕ). argument_of (suc n) v ≡ slice_get args i) (sym e) (h.at (suc i) (omega arith));
}

module _ (vals : Vals) (news : RelationActs) (l : ℕ) (d : Credit) (k : Given → Rest) (f : Rest) (scope : Scope) (store : Store) (y : ℕ) (v : Value) (go : Env → ℕ → Partial Given) (onward : Doing) where
  fields_simulate : (xs : List ℕ) (args : List Value) (from : ℕ) (p : ℕ → Bool) (base env env' : Env) → AreArguments v from args → AreNew xs p → Agrees p base env env' → look y env' ≡ Some v
      → ((e e' : Env) → Agrees (take_all xs p) base e e' → Simulates l d (λ n. followed (go e n) k f) (onward scope e' store))
      → Simulates l d (λ n. followed (with_value (bind_all xs args env) go n) k f) (new_fields y (suc from) xs vals news onward scope env' store)
  fields_simulate [] [] from p base env env' args fresh h found each = each env env' h
  fields_simulate [] (a ∷ more) from p base env env' args fresh h found each = old_wrong l d _ _ 0 refl
  fields_simulate (x ∷ xs) [] from p base env env' args fresh h found each = old_wrong l d _ _ 0 refl
  fields_simulate (x ∷ xs) (a ∷ more) from p base env env' args fresh h found each =
      let e : from + 0 ≡ from = omega arith in
      let first : option_and_then (argument_of (suc from)) (look y env') ≡ Some a =
      ap (option_and_then (argument_of (suc from))) found ∙ subst (λ (n : ℕ). argument_of (suc n) v ≡ Some a) e (args.at 0 (omega arith)) in
      subst (λ (o : Option Value). Simulates l d (λ n. followed (with_value (bind_all xs more (bind x a env)) go n) k f)
      (with_known o (λ w. new_fields y (suc (suc from)) xs vals news onward scope (bind x w env') store))) (sym first)
      (fields_simulate xs more (suc from) (take x p) base (bind x a env) (bind x a env') (next_arguments v a from more args) fresh.1 (bind_agrees p base env env' x a fresh.0 h) (look_kept y x a v env' found) each)

-- the arguments of a constructor's block
arguments_there : (v : Value) → AreArguments v 0 (arguments_at (out-Value v))
arguments_there v = at_kind (out-Value v) v refl
  where
    at_kind : (y : Value-F Value) (v : Value) → out-Value v ≡ y → AreArguments v 0 (arguments_at y)
    at_kind (Value-F.Con c vs) v e = record { at = λ i lt. let z : 0 + i ≡ i = omega arith in subst (λ (n : ℕ). argument_of (suc n) v ≡ slice_get vs i) (sym z) (ap (argument_at (suc i)) e) }
    at_kind (Value-F.Int n) v e = record { at = λ i lt. absurd (omega arith) }
    at_kind (Value-F.Char c) v e = record { at = λ i lt. absurd (omega arith) }
    at_kind (Value-F.Text t) v e = record { at = λ i lt. absurd (omega arith) }
    at_kind (Value-F.Tuple vs) v e = record { at = λ i lt. absurd (omega arith) }
    at_kind (Value-F.Rel r) v e = record { at = λ i lt. absurd (omega arith) }
    at_kind (Value-F.Cell c) v e = record { at = λ i lt. absurd (omega arith) }
    at_kind (Value-F.Vector vs) v e = record { at = λ i lt. absurd (omega arith) }

module _ (h : Continuation) (s : ℕ) (p : ℕ → Bool) (x : ℕ) (vals : Vals) (olds : RelationCalls) (news : RelationActs) (i : ℕ) (below : Below i olds news) (j : ℕ) (ij : j ≤ i) (c : Credit) (k : OnAnswer) (f : Rest) (bodies : Bodies) (scope : Scope) (base : Env)
    (follows : Follows j c k bodies scope) (fails : Fails j c f scope h) (old_else : OldBlock) (new_else : NewBlock) (otherwise : BlockCarries h s p old_else new_else)
    (env env' : Env) (store : Store) (agrees : Agrees p base env env') (v : Value) (found : look x env' ≡ Some v) where
  chosen_simulate : (ks : List BothCase) → EachCarries h s p ks
      → Simulates j (more_weighed s c) (λ n. followed (clauses.chosen (map (old_case vals olds) ks) (old_else vals olds) (out-Value v) bodies env store n) (done k) (step f))
      (chosen (map (new_case x vals news) ks) (new_else vals news) (out-Value v) scope env' store)
  chosen_simulate [] each = otherwise.by vals olds news i below j ij c k f bodies scope base follows fails env env' store agrees
  chosen_simulate (b ∷ ks) each =
      both_if j c (done k) (step f) (more_weighed s c) (has_tag b.tag (out-Value v))
      (λ n. with_value (bind_all b.vars (arguments_at (out-Value v)) env) (λ next. b.old vals olds bodies next store) n) _ _ _
      (fields_simulate vals news j (more_weighed s c) (done k) (step f) scope store x v (λ next. b.old vals olds bodies next store) (b.new vals news) b.vars (arguments_at (out-Value v)) 0 p base env env' (arguments_there v) each.0 agrees found
      (λ e e' ag. each.1.by vals olds news i below j ij c k f bodies scope base follows fails e e' store ag))
      (chosen_simulate ks each.2)

  switched_simulate : (ks : List BothCase) → EachCarries h s p ks
      → Simulates j (more_weighed s c) (λ n. followed (clauses.switched (map (old_case vals olds) ks) (old_else vals olds) (out-Value v) bodies env store n) (done k) (step f))
      (switched (map (new_case x vals news) ks) (new_else vals news) (out-Value v) scope env' store)
  switched_simulate [] each = otherwise.by vals olds news i below j ij c k f bodies scope base follows fails env env' store agrees
  switched_simulate (b ∷ ks) each =
      both_if j c (done k) (step f) (more_weighed s c) (is_of_kind b.tag (out-Value v)) _ (λ n. GoneWrong untraced) _ (λ n. bare Wrong)
      (chosen_simulate (b ∷ ks) each) (old_wrong j (more_weighed s c) _ _ 0 refl)

-- what is looked up, with what is known of it
known_there : (i : ℕ) (d : Credit) (k : Given → Rest) (f : Rest) (o o' : Option Value) (go : Value → ℕ → Partial Given) (on : Value → Rest) → ((v : Value) → o ≡ Some v → o' ≡ Some v)
    → ((v : Value) → o ≡ Some v → Simulates i d (λ n. followed (go v n) k f) (on v)) → Simulates i d (λ n. followed (with_value o go n) k f) (with_known o' on)
known_there i d k f None o' go on found each = old_wrong i d _ _ 0 refl
known_there i d k f (Some v) o' go on found each = subst (λ (q : Option Value). Simulates i d (λ n. followed (go v n) k f) (with_known q on)) (sym (found v refl)) (each v refl)

pub switch_carries : (h : Continuation) (s : ℕ) (p : ℕ → Bool) (x : ℕ) (ks : List BothCase) (old_else : OldBlock) (new_else : NewBlock) → EachCarries h s p ks → BlockCarries h s p old_else new_else
    → BlockCarries h s p (old_switch x ks old_else) (new_switch x ks new_else)
switch_carries h s p x ks old_else new_else each otherwise = record {
  by = λ vals olds news i below j ij c k f bodies scope base follows fails env env' store agrees.
      known_there j (more_weighed s c) (done k) (step f) (look x env) (look x env') (λ v. clauses.switched (map (old_case vals olds) ks) (old_else vals olds) (out-Value v) bodies env store)
      (λ v. switched (map (new_case x vals news) ks) (new_else vals news) (out-Value v) scope env' store) (agrees.looks x)
      (λ v e. switched_simulate h s p x vals olds news i below j ij c k f bodies scope base follows fails old_else new_else otherwise env env' store agrees v (agrees.looks x v e) ks each);
}
