-- A call at a depth: with n steps none goes deeper than n. A relation by the run of its block, and a call by what the relation gives.
use Rattle.std.proofs.Common.{◌≡◌, ℕ, zero, suc, ◌-◌, ◌+◌, ◌*◌, ◌<◌, List, [], length, Option, Some, None, refl, ap, sym, ◌∙◌, arith}
use Rattle.std.specs.Prelude.{Bool, true, false, ◌==◌, if◌then◌else◌, slice_get}
use Rattle.std.proofs.Math.Nat.{suc-mul}
use Rattle.std.proofs.lemmas.Bool.{eq-eqb}
use Rattle.rml_simulation.specs.declared.partial.Trace.{Trace}
use Rattle.rml_simulation.specs.declared.partial.Partial.{Partial}
use Rattle.rml_simulation.specs.declared.partial.Partial.TheVariants.{Yes, No, GoneWrong}
use Rattle.rml_simulation.specs.Partial.{untraced, after, take_step, then_go}
use Rattle.rml_value.specs.declared.value.Value.{Value}
use Rattle.rml_builtin.specs.declared.applied.Answer.{Answer}
use Rattle.rml_builtin.specs.Applied.{Store}
use Rattle.rml_builtin.specs.Called.{Called}
use Rattle.rml_terms.specs.Env.{Env}
use Rattle.rml_terms.specs.Calling.{with_value}
use Rattle.rml_fol.specs.declared.parts.Relation.{Relation}
use Rattle.rml_fol.specs.declared.statements.Stmt.{Stmt}
use Rattle.rml_fol.specs.declared.statements.Stmt.TheOpen.{Stmt-F}
use Rattle.rml_fol.specs.declared.statements.Callee.{Callee}
use Rattle.rml_fol.specs.Expressions.{Vals}
use Rattle.rml_fol.specs.Weights.{entry_weight, call_weight}
use Rattle.rml_fol.specs.Statements.{Given, no_bodies, weight_alone, weighing, values_of, received, call, relation_of}
use Rattle.rml_fol.specs.Relations.{bound_from, answered, does_if_there, relations_to, relations}
use Rattle.rml_fol_plain.specs.declared.state.Tables.{Tables}
use Rattle.rml_fol_plain.specs.declared.named.Named.{Named}
use Rattle.rml_fol_plain.specs.Given.{vals_in, calls_in, ends, does_alone, block_in, known}

pub call_by_steps : (vals : Vals) (rels : List Relation) (r : ℕ) (s : Called) (n : ℕ) → take_step (relations vals rels r s) n ≡ take_step (relations_to vals rels n r s) n
call_by_steps vals rels r s zero = refl
call_by_steps vals rels r s (suc n) = refl

pub relations_to_some : (vals : Vals) (rels : List Relation) (depth r : ℕ) (s : Called) (n : ℕ) → 0 < depth
    → relations_to vals rels depth r s n ≡ does_if_there vals (relations_to vals rels (depth - 1)) (slice_get rels r) s n
relations_to_some vals rels zero r s n h = absurd (omega arith)
relations_to_some vals rels (suc depth) r s n h = let e : suc depth - 1 ≡ depth = omega arith in rw e refl

-- a depth more is room for all that is done at one depth
pub depth_falls : (depth room size : ℕ) → 0 < depth → size < room → (depth - 1) * room + size < depth * room
depth_falls zero room size some small = absurd (omega arith)
depth_falls (suc depth) room size some small =
    let e : suc depth - 1 ≡ depth = omega arith in
    rw (e, suc-mul depth room) (omega arith)

pub test_true : {A : Type 0} (b : Bool) (x y : A) → b ≡ true → (if b then x else y) ≡ x
test_true b x y e = ap (λ c. if c then x else y) e

pub test_false : {A : Type 0} (b : Bool) (x y : A) → b ≡ false → (if b then x else y) ≡ y
test_false b x y e = ap (λ c. if c then x else y) e

-- no relation has the number
pub relation_none : (t : Tables) (depth r : ℕ) (s : Called) (n : ℕ) → 0 < depth → None ≡ slice_get t.rels.now r → calls_in t depth r s n ≡ No untraced n
relation_none t depth r s n some none =
    relations_to_some (vals_in t) t.rels.now depth r s n some
    ∙ ap (λ (o : Option Relation). does_if_there (vals_in t) (calls_in t (depth - 1)) o s n) (sym none)

module _ (t : Tables) (depth r : ℕ) (def : Relation) (vs : List Value) (store : Store) (n : ℕ) (some : 0 < depth) (there : Some def ≡ slice_get t.rels.now r) where
  relation_here : calls_in t depth r (record { values = vs; store = store }) n
      ≡ (if def.params == length vs then weighing (entry_weight def.params) (then_go (block_in t (depth - 1) def.body.stmts no_bodies (bound_from 0 vs) store n) answered) else GoneWrong untraced)
  relation_here =
      relations_to_some (vals_in t) t.rels.now depth r (record { values = vs; store = store }) n some
      ∙ ap (λ (o : Option Relation). does_if_there (vals_in t) (calls_in t (depth - 1)) o (record { values = vs; store = store }) n) (sym there)

  -- as many values as it has parameters
  pub relation_runs : (stmts : List Stmt) (bodies : List Named) (env : Env) (w : Partial Given) → def.params ≡ length vs → stmts ≡ def.body.stmts → bodies ≡ [] → env ≡ bound_from 0 vs
      → w ≡ block_in t (depth - 1) stmts (known t (depth - 1) bodies) env store n
      → calls_in t depth r (record { values = vs; store = store }) n ≡ weighing (entry_weight (length vs)) (then_go w answered)
  relation_runs stmts bodies env w fits stmts_are bodies_are env_is gives =
      let d : ℕ = depth - 1 in
      relation_here
      ∙ test_true (def.params == length vs) _ _ (eq-eqb def.params (length vs) fits)
      ∙ ap (λ (k : ℕ). weighing (entry_weight k) (then_go (block_in t d def.body.stmts no_bodies (bound_from 0 vs) store n) answered)) fits
      ∙ ap (λ (x : Partial Given). weighing (entry_weight (length vs)) (then_go x answered))
      (ap (λ (ss : List Stmt). block_in t d ss (known t d []) (bound_from 0 vs) store n) (sym stmts_are)
      ∙ ap (λ (bs : List Named). block_in t d stmts (known t d bs) (bound_from 0 vs) store n) (sym bodies_are)
      ∙ ap (λ (e : Env). block_in t d stmts (known t d bodies) e store n) (sym env_is)
      ∙ sym gives)

-- a call that answers, and its results
pub call_answers : (t : Tables) (depth : ℕ) (f : Callee) (xs ys : List ℕ) (env : Env) (store : Store) (n m : ℕ) (vs : List Value) (rel : Option ℕ) (a : Answer) (weight trace begun : Trace) (got : Partial Given)
    → weight ≡ weight_alone call_weight → values_of xs env ≡ Some vs → rel ≡ relation_of f env → call (calls_in t depth) rel vs store n ≡ Yes a trace m
    → begun ≡ weight_alone (entry_weight (length ys)) → got ≡ received ys (ends no_bodies) env a m
    → after weight (after trace (after begun got)) ≡ does_alone (vals_in t) (calls_in t depth) (Stmt-F.Call f xs ys) env store n
call_answers t depth f xs ys env store n m vs rel a weight trace begun got weighs values is answers begins gives =
    let go : Answer → ℕ → Partial Given = λ b k. weighing (entry_weight (length ys)) (received ys (ends no_bodies) env b k) in
    ap (λ (u : Trace). after u (after trace (after begun got))) weighs
    ∙ ap (λ (u : Trace). weighing call_weight (after trace (after u got))) begins
    ∙ ap (λ (x : Partial Given). weighing call_weight (after trace (weighing (entry_weight (length ys)) x))) gives
    ∙ ap (λ (x : Partial Answer). weighing call_weight (then_go x go)) (sym answers)
    ∙ ap (λ (o : Option ℕ). weighing call_weight (then_go (call (calls_in t depth) o vs store n) go)) is
    ∙ ap (λ (o : Option (List Value)). weighing call_weight (with_value o (λ ws k. then_go (call (calls_in t depth) (relation_of f env) ws store k) go) n)) (sym values)
