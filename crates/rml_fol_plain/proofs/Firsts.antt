-- A `not` and a `cond` by how their first block went, over copies of what the variables stand for and of the store.
use Rattle.std.proofs.Common.{◌≡◌, ℕ, ◌-◌, ◌<◌, ◌++◌, List, ap, sym, ◌∙◌}
use Rattle.rml_simulation.specs.declared.partial.Trace.{Trace}
use Rattle.rml_simulation.specs.declared.partial.Partial.{Partial}
use Rattle.rml_simulation.specs.declared.partial.Partial.TheVariants.{CutOff}
use Rattle.rml_simulation.specs.Partial.{joined, after, unless, either}
use Rattle.rml_builtin.specs.Applied.{Store}
use Rattle.rml_terms.specs.Env.{Env}
use Rattle.rml_evaluation.proofs.Callers.{joined_nothing, after_joined}
use Rattle.rml_fol.specs.declared.statements.Stmt.{Stmt}
use Rattle.rml_fol.specs.Weights.{entry_weight, not_weight}
use Rattle.rml_fol.specs.Statements.{Given, Bodies, no_bodies, weight_alone, weighing, retried}
use Rattle.rml_fol_plain.specs.declared.state.Tables.{Tables}
use Rattle.rml_fol_plain.specs.Given.{ends, block_in, not_alone, cond_in}
use Rattle.rml_fol_plain.proofs.Steps.{step_cut, step_more}

module _ (t : Tables) (depth : ℕ) (stmts : List Stmt) (env own_env : Env) (store own : Store) (n : ℕ) (v : Partial Given)
    (env_is : own_env ≡ env) (store_is : own ≡ store) (gives : v ≡ block_in t depth stmts no_bodies own_env own n) where
  first_gives : block_in t depth stmts no_bodies env store n ≡ v
  first_gives =
      ap (λ (e : Env). block_in t depth stmts no_bodies e store n) (sym env_is)
      ∙ ap (λ (s : Store). block_in t depth stmts no_bodies own_env s n) (sym store_is)
      ∙ sym gives

  -- ---- a `not`

  pub not_by : not_alone t depth stmts env store n ≡ weighing not_weight (unless v (retried (ends no_bodies env store)))
  not_by = ap (λ (x : Partial Given). weighing not_weight (unless x (retried (ends no_bodies env store)))) first_gives

  -- ---- a `cond`

  pub cond_by : (b c : List Stmt) (B : Bodies)
      → cond_in t depth stmts b c B env store n ≡ either v (λ g. block_in t depth b B (env ++ g.env) g.store) (retried (block_in t depth c B env store))
  cond_by b c B = ap (λ (x : Partial Given). either x (λ (g : Given). block_in t depth b B (env ++ g.env) g.store) (retried (block_in t depth c B env store))) first_gives

-- a failure that cannot be taken
pub retried_cut : {A : Type 0} (trace : Trace) (go : ℕ → Partial A) (n : ℕ) → n ≡ 0 → after trace (retried go n) ≡ CutOff trace
retried_cut {A = A} trace go n none = ap (λ (x : Partial A). after trace x) (step_cut (λ m. weighing (entry_weight 0) (go m)) n none) ∙ ap (λ u. CutOff u) (joined_nothing trace)

-- a failure that is taken
pub retried_more : {A : Type 0} (trace weight begun : Trace) (go : ℕ → Partial A) (n : ℕ) → weight ≡ weight_alone (entry_weight 0) → begun ≡ joined trace weight → 0 < n
    → after trace (retried go n) ≡ after begun (go (n - 1))
retried_more {A = A} trace weight begun go n weighs begins some =
    ap (λ (x : Partial A). after trace x) (step_more (λ m. weighing (entry_weight 0) (go m)) n some)
    ∙ sym (after_joined trace (weight_alone (entry_weight 0)) (go (n - 1)))
    ∙ ap (λ u. after (joined trace u) (go (n - 1))) (sym weighs)
    ∙ ap (λ u. after u (go (n - 1))) (sym begins)
