-- The instructions of a block, from some place on, implement statements: what is to be shown of code that is made.
use Rattle.std.specs.Prelude.{ℕ, suc, ◌+◌, ◌<◌, ◌≤◌, List, [], ◌∷◌, length, Option, Some}
use Rattle.rml_base.specs.Run.{Rest}
use Rattle.rml_simulation.specs.Simulates.{nothing, Simulates}
use Rattle.rml_value.specs.declared.value.Value.{Value}
use Rattle.rml_builtin.specs.Applied.{Store}
use Rattle.rml_terms.specs.Env.{Env}
use Rattle.rml_fol.specs.Expressions.{Vals}
use Rattle.rml_cps.specs.declared.statements.Continuation.TheVariants as continuation
use Rattle.rml_cps.specs.declared.statements.Stmt.{Stmt}
use Rattle.rml_cps.specs.Statements.{OnAnswer, RelationActs, Scope, own_failure, block}
use Rattle.rml_code.specs.declared.instructions.Instr.{Instr}
use Rattle.rml_code.specs.declared.state.State.{State}
use Rattle.rml_code.specs.Remaining.{remains, at_block}
use Rattle.rml_implements.specs.Layout.{Layout}
use Rattle.rml_implements.specs.World.{credit, Args, Sound, SuccessAt, Chain, Meets}

-- what vals are, what calls do, the number of relations, of registers, what constants are, and the blocks
module _ (vals : Vals) (calls : RelationActs) (rels registers : ℕ) (constants : ℕ → Option Value) (blocks : List (List Instr)) where
  -- below i steps each relation is simulated by its entry block
  pub record Called (i : ℕ) : Type 0 where
    pub by : (f j : ℕ) → f < rels → j < i → (vs : List Value) (store : Store) (go : OnAnswer) (other : Rest) (t : State) → Sound rels registers constants t store → Args rels t 0 vs
        → SuccessAt rels registers constants blocks j t.heap.frames t.success t go
        → Chain rels registers constants blocks j t.heap.frames t.failure t (Some continuation.Own ∷ []) (own_failure other)
        → Simulates j nothing (calls f go other (record { values = vs; store = store })) (at_block blocks (length blocks) (2 + f) t)

  -- instructions of the block of this number, in a layout, with weights that were met and are not spent, implement statements
  pub record Implements (at : ℕ) (l : Layout) (spare : ℕ) (is : List Instr) (body : List Stmt) : Type 0 where
    pub by : (i : ℕ) → Called i → (k : ℕ) → length blocks ≤ k + suc at → (scope : Scope) (env : Env) (store : Store) (t : State) → Meets vals calls rels registers constants blocks i l scope env store t
        → Simulates i (credit spare) (block vals calls body scope env store) (remains blocks k is t)
