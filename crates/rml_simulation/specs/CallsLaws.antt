-- Calls to a depth: a greater depth changes nothing, a call is its relation's body, and calls grow with the steps.
use Rattle.std.specs.Prelude.{◌≡◌, ℕ, zero, suc, ◌+◌, ◌≤◌}
use Rattle.std.proofs.Common.{arith}
use Rattle.rml_simulation.specs.Growing.{Grows}
use Rattle.rml_simulation.specs.GrowingLaws.{grows_cut}
use Rattle.rml_simulation.specs.Calls.{Calls, calls_to, calls_by_steps, AlikeCalls, StepsToCall, GrowsWithCalls}

module _ {S A : Type 0} (body : Calls S A → Calls S A) (local : StepsToCall body) where
  -- a greater depth changes nothing
  pub deep_calls : (d d' i : ℕ) → i ≤ d → i ≤ d' → AlikeCalls i (calls_to body d) (calls_to body d')
  deep_calls zero d' i l l' r s m h = absurd (omega arith)
  deep_calls (suc d) zero i l l' r s m h = absurd (omega arith)
  deep_calls (suc d) (suc d') i l l' r s m h =
      local.at m (calls_to body d) (calls_to body d') (deep_calls d d' m (omega arith) (omega arith)) r s

  -- a call is its relation's body over calls with fewer steps
  pub unroll_calls : (r : ℕ) (s : S) (n : ℕ) → calls_by_steps body r s n ≡ body (calls_by_steps body) r s n
  unroll_calls r s n = (local.at n (calls_to body n) (calls_by_steps body)
      (λ q t m h. deep_calls n (suc m) (suc m) (omega arith) (omega arith) q t m (omega arith)) r s).0

pub calls_grow : {S A : Type 0} (body : Calls S A → Calls S A) → GrowsWithCalls body → (j d d' : ℕ) → d ≤ d' → (r : ℕ) (s : S) (n : ℕ) → Grows j (calls_to body d r s n) (calls_to body d' r s (n + j))
calls_grow body grows j zero d' le r s n = grows_cut j (calls_to body d' r s (n + j))
calls_grow body grows j (suc d) zero le r s n = absurd (omega arith)
calls_grow body grows j (suc d) (suc d') le r s n =
    grows.at j (calls_to body d) (calls_to body d') (calls_grow body grows j d d' (omega arith)) r s n
