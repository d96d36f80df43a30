-- Relations simulate relations where their bodies do, by induction on the steps.
use Rattle.std.proofs.Common.{◌≡◌, ℕ, zero, suc, refl, sym, ap}
use Rattle.rml_base.specs.Run.{Rest}
use Rattle.rml_simulation.specs.declared.partial.Partial.{Partial}
use Rattle.rml_simulation.specs.Partial.{followed}
use Rattle.rml_simulation.specs.Calls.{Calls, calls_to, calls_by_steps, StepsToCall}
use Rattle.rml_simulation.specs.CallsLaws.{unroll_calls}
use Rattle.rml_simulation.specs.Acts.{Act, Acts, acts_to, acts_by_steps, StepsToAct}
use Rattle.rml_simulation.specs.ActsLaws.{unroll_acts}
use Rattle.rml_simulation.specs.Simulates.{Credit}
use Rattle.rml_simulation.specs.Carries.{SimulatesAct, kept, acted, CarriesCall, CarriesAct, Before, acted_before, CarriesTold, AreActed, Corresponds}
use Rattle.rml_simulation.proofs.SimulatesMoves.{equal, by_index}

-- equal acts may stand for one another
pub act_equal : {S A : Type 0} (earned : Credit → Credit) (i : ℕ) (old old' new new' : Act S A) → ((k : A → Rest) (h : Rest) (s : S) (n : ℕ) → old k h s n ≡ old' k h s n)
    → ((k : A → Rest) (h : Rest) (s : S) (n : ℕ) → new k h s n ≡ new' k h s n) → SimulatesAct earned i old new → SimulatesAct earned i old' new'
act_equal earned i old old' new new' e e' u = record {
  at = λ j c k k' h h' le ks hs s. equal j c (old k h s) (old' k h s) (new k' h' s) (new' k' h' s) (e k h s) (λ m within. e' k' h' s m) (u.at j c k k' h h' le ks hs s);
}

-- a call is its relation's body, whatever is done before what follows
unrolled : {S A : Type 0} (before : Before) (body : Calls S A → Calls S A) → StepsToCall body → (r : ℕ) (k : A → Rest) (h : Rest) (s : S) (n : ℕ)
    → acted_before before (body (calls_by_steps body) r) k h s n ≡ acted_before before (calls_by_steps body r) k h s n
unrolled {A = A} before body steps r k h s n = ap (λ (w : Partial A). followed w (λ a. before.answer (k a)) (before.failure h)) (sym (unroll_calls body steps r s n))

plain : Before
plain = record { answer = λ k. k; failure = λ h. h }

unrolled_plainly : {S A : Type 0} (body : Calls S A → Calls S A) → StepsToCall body → (r : ℕ) (k : A → Rest) (h : Rest) (s : S) (n : ℕ)
    → acted (body (calls_by_steps body) r) k h s n ≡ acted (calls_by_steps body r) k h s n
unfolding plain
unrolled_plainly body steps r k h s n = unrolled plain body steps r k h s n

module _ {S A : Type 0} (old new : Calls S A → Calls S A) (local : StepsToCall old) (local' : StepsToCall new) (carries : (r : ℕ) → CarriesCall kept (λ f. old f r) (λ f. new f r)) where
  abbrev CallsSimulate : ℕ → Type 0
  CallsSimulate i = (r : ℕ) → SimulatesAct kept i (acted (calls_by_steps old r)) (acted (calls_by_steps new r))

  pub calls_simulate : (i : ℕ) → CallsSimulate i
  calls_simulate = by_index CallsSimulate (λ i below r.
      act_equal kept i _ _ _ _ (unrolled_plainly old local r) (unrolled_plainly new local' r) ((carries r).by i (calls_by_steps old) (calls_by_steps new) below))

  -- one relation, with what it earns
  pub first_simulates : (earned : Credit → Credit) (r : ℕ) → CarriesCall earned (λ f. old f r) (λ f. new f r) → (i : ℕ) → SimulatesAct earned i (acted (calls_by_steps old r)) (acted (calls_by_steps new r))
  first_simulates earned r first i =
      act_equal earned i _ _ _ _ (unrolled_plainly old local r) (unrolled_plainly new local' r)
      (first.by i (calls_by_steps old) (calls_by_steps new) (λ j lt. calls_simulate j))

module _ {S A : Type 0} (old new : Acts S A → Acts S A) (local : StepsToAct old) (local' : StepsToAct new) (carries : (r : ℕ) → CarriesAct (λ f. old f r) (λ f. new f r)) where
  abbrev ActsSimulate : ℕ → Type 0
  ActsSimulate i = (r : ℕ) → SimulatesAct kept i (acts_by_steps old r) (acts_by_steps new r)

  pub acts_simulate : (i : ℕ) → ActsSimulate i
  acts_simulate = by_index ActsSimulate (λ i below r.
      act_equal kept i _ _ _ _ (λ k h s n. sym (unroll_acts old local r k h s n)) (λ k h s n. sym (unroll_acts new local' r k h s n))
      ((carries r).by i (acts_by_steps old) (acts_by_steps new) below))

module _ {S A : Type 0} (before : Before) (old : Calls S A → Calls S A) (new : Acts S A → Acts S A) (local : StepsToCall old) (local' : StepsToAct new)
    (carries : (r : ℕ) → CarriesTold before (λ f. old f r) (λ f. new f r)) where
  abbrev ToldSimulate : ℕ → Type 0
  ToldSimulate i = (r : ℕ) → SimulatesAct kept i (acted_before before (calls_by_steps old r)) (acts_by_steps new r)

  pub told_simulate : (i : ℕ) → ToldSimulate i
  told_simulate = by_index ToldSimulate (λ i below r.
      act_equal kept i _ _ _ _ (unrolled before old local r) (λ k h s n. sym (unroll_acts new local' r k h s n))
      ((carries r).by i (calls_by_steps old) (acts_by_steps new) below))

module _ {S A : Type 0} (before : Before) (direct : Calls S A → Calls S A) (told : Acts S A → Acts S A) (same : (r : ℕ) → Corresponds before (λ f. direct f r) (λ f. told f r)) where
  pub acted_to : (d : ℕ) → AreActed before (calls_to direct d) (acts_to told d)
  acted_to zero r k h s n = refl
  acted_to (suc d) r k h s n = (same r).at (calls_to direct d) (acts_to told d) (acted_to d) k h s n

  pub acted_by_steps : AreActed before (calls_by_steps direct) (acts_by_steps told)
  acted_by_steps r k h s n = acted_to (suc n) r k h s n
