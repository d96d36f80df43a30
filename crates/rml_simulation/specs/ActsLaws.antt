-- Acts to a depth: a greater depth changes nothing, an act is its relation's body, and acts grow with the steps.
use Rattle.std.specs.Prelude.{◌≡◌, ℕ, zero, suc, ◌+◌, ◌≤◌}
use Rattle.std.proofs.Common.{refl, arith}
use Rattle.rml_base.specs.Run.{Rest, step}
use Rattle.rml_base.specs.Monotone.{Longer}
use Rattle.rml_base.specs.MonotoneLaws.{later_cut}
use Rattle.rml_simulation.specs.Acts.{Acts, acts_to, acts_by_steps, AlikeRest, AlikeAct, StepsToAct, LongerWithActs}

pub step_alike : (i n : ℕ) (f g : Rest) → n ≤ i → AlikeRest i f g → step f n ≡ step g n
step_alike i zero f g le a = refl
step_alike i (suc n) f g le a = a.at n (omega arith)

pub alike_self : (i : ℕ) (f : Rest) → AlikeRest i f f
alike_self i f = record { at = λ m lt. refl }

pub alike_below : (i j : ℕ) (f g : Rest) → j ≤ i → AlikeRest i f g → AlikeRest j f g
alike_below i j f g le a = record { at = λ m lt. a.at m (omega arith) }

module _ {S A : Type 0} (body : Acts S A → Acts S A) (local : StepsToAct body) where
  pub deep_acts : (d d' i : ℕ) → i ≤ d → i ≤ d' → (r : ℕ) → AlikeAct i (acts_to body d r) (acts_to body d' r)
  deep_acts zero d' i l l' r = record { at = λ k k' h h' ka ha s. record { at = λ m lt. absurd (omega arith) } }
  deep_acts (suc d) zero i l l' r = record { at = λ k k' h h' ka ha s. record { at = λ m lt. absurd (omega arith) } }
  deep_acts (suc d) (suc d') i l l' r = record {
    at = λ k k' h h' ka ha s.
        record {
          at = λ m lt.
              local.at m (acts_to body d) (acts_to body d') (deep_acts d d' m (omega arith) (omega arith)) r k k' h h'
              (λ a. alike_below i m (k a) (k' a) (omega arith) (ka a))
              (alike_below i m h h' (omega arith) ha) s;
        };
  }

  deep_by_steps : (d r : ℕ) → AlikeAct d (acts_to body d r) (acts_by_steps body r)
  deep_by_steps d r = record {
    at = λ k k' h h' ka ha s.
        record {
          at = λ m lt.
              ((deep_acts d (suc m) (suc m) (omega arith) (omega arith) r).at k k' h h'
              (λ a. alike_below d (suc m) (k a) (k' a) (omega arith) (ka a))
              (alike_below d (suc m) h h' (omega arith) ha) s).at m (omega arith);
        };
  }

  pub unroll_acts : (r : ℕ) (k : A → Rest) (h : Rest) (s : S) (n : ℕ) → acts_by_steps body r k h s n ≡ body (acts_by_steps body) r k h s n
  unroll_acts r k h s n =
      local.at n (acts_to body n) (acts_by_steps body) (deep_by_steps n) r k k h h (λ a. alike_self n (k a)) (alike_self n h) s

pub acts_longer : {S A : Type 0} (body : Acts S A → Acts S A) → LongerWithActs body → (j d d' : ℕ) → d ≤ d' → (r : ℕ) (k k' : A → Rest) (h h' : Rest) → ((a : A) → Longer j (k a) (k' a)) → Longer j h h' → (s : S) → Longer j (acts_to body d r k h s) (acts_to body d' r k' h' s)
acts_longer body longer j zero d' le r k k' h h' lk lh s = record { at = λ n. later_cut (acts_to body d' r k' h' s (n + j)) }
acts_longer body longer j (suc d) zero le r k k' h h' lk lh s = absurd (omega arith)
acts_longer body longer j (suc d) (suc d') le r k k' h h' lk lh s =
    let up : Longer j (body (acts_to body d) r k h s) (body (acts_to body d') r k' h' s) =
    longer.at j (acts_to body d) (acts_to body d') (acts_longer body longer j d d' (omega arith)) r k k' h h' lk lh s in
    record { at = up.at }
