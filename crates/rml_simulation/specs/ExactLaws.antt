-- What uses its steps exactly, one lemma for each way to go on, and for calls to a depth. The first part of each pair has n steps,
-- the second k fewer.
use Rattle.std.specs.Prelude.{◌≡◌, ℕ, zero, suc, ◌-◌, ◌<◌, ◌≤◌, ◌⊎◌, Bool, true, false, if◌then◌else◌}
use Rattle.std.proofs.Common.{refl, sym, ap, subst, arith, inl, inr, ⊎_elim}
use Rattle.rml_simulation.specs.declared.partial.Trace.{Trace}
use Rattle.rml_simulation.specs.declared.partial.Partial.{Partial}
use Rattle.rml_simulation.specs.declared.partial.Partial.TheVariants.{Yes, No, CutOff, GoneWrong}
use Rattle.rml_simulation.specs.Partial.{after, take_step, then_go, or_else, unless, either}
use Rattle.rml_simulation.specs.Alike.{Left}
use Rattle.rml_simulation.specs.AlikeLaws.{left_after}
use Rattle.rml_simulation.specs.Calls.{Calls, calls_to, calls_by_steps, StepsToCall}
use Rattle.rml_simulation.specs.CallsLaws.{deep_calls}
use Rattle.rml_simulation.specs.Exact.{IsCut, Fewer, Spends, UsesExactly, SpendsWithCalls}

enough_or_not : (k m : ℕ) → (k ≤ m) ⊎ (m < k)
enough_or_not k m = grind arith

-- ---- what is cut stays so

cut_after : {A : Type 0} (t : Trace) (v : Partial A) → IsCut v → IsCut (after t v)
cut_after t (Yes a u m) h = h
cut_after t (No u m) h = h
cut_after t (CutOff u) h = h
cut_after t (GoneWrong u) h = h

cut_then : {A C : Type 0} (v : Partial A) (go : A → ℕ → Partial C) → IsCut v → IsCut (then_go v go)
cut_then (Yes a t m) go h = absurd h
cut_then (No t m) go h = h
cut_then (CutOff t) go h = h
cut_then (GoneWrong t) go h = h

cut_else : {A : Type 0} (v : Partial A) (go : ℕ → Partial A) → IsCut v → IsCut (or_else v go)
cut_else (Yes a t m) go h = h
cut_else (No t m) go h = absurd h
cut_else (CutOff t) go h = h
cut_else (GoneWrong t) go h = h

cut_unless : {A C : Type 0} (v : Partial A) (go : ℕ → Partial C) → IsCut v → IsCut (unless v go)
cut_unless (Yes a t m) go h = absurd h
cut_unless (No t m) go h = absurd h
cut_unless (CutOff t) go h = h
cut_unless (GoneWrong t) go h = h

-- ---- one part and then nothing

left_more : {A : Type 0} (b c : ℕ) (w : Partial A) → b ≤ c → Left b w → Left c w
left_more b c (Yes a t m) le h = omega (arith, h)
left_more b c (No t m) le h = omega (arith, h)
left_more b c (CutOff t) le h = tt
left_more b c (GoneWrong t) le h = tt

-- of what leaves fewer than k steps, what is cut is the same with k fewer
cut_fewer : {A : Type 0} (k m : ℕ) (w v : Partial A) → m < k → Left m w → IsCut v → Fewer k w v
cut_fewer k m (Yes a t l) v lt left cut = ((λ le. absurd (omega (arith, left))), (λ short. cut))
cut_fewer k m (No t l) v lt left cut = ((λ le. absurd (omega (arith, left))), (λ short. cut))
cut_fewer k m (CutOff t) v lt left cut = cut
cut_fewer k m (GoneWrong t) v lt left cut = inr cut

pub spends_yes : {A : Type 0} (k n : ℕ) (a : A) (t : Trace) → Spends k n (Yes a t n) (Yes a t (n - k))
spends_yes k n a t = record { left = omega arith; fewer = λ le. ((λ more. refl), (λ short. absurd (omega arith))) }

pub spends_no : {A : Type 0} (k n : ℕ) (t : Trace) → Spends {A = A} k n (No t n) (No t (n - k))
spends_no k n t = record { left = omega arith; fewer = λ le. ((λ more. refl), (λ short. absurd (omega arith))) }

pub spends_wrong : {A : Type 0} (k n : ℕ) (t : Trace) → Spends {A = A} k n (GoneWrong t) (GoneWrong t)
spends_wrong k n t = record { left = tt; fewer = λ le. inl refl }

fewer_after : {A : Type 0} (k : ℕ) (t : Trace) (w v : Partial A) → Fewer k w v → Fewer k (after t w) (after t v)
fewer_after k t (Yes a u m) v h = ((λ le. ap (after t) (h.0 le)), (λ short. cut_after t v (h.1 short)))
fewer_after k t (No u m) v h = ((λ le. ap (after t) (h.0 le)), (λ short. cut_after t v (h.1 short)))
fewer_after k t (CutOff u) v h = cut_after t v h
fewer_after k t (GoneWrong u) v h = ⊎_elim (λ e. inl (ap (after t) e)) (λ cut. inr (cut_after t v cut)) h

pub spends_after : {A : Type 0} (k n : ℕ) (t : Trace) (w v : Partial A) → Spends k n w v → Spends k n (after t w) (after t v)
spends_after k n t w v h = record { left = left_after n t w h.left; fewer = λ le. fewer_after k t w v (h.fewer le) }

pub spends_if : {A : Type 0} (k n : ℕ) (b : Bool) (w v w' v' : Partial A) → Spends k n w v → Spends k n w' v' → Spends k n (if b then w else w') (if b then v else v')
spends_if k n true w v w' v' h h' = h
spends_if k n false w v w' v' h h' = h'

-- ---- a step

pub spends_step : {A : Type 0} (k n : ℕ) (go next : ℕ → Partial A) → ((m : ℕ) → Spends k m (go m) (next (m - k))) → Spends k n (take_step go n) (take_step next (n - k))
spends_step k zero go next each = record {
  left = tt;
  fewer = λ le. let none : zero ≡ zero - k = omega arith in subst (λ x. IsCut (take_step next x)) none tt;
}
spends_step k (suc n) go next each = record {
  left = left_more n (suc n) (go n) (omega arith) (each n).left;
  fewer = λ le.
      ⊎_elim (λ (more : k ≤ n). let one : suc (n - k) ≡ suc n - k = omega arith in subst (λ x. Fewer k (go n) (take_step next x)) one ((each n).fewer more))
      (λ (short : n < k). let none : zero ≡ suc n - k = omega arith in subst (λ x. Fewer k (go n) (take_step next x)) none (cut_fewer k n (go n) (take_step next zero) short (each n).left tt))
      (enough_or_not k n);
}

-- ---- from an answer, from a failure

left_then : {A C : Type 0} (n : ℕ) (w : Partial A) (go : A → ℕ → Partial C) → Left n w → ((a : A) (m : ℕ) → Left m (go a m)) → Left n (then_go w go)
left_then n (Yes a t m) go h each = left_more m n (after t (go a m)) h (left_after m t (go a m) (each a m))
left_then n (No t m) go h each = h
left_then n (CutOff t) go h each = tt
left_then n (GoneWrong t) go h each = tt

left_else : {A : Type 0} (n : ℕ) (w : Partial A) (go : ℕ → Partial A) → Left n w → ((m : ℕ) → Left m (go m)) → Left n (or_else w go)
left_else n (Yes a t m) go h each = h
left_else n (No t m) go h each = left_more m n (after t (go m)) h (left_after m t (go m) (each m))
left_else n (CutOff t) go h each = tt
left_else n (GoneWrong t) go h each = tt

left_unless : {A C : Type 0} (n : ℕ) (w : Partial A) (go : ℕ → Partial C) → Left n w → ((m : ℕ) → Left m (go m)) → Left n (unless w go)
left_unless n (Yes a t m) go h each = h
left_unless n (No t m) go h each = left_more m n (after t (go m)) h (left_after m t (go m) (each m))
left_unless n (CutOff t) go h each = tt
left_unless n (GoneWrong t) go h each = tt

fewer_then : {A C : Type 0} (k : ℕ) (w v : Partial A) (go next : A → ℕ → Partial C) → Fewer k w v → ((a : A) (m : ℕ) → Spends k m (go a m) (next a (m - k))) → Fewer k (then_go w go) (then_go v next)
fewer_then k (Yes a t m) v go next h each =
    ⊎_elim (λ (more : k ≤ m). subst (λ x. Fewer k (after t (go a m)) (then_go x next)) (sym (h.0 more)) (fewer_after k t (go a m) (next a (m - k)) ((each a m).fewer more)))
    (λ (short : m < k). cut_fewer k m (after t (go a m)) (then_go v next) short (left_after m t (go a m) (each a m).left) (cut_then v next (h.1 short)))
    (enough_or_not k m)
fewer_then k (No t m) v go next h each = ((λ le. ap (λ x. then_go x next) (h.0 le)), (λ short. cut_then v next (h.1 short)))
fewer_then k (CutOff t) v go next h each = cut_then v next h
fewer_then k (GoneWrong t) v go next h each = ⊎_elim (λ e. inl (ap (λ x. then_go x next) e)) (λ cut. inr (cut_then v next cut)) h

fewer_else : {A : Type 0} (k : ℕ) (w v : Partial A) (go next : ℕ → Partial A) → Fewer k w v → ((m : ℕ) → Spends k m (go m) (next (m - k))) → Fewer k (or_else w go) (or_else v next)
fewer_else k (Yes a t m) v go next h each = ((λ le. ap (λ x. or_else x next) (h.0 le)), (λ short. cut_else v next (h.1 short)))
fewer_else k (No t m) v go next h each =
    ⊎_elim (λ (more : k ≤ m). subst (λ x. Fewer k (after t (go m)) (or_else x next)) (sym (h.0 more)) (fewer_after k t (go m) (next (m - k)) ((each m).fewer more)))
    (λ (short : m < k). cut_fewer k m (after t (go m)) (or_else v next) short (left_after m t (go m) (each m).left) (cut_else v next (h.1 short)))
    (enough_or_not k m)
fewer_else k (CutOff t) v go next h each = cut_else v next h
fewer_else k (GoneWrong t) v go next h each = ⊎_elim (λ e. inl (ap (λ x. or_else x next) e)) (λ cut. inr (cut_else v next cut)) h

fewer_unless : {A C : Type 0} (k : ℕ) (w v : Partial A) (go next : ℕ → Partial C) → Fewer k w v → ((m : ℕ) → Spends k m (go m) (next (m - k))) → Fewer k (unless w go) (unless v next)
fewer_unless k (Yes a t m) v go next h each = ((λ le. ap (λ x. unless x next) (h.0 le)), (λ short. cut_unless v next (h.1 short)))
fewer_unless k (No t m) v go next h each =
    ⊎_elim (λ (more : k ≤ m). subst (λ x. Fewer k (after t (go m)) (unless x next)) (sym (h.0 more)) (fewer_after k t (go m) (next (m - k)) ((each m).fewer more)))
    (λ (short : m < k). cut_fewer k m (after t (go m)) (unless v next) short (left_after m t (go m) (each m).left) (cut_unless v next (h.1 short)))
    (enough_or_not k m)
fewer_unless k (CutOff t) v go next h each = cut_unless v next h
fewer_unless k (GoneWrong t) v go next h each = ⊎_elim (λ e. inl (ap (λ x. unless x next) e)) (λ cut. inr (cut_unless v next cut)) h

pub spends_then : {A C : Type 0} (k n : ℕ) (w v : Partial A) (go next : A → ℕ → Partial C) → Spends k n w v → ((a : A) (m : ℕ) → Spends k m (go a m) (next a (m - k))) → Spends k n (then_go w go) (then_go v next)
spends_then k n w v go next h each = record {
  left = left_then n w go h.left (λ a m. (each a m).left);
  fewer = λ le. fewer_then k w v go next (h.fewer le) each;
}

pub spends_else : {A : Type 0} (k n : ℕ) (w v : Partial A) (go next : ℕ → Partial A) → Spends k n w v → ((m : ℕ) → Spends k m (go m) (next (m - k))) → Spends k n (or_else w go) (or_else v next)
spends_else k n w v go next h each = record {
  left = left_else n w go h.left (λ m. (each m).left);
  fewer = λ le. fewer_else k w v go next (h.fewer le) each;
}

pub spends_unless : {A C : Type 0} (k n : ℕ) (w v : Partial A) (go next : ℕ → Partial C) → Spends k n w v → ((m : ℕ) → Spends k m (go m) (next (m - k))) → Spends k n (unless w go) (unless v next)
spends_unless k n w v go next h each = record {
  left = left_unless n w go h.left (λ m. (each m).left);
  fewer = λ le. fewer_unless k w v go next (h.fewer le) each;
}

cut_either : {A C : Type 0} (v : Partial A) (go : A → ℕ → Partial C) (other : ℕ → Partial C) → IsCut v → IsCut (either v go other)
cut_either (Yes a t m) go other h = absurd h
cut_either (No t m) go other h = absurd h
cut_either (CutOff t) go other h = h
cut_either (GoneWrong t) go other h = h

left_either : {A C : Type 0} (n : ℕ) (w : Partial A) (go : A → ℕ → Partial C) (other : ℕ → Partial C)
    → Left n w → ((a : A) (m : ℕ) → Left m (go a m)) → ((m : ℕ) → Left m (other m)) → Left n (either w go other)
left_either n (Yes a t m) go other h each each' = left_more m n (after t (go a m)) h (left_after m t (go a m) (each a m))
left_either n (No t m) go other h each each' = left_more m n (after t (other m)) h (left_after m t (other m) (each' m))
left_either n (CutOff t) go other h each each' = tt
left_either n (GoneWrong t) go other h each each' = tt

fewer_either : {A C : Type 0} (k : ℕ) (w v : Partial A) (go next : A → ℕ → Partial C) (other last : ℕ → Partial C)
    → Fewer k w v → ((a : A) (m : ℕ) → Spends k m (go a m) (next a (m - k))) → ((m : ℕ) → Spends k m (other m) (last (m - k))) → Fewer k (either w go other) (either v next last)
fewer_either k (Yes a t m) v go next other last h each each' =
    ⊎_elim (λ (more : k ≤ m). subst (λ x. Fewer k (after t (go a m)) (either x next last)) (sym (h.0 more)) (fewer_after k t (go a m) (next a (m - k)) ((each a m).fewer more)))
    (λ (short : m < k). cut_fewer k m (after t (go a m)) (either v next last) short (left_after m t (go a m) (each a m).left) (cut_either v next last (h.1 short)))
    (enough_or_not k m)
fewer_either k (No t m) v go next other last h each each' =
    ⊎_elim (λ (more : k ≤ m). subst (λ x. Fewer k (after t (other m)) (either x next last)) (sym (h.0 more)) (fewer_after k t (other m) (last (m - k)) ((each' m).fewer more)))
    (λ (short : m < k). cut_fewer k m (after t (other m)) (either v next last) short (left_after m t (other m) (each' m).left) (cut_either v next last (h.1 short)))
    (enough_or_not k m)
fewer_either k (CutOff t) v go next other last h each each' = cut_either v next last h
fewer_either k (GoneWrong t) v go next other last h each each' = ⊎_elim (λ e. inl (ap (λ x. either x next last) e)) (λ cut. inr (cut_either v next last cut)) h

pub spends_either : {A C : Type 0} (k n : ℕ) (w v : Partial A) (go next : A → ℕ → Partial C) (other last : ℕ → Partial C)
    → Spends k n w v → ((a : A) (m : ℕ) → Spends k m (go a m) (next a (m - k))) → ((m : ℕ) → Spends k m (other m) (last (m - k))) → Spends k n (either w go other) (either v next last)
spends_either k n w v go next other last h each each' = record {
  left = left_either n w go other h.left (λ a m. (each a m).left) (λ m. (each' m).left);
  fewer = λ le. fewer_either k w v go next other last (h.fewer le) each each';
}

-- ---- calls

spends_to : {S A : Type 0} (body : Calls S A → Calls S A) → SpendsWithCalls body → (k d : ℕ) (r : ℕ) (s : S) (m : ℕ) → Spends k m (calls_to body d r s m) (calls_to body d r s (m - k))
spends_to body spends k zero r s m = record { left = tt; fewer = λ le. tt }
spends_to body spends k (suc d) r s m = spends.at k (calls_to body d) (calls_to body d) (spends_to body spends k d) r s m

-- a call uses its steps exactly
pub calls_spend : {S A : Type 0} (body : Calls S A → Calls S A) → StepsToCall body → SpendsWithCalls body → (r : ℕ) (s : S) → UsesExactly (calls_by_steps body r s)
calls_spend body local spends r s = record {
  at = λ k m.
      let alike : calls_to body (suc m) r s (m - k) ≡ calls_by_steps body r s (m - k) =
      (deep_calls body local (suc m) (suc (m - k)) (suc (m - k)) (omega arith) (omega arith) r s (m - k) (omega arith)).0 in
      subst (λ x. Spends k m (calls_by_steps body r s m) x) alike (spends_to body spends k (suc m) r s m);
}
