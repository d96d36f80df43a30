-- The tiny relations, case by case.
use Rattle.std.proofs.Common.{◌≡◌, ℕ, zero, suc, ◌+◌, ◌-◌, ◌<◌, ◌≤◌, None, refl, sym, ◌∙◌, ap, subst, arith, ◌≢◌, []}
use Rattle.std.proofs.Math.Path.{fun_ext}
use Rattle.rml_base.specs.Run.{Answer, Failure, Rest, bare, step, Full, Run}
use Rattle.rml_base.specs.Monotone.{IsMonotone}
use Rattle.rml_base.specs.MonotoneLaws.{longer_is_monotone, longer_always}
use Rattle.rml_simulation.specs.declared.partial.Partial.{Partial}
use Rattle.rml_simulation.specs.declared.partial.Partial.TheVariants.{Yes, No}
use Rattle.rml_simulation.specs.Partial.{untraced, take_step, then_go, followed}
use Rattle.rml_simulation.specs.Growing.{Grows}
use Rattle.rml_simulation.specs.GrowingLaws.{grows_step, grows_followed}
use Rattle.rml_simulation.specs.Alike.{Alike}
use Rattle.rml_simulation.specs.AlikeLaws.{alike_more, alike_step}
use Rattle.rml_simulation.specs.Calls.{Calls, calls_by_steps, AlikeCalls, StepsToCall, GrowsWithCalls}
use Rattle.rml_simulation.specs.CallsLaws.{unroll_calls, calls_grow}
use Rattle.rml_simulation.specs.Acts.{Acts, AlikeAct, AlikeRest, StepsToAct, acts_by_steps}
use Rattle.rml_simulation.specs.ActsLaws.{step_alike}
use Rattle.rml_simulation.specs.Exact.{Spends, UsesExactly, SpendsWithCalls}
use Rattle.rml_simulation.specs.ExactLaws.{spends_yes, spends_step, calls_spend}
use Rattle.rml_simulation.specs.Simulates.{Credit, nothing, Simulates}
use Rattle.rml_simulation.specs.Moves.{AtMost, more_steps, more_made, more_weighed, less_steps}
use Rattle.rml_simulation.specs.Carries.{SimulatesAct, kept, acted, CarriesCall, AreActed, Corresponds, CarriesAct, acted_before, CarriesTold}
use Rattle.rml_simulation.specs.Examples.{counted, plodding, fading, told, by_a_step, counting, answering, failing, once, twice, late, told_slowly, begun_late, ended_late}
use Rattle.rml_simulation.proofs.Followed.{followed_step, followed_then, followed_else, traced_none}
use Rattle.rml_simulation.proofs.SimulatesMoves.{weaken, both_step, old_step, equal, itself, new_step}
use Rattle.rml_simulation.proofs.Silent.{silent_answer}
use Rattle.rml_simulation.proofs.Carried.{calls_simulate, first_simulates, acts_simulate, told_simulate}
use Rattle.std.specs.Prelude.{◌⊎◌}
use Rattle.rml_simulation.specs.Known.{SimulatesPart, SimulatesKnown}
use Rattle.rml_simulation.proofs.Learned.{learned}

-- ---- the body's premises

pub counted_local : StepsToCall counted
counted_local = record { at = at }
  where
    at : (n : ℕ) (f g : Calls ℕ ℕ) → AlikeCalls n f g → (r : ℕ) (s : ℕ) → Alike n (counted f r s n) (counted g r s n)
    at n f g alike r zero = (refl, omega arith)
    at n f g alike r (suc s) = alike_step n n (f r s) (g r s) (λ m lt. alike_more m n (f r s m) (g r s m) (omega arith) (alike r s m lt))

pub plodding_local : StepsToCall plodding
plodding_local = record { at = at }
  where
    at : (n : ℕ) (f g : Calls ℕ ℕ) → AlikeCalls n f g → (r : ℕ) (s : ℕ) → Alike n (plodding f r s n) (plodding g r s n)
    at n f g alike r zero = (refl, omega arith)
    at n f g alike r (suc s) =
        alike_step n n (take_step (f r s)) (take_step (g r s))
        (λ m lt. alike_step n m (f r s) (g r s) (λ q less. alike_more q n (f r s q) (g r s q) (omega arith) (alike r s q (omega arith))))

pub counted_spends : SpendsWithCalls counted
counted_spends = record { at = at }
  where
    at : (k : ℕ) (f g : Calls ℕ ℕ) → ((r : ℕ) (s : ℕ) (m : ℕ) → Spends k m (f r s m) (g r s (m - k))) → (r : ℕ) (s : ℕ) (m : ℕ) → Spends k m (counted f r s m) (counted g r s (m - k))
    at k f g each r zero m = spends_yes k m 0 untraced
    at k f g each r (suc s) m = spends_step k m (f r s) (g r s) (each r s)

pub counted_grows : GrowsWithCalls counted
counted_grows = record { at = at }
  where
    at : (j : ℕ) (f g : Calls ℕ ℕ) → ((r : ℕ) (s : ℕ) (m : ℕ) → Grows j (f r s m) (g r s (m + j))) → (r : ℕ) (s : ℕ) (m : ℕ) → Grows j (counted f r s m) (counted g r s (m + j))
    at j f g each r zero m = refl
    at j f g each r (suc s) m = grows_step j m (f r s) (g r s) (each r s)

pub counting_exact : (s : ℕ) → UsesExactly (counting s)
counting_exact s = calls_spend counted counted_local counted_spends 0 s

-- it answers with as many steps as its number
pub counting_answers : (s n : ℕ) → counting s (s + n) ≡ Yes 0 untraced n
counting_answers zero n = let same : zero + n ≡ n = omega arith in unroll_calls counted counted_local 0 zero (zero + n) ∙ ap (λ m. Yes 0 untraced m) same
counting_answers (suc s) n =
    let one : suc s + n ≡ suc (s + n) = omega arith in
    unroll_calls counted counted_local 0 (suc s) (suc s + n) ∙ ap (take_step (counting s)) one ∙ counting_answers s n

-- ---- counting twice

once_monotone : (s : ℕ) → IsMonotone (once s)
once_monotone s = longer_is_monotone (once s) (λ j. record {
  at = λ n. grows_followed j (counting s n) (counting s (n + j)) answering answering failing failing
      (calls_grow counted counted_grows j (suc n) (suc (n + j)) (omega arith) 0 s n)
      (λ a. longer_always j (bare (Answer None))) (longer_always j (bare Failure));
})

-- what follows the first count, which fails whatever it answers, is the second
again : ℕ → ℕ → Rest
again s a m = followed (No untraced m) answering (once s)

again_is : (s : ℕ) → again s ≡ (λ a. once s)
unfolding again
again_is s = fun_ext (λ a. fun_ext (λ m. traced_none (once s m)))

twice_is : (s n : ℕ) → followed (counting s n) (λ a. once s) (once s) ≡ twice s n
unfolding again
twice_is s n =
    sym (followed_else (then_go (counting s n) (λ a m. No untraced m)) (counting s) answering failing
    ∙ followed_then (counting s n) (λ a m. No untraced m) answering (once s)
    ∙ ap (λ (k : ℕ → Rest). followed (counting s n) k (once s)) (again_is s))

pub once_for_twice : (s i : ℕ) → Simulates i nothing (twice s) (once s)
once_for_twice s i =
    let none : s + 0 ≡ s = omega arith in
    let answers : counting s s ≡ Yes 0 untraced 0 = subst (λ x. counting s x ≡ Yes 0 untraced 0) none (counting_answers s 0) in
    equal i nothing (λ n. followed (counting s n) (λ a. once s) (once s)) (twice s) (once s) (once s) (twice_is s) (λ m within. refl)
    (silent_answer (counting s) (counting_exact s) i s 0 0 untraced nothing (λ a. once s) (once s) (once s) answers refl
    (itself i (more_steps (s - 0) (more_made 0 (more_weighed 0 nothing))) (once s) (once_monotone s)))

-- ---- two steps a call, and one

step_twice : (go : ℕ → Partial ℕ) (k : ℕ → Rest) (h : Rest) (n : ℕ) → followed (take_step (take_step go) n) k h ≡ step (step (λ m. followed (go m) k h)) n
step_twice go k h zero = refl
step_twice go k h (suc n) = followed_step go k h n

more_credit : (c : Credit) → AtMost c (more_steps 1 c)
more_credit c = record { steps = omega arith; made = omega arith; weighed = omega arith }

pub faster : (r : ℕ) → CarriesCall kept (λ f. plodding f r) (λ f. counted f r)
faster r = record { by = λ i olds news below. record { at = at i olds news below } }
  where
    at : (i : ℕ) (olds news : Calls ℕ ℕ) → ((j : ℕ) → j < i → (q : ℕ) → SimulatesAct kept j (acted (olds q)) (acted (news q))) → (j : ℕ) (c : Credit) (k k' : ℕ → Rest) (h h' : Rest) → j ≤ i
        → ((a : ℕ) → Simulates j c (k a) (k' a)) → Simulates j c h h' → (s : ℕ) → Simulates j c (λ n. followed (plodding olds r s n) k h) (λ n. followed (counted news r s n) k' h')
    at i olds news below j c k k' h h' le ks hs zero =
        equal j c (k 0) (λ n. followed (Yes 0 untraced n) k h) (k' 0) (λ n. followed (Yes 0 untraced n) k' h')
        (λ n. sym (traced_none (k 0 n))) (λ m within. sym (traced_none (k' 0 m))) (ks 0)
    at i olds news below j c k k' h h' le ks hs (suc s) =
        equal j c (step (step (λ n. followed (olds r s n) k h))) (λ n. followed (take_step (take_step (olds r s)) n) k h) (step (λ n. followed (news r s n) k' h')) (λ n. followed (take_step (news r s) n) k' h')
        (λ n. sym (step_twice (olds r s) k h n)) (λ m within. sym (followed_step (news r s) k' h' m))
        (both_step j c (step (λ n. followed (olds r s n) k h)) (λ n. followed (news r s n) k' h')
        (λ q lt. old_step q c (λ n. followed (olds r s n) k h) (λ n. followed (news r s n) k' h')
        ((below q (omega arith) r).at q (more_steps 1 c) k k' h h' (omega arith)
        (λ a. weaken j q c (more_steps 1 c) (k a) (k' a) (omega arith) (more_credit c) (ks a))
        (weaken j q c (more_steps 1 c) h h' (omega arith) (more_credit c) hs) s)))

pub counted_for_plodding : (i r : ℕ) → SimulatesAct kept i (acted (calls_by_steps plodding r)) (acted (calls_by_steps counted r))
counted_for_plodding i r = calls_simulate plodding counted plodding_local counted_local faster i r

-- ---- told what follows

pub told_local : StepsToAct told
told_local = record { at = at }
  where
    at : (n : ℕ) (f g : Acts ℕ ℕ) → ((r : ℕ) → AlikeAct n (f r) (g r)) → (r : ℕ) (k k' : ℕ → Rest) (h h' : Rest) → ((a : ℕ) → AlikeRest n (k a) (k' a)) → AlikeRest n h h' → (s : ℕ)
        → told f r k h s n ≡ told g r k' h' s n
    at n f g alike r k k' h h' ka ha zero = step_alike n n h h' (omega arith) ha
    at n f g alike r k k' h h' ka ha (suc s) = step_alike n n (f r k h s) (g r k' h' s) (omega arith) ((alike r).at k k' h h' ka ha s)

step_equal : (f g : Rest) (n : ℕ) → ((m : ℕ) → f m ≡ g m) → step f n ≡ step g n
step_equal f g zero e = refl
step_equal f g (suc n) e = e n

pub told_is_fading : (r : ℕ) → Corresponds by_a_step (λ f. fading f r) (λ f. told f r)
told_is_fading r = record { at = at }
  where
    at : (calls : Calls ℕ ℕ) (acts : Acts ℕ ℕ) → AreActed by_a_step calls acts → (k : ℕ → Rest) (h : Rest) (s : ℕ) (n : ℕ) → told acts r k h s n ≡ followed (fading calls r s n) (λ a. k a) (step h)
    at calls acts same k h zero n = sym (traced_none (step h n))
    at calls acts same k h (suc s) n =
        step_equal (acts r k h s) (λ m. followed (calls r s m) k (step h)) n (same r k h s)
        ∙ sym (followed_step (calls r s) k (step h) n)

-- ---- what is earned before the end is paid at the end

lower_act : (j q : ℕ) (c : Credit) (f g : Rest) → q ≤ j → Simulates j c f g → Simulates q c f g
lower_act j q c f g le u = weaken j q c c f g le (record { steps = omega arith; made = omega arith; weighed = omega arith }) u

pub late_local : StepsToCall late
late_local = record { at = at }
  where
    at : (n : ℕ) (f g : Calls ℕ ℕ) → AlikeCalls n f g → (r : ℕ) (s : ℕ) → Alike n (late f r s n) (late g r s n)
    at n f g alike r s =
        alike_step n n (counted f r s) (counted g r s)
        (λ m lt. alike_more m n (counted f r s m) (counted g r s m) (omega arith) (counted_local.at m f g (λ q t l less. alike q t l (omega arith)) r s))

-- counting simulates counting, whatever it calls
counted_again : (r i : ℕ) (olds news : Calls ℕ ℕ) → ((j : ℕ) → j < i → (q : ℕ) → SimulatesAct kept j (acted (olds q)) (acted (news q))) → (j : ℕ) (c : Credit) (k k' : ℕ → Rest) (h h' : Rest) → j ≤ i
    → ((a : ℕ) → Simulates j c (k a) (k' a)) → Simulates j c h h' → (s : ℕ) → Simulates j c (λ n. followed (counted olds r s n) k h) (λ n. followed (counted news r s n) k' h')
counted_again r i olds news below j c k k' h h' le ks hs zero =
    equal j c (k 0) (λ n. followed (Yes 0 untraced n) k h) (k' 0) (λ n. followed (Yes 0 untraced n) k' h')
    (λ n. sym (traced_none (k 0 n))) (λ m within. sym (traced_none (k' 0 m))) (ks 0)
counted_again r i olds news below j c k k' h h' le ks hs (suc s) =
    equal j c (step (λ n. followed (olds r s n) k h)) (λ n. followed (take_step (olds r s) n) k h) (step (λ n. followed (news r s n) k' h')) (λ n. followed (take_step (news r s) n) k' h')
    (λ n. sym (followed_step (olds r s) k h n)) (λ m within. sym (followed_step (news r s) k' h' m))
    (both_step j c (λ n. followed (olds r s n) k h) (λ n. followed (news r s n) k' h')
    (λ q lt. (below q (omega arith) r).at q c k k' h h' (omega arith) (λ a. lower_act j q c (k a) (k' a) (omega arith) (ks a)) (lower_act j q c h h' (omega arith) hs) s))

pub late_earns : (r : ℕ) → CarriesCall (more_steps 1) (λ f. late f r) (λ f. counted f r)
late_earns r = record {
  by = λ i olds news below. record {
    at = λ j c k k' h h' le ks hs s.
        equal j c (step (λ n. followed (counted olds r s n) k h)) (λ n. followed (take_step (counted olds r s) n) k h) (λ n. followed (counted news r s n) k' h') (λ n. followed (counted news r s n) k' h')
        (λ n. sym (followed_step (counted olds r s) k h n)) (λ m within. refl)
        (old_step j c (λ n. followed (counted olds r s n) k h) (λ n. followed (counted news r s n) k' h')
        (counted_again r i olds news below j (more_steps 1 c) k k' h h' le ks hs s));
  };
}

-- and what it has earned may be given up
pub late_keeps : (r : ℕ) → CarriesCall kept (λ f. late f r) (λ f. counted f r)
late_keeps r = record {
  by = λ i olds news below. record {
    at = λ j c k k' h h' le ks hs s.
        ((late_earns r).by i olds news below).at j c k k' h h' le
        (λ a. weaken j j c (more_steps 1 c) (k a) (k' a) (omega arith) (more_credit c) (ks a))
        (weaken j j c (more_steps 1 c) h h' (omega arith) (more_credit c) hs) s;
  };
}

pub late_is_ahead : (i : ℕ) → SimulatesAct (more_steps 1) i (acted (calls_by_steps late 0)) (acted (calls_by_steps counted 0))
late_is_ahead i = first_simulates late counted late_local counted_local late_keeps (more_steps 1) 0 (late_earns 0) i

-- a step of the new run before an end is paid
paid : (i : ℕ) (r : Run) → r.text ≡ [] → r.outcome ≢ Full → Simulates i (more_steps 1 nothing) (λ n. r) (step (λ n. r))
paid i r text not_full =
    new_step i (more_steps 1 nothing) (λ n. r) (λ n. r) (omega arith) (record { text = text; not_full = not_full })
    (λ j lt. itself j (less_steps 1 (more_steps 1 nothing)) (λ n. r) (longer_is_monotone (λ n. r) (λ q. longer_always q r)))

answer_not_full : Answer None ≢ Full
answer_not_full e = cc

failure_not_full : Failure ≢ Full
failure_not_full e = cc

pub late_pays : (s i : ℕ) → Simulates i nothing (begun_late s) (ended_late s)
late_pays s i =
    (late_is_ahead i).at i nothing answering (λ a. step (answering a)) failing (step failing) (omega arith)
    (λ a. paid i (bare (Answer None)) refl answer_not_full) (paid i (bare Failure) refl failure_not_full) s

-- ---- told what follows, and slowly

pub slowly_local : StepsToAct told_slowly
slowly_local = record { at = at }
  where
    at : (n : ℕ) (f g : Acts ℕ ℕ) → ((r : ℕ) → AlikeAct n (f r) (g r)) → (r : ℕ) (k k' : ℕ → Rest) (h h' : Rest) → ((a : ℕ) → AlikeRest n (k a) (k' a)) → AlikeRest n h h' → (s : ℕ)
        → told_slowly f r k h s n ≡ told_slowly g r k' h' s n
    at n f g alike r k k' h h' ka ha zero = step_alike n n h h' (omega arith) ha
    at n f g alike r k k' h h' ka ha (suc s) =
        step_alike n n (step (f r k h s)) (step (g r k' h' s)) (omega arith)
        (record { at = λ m lt. step_alike n m (f r k h s) (g r k' h' s) (omega arith) ((alike r).at k k' h h' ka ha s) })

pub told_carries : (r : ℕ) → CarriesAct (λ f. told_slowly f r) (λ f. told f r)
told_carries r = record { by = λ i olds news below. record { at = at i olds news below } }
  where
    at : (i : ℕ) (olds news : Acts ℕ ℕ) → ((j : ℕ) → j < i → (q : ℕ) → SimulatesAct kept j (olds q) (news q)) → (j : ℕ) (c : Credit) (k k' : ℕ → Rest) (h h' : Rest) → j ≤ i
        → ((a : ℕ) → Simulates j c (k a) (k' a)) → Simulates j c h h' → (s : ℕ) → Simulates j c (told_slowly olds r k h s) (told news r k' h' s)
    at i olds news below j c k k' h h' le ks hs zero = both_step j c h h' (λ q lt. lower_act j q c h h' (omega arith) hs)
    at i olds news below j c k k' h h' le ks hs (suc s) =
        both_step j c (step (olds r k h s)) (news r k' h' s)
        (λ q lt. old_step q c (olds r k h s) (news r k' h' s)
        ((below q (omega arith) r).at q (more_steps 1 c) k k' h h' (omega arith)
        (λ a. weaken j q c (more_steps 1 c) (k a) (k' a) (omega arith) (more_credit c) (ks a))
        (weaken j q c (more_steps 1 c) h h' (omega arith) (more_credit c) hs) s))

pub told_simulates : (i r : ℕ) → SimulatesAct kept i (acts_by_steps told_slowly r) (acts_by_steps told r)
told_simulates i r = acts_simulate told_slowly told slowly_local told_local told_carries i r

-- ---- from direct style to what is told

pub fading_local : StepsToCall fading
fading_local = record { at = at }
  where
    at : (n : ℕ) (f g : Calls ℕ ℕ) → AlikeCalls n f g → (r : ℕ) (s : ℕ) → Alike n (fading f r s n) (fading g r s n)
    at n f g alike r zero = (refl, omega arith)
    at n f g alike r (suc s) = alike_step n n (f r s) (g r s) (λ m lt. alike_more m n (f r s m) (g r s m) (omega arith) (alike r s m lt))

pub fading_carries : (r : ℕ) → CarriesTold by_a_step (λ f. fading f r) (λ f. told f r)
fading_carries r = record { by = λ i olds news below. record { at = at i olds news below } }
  where
    at : (i : ℕ) (olds : Calls ℕ ℕ) (news : Acts ℕ ℕ) → ((j : ℕ) → j < i → (q : ℕ) → SimulatesAct kept j (acted_before by_a_step (olds q)) (news q)) → (j : ℕ) (c : Credit) (k k' : ℕ → Rest) (h h' : Rest) → j ≤ i
        → ((a : ℕ) → Simulates j c (k a) (k' a)) → Simulates j c h h' → (s : ℕ) → Simulates j c (λ n. followed (fading olds r s n) k (step h)) (told news r k' h' s)
    at i olds news below j c k k' h h' le ks hs zero =
        equal j c (step h) (λ n. followed (No untraced n) k (step h)) (step h') (step h')
        (λ n. sym (traced_none (step h n))) (λ m within. refl) (both_step j c h h' (λ q lt. lower_act j q c h h' (omega arith) hs))
    at i olds news below j c k k' h h' le ks hs (suc s) =
        equal j c (step (λ n. followed (olds r s n) k (step h))) (λ n. followed (take_step (olds r s) n) k (step h)) (step (news r k' h' s)) (step (news r k' h' s))
        (λ n. sym (followed_step (olds r s) k (step h) n)) (λ m within. refl)
        (both_step j c (λ n. followed (olds r s n) k (step h)) (news r k' h' s)
        (λ q lt. (below q (omega arith) r).at q c k k' h h' (omega arith) (λ a. lower_act j q c (k a) (k' a) (omega arith) (ks a)) (lower_act j q c h h' (omega arith) hs) s))

pub fading_simulates : (i r : ℕ) → SimulatesAct kept i (acted_before by_a_step (calls_by_steps fading r)) (acts_by_steps told r)
fading_simulates i r = told_simulate by_a_step fading told fading_local told_local fading_carries i r

-- ---- how the slower one ended

pub plodding_part : (i r s : ℕ) → SimulatesPart i (calls_by_steps plodding r s) (calls_by_steps counted r s)
plodding_part i r s = record { at = λ j c k k' h h' le ks hs. (counted_for_plodding i r).at j c k k' h h' le ks hs s }

told_apart : (a b : ℕ) → (a ≡ b) ⊎ (a ≢ b)
told_apart a b = grind arith

pub plodding_known : (i r s : ℕ) → SimulatesKnown i (calls_by_steps plodding r s) (calls_by_steps counted r s)
plodding_known i r s =
    learned told_apart i (calls_by_steps plodding r s) (calls_by_steps counted r s) (calls_spend counted counted_local counted_spends r s) (plodding_part i r s)
