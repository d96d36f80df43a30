-- What follows parts in direct style: equations by which such forms come to the moves.
use Rattle.std.proofs.Common.{◌≡◌, ℕ, zero, suc, List, refl, ◌∙◌, ap, append_assoc, arith, [], ◌+◌}
use Rattle.rml_base.specs.Run.{InnerOutcome, Run, Rest, step, weigh}
use Rattle.rml_simulation.specs.declared.partial.Trace.{Trace}
use Rattle.rml_simulation.specs.declared.partial.Partial.{Partial}
use Rattle.rml_simulation.specs.declared.partial.Partial.TheVariants.{Yes, No, CutOff, GoneWrong}
use Rattle.rml_simulation.specs.Partial.{untraced, joined, after, take_step, then_go, or_else, unless, either, traced, stopped, followed}
use Rattle.rml_simulation.specs.Simulates.{Credit, Simulates}
use Rattle.rml_simulation.proofs.SimulatesMoves.{both_prepend, both_make, both_weigh}

run_is : (o : InnerOutcome) (t t' : List ℕ) (m m' w w' : ℕ) → t ≡ t' → m ≡ m' → w ≡ w' → stopped o (record { text = t; made = m; weighed = w }) ≡ stopped o (record { text = t'; made = m'; weighed = w' })
run_is o t t' m m' w w' a b c =
    ap (λ x. stopped o (record { text = x; made = m; weighed = w })) a
    ∙ ap (λ x. stopped o (record { text = t'; made = x; weighed = w })) b
    ∙ ap (λ x. stopped o (record { text = t'; made = m'; weighed = x })) c

pub traced_joined : (t u : Trace) (r : Run) → traced (joined t u) r ≡ traced t (traced u r)
traced_joined t u r = run_is r.outcome _ _ _ _ _ _ (append_assoc t.text u.text r.text) (omega arith) (omega arith)

pub followed_after : {A : Type 0} (t : Trace) (w : Partial A) (k : A → Rest) (h : Rest) → followed (after t w) k h ≡ traced t (followed w k h)
followed_after t (Yes a u n) k h = traced_joined t u (k a n)
followed_after t (No u n) k h = traced_joined t u (h n)
followed_after t (CutOff u) k h = refl
followed_after t (GoneWrong u) k h = refl

pub followed_step : {A : Type 0} (go : ℕ → Partial A) (k : A → Rest) (h : Rest) (n : ℕ) → followed (take_step go n) k h ≡ step (λ m. followed (go m) k h) n
followed_step go k h zero = refl
followed_step go k h (suc n) = refl

pub followed_then : {A C : Type 0} (w : Partial A) (go : A → ℕ → Partial C) (k : C → Rest) (h : Rest) → followed (then_go w go) k h ≡ followed w (λ a n. followed (go a n) k h) h
followed_then (Yes a t n) go k h = followed_after t (go a n) k h
followed_then (No t n) go k h = refl
followed_then (CutOff t) go k h = refl
followed_then (GoneWrong t) go k h = refl

pub followed_else : {A : Type 0} (w : Partial A) (go : ℕ → Partial A) (k : A → Rest) (h : Rest) → followed (or_else w go) k h ≡ followed w k (λ n. followed (go n) k h)
followed_else (Yes a t n) go k h = refl
followed_else (No t n) go k h = followed_after t (go n) k h
followed_else (CutOff t) go k h = refl
followed_else (GoneWrong t) go k h = refl

pub followed_unless : {A C : Type 0} (w : Partial A) (go : ℕ → Partial C) (k : C → Rest) (h : Rest) → followed (unless w go) k h ≡ followed w (λ a. h) (λ n. followed (go n) k h)
followed_unless (Yes a t n) go k h = refl
followed_unless (No t n) go k h = followed_after t (go n) k h
followed_unless (CutOff t) go k h = refl
followed_unless (GoneWrong t) go k h = refl

pub followed_either : {A C : Type 0} (w : Partial A) (go : A → ℕ → Partial C) (other : ℕ → Partial C) (k : C → Rest) (h : Rest)
    → followed (either w go other) k h ≡ followed w (λ a n. followed (go a n) k h) (λ n. followed (other n) k h)
followed_either (Yes a t n) go other k h = followed_after t (go a n) k h
followed_either (No t n) go other k h = followed_after t (other n) k h
followed_either (CutOff t) go other k h = refl
followed_either (GoneWrong t) go other k h = refl

run_with : (r : Run) (made weighed : ℕ) → made ≡ r.made → weighed ≡ r.weighed → record r { made = made; weighed = weighed } ≡ r
run_with r made weighed e d = ap (λ x. record r { made = x; weighed = weighed }) e ∙ ap (λ x. record r { weighed = x }) d

-- a run after no trace, and after a weight alone
pub traced_none : (r : Run) → traced untraced r ≡ r
traced_none r = run_with r (0 + r.made) (0 + r.weighed) (omega arith) (omega arith)

pub traced_weight : (w : ℕ) (r : Run) → traced (record { text = []; made = 0; weighed = w }) r ≡ weigh w r
traced_weight w r = run_with (weigh w r) (0 + r.made) (w + r.weighed) (omega arith) refl

-- both come after one trace
pub both_traced : (i : ℕ) (c : Credit) (t : Trace) (f g : Rest) → Simulates i c f g → Simulates i c (λ n. traced t (f n)) (λ n. traced t (g n))
both_traced i c t f g u =
    both_prepend i c t.text _ _ (both_make i c t.made _ _ (both_weigh i c t.weighed f g u))
