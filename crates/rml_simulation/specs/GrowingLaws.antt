-- How parts of runs grow with the steps, one lemma for each way to go on. They stand among the definitions, since the laws of
-- `impl`s cite them.
use Rattle.std.specs.Prelude.{◌≡◌, ℕ, zero, suc, ◌+◌, Bool, true, false, if◌then◌else◌}
use Rattle.std.proofs.Common.{refl, sym, ap, subst, arith}
use Rattle.rml_base.specs.Run.{Cut, Wrong, Run, Rest}
use Rattle.rml_base.specs.Monotone.{Later, Longer}
use Rattle.rml_base.specs.MonotoneLaws.{prefix_self, prefix_begins, prefix_chain, prefix_below, later_prepend, later_make, later_weigh}
use Rattle.rml_simulation.specs.declared.partial.Trace.{Trace}
use Rattle.rml_simulation.specs.declared.partial.Partial.{Partial}
use Rattle.rml_simulation.specs.declared.partial.Partial.TheVariants.{Yes, No, CutOff, GoneWrong}
use Rattle.rml_simulation.specs.Partial.{untraced, joined, trace_of, after, take_step, then_go, or_else, unless, either, traced, stopped, followed}
use Rattle.rml_simulation.specs.Growing.{Extends, Grows}

pub extends_self : (t : Trace) → Extends t t
extends_self t = record { text = prefix_self t.text; made = omega arith; weighed = omega arith }

pub extends_begins : (t u : Trace) → Extends t (joined t u)
extends_begins t u = record { text = prefix_begins t.text u.text; made = omega arith; weighed = omega arith }

pub extends_chain : {t u v : Trace} → Extends t u → Extends u v → Extends t v
extends_chain a b = record { text = prefix_chain a.text b.text; made = omega (arith, a.made, b.made); weighed = omega (arith, a.weighed, b.weighed) }

pub extends_below : (s : Trace) {t u : Trace} → Extends t u → Extends (joined s t) (joined s u)
extends_below s a = record { text = prefix_below s.text a.text; made = omega (arith, a.made); weighed = omega (arith, a.weighed) }

trace_after : {A : Type 0} (t : Trace) (w : Partial A) → trace_of (after t w) ≡ joined t (trace_of w)
trace_after t (Yes a u n) = refl
trace_after t (No u n) = refl
trace_after t (CutOff u) = refl
trace_after t (GoneWrong u) = refl

after_begins : {A : Type 0} (t : Trace) (w : Partial A) → Extends t (trace_of (after t w))
after_begins t w = subst (Extends t) (sym (trace_after t w)) (extends_begins t (trace_of w))

pub grows_after : {A : Type 0} (j : ℕ) (t : Trace) (w w' : Partial A) → Grows j w w' → Grows j (after t w) (after t w')
grows_after j t (Yes a u n) w' h = ap (after t) h
grows_after j t (No u n) w' h = ap (after t) h
grows_after j t (CutOff u) w' h = subst (Extends (joined t u)) (sym (trace_after t w')) (extends_below t h)
grows_after j t (GoneWrong u) w' h = ap (after t) h

pub grows_cut : {A : Type 0} (j : ℕ) (w : Partial A) → Grows j (CutOff untraced) w
grows_cut j w = record { text = record { rest = (trace_of w).text; is = refl }; made = omega arith; weighed = omega arith }

pub grows_step : {A : Type 0} (j n : ℕ) (f g : ℕ → Partial A) → ((m : ℕ) → Grows j (f m) (g (m + j))) → Grows j (take_step f n) (take_step g (n + j))
grows_step j zero f g h = grows_cut j (take_step g (0 + j))
grows_step j (suc n) f g h = let e : suc (n + j) ≡ suc n + j = omega arith in subst (λ k. Grows j (f n) (take_step g k)) e (h n)

then_begins : {A C : Type 0} (w : Partial A) (go : A → ℕ → Partial C) → Extends (trace_of w) (trace_of (then_go w go))
then_begins (Yes a t n) go = after_begins t (go a n)
then_begins (No t n) go = extends_self t
then_begins (CutOff t) go = extends_self t
then_begins (GoneWrong t) go = extends_self t

else_begins : {A : Type 0} (w : Partial A) (go : ℕ → Partial A) → Extends (trace_of w) (trace_of (or_else w go))
else_begins (Yes a t n) go = extends_self t
else_begins (No t n) go = after_begins t (go n)
else_begins (CutOff t) go = extends_self t
else_begins (GoneWrong t) go = extends_self t

unless_begins : {A C : Type 0} (w : Partial A) (go : ℕ → Partial C) → Extends (trace_of w) (trace_of (unless w go))
unless_begins (Yes a t n) go = extends_self t
unless_begins (No t n) go = after_begins t (go n)
unless_begins (CutOff t) go = extends_self t
unless_begins (GoneWrong t) go = extends_self t

pub grows_then : {A C : Type 0} (j : ℕ) (w w' : Partial A) (f g : A → ℕ → Partial C) → Grows j w w' → ((a : A) (m : ℕ) → Grows j (f a m) (g a (m + j))) → Grows j (then_go w f) (then_go w' g)
grows_then j (Yes a t n) w' f g h k = subst (λ x. Grows j (after t (f a n)) (then_go x g)) (sym h) (grows_after j t (f a n) (g a (n + j)) (k a n))
grows_then j (No t n) w' f g h k = ap (λ x. then_go x g) h
grows_then j (CutOff t) w' f g h k = extends_chain h (then_begins w' g)
grows_then j (GoneWrong t) w' f g h k = ap (λ x. then_go x g) h

pub grows_else : {A : Type 0} (j : ℕ) (w w' : Partial A) (f g : ℕ → Partial A) → Grows j w w' → ((m : ℕ) → Grows j (f m) (g (m + j))) → Grows j (or_else w f) (or_else w' g)
grows_else j (Yes a t n) w' f g h k = ap (λ x. or_else x g) h
grows_else j (No t n) w' f g h k = subst (λ x. Grows j (after t (f n)) (or_else x g)) (sym h) (grows_after j t (f n) (g (n + j)) (k n))
grows_else j (CutOff t) w' f g h k = extends_chain h (else_begins w' g)
grows_else j (GoneWrong t) w' f g h k = ap (λ x. or_else x g) h

pub grows_unless : {A C : Type 0} (j : ℕ) (w w' : Partial A) (f g : ℕ → Partial C) → Grows j w w' → ((m : ℕ) → Grows j (f m) (g (m + j))) → Grows j (unless w f) (unless w' g)
grows_unless j (Yes a t n) w' f g h k = ap (λ x. unless x g) h
grows_unless j (No t n) w' f g h k = subst (λ x. Grows j (after t (f n)) (unless x g)) (sym h) (grows_after j t (f n) (g (n + j)) (k n))
grows_unless j (CutOff t) w' f g h k = extends_chain h (unless_begins w' g)
grows_unless j (GoneWrong t) w' f g h k = ap (λ x. unless x g) h

either_begins : {A C : Type 0} (w : Partial A) (go : A → ℕ → Partial C) (other : ℕ → Partial C) → Extends (trace_of w) (trace_of (either w go other))
either_begins (Yes a t n) go other = after_begins t (go a n)
either_begins (No t n) go other = after_begins t (other n)
either_begins (CutOff t) go other = extends_self t
either_begins (GoneWrong t) go other = extends_self t

pub grows_either : {A C : Type 0} (j : ℕ) (w w' : Partial A) (f g : A → ℕ → Partial C) (f' g' : ℕ → Partial C)
    → Grows j w w' → ((a : A) (m : ℕ) → Grows j (f a m) (g a (m + j))) → ((m : ℕ) → Grows j (f' m) (g' (m + j))) → Grows j (either w f f') (either w' g g')
grows_either j (Yes a t n) w' f g f' g' h k l = subst (λ x. Grows j (after t (f a n)) (either x g g')) (sym h) (grows_after j t (f a n) (g a (n + j)) (k a n))
grows_either j (No t n) w' f g f' g' h k l = subst (λ x. Grows j (after t (f' n)) (either x g g')) (sym h) (grows_after j t (f' n) (g' (n + j)) (l n))
grows_either j (CutOff t) w' f g f' g' h k l = extends_chain h (either_begins w' g g')
grows_either j (GoneWrong t) w' f g f' g' h k l = ap (λ x. either x g g') h

pub grows_if : {A : Type 0} (j : ℕ) (b : Bool) (f f' g g' : Partial A) → Grows j f g → Grows j f' g' → Grows j (if b then f else f') (if b then g else g')
grows_if j true f f' g g' h k = h
grows_if j false f f' g g' h k = k

-- and so a whole run grows
pub later_traced : (t : Trace) {r s : Run} → Later r s → Later (traced t r) (traced t s)
later_traced t a = later_prepend t.text (later_make t.made (later_weigh t.weighed a))

traced_begins : (t : Trace) (r : Run) → Later (stopped Cut t) (traced t r)
traced_begins t r = record { ended = λ h. absurd (h refl); text = prefix_begins t.text r.text; made = omega arith; weighed = omega arith }

stopped_begins : {t u : Trace} → Extends t u → (r : Run) → Later (stopped Cut t) (traced u r)
stopped_begins a r = record {
  ended = λ h. absurd (h refl);
  text = prefix_chain a.text (prefix_begins _ r.text);
  made = omega (arith, a.made);
  weighed = omega (arith, a.weighed);
}

cut_later : {A : Type 0} (t : Trace) (w : Partial A) (k : A → Rest) (h : Rest) → Extends t (trace_of w) → Later (stopped Cut t) (followed w k h)
cut_later t (Yes a u n) k h e = stopped_begins e (k a n)
cut_later t (No u n) k h e = stopped_begins e (h n)
cut_later t (CutOff u) k h e = record { ended = λ d. absurd (d refl); text = e.text; made = e.made; weighed = e.weighed }
cut_later t (GoneWrong u) k h e = record { ended = λ d. absurd (d refl); text = e.text; made = e.made; weighed = e.weighed }

pub grows_followed : {A : Type 0} (j : ℕ) (w w' : Partial A) (k k' : A → Rest) (h h' : Rest) → Grows j w w' → ((a : A) → Longer j (k a) (k' a)) → Longer j h h' → Later (followed w k h) (followed w' k' h')
grows_followed j (Yes a t n) w' k k' h h' e lk lh = subst (λ x. Later (traced t (k a n)) (followed x k' h')) (sym e) (later_traced t ((lk a).at n))
grows_followed j (No t n) w' k k' h h' e lk lh = subst (λ x. Later (traced t (h n)) (followed x k' h')) (sym e) (later_traced t (lh.at n))
grows_followed j (CutOff t) w' k k' h h' e lk lh = cut_later t w' k' h' e
grows_followed j (GoneWrong t) w' k k' h h' e lk lh = subst (λ x. Later (stopped Wrong t) (followed x k' h')) (sym e) (record { ended = λ d. refl; text = prefix_self t.text; made = omega arith; weighed = omega arith })
