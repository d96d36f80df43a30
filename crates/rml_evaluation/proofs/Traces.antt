-- Traces before what parts give, one after the other.
use Rattle.std.proofs.Common.{◌≡◌, ℕ, ◌+◌, List, [], ◌++◌, refl, sym, ap, ◌∙◌, append_assoc, append-nil, arith}
use Rattle.rml_simulation.specs.declared.partial.Trace.{Trace}
use Rattle.rml_simulation.specs.declared.partial.Partial.{Partial}
use Rattle.rml_simulation.specs.declared.partial.Partial.TheVariants.{Yes, No, CutOff, GoneWrong}
use Rattle.rml_simulation.specs.Partial.{untraced, joined, after}

abbrev trace : List ℕ → ℕ → ℕ → Trace
trace text made weighed = record { text = text; made = made; weighed = weighed }

same_trace : (t t' : List ℕ) (m m' w w' : ℕ) → t ≡ t' → m ≡ m' → w ≡ w' → trace t m w ≡ trace t' m' w'
same_trace t t' m m' w w' a b c = ap (λ x. trace x m w) a ∙ ap (λ x. trace t' x w) b ∙ ap (λ x. trace t' m' x) c

pub joined_nothing : (t : Trace) → joined t untraced ≡ t
joined_nothing t = same_trace (t.text ++ []) t.text (t.made + 0) t.made (t.weighed + 0) t.weighed (append-nil t.text) (omega arith) (omega arith)

nothing_joined : (t : Trace) → joined untraced t ≡ t
nothing_joined t = same_trace t.text t.text (0 + t.made) t.made (0 + t.weighed) t.weighed refl (omega arith) (omega arith)

joined_joined : (t u v : Trace) → joined (joined t u) v ≡ joined t (joined u v)
joined_joined t u v =
    same_trace ((t.text ++ u.text) ++ v.text) (t.text ++ (u.text ++ v.text)) ((t.made + u.made) + v.made) (t.made + (u.made + v.made)) ((t.weighed + u.weighed) + v.weighed) (t.weighed + (u.weighed + v.weighed))
    (append_assoc t.text u.text v.text) (omega arith) (omega arith)

pub after_nothing : {A : Type 0} (w : Partial A) → after untraced w ≡ w
after_nothing (Yes a t n) = ap (λ u. Yes a u n) (nothing_joined t)
after_nothing (No t n) = ap (λ u. No u n) (nothing_joined t)
after_nothing (CutOff t) = ap (λ u. CutOff u) (nothing_joined t)
after_nothing (GoneWrong t) = ap (λ u. GoneWrong u) (nothing_joined t)

pub after_joined : {A : Type 0} (t u : Trace) (w : Partial A) → after (joined t u) w ≡ after t (after u w)
after_joined t u (Yes a v n) = ap (λ x. Yes a x n) (joined_joined t u v)
after_joined t u (No v n) = ap (λ x. No x n) (joined_joined t u v)
after_joined t u (CutOff v) = ap (λ x. CutOff x) (joined_joined t u v)
after_joined t u (GoneWrong v) = ap (λ x. GoneWrong x) (joined_joined t u v)

-- nothing stands before the first turn of a loop
pub begins : {A : Type 0} (t : Trace) (w : Partial A) → t ≡ untraced → w ≡ after t w
begins t w e = sym (after_nothing w) ∙ ap (λ u. after u w) (sym e)
