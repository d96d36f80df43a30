-- Parts that are alike, one lemma for each way to go on.
use Rattle.std.specs.Prelude.{◌≡◌, ℕ, zero, suc, ◌<◌, ◌≤◌}
use Rattle.std.proofs.Common.{refl, sym, ap, subst, arith}
use Rattle.rml_simulation.specs.declared.partial.Trace.{Trace}
use Rattle.rml_simulation.specs.declared.partial.Partial.{Partial}
use Rattle.rml_simulation.specs.declared.partial.Partial.TheVariants.{Yes, No, CutOff, GoneWrong}
use Rattle.rml_simulation.specs.Partial.{after, take_step, then_go, or_else, unless, either}
use Rattle.rml_simulation.specs.Alike.{Left, Alike}

pub left_after : {A : Type 0} (b : ℕ) (t : Trace) (w : Partial A) → Left b w → Left b (after t w)
left_after b t (Yes a u n) h = h
left_after b t (No u n) h = h
left_after b t (CutOff u) h = h
left_after b t (GoneWrong u) h = h

pub alike_along : {A : Type 0} (b : ℕ) (w x v y : Partial A) → w ≡ x → v ≡ y → Alike b x y → Alike b w v
alike_along b w x v y p q h = subst (λ z. Alike b z v) (sym p) (subst (λ z. Alike b x z) (sym q) h)

pub alike_more : {A : Type 0} (a b : ℕ) (w v : Partial A) → a ≤ b → Alike a w v → Alike b w v
alike_more a b (Yes x t n) v h k = (k.0, (let l = k.1 in omega arith))
alike_more a b (No t n) v h k = (k.0, (let l = k.1 in omega arith))
alike_more a b (CutOff t) v h k = (k.0, tt)
alike_more a b (GoneWrong t) v h k = (k.0, tt)

pub alike_after : {A : Type 0} (b : ℕ) (t : Trace) (w v : Partial A) → Alike b w v → Alike b (after t w) (after t v)
alike_after b t w v h = (ap (λ x. after t x) h.0, left_after b t w h.1)

pub alike_step : {A : Type 0} (b n : ℕ) (go next : ℕ → Partial A) → ((m : ℕ) → m < n → Alike b (go m) (next m)) → Alike b (take_step go n) (take_step next n)
alike_step b zero go next each = (refl, tt)
alike_step b (suc n) go next each = each n (omega arith)

pub alike_then : {A C : Type 0} (b : ℕ) (w v : Partial A) (go next : A → ℕ → Partial C)
    → Alike b w v → ((a : A) (n : ℕ) → n ≤ b → Alike b (go a n) (next a n)) → Alike b (then_go w go) (then_go v next)
alike_then b (Yes a t n) v go next h each = subst (λ x. Alike b (after t (go a n)) (then_go x next)) h.0 (alike_after b t (go a n) (next a n) (each a n h.1))
alike_then b (No t n) v go next h each = (ap (λ x. then_go x next) h.0, h.1)
alike_then b (CutOff t) v go next h each = (ap (λ x. then_go x next) h.0, tt)
alike_then b (GoneWrong t) v go next h each = (ap (λ x. then_go x next) h.0, tt)

pub alike_else : {A : Type 0} (b : ℕ) (w v : Partial A) (go next : ℕ → Partial A)
    → Alike b w v → ((n : ℕ) → n ≤ b → Alike b (go n) (next n)) → Alike b (or_else w go) (or_else v next)
alike_else b (Yes a t n) v go next h each = (ap (λ x. or_else x next) h.0, h.1)
alike_else b (No t n) v go next h each = subst (λ x. Alike b (after t (go n)) (or_else x next)) h.0 (alike_after b t (go n) (next n) (each n h.1))
alike_else b (CutOff t) v go next h each = (ap (λ x. or_else x next) h.0, tt)
alike_else b (GoneWrong t) v go next h each = (ap (λ x. or_else x next) h.0, tt)

pub alike_unless : {A C : Type 0} (b : ℕ) (w v : Partial A) (go next : ℕ → Partial C)
    → Alike b w v → ((n : ℕ) → n ≤ b → Alike b (go n) (next n)) → Alike b (unless w go) (unless v next)
alike_unless b (Yes a t n) v go next h each = (ap (λ x. unless x next) h.0, h.1)
alike_unless b (No t n) v go next h each = subst (λ x. Alike b (after t (go n)) (unless x next)) h.0 (alike_after b t (go n) (next n) (each n h.1))
alike_unless b (CutOff t) v go next h each = (ap (λ x. unless x next) h.0, tt)
alike_unless b (GoneWrong t) v go next h each = (ap (λ x. unless x next) h.0, tt)

pub alike_either : {A C : Type 0} (b : ℕ) (w v : Partial A) (go next : A → ℕ → Partial C) (other last : ℕ → Partial C)
    → Alike b w v → ((a : A) (n : ℕ) → n ≤ b → Alike b (go a n) (next a n)) → ((n : ℕ) → n ≤ b → Alike b (other n) (last n)) → Alike b (either w go other) (either v next last)
alike_either b (Yes a t n) v go next other last h each each' = subst (λ x. Alike b (after t (go a n)) (either x next last)) h.0 (alike_after b t (go a n) (next a n) (each a n h.1))
alike_either b (No t n) v go next other last h each each' = subst (λ x. Alike b (after t (other n)) (either x next last)) h.0 (alike_after b t (other n) (last n) (each' n h.1))
alike_either b (CutOff t) v go next other last h each each' = (ap (λ x. either x next last) h.0, tt)
alike_either b (GoneWrong t) v go next other last h each each' = (ap (λ x. either x next last) h.0, tt)
