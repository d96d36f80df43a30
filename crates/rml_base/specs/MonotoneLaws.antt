-- How runs grow with the steps, one lemma for each thing of which they are made. They stand among the definitions, since the
-- laws of `impl`s cite them.
use Rattle.std.specs.Prelude.{◌≡◌, ◌≢◌, ℕ, zero, suc, ◌+◌, ◌-◌, Bool, true, false, if◌then◌else◌, List, [], ◌++◌}
use Rattle.std.proofs.Common.{refl, sym, ◌∙◌, ap, subst, append_assoc, arith}
use Rattle.std.proofs.lemmas.List.{append-nil}
use Rattle.rml_base.specs.Run.{Cut, Run, Rest, bare, step, prepend, make, weigh, IsPrefix}
use Rattle.rml_base.specs.Monotone.{Later, IsMonotone, Longer}

pub prefix_self : (t : List ℕ) → IsPrefix t t
prefix_self t = record { rest = []; is = sym (append-nil t) }

pub prefix_begins : (t u : List ℕ) → IsPrefix t (t ++ u)
prefix_begins t u = record { rest = u; is = refl }

pub prefix_chain : {t u w : List ℕ} → IsPrefix t u → IsPrefix u w → IsPrefix t w
prefix_chain {t = t} a b = record { rest = a.rest ++ b.rest; is = b.is ∙ ap (λ v. v ++ b.rest) a.is ∙ append_assoc t a.rest b.rest }

pub prefix_below : (s : List ℕ) {t u : List ℕ} → IsPrefix t u → IsPrefix (s ++ t) (s ++ u)
prefix_below s {t = t} a = record { rest = a.rest; is = ap (λ v. s ++ v) a.is ∙ sym (append_assoc s t a.rest) }

pub later_self : (r : Run) → Later r r
later_self r = record { ended = λ h. refl; text = prefix_self r.text; made = omega arith; weighed = omega arith }

-- what has done nothing and is cut
pub later_cut : (s : Run) → Later (bare Cut) s
later_cut s = record { ended = λ h. absurd (h refl); text = record { rest = s.text; is = refl }; made = omega arith; weighed = omega arith }

pub later_chain : {r s t : Run} → Later r s → Later s t → Later r t
later_chain {r = r} {s = s} {t = t} a b = record {
  ended = λ h. let e : s ≡ r = a.ended h in b.ended (subst (λ (x : Run). x.outcome ≢ Cut) (sym e) h) ∙ e;
  text = prefix_chain a.text b.text;
  made = omega (arith, a.made, b.made);
  weighed = omega (arith, a.weighed, b.weighed);
}

pub later_prepend : (t : List ℕ) {r s : Run} → Later r s → Later (prepend t r) (prepend t s)
later_prepend t a = record {
  ended = λ h. ap (prepend t) (a.ended h);
  text = prefix_below t a.text;
  made = a.made;
  weighed = a.weighed;
}

pub later_make : (k : ℕ) {r s : Run} → Later r s → Later (make k r) (make k s)
later_make k a = record {
  ended = λ h. ap (make k) (a.ended h);
  text = a.text;
  made = omega (arith, a.made);
  weighed = a.weighed;
}

pub later_weigh : (w : ℕ) {r s : Run} → Later r s → Later (weigh w r) (weigh w s)
later_weigh w a = record {
  ended = λ h. ap (weigh w) (a.ended h);
  text = a.text;
  made = a.made;
  weighed = omega (arith, a.weighed);
}

pub later_if : (b : Bool) {r s r' s' : Run} → Later r s → Later r' s' → Later (if b then r else r') (if b then s else s')
later_if true a a' = a
later_if false a a' = a'

pub later_step : (j n : ℕ) (f g : Rest) → Longer j f g → Later (step f n) (step g (n + j))
later_step j zero f g a = later_cut (step g (0 + j))
later_step j (suc n) f g a = let e : suc (n + j) ≡ suc n + j = omega arith in subst (λ k. Later (f n) (step g k)) e (a.at n)

pub longer_step : {j : ℕ} {f g : Rest} → Longer j f g → Longer j (step f) (step g)
longer_step {j = j} {f = f} {g = g} a = record { at = λ n. later_step j n f g a }

pub longer_always : (j : ℕ) (r : Run) → Longer j (λ n. r) (λ n. r)
longer_always j r = record { at = λ n. later_self r }

-- what is later than itself by every number of steps more is monotone
pub longer_is_monotone : (f : Rest) → ((j : ℕ) → Longer j f f) → IsMonotone f
longer_is_monotone f a = record {
  later = λ m n le. let e : m + (n - m) ≡ n = omega arith in subst (λ k. Later (f m) (f k)) e ((a (n - m)).at m);
}

pub monotone_is_longer : (f : Rest) → IsMonotone f → (j : ℕ) → Longer j f f
monotone_is_longer f s j = record { at = λ n. s.later n (n + j) (omega arith) }
