-- A part that prints nothing and whose end is known is gone through by the old run alone.
use Rattle.std.proofs.Common.{◌≡◌, ℕ, ◌+◌, ◌-◌, ◌<◌, ◌≤◌, [], refl, sym, ◌∙◌, ap, subst, arith, ⊎_elim}
use Rattle.std.specs.Prelude.{◌⊎◌}
use Rattle.rml_base.specs.Run.{Cut, Run, Rest, prepend, make, weigh}
use Rattle.rml_simulation.specs.declared.partial.Trace.{Trace}
use Rattle.rml_simulation.specs.declared.partial.Partial.{Partial}
use Rattle.rml_simulation.specs.declared.partial.Partial.TheVariants.{Yes, No, CutOff, GoneWrong}
use Rattle.rml_simulation.specs.Partial.{followed, traced}
use Rattle.rml_simulation.specs.Alike.{Left}
use Rattle.rml_simulation.specs.Exact.{IsCut, Fewer, UsesExactly}
use Rattle.rml_simulation.specs.Simulates.{Credit, Simulates}
use Rattle.rml_simulation.specs.Moves.{more_steps, more_made, more_weighed}
use Rattle.rml_simulation.proofs.SimulatesMoves.{old_run}

-- the end with more steps left
spare : {A : Type 0} → ℕ → Partial A → Partial A
spare j (Yes a t m) = Yes a t (m + j)
spare j (No t m) = No t (m + j)
spare j (CutOff t) = CutOff t
spare j (GoneWrong t) = GoneWrong t

-- it is an answer, or a failure
abbrev IsEnd : {A : Type 0} → Partial A → Type 0
IsEnd (Yes a t m) = Unit {0}
IsEnd (No t m) = Unit {0}
IsEnd (CutOff t) = ⊥
IsEnd (GoneWrong t) = ⊥

end_not_cut : {A : Type 0} (w : Partial A) → IsEnd w → IsCut w → ⊥
end_not_cut (Yes a t m) e c = c
end_not_cut (No t m) e c = c
end_not_cut (CutOff t) e c = e
end_not_cut (GoneWrong t) e c = e

wrong_is_no_end : {A : Type 0} (w : Partial A) (t : Trace) → w ≡ GoneWrong t → IsEnd w → ⊥
wrong_is_no_end w t e h = subst IsEnd e h

enough_or_not : (k m : ℕ) → (k ≤ m) ⊎ (m < k)
enough_or_not k m = grind arith

-- what ends with k steps fewer ends with k steps more left
grown : {A : Type 0} (k : ℕ) (w v : Partial A) → Fewer k w v → IsEnd v → w ≡ spare k v
unfolding spare
grown k (Yes a t m) v h e =
    ⊎_elim (λ (more : k ≤ m). let back : m - k + k ≡ m = omega arith in ap (λ x. Yes a t x) (sym back) ∙ ap (spare k) (sym (h.0 more)))
    (λ (short : m < k). absurd (end_not_cut v e (h.1 short)))
    (enough_or_not k m)
grown k (No t m) v h e =
    ⊎_elim (λ (more : k ≤ m). let back : m - k + k ≡ m = omega arith in ap (λ x. No t x) (sym back) ∙ ap (spare k) (sym (h.0 more)))
    (λ (short : m < k). absurd (end_not_cut v e (h.1 short)))
    (enough_or_not k m)
grown k (CutOff t) v h e = absurd (end_not_cut v e h)
grown k (GoneWrong t) v h e = ⊎_elim (λ is. absurd (wrong_is_no_end v t is e)) (λ cut. absurd (end_not_cut v e cut)) h

module _ {A : Type 0} (part : ℕ → Partial A) (exact : UsesExactly part) where
  -- with j steps more than n
  more : (n j : ℕ) → IsEnd (part n) → part (n + j) ≡ spare j (part n)
  more n j e =
      let back : n + j - j ≡ n = omega arith in
      let here : Fewer j (part (n + j)) (part n) = subst (λ x. Fewer j (part (n + j)) (part x)) back ((exact.at j (n + j)).fewer (omega arith)) in
      grown j (part (n + j)) (part n) here e

  -- it is cut with fewer steps than it takes
  cut_before : (n m j : ℕ) → ((k : ℕ) → m < k → k ≤ n → IsCut (part (n - k))) → m ≤ n → j < n - m → IsCut (part j)
  cut_before n m j short within lt =
      let back : n - (n - j) ≡ j = omega arith in subst (λ x. IsCut (part x)) back (short (n - j) (omega arith) (omega arith))

  answer_short : (a : A) (t : Trace) (n m k : ℕ) → part n ≡ Yes a t m → m < k → k ≤ n → IsCut (part (n - k))
  answer_short a t n m k e lt le = (subst (λ w. Fewer k w (part (n - k))) e ((exact.at k n).fewer le)).1 lt

  failure_short : (t : Trace) (n m k : ℕ) → part n ≡ No t m → m < k → k ≤ n → IsCut (part (n - k))
  failure_short t n m k e lt le = (subst (λ w. Fewer k w (part (n - k))) e ((exact.at k n).fewer le)).1 lt

  answer_left : (a : A) (t : Trace) (n m : ℕ) → part n ≡ Yes a t m → m ≤ n
  answer_left a t n m e = subst (λ w. Left n w) e (exact.at 0 n).left

  failure_left : (t : Trace) (n m : ℕ) → part n ≡ No t m → m ≤ n
  failure_left t n m e = subst (λ w. Left n w) e (exact.at 0 n).left

  -- with as many steps as it takes, and j more
  answer_at : (a : A) (t : Trace) (n m j : ℕ) → part n ≡ Yes a t m → part (n - m + j) ≡ Yes a t j
  unfolding spare
  answer_at a t n m j e =
      let within = answer_left a t n m e in
      let fewer : Fewer m (part n) (part (n - m)) = (exact.at m n).fewer within in
      let none : m - m ≡ 0 = omega arith in
      let least : part (n - m) ≡ Yes a t 0 = (subst (λ w. Fewer m w (part (n - m))) e fewer).0 (omega arith) ∙ ap (λ x. Yes a t x) none in
      let zero_j : 0 + j ≡ j = omega arith in
      more (n - m) j (subst IsEnd (sym least) tt) ∙ ap (spare j) least ∙ ap (λ x. Yes a t x) zero_j

  failure_at : (t : Trace) (n m j : ℕ) → part n ≡ No t m → part (n - m + j) ≡ No t j
  unfolding spare
  failure_at t n m j e =
      let within = failure_left t n m e in
      let fewer : Fewer m (part n) (part (n - m)) = (exact.at m n).fewer within in
      let none : m - m ≡ 0 = omega arith in
      let least : part (n - m) ≡ No t 0 = (subst (λ w. Fewer m w (part (n - m))) e fewer).0 (omega arith) ∙ ap (λ x. No t x) none in
      let zero_j : 0 + j ≡ j = omega arith in
      more (n - m) j (subst IsEnd (sym least) tt) ∙ ap (spare j) least ∙ ap (λ x. No t x) zero_j

  cut_outcome : (w : Partial A) (k : A → Rest) (h : Rest) → IsCut w → (followed w k h).outcome ≡ Cut
  cut_outcome (Yes a t m) k h c = absurd c
  cut_outcome (No t m) k h c = absurd c
  cut_outcome (CutOff t) k h c = refl
  cut_outcome (GoneWrong t) k h c = absurd c

  quiet : (t : Trace) (r : Run) → t.text ≡ [] → traced t r ≡ make t.made (weigh t.weighed r)
  quiet t r e = ap (λ text. prepend text (make t.made (weigh t.weighed r))) e

  pub silent_answer : (i n m : ℕ) (a : A) (t : Trace) (c : Credit) (k : A → Rest) (h g : Rest) → part n ≡ Yes a t m → t.text ≡ []
      → Simulates i (more_steps (n - m) (more_made t.made (more_weighed t.weighed c))) (k a) g → Simulates i c (λ j. followed (part j) k h) g
  silent_answer i n m a t c k h g e text u =
      old_run i (n - m) t.made t.weighed c (λ j. followed (part j) k h) (k a) g
      (λ j lt. cut_outcome (part j) k h (cut_before n m j (λ q short le. answer_short a t n m q e short le) (answer_left a t n m e) lt))
      (λ j. ap (λ (w : Partial A). followed w k h) (answer_at a t n m j e) ∙ quiet t (k a j) text)
      u

  pub silent_failure : (i n m : ℕ) (t : Trace) (c : Credit) (k : A → Rest) (h g : Rest) → part n ≡ No t m → t.text ≡ []
      → Simulates i (more_steps (n - m) (more_made t.made (more_weighed t.weighed c))) h g → Simulates i c (λ j. followed (part j) k h) g
  silent_failure i n m t c k h g e text u =
      old_run i (n - m) t.made t.weighed c (λ j. followed (part j) k h) h g
      (λ j lt. cut_outcome (part j) k h (cut_before n m j (λ q short le. failure_short t n m q e short le) (failure_left t n m e) lt))
      (λ j. ap (λ (w : Partial A). followed w k h) (failure_at t n m j e) ∙ quiet t (h j) text)
      u
