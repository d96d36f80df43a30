-- What is learned of how an old part ended from a simulation of it: the part is followed by answers and failures that tell.
use Rattle.std.proofs.Common.{◌≡◌, ◌≢◌, ℕ, ◌-◌, ◌<◌, ◌≤◌, None, refl, sym, ◌∙◌, ap, subst, arith, ⊎_elim, inl, inr}
use Rattle.std.specs.Prelude.{◌⊎◌}
use Rattle.rml_base.specs.Run.{InnerOutcome, Answer, Failure, Cut, Full, Wrong, Rest, bare}
use Rattle.rml_base.specs.Monotone.{IsMonotone}
use Rattle.rml_base.specs.MonotoneLaws.{longer_is_monotone, longer_always}
use Rattle.rml_base.specs.Light.{NeverWrong}
use Rattle.rml_simulation.specs.declared.partial.Trace.{Trace}
use Rattle.rml_simulation.specs.declared.partial.Partial.{Partial}
use Rattle.rml_simulation.specs.declared.partial.Partial.TheVariants.{Yes, No, CutOff, GoneWrong}
use Rattle.rml_simulation.specs.Partial.{followed, traced}
use Rattle.rml_simulation.specs.Exact.{IsCut, Fewer, UsesExactly}
use Rattle.rml_simulation.specs.Simulates.{Credit, Simulates}
use Rattle.rml_simulation.specs.Known.{SimulatesPart, SimulatesKnown}
use Rattle.rml_simulation.proofs.SimulatesMoves.{equal, itself, new_full}

-- ---- what follows, to tell ends apart

abbrev always : InnerOutcome → Rest
always o n = bare o

always_monotone : (o : InnerOutcome) → IsMonotone (always o)
always_monotone o = longer_is_monotone (always o) (λ j. longer_always j (bare o))

always_itself : (i : ℕ) (c : Credit) (o : InnerOutcome) → Simulates i c (always o) (always o)
always_itself i c o = itself i c (always o) (always_monotone o)

full_after : (i : ℕ) (c : Credit) (f : Rest) → Simulates i c f (always Full)
full_after i c f = new_full i c f

-- ---- ends

failure_is_answer : Failure ≡ Answer None → ⊥
failure_is_answer e = cc

cut_is_answer : Cut ≡ Answer None → ⊥
cut_is_answer e = cc

wrong_is_answer : Wrong ≡ Answer None → ⊥
wrong_is_answer e = cc

full_is_answer : Full ≡ Answer None → ⊥
full_is_answer e = cc

cut_is_not_wrong : Cut ≡ Wrong → ⊥
cut_is_not_wrong e = cc

full_is_not_wrong : Full ≡ Wrong → ⊥
full_is_not_wrong e = cc

enough_or_not : (k m : ℕ) → (k ≤ m) ⊎ (m < k)
enough_or_not k m = grind arith

module _ {A : Type 0} where
  -- what a part is followed to, by outcomes alone
  abbrev outcome_by : (A → InnerOutcome) → InnerOutcome → Partial A → InnerOutcome
  outcome_by k h (Yes a t n) = k a
  outcome_by k h (No t n) = h
  outcome_by k h (CutOff t) = Cut
  outcome_by k h (GoneWrong t) = Wrong

  outcome_is : (k : A → InnerOutcome) (h : InnerOutcome) (w : Partial A) → (followed w (λ a. always (k a)) (always h)).outcome ≡ outcome_by k h w
  outcome_is k h (Yes a t n) = refl
  outcome_is k h (No t n) = refl
  outcome_is k h (CutOff t) = refl
  outcome_is k h (GoneWrong t) = refl

  -- it has not gone wrong
  abbrev IsRight : Partial A → Type 0
  IsRight (Yes a t n) = Unit {0}
  IsRight (No t n) = Unit {0}
  IsRight (CutOff t) = Unit {0}
  IsRight (GoneWrong t) = ⊥

  right_part : (w : Partial A) (k : A → Rest) (h : Rest) → (followed w k h).outcome ≢ Wrong → IsRight w
  right_part (Yes a t n) k h never = tt
  right_part (No t n) k h never = tt
  right_part (CutOff t) k h never = tt
  right_part (GoneWrong t) k h never = never refl

  -- what is right is not Wrong where nothing that follows is
  right_outcome : (k : A → InnerOutcome) (h : InnerOutcome) (w : Partial A) → ((a : A) → k a ≢ Wrong) → h ≢ Wrong → IsRight w → outcome_by k h w ≢ Wrong
  right_outcome k h (Yes a t n) ks hs r = ks a
  right_outcome k h (No t n) ks hs r = hs
  right_outcome k h (CutOff t) ks hs r = λ e. cc
  right_outcome k h (GoneWrong t) ks hs r = absurd r

  -- ---- of the new part, with fewer steps

  -- with fewer steps than j it ends as it does with j, or is cut
  abbrev IsLike : Partial A → Partial A → Type 0
  IsLike (Yes a t n) v = ((m : ℕ) × (v ≡ Yes a t m)) ⊎ IsCut v
  IsLike (No t n) v = ((m : ℕ) × (v ≡ No t m)) ⊎ IsCut v
  IsLike (CutOff t) v = IsCut v
  IsLike (GoneWrong t) v = (v ≡ GoneWrong t) ⊎ IsCut v

  like_fewer : (k : ℕ) (w v : Partial A) → Fewer k w v → IsLike w v
  like_fewer k (Yes a t m) v h = ⊎_elim (λ (more : k ≤ m). inl (m - k, h.0 more)) (λ (short : m < k). inr (h.1 short)) (enough_or_not k m)
  like_fewer k (No t m) v h = ⊎_elim (λ (more : k ≤ m). inl (m - k, h.0 more)) (λ (short : m < k). inr (h.1 short)) (enough_or_not k m)
  like_fewer k (CutOff t) v h = h
  like_fewer k (GoneWrong t) v h = h

  like : (new : ℕ → Partial A) → UsesExactly new → (j m : ℕ) → m ≤ j → IsLike (new j) (new m)
  like new exact j m le =
      let back : j - (j - m) ≡ m = omega arith in
      like_fewer (j - m) (new j) (new m) (subst (λ x. Fewer (j - m) (new j) (new x)) back ((exact.at (j - m) j).fewer (omega arith)))

  -- what is cut is followed by nothing
  cut_followed : (v : Partial A) (k k' : A → Rest) (h h' : Rest) → IsCut v → followed v k h ≡ followed v k' h'
  cut_followed (Yes a t m) k k' h h' c = absurd c
  cut_followed (No t m) k k' h h' c = absurd c
  cut_followed (CutOff t) k k' h h' c = refl
  cut_followed (GoneWrong t) k k' h h' c = absurd c

  same_where_cut : (v : Partial A) (t : Trace) (m : ℕ) (k k' : A → Rest) (h h' : Rest) → IsLike (CutOff t) v → followed v k h ≡ followed v k' h'
  same_where_cut v t m k k' h h' c = cut_followed v k k' h h' c

  same_where_answered : (v : Partial A) (a : A) (t : Trace) (n : ℕ) (k k' : A → Rest) (h h' : Rest) → k a ≡ k' a → IsLike (Yes a t n) v → followed v k h ≡ followed v k' h'
  same_where_answered v a t n k k' h h' e l =
      ⊎_elim (λ (is : (m : ℕ) × (v ≡ Yes a t m)). subst (λ w. followed w k h ≡ followed w k' h') (sym is.1) (ap (λ (f : Rest). traced t (f is.0)) e))
      (λ (c : IsCut v). cut_followed v k k' h h' c) l

  same_where_failed : (v : Partial A) (t : Trace) (n : ℕ) (k k' : A → Rest) (h h' : Rest) → h ≡ h' → IsLike (No t n) v → followed v k h ≡ followed v k' h'
  same_where_failed v t n k k' h h' e l =
      ⊎_elim (λ (is : (m : ℕ) × (v ≡ No t m)). subst (λ w. followed w k h ≡ followed w k' h') (sym is.1) (ap (λ (f : Rest). traced t (f is.0)) e))
      (λ (c : IsCut v). cut_followed v k k' h h' c) l

  -- ---- how the old part ended

  abbrev answered_with : (tell : (a b : A) → (a ≡ b) ⊎ (a ≢ b)) (b a : A) → InnerOutcome
  answered_with tell b a = ⊎_elim (λ (e : a ≡ b). Answer None) (λ (d : a ≢ b). Failure) (tell a b)

  abbrev pick : (tell : (a b : A) → (a ≡ b) ⊎ (a ≢ b)) (b : A) (f g : Rest) (a : A) → Rest
  pick tell b f g a = ⊎_elim (λ (e : a ≡ b). f) (λ (d : a ≢ b). g) (tell a b)

  module _ (tell : (a b : A) → (a ≡ b) ⊎ (a ≢ b)) (i : ℕ) (old new : ℕ → Partial A) (exact : UsesExactly new) (u : SimulatesPart i old new) where
    -- the old part, followed to outcomes, comes to that of the new part
    comes : (j : ℕ) (c : Credit) → j ≤ i → ((n : ℕ) → IsRight (old n)) → (k : A → InnerOutcome) (h : InnerOutcome) → ((a : A) → k a ≢ Wrong) → h ≢ Wrong
        → outcome_by k h (new j) ≢ Cut → outcome_by k h (new j) ≢ Full → (n : ℕ) × (outcome_by k h (old n) ≡ outcome_by k h (new j))
    comes j c le right k h ks hs nc nf =
        let never : NeverWrong (λ n. followed (old n) (λ a. always (k a)) (always h)) =
        record { at = λ n e. right_outcome k h (old n) ks hs (right n) (sym (outcome_is k h (old n)) ∙ e) } in
        let follows = (u.at j c (λ a. always (k a)) (λ a. always (k a)) (always h) (always h) le (λ a. always_itself j c (k a)) (always_itself j c h)).follows never in
        let ended = follows.ended j (omega arith) (λ e. nc (sym (outcome_is k h (new j)) ∙ e)) (λ e. nf (sym (outcome_is k h (new j)) ∙ e)) in
        (ended.steps, sym (outcome_is k h (old ended.steps)) ∙ ended.outcome ∙ outcome_is k h (new j))

    -- where the new part answers, the old one gives the same answer somewhere
    told_answer : (tell' : (x y : A) → (x ≡ y) ⊎ (x ≢ y)) (b a : A) (s : (a ≡ b) ⊎ (a ≢ b)) → ⊎_elim (λ (e : a ≡ b). Answer None) (λ (d : a ≢ b). Failure) s ≡ Answer None → a ≡ b
    told_answer tell' b a (inl e) is = e
    told_answer tell' b a (inr d) is = absurd (failure_is_answer is)

    same_answer : (b : A) (s : (b ≡ b) ⊎ (b ≢ b)) → ⊎_elim (λ (e : b ≡ b). Answer None) (λ (d : b ≢ b). Failure) s ≡ Answer None
    same_answer b (inl e) = refl
    same_answer b (inr d) = absurd (d refl)

    answer_right : (b a : A) (s : (a ≡ b) ⊎ (a ≢ b)) → ⊎_elim (λ (e : a ≡ b). Answer None) (λ (d : a ≢ b). Failure) s ≢ Wrong
    answer_right b a (inl e) = λ is. cc
    answer_right b a (inr d) = λ is. cc

    -- the end of the old part, read off its outcome
    answered : (b : A) (w : Partial A) → outcome_by (answered_with tell b) Failure w ≡ Answer None → (t : Trace) × (m : ℕ) × (w ≡ Yes b t m)
    answered b (Yes a t m) is = (t, m, ap (λ x. Yes x t m) (told_answer tell b a (tell a b) is))
    answered b (No t m) is = absurd (failure_is_answer is)
    answered b (CutOff t) is = absurd (cut_is_answer is)
    answered b (GoneWrong t) is = absurd (wrong_is_answer is)

    failed : (w : Partial A) → outcome_by (λ a. Failure) (Answer None) w ≡ Answer None → (t : Trace) × (m : ℕ) × (w ≡ No t m)
    failed (Yes a t m) is = absurd (failure_is_answer is)
    failed (No t m) is = (t, m, refl)
    failed (CutOff t) is = absurd (cut_is_answer is)
    failed (GoneWrong t) is = absurd (wrong_is_answer is)

    picked : (b : A) (f g : Rest) (s : (b ≡ b) ⊎ (b ≢ b)) → ⊎_elim (λ (e : b ≡ b). f) (λ (d : b ≢ b). g) s ≡ f
    picked b f g (inl e) = refl
    picked b f g (inr d) = absurd (d refl)

    -- what follows the new part's answer is needed, and nothing else
    picked_simulates : (j : ℕ) (c : Credit) (k : A → Rest) (f : Rest) (b a : A) (s : (a ≡ b) ⊎ (a ≢ b)) → Simulates j c (k b) f
        → Simulates j c (k a) (⊎_elim (λ (e : a ≡ b). f) (λ (d : a ≢ b). always Full) s)
    picked_simulates j c k f b a (inl e) known = subst (λ x. Simulates j c (k x) f) (sym e) known
    picked_simulates j c k f b a (inr d) known = full_after j c (k a)

    module _ (j : ℕ) (c : Credit) (k k' : A → Rest) (h h' : Rest) (le : j ≤ i) (answers : (a : A) (n m : ℕ) (t : Trace) → old n ≡ Yes a t m → Simulates j c (k a) (k' a))
        (fails : (n m : ℕ) (t : Trace) → old n ≡ No t m → Simulates j c h h') where
      Whole : Type 0
      Whole = Simulates j c (λ n. followed (old n) k h) (λ n. followed (new n) k' h')

      -- the new part's end at j decides
      by_end : (w : Partial A) → new j ≡ w → ((n : ℕ) → IsRight (old n)) → Whole
      unfolding Whole
      by_end (CutOff t) e right =
          equal j c _ _ (λ n. followed (new n) (λ a. always Full) (always Full)) _ (λ n. refl)
          (λ m within. same_where_cut (new m) t m (λ a. always Full) k' (always Full) h' (subst (λ w. IsLike w (new m)) e (like new exact j m within)))
          (u.at j c k (λ a. always Full) h (always Full) le (λ a. full_after j c (k a)) (full_after j c h))
      by_end (GoneWrong t) e right =
          let is : outcome_by (λ a. Failure) Failure (new j) ≡ Wrong = ap (outcome_by (λ a. Failure) Failure) e in
          let came = comes j c le right (λ a. Failure) Failure (λ a d. cc) (λ d. cc) (λ d. cut_is_not_wrong (sym d ∙ is)) (λ d. full_is_not_wrong (sym d ∙ is)) in
          absurd (right_outcome (λ a. Failure) Failure (old came.0) (λ a d. cc) (λ d. cc) (right came.0) (came.1 ∙ is))
      by_end (Yes b t m) e right =
          let is : outcome_by (answered_with tell b) Failure (new j) ≡ Answer None = ap (outcome_by (answered_with tell b) Failure) e ∙ same_answer b (tell b b) in
          let came = comes j c le right (answered_with tell b) Failure (λ a. answer_right b a (tell a b)) (λ d. cc) (λ d. cut_is_answer (sym d ∙ is)) (λ d. full_is_answer (sym d ∙ is)) in
          let ended = answered b (old came.0) (came.1 ∙ is) in
          let known = answers b came.0 ended.1 ended.0 ended.2 in
          equal j c _ _ (λ n. followed (new n) (pick tell b (k' b) (always Full)) (always Full)) _ (λ n. refl)
          (λ q within. same_where_answered (new q) b t m (pick tell b (k' b) (always Full)) k' (always Full) h' (picked b (k' b) (always Full) (tell b b)) (subst (λ w. IsLike w (new q)) e (like new exact j q within)))
          (u.at j c k (pick tell b (k' b) (always Full)) h (always Full) le (λ a. picked_simulates j c k (k' b) b a (tell a b) known) (full_after j c h))
      by_end (No t m) e right =
          let is : outcome_by (λ a. Failure) (Answer None) (new j) ≡ Answer None = ap (outcome_by (λ a. Failure) (Answer None)) e in
          let came = comes j c le right (λ a. Failure) (Answer None) (λ a d. cc) (λ d. cc) (λ d. cut_is_answer (sym d ∙ is)) (λ d. full_is_answer (sym d ∙ is)) in
          let ended = failed (old came.0) (came.1 ∙ is) in
          let known = fails came.0 ended.1 ended.0 ended.2 in
          equal j c _ _ (λ n. followed (new n) (λ a. always Full) h') _ (λ n. refl)
          (λ q within. same_where_failed (new q) t m (λ a. always Full) k' h' h' refl (subst (λ w. IsLike w (new q)) e (like new exact j q within)))
          (u.at j c k (λ a. always Full) h h' le (λ a. full_after j c (k a)) known)

      pub whole : Simulates j c (λ n. followed (old n) k h) (λ n. followed (new n) k' h')
      unfolding Whole
      whole = record {
        follows = λ never. (by_end (new j) refl (λ n. right_part (old n) k h (never.at n))).follows never;
      }

    pub learned : SimulatesKnown i old new
    learned = record { at = λ j c k k' h h' le answers fails. whole j c k k' h h' le answers fails }
