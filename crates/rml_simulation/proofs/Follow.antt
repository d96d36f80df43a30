-- The moves, on Follows: what they do to a run that is never Wrong.
use Rattle.std.proofs.Common.{◌≡◌, ◌≢◌, ℕ, zero, suc, ◌+◌, ◌-◌, ◌<◌, ◌≤◌, List, ◌++◌, refl, sym, ◌∙◌, ap, subst, arith, inl, inr, ⊎_elim}
use Rattle.std.specs.Prelude.{◌⊎◌}
use Rattle.std.proofs.Math.Path.{fun_ext}
use Rattle.rml_base.specs.Run.{InnerOutcome, Answer, Failure, Cut, Full, Wrong, Run, Rest, bare, step, prepend, make, weigh, IsPrefix}
use Rattle.rml_base.specs.Monotone.{IsMonotone}
use Rattle.rml_base.specs.MonotoneLaws.{prefix_self, prefix_below}
use Rattle.rml_base.specs.Light.{ComesTo, CatchesUp, LightRun}
use Rattle.rml_simulation.specs.Simulates.{Credit, nothing, ahead, Follows}
use Rattle.rml_simulation.specs.Moves.{AtMost, more_steps, more_made, more_weighed, less_steps, less_made, less_weighed, IsQuiet}

pub cut_not_full : {o : InnerOutcome} → o ≡ Cut → o ≢ Full
cut_not_full e = λ d. cc

pub weaken : (i j : ℕ) (c d : Credit) (f g : Rest) → j ≤ i → AtMost c d → Follows i c f g → Follows j d f g
weaken i j c d f g le more u = record {
  ended = λ m h p q. let a = u.ended m (omega arith) p q in record { steps = a.steps; outcome = a.outcome; text = a.text; made = omega (arith, a.made, more.made); weighed = omega (arith, a.weighed, more.weighed) };
  cut = λ m n h b. u.cut m n (omega arith) (omega (arith, more.steps));
  cut_text = λ m h e. let a = u.cut_text m (omega arith) e in record { steps = a.steps; enough = omega (arith, a.enough, more.steps); not_full = a.not_full; text = a.text; made = omega (arith, a.made, more.made); weighed = omega (arith, a.weighed, more.weighed) };
  full = λ m h. u.full m (omega arith);
}

pub both_step : (i : ℕ) (c : Credit) (f g : Rest) → ((j : ℕ) → j < i → Follows j c f g) → Follows i c (step f) (step g)
both_step i c f g u = record { ended = ended; cut = cut; cut_text = cut_text; full = full }
  where
    ended : (m : ℕ) → m ≤ i → (step g m).outcome ≢ Cut → (step g m).outcome ≢ Full → ComesTo (ahead c (step f)) (step g m)
    ended zero h p q = absurd (p refl)
    ended (suc m) h p q = let a = (u m (omega arith)).ended m (omega arith) p q in record { steps = suc a.steps; outcome = a.outcome; text = a.text; made = a.made; weighed = a.weighed }

    cut : (m n : ℕ) → m ≤ i → n + c.steps ≤ m → (step g m).outcome ≡ Cut → (step f n).outcome ≡ Cut
    cut m zero h b e = refl
    cut zero (suc n) h b e = absurd (omega arith)
    cut (suc m) (suc n) h b e = (u m (omega arith)).cut m n (omega arith) (omega arith) e

    cut_text : (m : ℕ) → m ≤ i → (step g m).outcome ≡ Cut → CatchesUp (m - c.steps) (ahead c (step f)) (step g m)
    cut_text zero h e = record { steps = 0; enough = omega arith; not_full = cut_not_full refl; text = refl; made = omega arith; weighed = omega arith }
    cut_text (suc m) h e = let a = (u m (omega arith)).cut_text m (omega arith) e in record { steps = suc a.steps; enough = omega (arith, a.enough); not_full = a.not_full; text = a.text; made = a.made; weighed = a.weighed }

    full : (m : ℕ) → m ≤ i → (step g m).outcome ≡ Full → (n : ℕ) × IsPrefix (step g m).text (step f n).text
    full zero h e = absurd (cut_not_full refl e)
    full (suc m) h e = let a = (u m (omega arith)).full m (omega arith) e in (suc a.0, a.1)

pub old_step : (i : ℕ) (c : Credit) (f g : Rest) → Follows i (more_steps 1 c) f g → Follows i c (step f) g
old_step i c f g u = record {
  ended = λ m h p q. let a = u.ended m h p q in record { steps = suc a.steps; outcome = a.outcome; text = a.text; made = a.made; weighed = a.weighed };
  cut = cut;
  cut_text = λ m h e. let a = u.cut_text m h e in record { steps = suc a.steps; enough = omega (arith, a.enough); not_full = a.not_full; text = a.text; made = a.made; weighed = a.weighed };
  full = λ m h e. let a = u.full m h e in (suc a.0, a.1);
}
  where
    cut : (m n : ℕ) → m ≤ i → n + c.steps ≤ m → (g m).outcome ≡ Cut → (step f n).outcome ≡ Cut
    cut m zero h b e = refl
    cut m (suc n) h b e = u.cut m n h (omega arith) e

pub new_step : (i : ℕ) (c : Credit) (f g : Rest) → 1 ≤ c.steps → IsQuiet f → ((j : ℕ) → j < i → Follows j (less_steps 1 c) f g) → Follows i c f (step g)
new_step i c f g some quiet u = record { ended = ended; cut = cut; cut_text = cut_text; full = full }
  where
    ended : (m : ℕ) → m ≤ i → (step g m).outcome ≢ Cut → (step g m).outcome ≢ Full → ComesTo (ahead c f) (step g m)
    ended zero h p q = absurd (p refl)
    ended (suc m) h p q = let a = (u m (omega arith)).ended m (omega arith) p q in record { steps = a.steps; outcome = a.outcome; text = a.text; made = a.made; weighed = a.weighed }

    cut : (m n : ℕ) → m ≤ i → n + c.steps ≤ m → (step g m).outcome ≡ Cut → (f n).outcome ≡ Cut
    cut zero n h b e = absurd (omega (arith, some))
    cut (suc m) n h b e = (u m (omega arith)).cut m n (omega arith) (omega (arith, some)) e

    cut_text : (m : ℕ) → m ≤ i → (step g m).outcome ≡ Cut → CatchesUp (m - c.steps) (ahead c f) (step g m)
    cut_text zero h e = record { steps = 0; enough = omega arith; not_full = quiet.not_full; text = quiet.text; made = omega arith; weighed = omega arith }
    cut_text (suc m) h e = let a = (u m (omega arith)).cut_text m (omega arith) e in record { steps = a.steps; enough = omega (arith, a.enough, some); not_full = a.not_full; text = a.text; made = a.made; weighed = a.weighed }

    full : (m : ℕ) → m ≤ i → (step g m).outcome ≡ Full → (n : ℕ) × IsPrefix (step g m).text (f n).text
    full zero h e = absurd (cut_not_full refl e)
    full (suc m) h e = (u m (omega arith)).full m (omega arith) e

below_or_not : (n q : ℕ) → (n < q) ⊎ (q ≤ n)
below_or_not n q = grind arith

pub old_run : (i q k w : ℕ) (c : Credit) (f h g : Rest) → ((n : ℕ) → n < q → (f n).outcome ≡ Cut) → ((n : ℕ) → f (q + n) ≡ make k (weigh w (h n))) → Follows i (more_steps q (more_made k (more_weighed w c))) h g → Follows i c f g
old_run i q k w c f h g before comes u = record { ended = ended; cut = cut; cut_text = cut_text; full = full }
  where
    outcome : (n : ℕ) → (f (q + n)).outcome ≡ (h n).outcome
    outcome n = ap (λ (r : Run). r.outcome) (comes n)

    text : (n : ℕ) → (f (q + n)).text ≡ (h n).text
    text n = ap (λ (r : Run). r.text) (comes n)

    made : (n : ℕ) → (f (q + n)).made ≡ k + (h n).made
    made n = ap (λ (r : Run). r.made) (comes n)

    weighed : (n : ℕ) → (f (q + n)).weighed ≡ w + (h n).weighed
    weighed n = ap (λ (r : Run). r.weighed) (comes n)

    ended : (m : ℕ) → m ≤ i → (g m).outcome ≢ Cut → (g m).outcome ≢ Full → ComesTo (ahead c f) (g m)
    ended m l p p' =
        let a = u.ended m l p p' in
        let d = made a.steps in
        let e = weighed a.steps in
        record { steps = q + a.steps; outcome = outcome a.steps ∙ a.outcome; text = text a.steps ∙ a.text; made = omega (arith, a.made, d); weighed = omega (arith, a.weighed, e) }

    cut : (m n : ℕ) → m ≤ i → n + c.steps ≤ m → (g m).outcome ≡ Cut → (f n).outcome ≡ Cut
    cut m n l b e =
        ⊎_elim (λ (p : n < q). before n p)
        (λ (p : q ≤ n).
        let back : q + (n - q) ≡ n = omega arith in
        subst (λ x. (f x).outcome ≡ Cut) back (outcome (n - q) ∙ u.cut m (n - q) l (omega arith) e))
        (below_or_not n q)

    cut_text : (m : ℕ) → m ≤ i → (g m).outcome ≡ Cut → CatchesUp (m - c.steps) (ahead c f) (g m)
    cut_text m l p =
        let a = u.cut_text m l p in
        let d = made a.steps in
        let e = weighed a.steps in
        record { steps = q + a.steps; enough = omega (arith, a.enough); not_full = subst (λ o. o ≢ Full) (sym (outcome a.steps)) a.not_full; text = text a.steps ∙ a.text; made = omega (arith, a.made, d); weighed = omega (arith, a.weighed, e) }

    full : (m : ℕ) → m ≤ i → (g m).outcome ≡ Full → (n : ℕ) × IsPrefix (g m).text (f n).text
    full m l p = let a = u.full m l p in (q + a.0, subst (λ t. IsPrefix (g m).text t) (sym (text a.0)) a.1)

pub both_prepend : (i : ℕ) (c : Credit) (t : List ℕ) (f g : Rest) → Follows i c f g → Follows i c (λ n. prepend t (f n)) (λ n. prepend t (g n))
both_prepend i c t f g u = record {
  ended = λ m h p q. let a = u.ended m h p q in record { steps = a.steps; outcome = a.outcome; text = ap (λ v. t ++ v) a.text; made = a.made; weighed = a.weighed };
  cut = u.cut;
  cut_text = λ m h e. let a = u.cut_text m h e in record { steps = a.steps; enough = a.enough; not_full = a.not_full; text = ap (λ v. t ++ v) a.text; made = a.made; weighed = a.weighed };
  full = λ m h e. let a = u.full m h e in (a.0, prefix_below t a.1);
}

pub old_make : (i : ℕ) (c : Credit) (k : ℕ) (f g : Rest) → Follows i (more_made k c) f g → Follows i c (λ n. make k (f n)) g
old_make i c k f g u = record {
  ended = λ m h p q. let a = u.ended m h p q in record { steps = a.steps; outcome = a.outcome; text = a.text; made = omega (arith, a.made); weighed = a.weighed };
  cut = u.cut;
  cut_text = λ m h e. let a = u.cut_text m h e in record { steps = a.steps; enough = a.enough; not_full = a.not_full; text = a.text; made = omega (arith, a.made); weighed = a.weighed };
  full = u.full;
}

pub new_make : (i : ℕ) (c : Credit) (k : ℕ) (f g : Rest) → k ≤ c.made → Follows i (less_made k c) f g → Follows i c f (λ n. make k (g n))
new_make i c k f g some u = record {
  ended = λ m h p q. let a = u.ended m h p q in record { steps = a.steps; outcome = a.outcome; text = a.text; made = omega (arith, a.made, some); weighed = a.weighed };
  cut = u.cut;
  cut_text = λ m h e. let a = u.cut_text m h e in record { steps = a.steps; enough = a.enough; not_full = a.not_full; text = a.text; made = omega (arith, a.made, some); weighed = a.weighed };
  full = u.full;
}

pub both_make : (i : ℕ) (c : Credit) (k : ℕ) (f g : Rest) → Follows i c f g → Follows i c (λ n. make k (f n)) (λ n. make k (g n))
both_make i c k f g u = record {
  ended = λ m h p q. let a = u.ended m h p q in record { steps = a.steps; outcome = a.outcome; text = a.text; made = omega (arith, a.made); weighed = a.weighed };
  cut = u.cut;
  cut_text = λ m h e. let a = u.cut_text m h e in record { steps = a.steps; enough = a.enough; not_full = a.not_full; text = a.text; made = omega (arith, a.made); weighed = a.weighed };
  full = u.full;
}

pub old_weigh : (i : ℕ) (c : Credit) (w : ℕ) (f g : Rest) → Follows i (more_weighed w c) f g → Follows i c (λ n. weigh w (f n)) g
old_weigh i c w f g u = record {
  ended = λ m h p q. let a = u.ended m h p q in record { steps = a.steps; outcome = a.outcome; text = a.text; made = a.made; weighed = omega (arith, a.weighed) };
  cut = u.cut;
  cut_text = λ m h e. let a = u.cut_text m h e in record { steps = a.steps; enough = a.enough; not_full = a.not_full; text = a.text; made = a.made; weighed = omega (arith, a.weighed) };
  full = u.full;
}

pub new_weigh : (i : ℕ) (c : Credit) (w : ℕ) (f g : Rest) → w ≤ c.weighed → Follows i (less_weighed w c) f g → Follows i c f (λ n. weigh w (g n))
new_weigh i c w f g some u = record {
  ended = λ m h p q. let a = u.ended m h p q in record { steps = a.steps; outcome = a.outcome; text = a.text; made = a.made; weighed = omega (arith, a.weighed, some) };
  cut = u.cut;
  cut_text = λ m h e. let a = u.cut_text m h e in record { steps = a.steps; enough = a.enough; not_full = a.not_full; text = a.text; made = a.made; weighed = omega (arith, a.weighed, some) };
  full = u.full;
}

pub both_weigh : (i : ℕ) (c : Credit) (w : ℕ) (f g : Rest) → Follows i c f g → Follows i c (λ n. weigh w (f n)) (λ n. weigh w (g n))
both_weigh i c w f g u = record {
  ended = λ m h p q. let a = u.ended m h p q in record { steps = a.steps; outcome = a.outcome; text = a.text; made = a.made; weighed = omega (arith, a.weighed) };
  cut = u.cut;
  cut_text = λ m h e. let a = u.cut_text m h e in record { steps = a.steps; enough = a.enough; not_full = a.not_full; text = a.text; made = a.made; weighed = omega (arith, a.weighed) };
  full = u.full;
}

-- a run that ends or reaches as r does so as its equal
comes_to_equal : {f f' : Rest} {r r' : Run} → ((n : ℕ) → f n ≡ f' n) → r ≡ r' → ComesTo f r → ComesTo f' r'
comes_to_equal {f' = f'} {r = r} e d a =
    let b : ComesTo f' r = subst (λ g. ComesTo g r) (fun_ext e) a in subst (ComesTo f') d b

catches_up_equal : (m : ℕ) {f f' : Rest} {r r' : Run} → ((n : ℕ) → f n ≡ f' n) → r ≡ r' → CatchesUp m f r → CatchesUp m f' r'
catches_up_equal m {f' = f'} {r = r} e d a =
    let b : CatchesUp m f' r = subst (λ g. CatchesUp m g r) (fun_ext e) a in subst (CatchesUp m f') d b

outcome_of : (P : InnerOutcome → Type 0) {r r' : Run} → r ≡ r' → P r.outcome → P r'.outcome
outcome_of P e h = subst (λ (r : Run). P r.outcome) e h

pub equal : (i : ℕ) (c : Credit) (f f' g g' : Rest) → ((n : ℕ) → f n ≡ f' n) → ((m : ℕ) → m ≤ i → g m ≡ g' m) → Follows i c f g → Follows i c f' g'
equal i c f f' g g' e d u = record {
  ended = λ m h p q. comes_to_equal (λ n. ap (λ r. make c.made (weigh c.weighed r)) (e n)) (d m h) (u.ended m h (outcome_of (λ o. o ≢ Cut) (sym (d m h)) p) (outcome_of (λ o. o ≢ Full) (sym (d m h)) q));
  cut = λ m n h b p. outcome_of (λ o. o ≡ Cut) (e n) (u.cut m n h b (outcome_of (λ o. o ≡ Cut) (sym (d m h)) p));
  cut_text = λ m h p. catches_up_equal (m - c.steps) (λ n. ap (λ r. make c.made (weigh c.weighed r)) (e n)) (d m h) (u.cut_text m h (outcome_of (λ o. o ≡ Cut) (sym (d m h)) p));
  full = λ m h p.
      let a = u.full m h (outcome_of (λ o. o ≡ Full) (sym (d m h)) p) in
      let b : IsPrefix (g' m).text (f a.0).text = subst (λ (r : Run). IsPrefix r.text (f a.0).text) (d m h) a.1 in
      (a.0, subst (λ (r : Run). IsPrefix (g' m).text r.text) (e a.0) b);
}

-- an outcome is the cut one or not
is_cut_or_not : (o : InnerOutcome) → (o ≡ Cut) ⊎ (o ≢ Cut)
is_cut_or_not (Answer v) = inr (λ e. cc)
is_cut_or_not Failure = inr (λ e. cc)
is_cut_or_not Cut = inl refl
is_cut_or_not Full = inr (λ e. cc)
is_cut_or_not Wrong = inr (λ e. cc)

pub itself : (i : ℕ) (c : Credit) (f : Rest) → IsMonotone f → Follows i c f f
itself i c f s = record {
  ended = λ m h p q. record { steps = m; outcome = refl; text = refl; made = omega arith; weighed = omega arith };
  cut = λ m n h b e.
      ⊎_elim (λ (p : (f n).outcome ≡ Cut). p)
      (λ (p : (f n).outcome ≢ Cut). absurd (p (ap (λ (r : Run). r.outcome) (sym ((s.later n m (omega arith)).ended p)) ∙ e)))
      (is_cut_or_not (f n).outcome);
  cut_text = λ m h e. record { steps = m; enough = omega arith; not_full = cut_not_full e; text = refl; made = omega arith; weighed = omega arith };
  full = λ m h e. (m, prefix_self (f m).text);
}

pub full : (i : ℕ) (c : Credit) (f : Rest) → Follows i c f (λ n. bare Full)
full i c f = record {
  ended = λ m h p q. absurd (q refl);
  cut = λ m n h b e. absurd (cut_not_full e refl);
  cut_text = λ m h e. absurd (cut_not_full e refl);
  full = λ m h e. (0, record { rest = (f 0).text; is = refl });
}

pub limit : (old new : Rest) → ((i : ℕ) → Follows i nothing old new) → LightRun old new
limit old new u = record {
  ended = λ m p q. let a = (u m).ended m (omega arith) p q in record { steps = a.steps; outcome = a.outcome; text = a.text; made = omega (arith, a.made); weighed = omega (arith, a.weighed) };
  cut = λ m e. (u m).cut m m (omega arith) (omega arith) e;
  cut_text = λ m e. let a = (u m).cut_text m (omega arith) e in record { steps = a.steps; enough = omega (arith, a.enough); not_full = a.not_full; text = a.text; made = omega (arith, a.made); weighed = omega (arith, a.weighed) };
  full = λ m e. (u m).full m (omega arith) e;
}
