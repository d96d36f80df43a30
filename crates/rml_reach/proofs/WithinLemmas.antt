-- Paths of at most so many edges: as many edges as there are nodes are enough, since a shortest path visits no node twice.
use Rattle.std.proofs.Common.{◌≡◌, ℕ, zero, suc, ◌<◌, ◌≤◌, Bool, true, false, ◌||◌, List, [], ◌∷◌, length, get_or, refl, sym, ap, ◌∙◌, arith, inl, inr, ◌⊎◌, subst, Contains}
use Rattle.std.specs.Prelude.{nat_eq, replicate}
use Rattle.std.specs.List.{list_any}
use Rattle.std.proofs.Math.ListN.{set}
use Rattle.std.proofs.lemmas.List.{get_or-set_same, length-replicate, length-set}
use Rattle.std.proofs.lemmas.List.Folds.{list_any_at}
use Rattle.std.proofs.lemmas.Bool.Decides.{nat_tests}
use Rattle.rml_reach.specs.Paths.{HasEdge, Holds, Path, Here, Along}
use Rattle.rml_reach.specs.Within.{reaches_within}
use Rattle.rml_reach.proofs.Lists.{holds-cases, none-holds, same-or-not}
use Rattle.rml_reach.proofs.TurnedLemmas.{edge-within}

same-number : (n : ℕ) → nat_eq n n ≡ true
same-number n = grind (arith, nat_tests)

number-same : (n m : ℕ) → nat_eq n m ≡ true → n ≡ m
number-same n m e = grind (arith, nat_tests)

-- the nodes that are not marked
unmarked : List Bool → ℕ
unmarked [] = 0
unmarked (true ∷ ms) = unmarked ms
unmarked (false ∷ ms) = suc (unmarked ms)

marked-falls : (ms : List Bool) (i : ℕ) → i < length ms → get_or ms i false ≡ false → suc (unmarked (set ms i true)) ≡ unmarked ms
unfolding unmarked
marked-falls [] i lt e = absurd (omega arith)
marked-falls (true ∷ ms) zero lt e = absurd (cc e)
marked-falls (false ∷ ms) zero lt e = refl
marked-falls (true ∷ ms) (suc i) lt e = marked-falls ms i (omega arith) e
marked-falls (false ∷ ms) (suc i) lt e = ap suc (marked-falls ms i (omega arith) e)

unmarked-none : (n : ℕ) → unmarked (replicate n false) ≡ n
unfolding unmarked
unmarked-none zero = refl
unmarked-none (suc n) = ap suc (unmarked-none n)

no-mark : (b : Bool) → (b ≡ true → ⊥) → b ≡ false
no-mark true h = absurd (h refl)
no-mark false h = refl

module _ (edges : List (List ℕ)) where
  -- a path on which no step is from a marked node
  data Avoids (ms : List Bool) : ℕ → ℕ → Type 0 where
    Ends : (a : ℕ) → Avoids ms a a
    Goes : (a b c : ℕ) → (Holds ms a → ⊥) → HasEdge edges a b → Avoids ms b c → Avoids ms a c

  avoids-none : (n a b : ℕ) → Path edges a b → Avoids (replicate n false) a b
  avoids-none n a b (Here _) = Ends a
  avoids-none n a b (Along _ m _ e p) = Goes a m b (none-holds n a) e (avoids-none n m b p)

  -- a path avoids a node, or has a last step from it
  last-step : (ms : List Bool) (a x b : ℕ) → Avoids ms x b → Avoids (set ms a true) x b ⊎ ((m : ℕ) × HasEdge edges a m × Avoids (set ms a true) m b)
  last-step ms a x b (Ends _) = inl (Ends x)
  last-step ms a x b (Goes _ c _ free e p) = elim (last-step ms a c b p) [
    | inr later ↦ inr later
    | inl q ↦ elim (same-or-not x a) [
      | inl is ↦ inr (c, subst (λ (n : ℕ). HasEdge edges n c) is e, q)
      | inr ne ↦ inl (Goes x c b (λ h. elim (holds-cases ms a x h) [ inl is ↦ ne is | inr old ↦ free old ]) e q)
    ]
  ]

  at-once : (n a : ℕ) → reaches_within n edges a a ≡ true
  at-once zero a = same-number a
  at-once (suc n) a = rw (same-number a) refl

  or-right : (b c : Bool) → c ≡ true → (b || c) ≡ true
  or-right true c e = refl
  or-right false c e = e

  one-step : (n a m b : ℕ) → HasEdge edges a m → reaches_within n edges m b ≡ true → reaches_within (suc n) edges a b ≡ true
  one-step n a m b e r = or-right (nat_eq a b) (list_any (λ k. reaches_within n edges k b) (get_or edges a []))
      (list_any_at (λ k. reaches_within n edges k b) (get_or edges a []) e.0 m e.1 (subst (λ (k : ℕ). reaches_within n edges k b ≡ true) (sym e.2) r))

  -- from a marked node such a path does not go on
  ends-here : (ms : List Bool) (a b : ℕ) → Holds ms a → Avoids ms a b → a ≡ b
  ends-here ms a b h (Ends _) = refl
  ends-here ms a b h (Goes _ m _ free e p) = absurd (free h)

  enough-for : (n : ℕ) (ms : List Bool) (a b : ℕ) → unmarked ms ≤ n → length ms ≡ length edges → Avoids ms a b → reaches_within n edges a b ≡ true
  enough-for n ms a b le count (Ends _) = at-once n a
  enough-for zero ms a b le count (Goes _ c _ free e p) =
      let f = marked-falls ms a (let w = edge-within edges a c e in omega arith) (no-mark (get_or ms a false) free) in absurd (omega arith)
  enough-for (suc n) ms a b le count (Goes _ c _ free e p) =
      let inside : a < length ms = (let w = edge-within edges a c e in omega arith) in
      let f = marked-falls ms a inside (no-mark (get_or ms a false) free) in
      elim (last-step ms a a b (Goes a c b free e p)) [
        | inl q ↦ subst (λ (k : ℕ). reaches_within (suc n) edges a k ≡ true) (ends-here (set ms a true) a b (get_or-set_same ms a true false inside) q) (at-once (suc n) a)
        | inr q ↦ one-step n a q.0 b q.1 (enough-for n (set ms a true) q.0 b (omega arith) (length-set ms a true ∙ count) q.2)
      ]

  pub within-enough : (a b : ℕ) → Path edges a b → reaches_within (length edges) edges a b ≡ true
  within-enough a b p = enough-for (length edges) (replicate (length edges) false) a b (omega (arith, unmarked-none (length edges))) (length-replicate (length edges) false) (avoids-none (length edges) a b p)

  some-of : (p : ℕ → Bool) (xs : List ℕ) → list_any p xs ≡ true → (m : ℕ) × Contains xs m × (p m ≡ true)
  some-of p [] e = absurd (cc e)
  some-of p (x ∷ xs) e = elim (p x) as (λ v. p x ≡ v → (m : ℕ) × Contains (x ∷ xs) m × (p m ≡ true)) [
    | true ↦ λ h. (x, (0, omega arith, refl), h)
    | false ↦ λ h. (let r : list_any p xs ≡ true = rw h at e in let q = some-of p xs r in (q.0, (suc q.1.0, (let i = q.1.1 in omega arith), q.1.2), q.2))
  ] refl

  or-cases : (b c : Bool) → (b || c) ≡ true → (b ≡ true) ⊎ (c ≡ true)
  or-cases true c e = inl refl
  or-cases false c e = inr e

  pub within-path : (n a b : ℕ) → reaches_within n edges a b ≡ true → Path edges a b
  within-path zero a b e = subst (Path edges a) (number-same a b e) (Here a)
  within-path (suc n) a b e = elim (or-cases (nat_eq a b) (list_any (λ m. reaches_within n edges m b) (get_or edges a [])) e) [
    | inl is ↦ subst (Path edges a) (number-same a b is) (Here a)
    | inr any ↦ (let q = some-of (λ m. reaches_within n edges m b) (get_or edges a []) any in Along a q.0 b q.1 (within-path n q.0 b q.2))
  ]
