-- The first parts of a rule: its head, so many of its premises, and its results behind all of them.
use Rattle.std.proofs.Common.{◌≡◌, ℕ, zero, suc, ◌-◌, ◌<◌, ◌≤◌, List, [], ◌∷◌, ◌++◌, map, take, length, None, Result, Ok, Err, refl, sym, subst, arith}
use Rattle.std.specs.Prelude.{All}
use Rattle.std.specs.List.{AllByRecursion}
use Rattle.std.proofs.lemmas.List.Elements.{All-cons, All-head, All-nil, All-tail}
use Rattle.rml_types.specs.Nodes.{Nodes}
use Rattle.rml_resolved.specs.declared.tables.RRule.{RRule}
use Rattle.rml_resolved.specs.declared.trees.RPat.{RPat}
use Rattle.rml_resolved.specs.declared.trees.RGoal.{RGoal}
use Rattle.rml_resolved.specs.declared.trees.RExp.{RExp}
use Rattle.rml_typed.specs.Typed.{Assigned, Declared, ExpsOf, GoalOf, GoalsOf, PatternsOf, Uses}
use Rattle.rml_equations.specs.declared.stop.Stop.{Stop}
use Rattle.rml_generator.specs.declared.scope.Scope.{Scope}
use Rattle.rml_generator.specs.Adds.{Adds, Bare, IsWithin, Told}
use Rattle.rml_generator.specs.Scopes.{FindsFact, reads, uses, watched}
use Rattle.rml_generator.proofs.Adding.{Left, fact-like}
use Rattle.rml_generator.proofs.Facts.{adds-both, both-found, fact-left, found-always}
use Rattle.rml_generator.proofs.GoalParts.{each-goal}
use Rattle.rml_typed.specs.Parts.{Piece, PieceOf, RelType, head, premise, results, pieces}

module _ (d : Declared) (may : Uses) (k : RelType) (G : Assigned) where
  abbrev pub FirstOf : ℕ → RRule → Type 0
  FirstOf n rule = All (PieceOf d may k G) (take n (pieces rule))

  abbrev Rest : List RGoal → List RExp → List Piece
  Rest gs es = map premise gs ++ results es ∷ []

  -- so many premises
  some-there : (m : ℕ) (gs : List RGoal) (es : List RExp) → m ≤ length gs → AllByRecursion (GoalOf d may G) (take m gs) → All (PieceOf d may k G) (take m (Rest gs es))
  some-there zero gs es le a = All-nil (PieceOf d may k G)
  some-there (suc m) [] es le a = absurd (omega arith)
  some-there (suc m) (g ∷ gs) es le a = All-cons (PieceOf d may k G) (premise g) (take m (Rest gs es)) a.0 (some-there m gs es (omega arith) a.1)

  some-back : (m : ℕ) (gs : List RGoal) (es : List RExp) → m ≤ length gs → All (PieceOf d may k G) (take m (Rest gs es)) → GoalsOf d may G (take m gs)
  some-back zero gs es le a = GoalsOf.none
  some-back (suc m) [] es le a = absurd (omega arith)
  some-back (suc m) (g ∷ gs) es le a =
      GoalsOf.more g (take m gs) (All-head (PieceOf d may k G) (premise g) (take m (Rest gs es)) a) (some-back m gs es (omega arith) (All-tail (PieceOf d may k G) (premise g) (take m (Rest gs es)) a))

  -- all of them, and the results
  nothing-taken : (m : ℕ) → All (PieceOf d may k G) (take m [])
  nothing-taken zero = All-nil (PieceOf d may k G)
  nothing-taken (suc m) = All-nil (PieceOf d may k G)

  all-there : (m : ℕ) (gs : List RGoal) (es : List RExp) → length gs < m → AllByRecursion (GoalOf d may G) gs → ExpsOf d may G es k.outputs → All (PieceOf d may k G) (take m (Rest gs es))
  all-there zero gs es lt a r = absurd (omega arith)
  all-there (suc m) [] es lt a r = All-cons (PieceOf d may k G) (results es) (take m []) r (nothing-taken m)
  all-there (suc m) (g ∷ gs) es lt a r = All-cons (PieceOf d may k G) (premise g) (take m (Rest gs es)) a.0 (all-there m gs es (omega arith) a.1 r)

  all-back : (m : ℕ) (gs : List RGoal) (es : List RExp) → length gs < m → All (PieceOf d may k G) (take m (Rest gs es)) → GoalsOf d may G gs × ExpsOf d may G es k.outputs
  all-back zero gs es lt a = absurd (omega arith)
  all-back (suc m) [] es lt a = (GoalsOf.none, All-head (PieceOf d may k G) (results es) (take m []) a)
  all-back (suc m) (g ∷ gs) es lt a =
      let r = all-back m gs es (omega arith) (All-tail (PieceOf d may k G) (premise g) (take m (Rest gs es)) a) in
      (GoalsOf.more g gs (All-head (PieceOf d may k G) (premise g) (take m (Rest gs es)) a) r.0, r.1)

  -- no part
  pub first-none : (n : ℕ) (rule : RRule) → n ≡ 0 → FirstOf n rule
  first-none n rule is = subst (λ m. FirstOf m rule) (sym is) (All-nil (PieceOf d may k G))

  -- the head is the first
  pub first-head : (n m : ℕ) (rule : RRule) → n ≡ suc m → FirstOf n rule → PatternsOf d G rule.inputs k.inputs
  first-head n m rule is a = All-head (PieceOf d may k G) (head rule.inputs) (take m (Rest rule.goals rule.results)) (subst (λ j. FirstOf j rule) is a)

  -- premises are left out
  pub some-first : (n m : ℕ) (rule : RRule) → n ≡ suc m → m ≤ length rule.goals → PatternsOf d G rule.inputs k.inputs × GoalsOf d may G (take m rule.goals) → FirstOf n rule
  some-first n m rule is le h =
      subst (λ j. FirstOf j rule) (sym is)
      (All-cons (PieceOf d may k G) (head rule.inputs) (take m (Rest rule.goals rule.results)) h.0 (some-there m rule.goals rule.results le (each-goal d may G (take m rule.goals) h.1)))

  pub first-some : (n m : ℕ) (rule : RRule) → n ≡ suc m → m ≤ length rule.goals → FirstOf n rule → PatternsOf d G rule.inputs k.inputs × GoalsOf d may G (take m rule.goals)
  first-some n m rule is le a =
      (first-head n m rule is a, some-back m rule.goals rule.results le (All-tail (PieceOf d may k G) (head rule.inputs) (take m (Rest rule.goals rule.results)) (subst (λ j. FirstOf j rule) is a)))

  -- no part is left out
  pub all-first : (n m : ℕ) (rule : RRule) → n ≡ suc m → length rule.goals < m → (PatternsOf d G rule.inputs k.inputs × GoalsOf d may G rule.goals) × ExpsOf d may G rule.results k.outputs → FirstOf n rule
  all-first n m rule is lt h =
      subst (λ j. FirstOf j rule) (sym is)
      (All-cons (PieceOf d may k G) (head rule.inputs) (take m (Rest rule.goals rule.results)) h.0.0 (all-there m rule.goals rule.results lt (each-goal d may G rule.goals h.0.1) h.1))

  pub first-all : (n m : ℕ) (rule : RRule) → n ≡ suc m → length rule.goals < m → FirstOf n rule → (PatternsOf d G rule.inputs k.inputs × GoalsOf d may G rule.goals) × ExpsOf d may G rule.results k.outputs
  first-all n m rule is lt a =
      let r = all-back m rule.goals rule.results lt (All-tail (PieceOf d may k G) (head rule.inputs) (take m (Rest rule.goals rule.results)) (subst (λ j. FirstOf j rule) is a)) in
      ((first-head n m rule is a, r.0), r.1)

above-zero : (n : ℕ) → (n ≡ 0 → ⊥) → n ≡ suc (n - 1)
above-zero n not-zero = on n refl
  where
    on : (m : ℕ) → n ≡ m → n ≡ suc (n - 1)
    on zero e = absurd (not-zero e)
    on (suc m) e = omega arith

-- ---- what is found of the first parts of a rule

module _ (s : Scope) (g : Nodes) (rule : RRule) (count : ℕ) (k : Told → RelType) where
  abbrev HeadOf : List RPat → Told → Type 0
  HeadOf ps told = PatternsOf (reads s) told.vars ps (k told).inputs

  abbrev PremisesOf : List RGoal → Told → Type 0
  PremisesOf gs told = GoalsOf (reads s) (uses s told) told.vars gs

  abbrev ResultsOf : List RExp → Told → Type 0
  ResultsOf es told = ExpsOf (reads s) (uses s told) told.vars es (k told).outputs

  abbrev FirstParts : Told → Type 0
  FirstParts told = FirstOf (reads s) (uses s told) (k told) told.vars count rule

  pub none-found : (u : Unit {0}) → g.failed ≡ None → count ≡ 0 → FindsFact s g g FirstParts (Ok u)
  none-found u live is = found-always s.coding (watched s) g FirstParts u live (λ told. first-none (reads s) (uses s told) (k told) told.vars count rule is)

  module _ (h : Nodes) (not-zero : count ≡ 0 → ⊥) (ps : List RPat) (same-ps : ps ≡ rule.inputs) where
    head-there : (told : Told) → FirstParts told → HeadOf ps told
    head-there told a = subst (λ (qs : List RPat). HeadOf qs told) (sym same-ps) (first-head (reads s) (uses s told) (k told) told.vars count (count - 1) rule (above-zero count not-zero) a)

    pub head-left : (j : Nodes) (r : Result (Unit {0}) Stop) {e : Stop} → Left r e → FindsFact s g h (HeadOf ps) (Err e) → FindsFact s g j FirstParts r
    head-left j r l f = fact-left s.coding (watched s) g h j (HeadOf ps) FirstParts r l head-there f

    module _ (i : Nodes) (gs : List RGoal) (inside : IsWithin s.coding (watched s) g) (a : Adds s.coding (watched s) g h (Bare (HeadOf ps)) []) where
      -- where premises are left out
      pub some-found : (r : Result (Unit {0}) Stop) → gs ≡ take (count - 1) rule.goals → count - 1 ≤ length rule.goals → FindsFact s h i (PremisesOf gs) r → FindsFact s g i FirstParts r
      some-found r same-gs le f =
          fact-like s.coding (watched s) g i (λ told. HeadOf ps told × PremisesOf gs told) FirstParts r
          (λ told u. some-first (reads s) (uses s told) (k told) told.vars count (count - 1) rule (above-zero count not-zero) le
          (subst (λ (qs : List RPat). HeadOf qs told) same-ps u.0, subst (λ (xs : List RGoal). PremisesOf xs told) same-gs u.1))
          (λ told u. (head-there told u, subst (λ (xs : List RGoal). PremisesOf xs told) (sym same-gs) (first-some (reads s) (uses s told) (k told) told.vars count (count - 1) rule (above-zero count not-zero) le u).1))
          (both-found s.coding (watched s) g h i (HeadOf ps) (PremisesOf gs) r inside a f)

      module _ (same-gs : gs ≡ rule.goals) (lt : length rule.goals < count - 1) where
        both-there : (told : Told) → FirstParts told → HeadOf ps told × PremisesOf gs told
        both-there told u =
            (head-there told u, subst (λ (xs : List RGoal). PremisesOf xs told) (sym same-gs) (first-all (reads s) (uses s told) (k told) told.vars count (count - 1) rule (above-zero count not-zero) lt u).0.1)

        pub premises-left : (j : Nodes) (r : Result (Unit {0}) Stop) {e : Stop} → Left r e → FindsFact s h i (PremisesOf gs) (Err e) → FindsFact s g j FirstParts r
        premises-left j r {e = e} l f =
            fact-left s.coding (watched s) g i j (λ told. HeadOf ps told × PremisesOf gs told) FirstParts r l both-there (both-found s.coding (watched s) g h i (HeadOf ps) (PremisesOf gs) (Err e) inside a f)

        pub all-found : (j : Nodes) (es : List RExp) (r : Result (Unit {0}) Stop) → es ≡ rule.results → Adds s.coding (watched s) h i (Bare (PremisesOf gs)) [] → FindsFact s i j (ResultsOf es) r
            → FindsFact s g j FirstParts r
        all-found j es r same-es b f =
            fact-like s.coding (watched s) g j (λ told. (HeadOf ps told × PremisesOf gs told) × ResultsOf es told) FirstParts r
            (λ told u. all-first (reads s) (uses s told) (k told) told.vars count (count - 1) rule (above-zero count not-zero) lt
            ((subst (λ (qs : List RPat). HeadOf qs told) same-ps u.0.0, subst (λ (xs : List RGoal). PremisesOf xs told) same-gs u.0.1), subst (λ (xs : List RExp). ResultsOf xs told) same-es u.1))
            (λ told u. (both-there told u, subst (λ (xs : List RExp). ResultsOf xs told) (sym same-es) (first-all (reads s) (uses s told) (k told) told.vars count (count - 1) rule (above-zero count not-zero) lt u).1))
            (both-found s.coding (watched s) g i j (λ told. HeadOf ps told × PremisesOf gs told) (ResultsOf es) r inside (adds-both s.coding (watched s) g h i (HeadOf ps) (PremisesOf gs) inside a b) f)
