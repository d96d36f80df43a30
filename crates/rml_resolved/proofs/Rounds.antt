-- A number is finished after some rounds exactly where it reaches no circle.
use Rattle.std.proofs.Common.{◌≡◌, ℕ, zero, suc, ◌+◌, ◌<◌, ◌≤◌, Bool, true, false, List, [], ◌∷◌, length, Option, Some, None, eqb, refl, sym, ap, ◌∙◌, subst, inl, inr, arith, IsTrue, eq-eqb}
use Rattle.std.specs.Prelude.{◌||◌, ◌&&◌, ◌⊎◌, ◌↔◌, slice_get, unwrap_or, option_map}
use Rattle.std.specs.List.{list_all, list_any, Contains, IsDistinct, AllByRecursion}
use Rattle.std.proofs.lemmas.List.{length-map}
use Rattle.std.proofs.lemmas.Option.{slice_get-map, slice_get_cases}
use Rattle.std.proofs.lemmas.List.Sums.{AllPass-from_list_all}
use Rattle.std.proofs.lemmas.List.Elements.{All-contains}
use Rattle.std.proofs.lemmas.Map.Keys.{IsDistinct-cons}
use Rattle.std.proofs.lemmas.Map.Steps.{length-le_from_distinct_below}
use Rattle.std.proofs.lemmas.Map.Views.{Contains-from_any}
use Rattle.std.proofs.lemmas.Bool.{eqb-true}
use Rattle.rml_types.specs.Schemes.{every}
use Rattle.rml_resolved.specs.Circles.{Graph, are_finished, rounds, has_no_circle, Needs, Reaches, at_once, by_way, IsClosed, IsAcyclic}

-- whether a number is finished
abbrev is_in : List Bool → ℕ → Bool
is_in done k = unwrap_or (slice_get done k) false

abbrev done : Graph → ℕ → ℕ → Bool
done graph n k = is_in (rounds graph n) k

-- whether a number of these needs is finished a round later
abbrev next : List Bool → Option (List ℕ) → Bool
next finished o = unwrap_or (option_map (are_finished finished) o) false

done-suc : (graph : Graph) (n k : ℕ) → done graph (suc n) k ≡ next (rounds graph n) (slice_get graph k)
done-suc graph n k = ap (λ (o : Option Bool). unwrap_or o false) (slice_get-map (are_finished (rounds graph n)) graph k)

none_at : (o : Option (List ℕ)) → unwrap_or (option_map (λ (needs : List ℕ). false) o) false ≡ false
none_at None = refl
none_at (Some needs) = refl

none : (graph : Graph) (k : ℕ) → done graph zero k ≡ false
none graph k = ap (λ (o : Option Bool). unwrap_or o false) (slice_get-map (λ needs. false) graph k) ∙ none_at (slice_get graph k)

none_done : (graph : Graph) (k : ℕ) → done graph zero k ≡ true → ⊥
none_done graph k h = let e = none graph k in absurd (cc)

-- ---- finished numbers reach none that is not

needed_at : (finished : List Bool) (o : Option (List ℕ)) (j : ℕ) → next finished o ≡ true → Contains (unwrap_or o []) j → is_in finished j ≡ true
needed_at finished None j h c = absurd (cc)
needed_at finished (Some needs) j h c = All-contains (λ k. is_in finished k ≡ true) needs j (AllPass-from_list_all (is_in finished) needs h) c

needed : (graph : Graph) (n k j : ℕ) → done graph (suc n) k ≡ true → Needs graph k j → done graph n j ≡ true
needed graph n k j h c = needed_at (rounds graph n) (slice_get graph k) j (sym (done-suc graph n k) ∙ h) c

all_more : (p q : ℕ → Bool) → ((k : ℕ) → p k ≡ true → q k ≡ true) → (xs : List ℕ) → list_all p xs ≡ true → list_all q xs ≡ true
all_more p q each [] h = refl
all_more p q each (x ∷ xs) h = grind (arith, each x, all_more p q each xs)

more_at : (a b : List Bool) → ((k : ℕ) → is_in a k ≡ true → is_in b k ≡ true) → (o : Option (List ℕ)) → next a o ≡ true → next b o ≡ true
more_at a b each None h = absurd (cc)
more_at a b each (Some needs) h = all_more (is_in a) (is_in b) each needs h

stays : (graph : Graph) (n k : ℕ) → done graph n k ≡ true → done graph (suc n) k ≡ true
stays graph zero k h = absurd (none_done graph k h)
stays graph (suc n) k h =
    done-suc graph (suc n) k
    ∙ more_at (rounds graph n) (rounds graph (suc n)) (stays graph n) (slice_get graph k) (sym (done-suc graph n k) ∙ h)

reached : (graph : Graph) {k j : ℕ} → Reaches graph k j → (n : ℕ) → done graph (suc n) k ≡ true → done graph n j ≡ true
reached graph (at_once {k} {j} c) n h = needed graph n k j h c
reached graph (by_way {k} {i} {j} c r) zero h = absurd (none_done graph i (needed graph zero k i h c))
reached graph (by_way {k} {i} {j} c r) (suc n) h = stays graph n j (reached graph r n (needed graph (suc n) k i h c))

pub on_no_circle : (graph : Graph) (n k : ℕ) → Reaches graph k k → done graph n k ≡ true → ⊥
on_no_circle graph zero k r h = none_done graph k h
on_no_circle graph (suc n) k r h = on_no_circle graph n k r (reached graph r n h)

-- ---- a number that is not finished leads to a circle

pub both_ways : (a b : Bool) → (a || b) ≡ true → (a ≡ true) ⊎ (b ≡ true)
both_ways true b h = inl refl
both_ways false b h = inr h

or_right : (a b : Bool) → b ≡ true → (a || b) ≡ true
or_right true b h = refl
or_right false b h = h

one_fails : (a b : Bool) → (a && b) ≡ false → (a ≡ false) ⊎ (b ≡ false)
one_fails false b h = inl refl
one_fails true b h = inr h

pub is_it : (b : Bool) → (b ≡ true) ⊎ (b ≡ false)
is_it true = inl refl
is_it false = inr refl

some_fails : (p : ℕ → Bool) (xs : List ℕ) → list_all p xs ≡ false → (j : ℕ) × (list_any (eqb j) xs ≡ true) × (p j ≡ false)
some_fails p [] h = absurd (cc)
some_fails p (x ∷ xs) h =
    elim (one_fails (p x) (list_all p xs) h) [
      | inl e ↦ (x, (let same : eqb x x ≡ true = eq-eqb x x refl in rw same refl), e)
      | inr e ↦ (let more = some_fails p xs e in (more.0, or_right (eqb more.0 x) (list_any (eqb more.0) xs) more.1, more.2))
    ]

unfinished_at : (finished : List Bool) (o : Option (List ℕ)) (ns : List ℕ) → o ≡ Some ns → next finished o ≡ false → (j : ℕ) × Contains (unwrap_or o []) j × (is_in finished j ≡ false)
unfinished_at finished None ns e h = absurd (cc)
unfinished_at finished (Some ms) ns e h =
    let f = some_fails (is_in finished) ms h in (f.0, Contains-from_any {eq = eqb} eqb-true f.0 ms f.1, f.2)

-- what is not finished needs one that was not a round before
unfinished : (graph : Graph) (n k : ℕ) → done graph (suc n) k ≡ false → k < length graph → (j : ℕ) × Needs graph k j × (done graph n j ≡ false)
unfinished graph n k h inside =
    elim (slice_get_cases graph k).1 [
      | inl w ↦ unfinished_at (rounds graph n) (slice_get graph k) w.0 w.2 (sym (done-suc graph n k) ∙ h)
      | inr w ↦ absurd (omega arith)
    ]

onward : (graph : Graph) {s k : ℕ} (j : ℕ) → Reaches graph s k → Needs graph k j → Reaches graph s j
onward graph j (at_once c) needs = by_way c (at_once needs)
onward graph j (by_way c r) needs = by_way c (onward graph j r needs)

or_left : (a b : Bool) → (a || b) ≡ false → a ≡ false
or_left false b h = refl
or_left true b h = absurd (cc)

or_rest : (a b : Bool) → (a || b) ≡ false → b ≡ false
or_rest false b h = h
or_rest true b h = absurd (cc)

pub apart : (k : ℕ) (xs : List ℕ) → list_any (eqb k) xs ≡ false → AllByRecursion (λ y. eqb k y ≡ false) xs
apart k [] h = tt
apart k (x ∷ xs) h = (or_left (eqb k x) (list_any (eqb k) xs) h, apart k xs (or_rest (eqb k x) (list_any (eqb k) xs) h))

module _ (graph : Graph) (closed : IsClosed graph) (acyclic : IsAcyclic graph) where
  -- each of these is a number of the graph that reaches k
  abbrev Lead : ℕ → List ℕ → Type 0
  Lead k seen = (s : ℕ) → list_any (eqb s) seen ≡ true → (s < length graph) × Reaches graph s k

  lead_on : (k j : ℕ) (seen : List ℕ) → k < length graph → Needs graph k j → Lead k seen → Lead j (k ∷ seen)
  lead_on k j seen inside needs lead s h =
      elim (both_ways (eqb s k) (list_any (eqb s) seen) h) [
        | inl e ↦ (let same : k ≡ s = sym (eqb-true s k e) in subst (λ (x : ℕ). (x < length graph) × Reaches graph x j) same (inside, at_once needs))
        | inr e ↦ ((lead s e).0, onward graph j (lead s e).1 needs)
      ]

  too_many : (k : ℕ) (seen : List ℕ) → k < length graph → IsDistinct eqb (k ∷ seen) → Lead k seen → length seen + 0 ≡ length graph → ⊥
  too_many k seen inside distinct lead count =
      let at_most : length (k ∷ seen) ≤ length graph = length-le_from_distinct_below (k ∷ seen) (length graph) distinct (λ q h.
      elim (both_ways (eqb q k) (list_any (eqb q) seen) h) [
        | inl e ↦ (let same : q ≡ k = eqb-true q k e in omega arith)
        | inr e ↦ (lead q e).0
      ]) in
      omega arith

  -- a way through numbers of the graph, none of them twice, comes to a number that is finished with the rounds that are left
  no_way : (n k : ℕ) (seen : List ℕ) → done graph n k ≡ false → k < length graph → IsDistinct eqb seen → Lead k seen → length seen + n ≡ length graph → ⊥
  no_way zero k seen h inside distinct lead count =
      elim (is_it (list_any (eqb k) seen)) [
        | inl e ↦ acyclic k (lead k e).1
        | inr e ↦ too_many k seen inside (IsDistinct-cons eqb k seen (apart k seen e) distinct) lead count
      ]
  no_way (suc n) k seen h inside distinct lead count =
      elim (is_it (list_any (eqb k) seen)) [
        | inl e ↦ acyclic k (lead k e).1
        | inr e ↦ (let f = unfinished graph n k h inside in
            no_way n f.0 (k ∷ seen) f.2 (closed k f.0 f.1) (IsDistinct-cons eqb k seen (apart k seen e) distinct) (lead_on k f.0 seen inside f.1 lead) (omega arith))
      ]

-- ---- all numbers

rounds-length : (graph : Graph) (n : ℕ) → length (rounds graph n) ≡ length graph
rounds-length graph zero = length-map graph (λ needs. false)
rounds-length graph (suc n) = length-map graph (are_finished (rounds graph n))

one_open : (bs : List Bool) → every bs ≡ false → (k : ℕ) × (k < length bs) × (is_in bs k ≡ false)
one_open [] h = absurd (cc)
one_open (false ∷ bs) h = (0, omega arith, refl)
one_open (true ∷ bs) h = let more = one_open bs h in (suc more.0, omega arith, more.2)

all_closed : (bs : List Bool) (k : ℕ) → every bs ≡ true → k < length bs → is_in bs k ≡ true
all_closed [] k h inside = absurd (omega arith)
all_closed (false ∷ bs) k h inside = absurd (cc)
all_closed (true ∷ bs) zero h inside = refl
all_closed (true ∷ bs) (suc k) h inside = all_closed bs k h (omega arith)

needs-inside_at : (graph : Graph) (k j : ℕ) → Needs graph k j → k < length graph
needs-inside_at [] k j c = absurd (omega arith)
needs-inside_at (ns ∷ graph) zero j c = omega arith
needs-inside_at (ns ∷ graph) (suc k) j c = let less = needs-inside_at graph k j c in omega arith

reaches-inside : (graph : Graph) {k j : ℕ} → Reaches graph k j → k < length graph
reaches-inside graph (at_once {k} {j} c) = needs-inside_at graph k j c
reaches-inside graph (by_way {k} {i} {j} c r) = needs-inside_at graph k i c

pub acyclic : (graph : Graph) → IsTrue (has_no_circle graph) → IsAcyclic graph
acyclic graph h k r =
    let count : length (rounds graph (length graph)) ≡ length graph = rounds-length graph (length graph) in
    let inside : k < length graph = reaches-inside graph r in
    on_no_circle graph (length graph) k r (all_closed (rounds graph (length graph)) k h (omega arith))

no_circle_at : (graph : Graph) → IsClosed graph → IsAcyclic graph → (b : Bool) → b ≡ has_no_circle graph → IsTrue b
unfolding IsDistinct
no_circle_at graph closed free true e = refl
no_circle_at graph closed free false e =
    let open_one = one_open (rounds graph (length graph)) (sym e) in
    let count : length (rounds graph (length graph)) ≡ length graph = rounds-length graph (length graph) in
    absurd (no_way graph closed free (length graph) open_one.0 [] open_one.2 (omega arith) tt (λ s h. absurd (cc)) (omega arith))

pub exact : (graph : Graph) → IsClosed graph → IsTrue (has_no_circle graph) ↔ IsAcyclic graph
exact graph closed = (acyclic graph, λ free. no_circle_at graph closed free (has_no_circle graph) refl)

-- ---- an induction over a graph that has no circle

finished-inside : (graph : Graph) (n k : ℕ) → done graph n k ≡ true → k < length graph
finished-inside graph n k h =
    let count : length (rounds graph n) ≡ length graph = rounds-length graph n in
    elim (slice_get_cases (rounds graph n) k).1 [
      | inl w ↦ (let inside = w.1 in omega arith)
      | inr w ↦ absurd (let off : done graph n k ≡ false = ap (λ (o : Option Bool). unwrap_or o false) w.1 in cc)
    ]

by_rounds_to : (graph : Graph) (P : ℕ → ℕ → Type 0) → ((n k : ℕ) → k < length graph → ((j : ℕ) → Needs graph k j → P n j) → P (suc n) k)
    → (n k : ℕ) → done graph n k ≡ true → P n k
by_rounds_to graph P each zero k h = absurd (none_done graph k h)
by_rounds_to graph P each (suc n) k h = each n k (finished-inside graph (suc n) k h) (λ j c. by_rounds_to graph P each n j (needed graph n k j h c))

-- what holds of a number a round after it holds of all that the number needs holds of each after all rounds
pub by_rounds : (graph : Graph) (P : ℕ → ℕ → Type 0) → IsTrue (has_no_circle graph)
    → ((n k : ℕ) → k < length graph → ((j : ℕ) → Needs graph k j → P n j) → P (suc n) k)
    → (k : ℕ) → k < length graph → P (length graph) k
by_rounds graph P h each k inside =
    let count : length (rounds graph (length graph)) ≡ length graph = rounds-length graph (length graph) in
    by_rounds_to graph P each (length graph) k (all_closed (rounds graph (length graph)) k h (omega arith))
