-- The least fault of a walk, and what the least of some faults is.
use Rattle.std.proofs.Common.{◌≡◌, ℕ, zero, suc, ◌+◌, ◌<◌, Bool, true, false, List, [], ◌∷◌, ◌++◌, length, get_or, map, drop, refl, sym, ap, subst, ◌∙◌, ◌⊎◌, inl, inr, arith, add-one, drop-cons, Contains}
use Rattle.std.specs.Prelude.{Option, None, Some, ◌&&◌, ◌||◌, not, nat_eq, nat_lt, if◌then◌else◌, is_some, IfSome, IsNone, ◌↔◌}
use Rattle.std.specs.List.{flat_map}
use Rattle.std.proofs.lemmas.Bool.Decides.{nat_tests}
use Rattle.rml_base.specs.declared.place.Place.{Place}
use Rattle.rml_base.specs.Order.{is_before}
use Rattle.rml_syntax.specs.declared.texts.Text.{Text}
use Rattle.rml_scopes.specs.declared.fault.Found.{Found}
use Rattle.rml_scopes.specs.declared.walk.Walk.{Walk}
use Rattle.rml_scopes.specs.declared.world.World.{World}
use Rattle.rml_scopes.specs.Faults.{IsLeast, comes_first, least_of, lesser_of, number_of}
use Rattle.rml_scopes.specs.Machine.{after_step, fresh, visits, visits_from}
use Rattle.rml_scopes.specs.Module.{text_faults, texts_faults, visit_faults}
use Rattle.rml_scopes.specs.Sentences.{step_faults}
use Rattle.rml_scopes.specs.Steps.{Step, text_steps}
use Rattle.rml_scopes.specs.Walks.{run, walk_step}
use Rattle.rml_scopes.proofs.Callers.{lesser_over}

-- the walk meets the least fault of the visits of its steps
run_least : (w : World) (xs : List Step) (walk : Walk) → (run w walk xs).least ≡ lesser_of walk.least (flat_map (visit_faults w) (visits_from w walk.scope xs))
unfolding walk_step
run_least w [] walk = refl
run_least w (x ∷ xs) walk =
    run_least w xs (walk_step w walk x)
    ∙ sym (lesser_over (step_faults w walk.scope x) (flat_map (visit_faults w) (visits_from w (after_step w walk.scope x) xs)) walk.least)

-- a walk from the beginning of a text to its end meets its least fault
pub least_of_text : (w : World) (number : ℕ) (t : Text) (walk : Walk) → walk.scope ≡ fresh number → (run w walk (text_steps t)).least ≡ lesser_of walk.least (text_faults w number t)
unfolding text_faults visits
least_of_text w number t walk e = run_least w (text_steps t) walk ∙ ap (λ s. lesser_of walk.least (flat_map (visit_faults w) (visits_from w s (text_steps t)))) e

-- a turn of the loop over texts
pub texts_more : (w : World) (ts : List Text) (i : ℕ) (t : Text) (start here next : Option Found)
    → i < length ts → t ≡ get_or ts i t
    → lesser_of start (texts_faults w 0 ts) ≡ lesser_of here (texts_faults w i (drop i ts))
    → next ≡ lesser_of here (text_faults w i t)
    → lesser_of start (texts_faults w 0 ts) ≡ lesser_of next (texts_faults w (i + 1) (drop (i + 1) ts))
texts_more w ts i t start here next within is before after =
    let split : drop i ts ≡ t ∷ drop (i + 1) ts = rw add-one (drop-cons ts i t within ∙ ap (λ y. y ∷ drop (suc i) ts) (sym is)) in
    before ∙ ap (λ ys. lesser_of here (texts_faults w i ys)) split
    ∙ lesser_over (text_faults w i t) (texts_faults w (suc i) (drop (i + 1) ts)) here
    ∙ ap (λ o. lesser_of o (texts_faults w (suc i) (drop (i + 1) ts))) (sym after)
    ∙ ap (λ n. lesser_of next (texts_faults w n (drop (i + 1) ts))) (sym (add-one i))

-- The order of faults. First that of numbers, and of numbers before something else.

split-number : (c b a : ℕ) → nat_lt c a ≡ true → (nat_lt c b ≡ true) ⊎ (nat_lt b a ≡ true)
split-number c b a e = grind (arith, nat_tests)

number-asym : (a b : ℕ) → nat_lt a b ≡ true → nat_lt b a ≡ false
number-asym a b e = grind (arith, nat_tests)

number-self : (a : ℕ) → nat_lt a a ≡ false
number-self a = grind (arith, nat_tests)

split-first : (c b a : ℕ) (p q r : Bool) → (p ≡ true → (q ≡ true) ⊎ (r ≡ true)) → (nat_lt c a || (nat_eq c a && p)) ≡ true → ((nat_lt c b || (nat_eq c b && q)) ≡ true) ⊎ ((nat_lt b a || (nat_eq b a && r)) ≡ true)
split-first c b a p q r h e = grind (arith, nat_tests)

first-asym : (a b : ℕ) (p q : Bool) → (p ≡ true → q ≡ false) → (nat_lt a b || (nat_eq a b && p)) ≡ true → (nat_lt b a || (nat_eq b a && q)) ≡ false
first-asym a b p q h e = grind (arith, nat_tests)

first-self : (a : ℕ) (p : Bool) → p ≡ false → (nat_lt a a || (nat_eq a a && p)) ≡ false
first-self a p e = grind (arith, nat_tests)

-- places

split-place : (c b a : Place) → is_before c a ≡ true → (is_before c b ≡ true) ⊎ (is_before b a ≡ true)
split-place c b a e = split-first c.text b.text a.text _ _ _ (split-first c.line b.line a.line _ _ _ (split-number c.column b.column a.column)) e

place-asym : (a b : Place) → is_before a b ≡ true → is_before b a ≡ false
place-asym a b e = first-asym a.text b.text _ _ (first-asym a.line b.line _ _ (number-asym a.column b.column)) e

place-self : (a : Place) → is_before a a ≡ false
place-self a = first-self a.text _ (first-self a.line _ (number-self a.column))

-- faults, from what holds of their places and numbers

neither : false ≡ true ⊎ false ≡ true → ⊥
neither (inl e) = cc e
neither (inr e) = cc e

split-parts : (ca ac cb bc ba ab x y z : Bool)
    → (ca ≡ true → (cb ≡ true) ⊎ (ba ≡ true)) → (bc ≡ true → (ba ≡ true) ⊎ (ac ≡ true)) → (ab ≡ true → (ac ≡ true) ⊎ (cb ≡ true)) → (x ≡ true → (y ≡ true) ⊎ (z ≡ true))
    → (ca || (not ac && x)) ≡ true → ((cb || (not bc && y)) ≡ true) ⊎ ((ba || (not ab && z)) ≡ true)
split-parts ca ac true bc ba ab x y z h i j k e = inl refl
split-parts ca ac false bc true ab x y z h i j k e = inr refl
split-parts true ac false bc false ab x y z h i j k e = absurd (neither (h refl))
split-parts false true false bc false ab x y z h i j k e = absurd (cc e)
split-parts false false false true false ab x y z h i j k e = absurd (neither (i refl))
split-parts false false false false false true x y z h i j k e = absurd (neither (j refl))
split-parts false false false false false false x y z h i j k e = k e

asym-parts : (p q x y : Bool) → (p ≡ true → q ≡ false) → (x ≡ true → y ≡ false) → (p || (not q && x)) ≡ true → (q || (not p && y)) ≡ false
asym-parts true true x y h k e = absurd (cc (h refl))
asym-parts true false x y h k e = refl
asym-parts false true x y h k e = absurd (cc e)
asym-parts false false x y h k e = k e

self-parts : (p x : Bool) → p ≡ false → x ≡ false → (p || (not p && x)) ≡ false
self-parts true x e f = absurd (cc e)
self-parts false x e f = f

-- what comes before a fault comes before any other, or that one before it
split-faults : (c b a : Found) → comes_first c a ≡ true → (comes_first c b ≡ true) ⊎ (comes_first b a ≡ true)
unfolding comes_first
split-faults c b a e =
    split-parts (is_before c.place a.place) (is_before a.place c.place) (is_before c.place b.place) (is_before b.place c.place) (is_before b.place a.place) (is_before a.place b.place) _ _ _
    (split-place c.place b.place a.place) (split-place b.place a.place c.place) (split-place a.place c.place b.place)
    (split-number (number_of c.fault) (number_of b.fault) (number_of a.fault)) e

faults-asym : (a b : Found) → comes_first a b ≡ true → comes_first b a ≡ false
unfolding comes_first
faults-asym a b e =
    asym-parts (is_before a.place b.place) (is_before b.place a.place) _ _ (place-asym a.place b.place) (number-asym (number_of a.fault) (number_of b.fault)) e

fault-self : (a : Found) → comes_first a a ≡ false
unfolding comes_first
fault-self a = self-parts (is_before a.place a.place) _ (place-self a.place) (number-self (number_of a.fault))

not-before : (c b a : Found) → comes_first c b ≡ false → comes_first b a ≡ false → comes_first c a ≡ false
not-before c b a p q = elim (comes_first c a) as (λ v. comes_first c a ≡ v → comes_first c a ≡ false) [
  | true ↦ λ h. elim (split-faults c b a h) as (λ w. comes_first c a ≡ false) [ inl t ↦ absurd (cc (t, p)) | inr t ↦ absurd (cc (t, q)) ]
  | false ↦ λ h. h
] refl

-- the least

some-stays : (xs : List Found) (a : Found) → lesser_of (Some a) xs ≡ None → ⊥
some-stays [] a e = cc e
some-stays (x ∷ xs) a e = elim (comes_first x a) as (λ v. comes_first x a ≡ v → ⊥) [
  | true ↦ λ h. (let k : lesser_of (Some x) xs ≡ None = rw h at e in some-stays xs x k)
  | false ↦ λ h. (let k : lesser_of (Some a) xs ≡ None = rw h at e in some-stays xs a k)
] refl

-- a fault is one of some, by recursion
IsIn : Found → List Found → Type 0
IsIn f [] = ⊥
IsIn f (x ∷ xs) = (f ≡ x) ⊎ IsIn f xs

is-contained : (f : Found) (xs : List Found) → IsIn f xs → Contains xs f
unfolding IsIn
is-contained f [] h = absurd h
is-contained f (x ∷ xs) (inl e) = (0, (omega arith), sym e)
is-contained f (x ∷ xs) (inr h) = let r = is-contained f xs h in (suc r.0, (let k : r.0 < length xs = r.1 in omega arith), r.2)

-- none of some comes before a fault, by recursion
NoneBefore : Found → List Found → Type 0
NoneBefore f [] = Unit {0}
NoneBefore f (x ∷ xs) = (comes_first x f ≡ false) × NoneBefore f xs

none-at : (f : Found) (xs : List Found) (o : Found) (k : ℕ) → NoneBefore f xs → k < length xs → get_or xs k o ≡ o → comes_first o f ≡ false
unfolding NoneBefore
none-at f [] o k h lt e = absurd (omega arith)
none-at f (x ∷ xs) o zero h lt e = ap (λ y. comes_first y f) (sym e) ∙ h.0
none-at f (x ∷ xs) o (suc k) h lt e = none-at f xs o k h.1 (omega arith) e

in-from : (xs : List Found) (a m : Found) → lesser_of (Some a) xs ≡ Some m → IsIn m (a ∷ xs)
unfolding IsIn
in-from [] a m e = inl (let q : m ≡ a = cc in q)
in-from (x ∷ xs) a m e = elim (comes_first x a) as (λ v. comes_first x a ≡ v → (m ≡ a) ⊎ ((m ≡ x) ⊎ IsIn m xs)) [
  | true ↦ λ h. (let k : lesser_of (Some x) xs ≡ Some m = rw h at e in inr (in-from xs x m k))
  | false ↦ λ h. (let k : lesser_of (Some a) xs ≡ Some m = rw h at e in elim (in-from xs a m k) as (λ w. (m ≡ a) ⊎ ((m ≡ x) ⊎ IsIn m xs)) [ inl p ↦ inl p | inr p ↦ inr (inr p) ])
] refl

first-from : (xs : List Found) (a m : Found) → lesser_of (Some a) xs ≡ Some m → NoneBefore m (a ∷ xs)
unfolding NoneBefore
first-from [] a m e = let q : a ≡ m = cc in (subst (λ (z : Found). comes_first z m ≡ false) (sym q) (fault-self m), tt)
first-from (x ∷ xs) a m e = elim (comes_first x a) as (λ v. comes_first x a ≡ v → (comes_first a m ≡ false) × ((comes_first x m ≡ false) × NoneBefore m xs)) [
  | true ↦ λ h. (let k : lesser_of (Some x) xs ≡ Some m = rw h at e in let r = first-from xs x m k in (not-before a x m (faults-asym x a h) r.0, r))
  | false ↦ λ h. (let k : lesser_of (Some a) xs ≡ Some m = rw h at e in let r = first-from xs a m k in (r.0, (not-before x a m h r.0, r.1)))
] refl

-- the least of some faults is one of them, and none comes before it
least-is : (xs : List Found) (m : Found) → least_of xs ≡ Some m → IsLeast m xs
least-is [] m e = absurd (cc e)
least-is (x ∷ xs) m e = record {
  among = is-contained m (x ∷ xs) (in-from xs x m e);
  first = λ o h. none-at m (x ∷ xs) o h.0 (first-from xs x m e) h.1 h.2;
}

none-means-empty : (xs : List Found) → least_of xs ≡ None → xs ≡ []
none-means-empty [] e = refl
none-means-empty (x ∷ xs) e = absurd (some-stays xs x e)

none-there : (o : Option Found) → is_some o ≡ false → o ≡ None
none-there None e = refl
none-there (Some f) e = absurd (cc e)

-- there is none exactly where there are no faults
pub none_exactly : (o : Option Found) (xs : List Found) → o ≡ least_of xs → IsNone o ↔ (xs ≡ [])
none_exactly o xs e = (λ h. none-means-empty xs (sym e ∙ none-there o h), λ h. ap is_some (e ∙ ap least_of h))

-- and otherwise the least
pub least_exactly : (o : Option Found) (xs : List Found) → o ≡ least_of xs → IfSome o (λ f. IsLeast f xs)
least_exactly None xs e = tt
least_exactly (Some f) xs e = least-is xs f (sym e)
