-- What the numbers of a list are, and that each name that a text declares is in the list of its kind.
use Rattle.std.proofs.Common.{◌≡◌, ℕ, ◌+◌, ◌-◌, ◌<◌, ◌≤◌, ◌^◌, Bool, true, false, List, [], ◌∷◌, length, get_or, refl, sym, ap, ◌∙◌, arith, Some, None, Option}
use Rattle.std.specs.Prelude.{nat_eq, slice_get}
use Rattle.std.specs.Map.{lookup}
use Rattle.std.proofs.lemmas.Bool.Decides.{nat_tests}
use Rattle.std.proofs.lemmas.List.Folds.{list_any-append}
use Rattle.std.proofs.lemmas.List.Sums.{passes_at_first}
use Rattle.std.proofs.lemmas.Option.{slice_get-get_or}
use Rattle.rml_tables.specs.Words.{has, place_of, with_name}
use Rattle.rml_tables.proofs.Callers.{place-none, place-some}
use Rattle.rml_outlines.specs.Declarations.{Values}
use Rattle.rml_outlines.specs.Lookups.{value_in}
use Rattle.rml_outlines.specs.declared.entry.ValueEntry.{ValueEntry}
use Rattle.rml_outlines.specs.declared.outline.Outline.{Outline}
use Rattle.rml_values.specs.Numbers.{behind, behind_text, is_of, lists_from, lists_of, names_of, number, with_entry, with_kind}
use Rattle.rml_values.specs.declared.numbers.Begins.{Begins}
use Rattle.rml_values.specs.declared.numbers.Kind.{Kind}
use Rattle.rml_values.specs.declared.numbers.Numbered.{Numbered}

place-most : (name : ℕ) (names : List ℕ) → place_of nat_eq name names ≤ length names
place-most name names = elim (has nat_eq name names) as (λ v. has nat_eq name names ≡ v → place_of nat_eq name names ≤ length names) [
  | true ↦ λ h. (let lt = place-some (nat_eq name) names h in omega (arith, lt))
  | false ↦ λ h. (let e = place-none (nat_eq name) names h in omega (arith, e))
] refl

-- where nothing is cut
number-plain : (n : Numbered) (name : ℕ) → n.first + length n.names < 2 ^ 32 → number n name ≡ n.first + place_of nat_eq name n.names
unfolding number
number-plain n name few = omega (arith, few, place-most name n.names)

same-number : (a b : ℕ) → nat_eq a b ≡ true → b ≡ a
same-number a b h = grind (arith, nat_tests)

stands-at : (name : ℕ) (names : List ℕ) → has nat_eq name names ≡ true → slice_get names (place_of nat_eq name names) ≡ Some name
stands-at name names h =
    let lt = place-some (nat_eq name) names h in
    let passes = passes_at_first (nat_eq name) names 0 lt in
    slice_get-get_or names (place_of nat_eq name names) 0 lt ∙ ap Some (same-number name (get_or names (place_of nat_eq name names) 0) passes)

pub stands : (n : Numbered) (name : ℕ) → n.first + length n.names < 2 ^ 32 → has nat_eq name n.names ≡ true → slice_get n.names (number n name - n.first) ≡ Some name
stands n name few h =
    let p = number-plain n name few in
    let e : number n name - n.first ≡ place_of nat_eq name n.names = omega (arith, p) in
    rw e (stands-at name n.names h)

one-of : (a b : ℕ) → Some a ≡ Some b → a ≡ b
one-of a b e = cc e

pub differ : (n : Numbered) (a b : ℕ) → n.first + length n.names < 2 ^ 32 → has nat_eq a n.names ≡ true → has nat_eq b n.names ≡ true → number n a ≡ number n b → a ≡ b
differ n a b few ha hb e = one-of a b (sym (stands n a few ha) ∙ ap (λ k. slice_get n.names (k - n.first)) e ∙ stands n b few hb)

pub from : (n : Numbered) (name : ℕ) → n.first + length n.names < 2 ^ 32 → n.first ≤ number n name
from n name few = omega (arith, number-plain n name few)

pub below : (n : Numbered) (name : ℕ) → n.first + length n.names < 2 ^ 32 → has nat_eq name n.names ≡ true → number n name < behind n
below n name few h = omega (arith, few, number-plain n name few, place-some (nat_eq name) n.names h)

-- names of a kind

itself : (n : ℕ) → nat_eq n n ≡ true
itself n = grind (arith, nat_tests)

name-kept : (name n : ℕ) (names : List ℕ) → has nat_eq name names ≡ true → has nat_eq name (with_name nat_eq names n) ≡ true
name-kept name n names h = elim (has nat_eq n names) as (λ v. has nat_eq n names ≡ v → has nat_eq name (with_name nat_eq names n) ≡ true) [
  | true ↦ λ g. rw g h
  | false ↦ λ g. rw (g, list_any-append (nat_eq name) names (n ∷ []), h) refl
] refl

name-there : (n : ℕ) (names : List ℕ) → has nat_eq n (with_name nat_eq names n) ≡ true
name-there n names = elim (has nat_eq n names) as (λ v. has nat_eq n names ≡ v → has nat_eq n (with_name nat_eq names n) ≡ true) [
  | true ↦ λ g. rw g g
  | false ↦ λ g. rw (g, list_any-append (nat_eq n) names (n ∷ []), g, itself n) refl
] refl

entry-kept : (k : Kind) (name : ℕ) (names : List ℕ) (x : ℕ × ValueEntry) → has nat_eq name names ≡ true → has nat_eq name (with_entry k names (Some x)) ≡ true
entry-kept k name names x h = elim (is_of k x.1) as (λ v. is_of k x.1 ≡ v → has nat_eq name (with_entry k names (Some x)) ≡ true) [
  | true ↦ λ g. rw g (name-kept name x.0 names h)
  | false ↦ λ g. rw g h
] refl

kind-kept : (k : Kind) (name : ℕ) (names : List ℕ) (xs : Values) → has nat_eq name names ≡ true → has nat_eq name (with_kind k names xs) ≡ true
kind-kept k name names [] h = h
kind-kept k name names (x ∷ xs) h = kind-kept k name (with_entry k names (Some x)) xs (entry-kept k name names x h)

one-entry : (a b : ValueEntry) → Some a ≡ Some b → a ≡ b
one-entry a b e = cc e

found-by : (k : Kind) (name : ℕ) (e : ValueEntry) (names : List ℕ) (x : ℕ × ValueEntry) (xs : Values) (b : Bool) → nat_eq name x.0 ≡ b
    → (lookup (nat_eq name) xs ≡ Some e → has nat_eq name (with_kind k (with_entry k names (Some x)) xs) ≡ true) → lookup (nat_eq name) (x ∷ xs) ≡ Some e → is_of k e ≡ true
    → has nat_eq name (with_kind k names (x ∷ xs)) ≡ true
found-by k name e names x xs true t rest l o =
    let is : x.1 ≡ e = one-entry x.1 e (rw t at l) in
    let here : is_of k x.1 ≡ true = rw is o in
    let same : x.0 ≡ name = same-number name x.0 t in
    let there : has nat_eq name (with_entry k names (Some x)) ≡ true = rw (here, same) (name-there name names) in
    kind-kept k name (with_entry k names (Some x)) xs there
found-by k name e names x xs false t rest l o = rest (rw t at l)

found : (k : Kind) (name : ℕ) (e : ValueEntry) (names : List ℕ) (xs : Values) → lookup (nat_eq name) xs ≡ Some e → is_of k e ≡ true → has nat_eq name (with_kind k names xs) ≡ true
found k name e names [] l o = absurd (cc l)
found k name e names (x ∷ xs) l o = found-by k name e names x xs (nat_eq name x.0) refl (λ q. found k name e (with_entry k names (Some x)) xs q o) l o

pub declared-there : (k : Kind) (o : Outline) (name : ℕ) (e : ValueEntry) → value_in o name ≡ Some e → is_of k e ≡ true → has nat_eq name (names_of k o) ≡ true
unfolding value_in names_of
declared-there k o name e l h = go (lookup (nat_eq name) o.interface.values) refl where
  go : (i : Option ValueEntry) → lookup (nat_eq name) o.interface.values ≡ i → has nat_eq name (names_of k o) ≡ true
  go None t =
      let inside : lookup (nat_eq name) o.body.values ≡ Some e = rw t at l in
      found k name e (with_kind k [] o.interface.values) o.body.values inside h
  go (Some x) t =
      let is : x ≡ e = one-entry x e (rw t at l) in
      kind-kept k name (with_kind k [] o.interface.values) o.body.values (found k name e [] o.interface.values (t ∙ ap Some is) h)

pub as-many : (b : Begins) (os : List Outline) → length (lists_from b os) ≡ length os
as-many b [] = refl
as-many b (o ∷ os) = omega (arith, as-many (behind_text (lists_of b o)) os)
