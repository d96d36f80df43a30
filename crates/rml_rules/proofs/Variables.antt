-- The number of a variable, found in two lists one after the other.
use Rattle.std.proofs.Common.{◌≡◌, ℕ, ◌+◌, ◌≤◌, Bool, true, false, List, [], ◌∷◌, ◌++◌, length, refl, sym, ap, ◌∙◌, arith}
use Rattle.std.specs.Prelude.{◌-◌, ◌^◌, min, nat_eq}
use Rattle.std.specs.List.{list_any, position_or_len}
use Rattle.rml_tables.proofs.Places.{place-append}
use Rattle.rml_tables.specs.Words.{has, place_of}
use Rattle.rml_values.specs.Numbers.{capped}
use Rattle.rml_scopes.specs.declared.scope.Scope.{Scope}
use Rattle.rml_rules.specs.Names.{variable}

-- where nothing of the first list passes, the place is in the second
place-behind : {X : Type 0} (p : X → Bool) (xs ys : List X) → list_any p xs ≡ false → position_or_len p (xs ++ ys) ≡ length xs + position_or_len p ys
place-behind p [] ys e = omega arith
place-behind p (x ∷ xs) ys e = elim (p x) as (λ v. p x ≡ v → position_or_len p ((x ∷ xs) ++ ys) ≡ length (x ∷ xs) + position_or_len p ys) [
  | true ↦ λ h. absurd (let t : list_any p (x ∷ xs) ≡ true = rw h refl in cc (t, e))
  | false ↦ λ h. (let r : list_any p xs ≡ false = rw h at e in rw (h, place-behind p xs ys r) (omega arith))
] refl

capped-twice : (length place : ℕ) → capped (capped (0 + length) + place) ≡ capped (length + place)
capped-twice length place = omega arith

-- a variable of the parts before this one
pub bound_before : (s : Scope) (name : ℕ) (is : Bool) (place number : ℕ) → is ≡ true → is ≡ has nat_eq name s.bound
    → place ≡ place_of nat_eq name s.bound → number ≡ capped (0 + place) → number ≡ variable s name
unfolding variable
bound_before s name is place number told test at e =
    let found : has nat_eq name s.bound ≡ true = sym test ∙ told in
    let zero_and : 0 + place ≡ place = omega arith in
    e ∙ ap (λ (n : ℕ). capped n) (zero_and ∙ at ∙ sym (place-append (nat_eq name) s.bound s.part found))

-- one of this part, or the next
pub bound_here : (s : Scope) (name : ℕ) (is : Bool) (count first place number : ℕ) → is ≡ false → is ≡ has nat_eq name s.bound
    → count ≡ length s.bound → first ≡ capped (0 + count) → place ≡ place_of nat_eq name s.part → number ≡ capped (first + place) → number ≡ variable s name
unfolding variable
bound_here s name is count first place number told test e f at n =
    let missed : has nat_eq name s.bound ≡ false = sym test ∙ told in
    n ∙ ap (λ (m : ℕ). capped (m + place)) f ∙ capped-twice count place ∙ ap (λ (m : ℕ). capped (m + place)) e ∙ ap (λ (m : ℕ). capped (length s.bound + m)) at
    ∙ ap (λ (m : ℕ). capped m) (sym (place-behind (nat_eq name) s.bound s.part missed))
