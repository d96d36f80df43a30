-- A text leads back to one that names it exactly where both have one chosen node.
use Rattle.std.proofs.Common.{◌≡◌, ℕ, ◌<◌, Bool, true, false, List, length, refl}
use Rattle.std.specs.Prelude.{nat_eq, slice_index, ◌↔◌}
use Rattle.std.proofs.lemmas.Bool.Decides.{nat_tests}
use Rattle.rml_reach.specs.Paths.{AreConnected, HasEdge, Here, Along, Path}
use Rattle.rml_reach.specs.Within.{reaches_within}
use Rattle.rml_outlines.specs.Outlines.{leads_to}
use Rattle.std.proofs.Common.{arith}

same-test : (a b : ℕ) (t : Bool) → (a ≡ b → t ≡ true) → (t ≡ true → a ≡ b) → nat_eq a b ≡ t
same-test a b true h k = let e : a ≡ b = k refl in grind (arith, nat_tests)
same-test a b false h k = elim (nat_eq a b) as (λ v. nat_eq a b ≡ v → nat_eq a b ≡ false) [
  | true ↦ λ e. (let s : a ≡ b = grind (arith, nat_tests) in absurd (cc (h s)))
  | false ↦ λ e. e
] refl

pub leads_back_is : (links : List (List ℕ)) (chosen : List ℕ) (own other : ℕ)
    → ((edges : List (List ℕ)) (a b : ℕ) → Path edges a b → reaches_within (length edges) edges a b ≡ true)
    → ((n : ℕ) (edges : List (List ℕ)) (a b : ℕ) → reaches_within n edges a b ≡ true → Path edges a b)
    → ((n m : ℕ) → n < length links → m < length links → (slice_index chosen n ≡ slice_index chosen m) ↔ AreConnected links n m)
    → own < length links → other < length links → HasEdge links own other
    → nat_eq (slice_index chosen other) (slice_index chosen own) ≡ leads_to links other own
leads_back_is links chosen own other enough sound same a b edge =
    let both = same other own b a in
    same-test (slice_index chosen other) (slice_index chosen own) (leads_to links other own)
    (λ e. enough links other own (both.0 e).there)
    (λ t. both.1 (let c : AreConnected links other own = record { there = sound (length links) links other own t; back = Along own other other edge (Here other) } in c))
