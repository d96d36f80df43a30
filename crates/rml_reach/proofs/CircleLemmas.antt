-- A node lies on a circle where one of its edges leads into its own component.
use Rattle.std.proofs.Common.{◌≡◌, ◌<◌, ◌≤◌, ◌+◌, ℕ, List, [], length, get_or, sym, ap, ◌∙◌, arith, inl, inr, subst, Bool, true, false, Contains}
use Rattle.std.specs.Prelude.{slice_index}
use Rattle.std.proofs.Math.ListN.{set}
use Rattle.std.proofs.lemmas.List.{get_or-set_other, get_or-set_same, get_or_past}
use Rattle.rml_reach.specs.Paths.{AreConnected, Holds, IsGraph, IsOnCircle, Path, Here, Along}
use Rattle.rml_reach.proofs.Ways.{place-cases}

-- one of the nodes to which there are edges has a chosen node
abbrev pub HasOne : List ℕ → List ℕ → ℕ → Type 0
HasOne ends chosen own = (m : ℕ) × Contains ends m × (slice_index chosen m ≡ own)

module _ (edges : List (List ℕ)) (graph : IsGraph edges) (chosen : List ℕ)
    (same : (n m : ℕ) → n < length edges → m < length edges → (slice_index chosen n ≡ slice_index chosen m → AreConnected edges n m) × (AreConnected edges n m → slice_index chosen n ≡ slice_index chosen m)) where
  pub turns-back : (n : ℕ) → n < length edges → HasOne (get_or edges n []) chosen (slice_index chosen n) → IsOnCircle edges n
  turns-back n lt h = (h.0, h.1, ((same h.0 n (graph.within n h.0 h.1) lt).0 h.2).there)

  pub circle-turns : (n : ℕ) → n < length edges → IsOnCircle edges n → HasOne (get_or edges n []) chosen (slice_index chosen n)
  circle-turns n lt c =
      let there : Path edges n c.0 = Along n c.0 c.0 c.1 (Here c.0) in
      (c.0, c.1, (same c.0 n (graph.within n c.0 c.1) lt).1 (record { there = c.2; back = there }))

-- an answer that was written, and the answers before it
pub answered : (P : ℕ → Type 0) (on : List Bool) (node : ℕ) (b : Bool) → node < length on → ((n : ℕ) → n < node → (Holds on n → P n) × (P n → Holds on n)) → (b ≡ true → P node) → (P node → b ≡ true)
    → (n : ℕ) → n < node + 1 → (Holds (set on node b) n → P n) × (P n → Holds (set on node b) n)
answered P on node b lt before to back n below = elim (place-cases n node below) [
  | inl old ↦ (let e : get_or (set on node b) n false ≡ get_or on n false = get_or-set_other on node n b false (omega arith) in (λ h. (before n old).0 (sym e ∙ h), λ p. e ∙ (before n old).1 p))
  | inr is ↦ (let e : get_or (set on node b) node false ≡ b = get_or-set_same on node b false lt in
      (λ h. subst P (sym is) (to (sym e ∙ subst (λ (k : ℕ). get_or (set on node b) k false ≡ true) is h)), λ p. subst (λ (k : ℕ). get_or (set on node b) k false ≡ true) (sym is) (e ∙ back (subst P is p))))
]

-- behind the last node there is no answer that holds, and no edge
pub nothing-behind : (edges : List (List ℕ)) (on : List Bool) (n : ℕ) → length on ≡ length edges → length edges ≤ n → (Holds on n → IsOnCircle edges n) × (IsOnCircle edges n → Holds on n)
nothing-behind edges on n count le = (
  λ h. absurd (let e = get_or_past on n false (omega arith) in cc (e, h)),
  λ c. absurd (let e = get_or_past edges n [] le in let l = ap (λ (es : List ℕ). length es) e in let i = c.1.1 in omega arith),
)
