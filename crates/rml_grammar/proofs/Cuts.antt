-- Lists that are cut in two.
use Rattle.std.proofs.Common.{◌≡◌, List, [], ◌∷◌, ◌++◌, length, refl, ap, arith, ◌⊎◌, inl, inr}
use Rattle.std.proofs.lemmas.List.{length-append}
use Rattle.rml_syntax.specs.declared.token.Spot.{Spot}

-- by how much is left, in one way
pub one-cut : (a u b v : List Spot) → a ++ u ≡ b ++ v → length u ≡ length v → (a ≡ b) × (u ≡ v)
one-cut [] u [] v e l = (refl, e)
one-cut [] u (y ∷ b) v e l = absurd (omega (arith, simp length-append at (ap length e)))
one-cut (x ∷ a) u [] v e l = absurd (omega (arith, simp length-append at (ap length e)))
one-cut (x ∷ a) u (y ∷ b) v e l =
    let h : a ++ u ≡ b ++ v = cc in
    let k : x ≡ y = cc in
    let r = one-cut a u b v h l in
    let is : a ≡ b = r.0 in
    (cc, r.1)

-- the second of two cuts is not before the first
pub record IsBehind (a u b v : List Spot) : Type 0 where
  pub between : List Spot
  pub front : b ≡ a ++ between
  pub rest : u ≡ between ++ v

further : (x y : Spot) (a u b v : List Spot) → x ≡ y → IsBehind a u b v → IsBehind (x ∷ a) u (y ∷ b) v
further x y a u b v e h = record { between = h.between; front = (let f = h.front in cc); rest = h.rest }

-- of two cuts of one list one is behind the other
pub two-cuts : (a u b v : List Spot) → a ++ u ≡ b ++ v → IsBehind a u b v ⊎ IsBehind b v a u
two-cuts [] u b v e = inl (record { between = b; front = refl; rest = e })
two-cuts (x ∷ a) u [] v e = inr (record { between = x ∷ a; front = refl; rest = (let h = e in cc) })
two-cuts (x ∷ a) u (y ∷ b) v e =
    let h : a ++ u ≡ b ++ v = cc in
    let k : x ≡ y = cc in
    let l : y ≡ x = cc in
    elim (two-cuts a u b v h) [
      | inl i ↦ inl (further x y a u b v k i)
      | inr i ↦ inr (further y x b v a u l i)
    ]
