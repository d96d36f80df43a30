-- Edges that are added, and paths that are turned round.
use Rattle.std.proofs.Common.{◌≡◌, ◌<◌, ◌-◌, ℕ, List, [], ◌∷◌, ◌++◌, length, get_or, refl, sym, ap, ◌∙◌, arith, inl, inr, ◌⊎◌, subst, Contains}
use Rattle.std.proofs.Math.Seq.{get_or-append_right}
use Rattle.std.proofs.Math.ListN.{get_or-append}
use Rattle.std.proofs.lemmas.List.{get_or_past}
use Rattle.std.proofs.lemmas.List.Elements.{Contains-append_left, Contains-push, Contains-push_cases}
use Rattle.rml_reach.specs.Paths.{HasEdge, IsGraph, Path, Here, Along}
use Rattle.rml_reach.specs.Turned.{AddsFrom, IsTurned}
use Rattle.rml_reach.proofs.Along.{further}
use Rattle.rml_reach.proofs.Ways.{below-or-not}

abbrev no-edges : List ℕ
no-edges = []

-- one edge more
pub added : (old : List (List ℕ)) (ends : List ℕ) (from end a b : ℕ) → AddsFrom old (ends ++ end ∷ []) from a b → AddsFrom old ends from a b ⊎ ((a ≡ end) × (b ≡ from))
added old ends from end a b (inl h) = inl (inl h)
added old ends from end a b (inr p) = elim (Contains-push_cases ends end a p.0) [
  | inl c ↦ inl (inr (c, p.1))
  | inr e ↦ inr (sym e, p.1)
]

pub added-back : (old : List (List ℕ)) (ends : List ℕ) (from end a b : ℕ) → AddsFrom old ends from a b ⊎ ((a ≡ end) × (b ≡ from)) → AddsFrom old (ends ++ end ∷ []) from a b
added-back old ends from end a b (inl (inl h)) = inl h
added-back old ends from end a b (inl (inr p)) = inr (Contains-append_left ends (end ∷ []) a p.0, p.1)
added-back old ends from end a b (inr p) = inr (subst (Contains (ends ++ end ∷ [])) (sym p.0) (Contains-push ends end), p.1)

pub turned-further : (edges turned : List (List ℕ)) → IsTurned edges turned → (a b : ℕ) → Path turned a b → Path edges b a
turned-further edges turned t a b (Here _) = Here a
turned-further edges turned t a b (Along _ c _ e p) = further b c a (turned-further edges turned t c b p) ((t a c).0 e)

pub turned-back : (edges turned : List (List ℕ)) → IsTurned edges turned → (a b : ℕ) → Path edges b a → Path turned a b
turned-back edges turned t a b (Here _) = Here a
turned-back edges turned t a b (Along _ c _ e p) = further a c b (turned-back edges turned t a c p) ((t c b).1 e)

pub turned-graph : (edges turned : List (List ℕ)) → IsGraph edges → length turned ≡ length edges → IsTurned edges turned → (a b : ℕ) → HasEdge turned a b → b < length turned
turned-graph edges turned g n t a b e = elim (below-or-not b (length edges)) [
  | inl lt ↦ omega arith
  | inr le ↦ absurd (let back = (t a b).0 e in let z = ap (λ (es : List ℕ). length es) (get_or_past edges b [] le) in let i = back.1 in omega arith)
]

only-none : (i : ℕ) → get_or ([] ∷ []) i [] ≡ no-edges
only-none i = elim (below-or-not i 1) [
  | inl lt ↦ (let z : 0 ≡ i = omega arith in subst (λ (k : ℕ). get_or (no-edges ∷ []) k [] ≡ no-edges) z refl)
  | inr le ↦ get_or_past (no-edges ∷ []) i [] le
]

-- a node without edges is added
pub none-more : (edges : List (List ℕ)) → ((a b : ℕ) → HasEdge edges a b → ⊥) → (a b : ℕ) → HasEdge (edges ++ [] ∷ []) a b → ⊥
none-more edges none a b e = elim (below-or-not a (length edges)) [
  | inl old ↦ none a b (subst (λ (es : List ℕ). Contains es b) (get_or-append edges (no-edges ∷ []) [] a old) e)
  | inr behind ↦ (let es : get_or (edges ++ no-edges ∷ []) a [] ≡ no-edges = get_or-append_right edges (no-edges ∷ []) a [] behind ∙ only-none (a - length edges) in
      let z = ap (λ (es : List ℕ). length es) es in let i = e.1 in absurd (omega arith))
]

-- edges leave nodes
pub edge-within : (edges : List (List ℕ)) (a b : ℕ) → HasEdge edges a b → a < length edges
edge-within edges a b e = elim (below-or-not a (length edges)) [
  | inl lt ↦ lt
  | inr le ↦ absurd (let z = ap (λ (es : List ℕ). length es) (get_or_past edges a [] le) in let i = e.1 in omega arith)
]
