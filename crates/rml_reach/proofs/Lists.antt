-- Answers for nodes, one by one, and what is left to do.
use Rattle.std.proofs.Common.{◌≡◌, ◌≢◌, ℕ, zero, suc, ◌+◌, ◌<◌, ◌≤◌, Bool, true, false, List, [], ◌∷◌, length, get_or, refl, sym, ◌∙◌, arith, inl, inr, ◌⊎◌, subst}
use Rattle.std.specs.Prelude.{replicate}
use Rattle.std.proofs.Math.ListN.{set}
use Rattle.std.proofs.lemmas.List.{get_or-set_other, get_or-set_same, get_or_default, get_or_past, get_or-replicate, length-replicate}
use Rattle.rml_reach.specs.Left.{left}
use Rattle.rml_reach.specs.Paths.{Holds}

pub same-or-not : (n m : ℕ) → (n ≡ m) ⊎ (n ≢ m)
same-or-not n m = grind arith

-- an answer that holds now held before or is that of the node that was marked
pub holds-cases : (seen : List Bool) (i n : ℕ) → Holds (set seen i true) n → (n ≡ i) ⊎ Holds seen n
holds-cases seen i n h = elim (same-or-not n i) [
  | inl e ↦ inl e
  | inr ne ↦ inr (sym (get_or-set_other seen i n true false ne) ∙ h)
]

pub holds-new : (seen : List Bool) (i : ℕ) → i < length seen → Holds (set seen i true) i
holds-new seen i lt = get_or-set_same seen i true false lt

pub holds-still : (seen : List Bool) (i n : ℕ) → i < length seen → Holds seen n → Holds (set seen i true) n
holds-still seen i n lt h = elim (same-or-not n i) [
  | inl e ↦ subst (Holds (set seen i true)) (sym e) (holds-new seen i lt)
  | inr ne ↦ get_or-set_other seen i n true false ne ∙ h
]

pub left-falls : (seen : List Bool) (edges : List (List ℕ)) (i : ℕ) → length seen ≡ length edges → i < length seen → get_or seen i false ≡ false
    → left (set seen i true) edges + suc (length (get_or edges i [])) ≡ left seen edges
left-falls [] edges i n lt e = absurd (omega arith)
left-falls (s ∷ seen) [] i n lt e = absurd (omega arith)
left-falls (true ∷ seen) (es ∷ edges) zero n lt e = absurd (cc e)
left-falls (false ∷ seen) (es ∷ edges) zero n lt e = omega arith
left-falls (true ∷ seen) (es ∷ edges) (suc i) n lt e = left-falls seen edges i (omega arith) (omega arith) e
left-falls (false ∷ seen) (es ∷ edges) (suc i) n lt e = let r = left-falls seen edges i (omega arith) (omega arith) e in omega arith

within-or-not : (i n : ℕ) → (i < n) ⊎ (n ≤ i)
within-or-not i n = grind arith

pub none-holds : (n i : ℕ) → Holds (replicate n false) i → ⊥
none-holds n i h = elim (within-or-not i n) [
  | inl lt ↦ absurd (cc (get_or-replicate n i false false lt, h))
  | inr le ↦ absurd (cc (get_or_past (replicate n false) i false (omega (arith, length-replicate n false)), h))
]

-- an answer that was read is the answer for a node, whatever is read where there is none
pub read : {X : Type 0} (xs : List X) (i : ℕ) (d e x : X) → i < length xs → get_or xs i d ≡ x → get_or xs i e ≡ x
read xs i d e x lt is = get_or_default xs i e d lt ∙ is

pub no-item : (xs : List ℕ) → length xs ≡ 0 → xs ≡ []
no-item [] e = refl
no-item (x ∷ xs) e = absurd (omega arith)
