-- What was bound before a goal stays at the front of what is bound after it.
use Rattle.std.proofs.Common.{◌≡◌, ℕ, Bool, true, false, List, [], ◌∷◌, ◌++◌, map, length, take, Option, Some, None, refl, sym, ap, ◌∙◌, subst}
use Rattle.std.specs.Prelude.{if◌then◌else◌, option_map, option_and_then}
use Rattle.std.proofs.Math.Seq.{take-append_seam, take-length}
use Rattle.rml_resolved.specs.declared.trees.RGoal.{RGoal, map-RGoal, roll-RGoal, fold-roll-RGoal, ind-RGoal}
use Rattle.rml_resolved.specs.declared.trees.RGoal.TheOpen.{RGoal-F}
use Rattle.rml_resolved.specs.declared.trees.RGoal.TheVariants as goal
use Rattle.rml_resolved.specs.declared.trees.RGoal.TheVariants.{rolls-Not}
use Rattle.rml_resolved.specs.Binding.{Part, binds, all_bind, uses, all_use, callee_uses, can_use, use_then_bind, parts_in_turn, bound_at, after_goal}

-- the first so many of some numbers are these
abbrev Front : List ℕ → List ℕ → Type 0
Front a b = take (length a) b ≡ a

abbrev FrontOf : List ℕ → Option (List ℕ) → Type 0
FrontOf a None = Unit {0}
FrontOf a (Some b) = Front a b

abbrev Keeps : Part → Type 0
Keeps p = (bound : List ℕ) → FrontOf bound (p bound)

front-next : (a b c : List ℕ) → Front a b → Front b c → Front a c
front-next [] b c f g = refl
front-next (x ∷ a) [] c f g = absurd (cc)
front-next (x ∷ a) (y ∷ b) [] f g = absurd (cc)
front-next (x ∷ a) (y ∷ b) (z ∷ c) f g =
    let zy : z ≡ y = cc in
    let yx : y ≡ x = cc in
    let rest : take (length a) c ≡ a = front-next a b c (cc) (cc) in
    cc

use_then_bind-keeps : (xs ys : List ℕ) → Keeps (use_then_bind xs ys)
use_then_bind-keeps xs ys bound = elim (can_use xs bound) as (λ (b : Bool). FrontOf bound (if b then Some (bound ++ ys) else None)) [ true ↦ take-append_seam bound ys | false ↦ tt ]

then-keeps : (a : List ℕ) (o : Option (List ℕ)) (p : Part) → FrontOf a o → Keeps p → FrontOf a (option_and_then p o)
then-keeps a None p f k = tt
then-keeps a (Some b) p f k = (elim (p b) as (λ (o : Option (List ℕ)). FrontOf b o → FrontOf a o) [ None ↦ (λ g. tt) | Some c ↦ (λ g. front-next a b c f g) ]) (k b)

not-keeps : (a : List ℕ) (o : Option (List ℕ)) → FrontOf a (option_map (λ inside. a) o)
not-keeps a None = tt
not-keeps a (Some b) = take-length a

parts_in_turn-keeps : (gs : List ((g : RGoal) × Keeps (after_goal g))) → Keeps (parts_in_turn (map after_goal (map (λ e. e.0) gs)))
parts_in_turn-keeps [] bound = take-length bound
parts_in_turn-keeps (e ∷ gs) bound = then-keeps bound (after_goal e.0 bound) (parts_in_turn (map after_goal (map (λ e. e.0) gs))) (e.1 bound) (parts_in_turn-keeps gs)

rolled : (y : RGoal-F RGoal) → Keeps (bound_at (map-RGoal RGoal Part after_goal y)) → Keeps (after_goal (roll-RGoal y))
rolled y k = subst (λ (p : Part). Keeps p) (sym (fold-roll-RGoal Part bound_at y)) k

layer : (y : RGoal-F ((g : RGoal) × Keeps (after_goal g))) → Keeps (after_goal (roll-RGoal (map-RGoal ((g : RGoal) × Keeps (after_goal g)) RGoal (λ e. e.0) y)))
layer (RGoal-F.Call f es ps) = rolled (RGoal-F.Call f es ps) (use_then_bind-keeps (callee_uses f ++ all_use es) (all_bind ps))
layer (RGoal-F.Equal a b) = rolled (RGoal-F.Equal a b) (use_then_bind-keeps (uses a ++ uses b) [])
layer (RGoal-F.Let p e) = rolled (RGoal-F.Let p e) (use_then_bind-keeps (uses e) (binds p))
layer (RGoal-F.Not e) = rolled (RGoal-F.Not e.0) (λ bound. not-keeps bound (after_goal e.0 bound))
layer (RGoal-F.All gs) = rolled (RGoal-F.All (map (λ e. e.0) gs)) (parts_in_turn-keeps gs)

goal-keeps : (g : RGoal) → Keeps (after_goal g)
goal-keeps = ind-RGoal (λ g. Keeps (after_goal g)) (λ x y is. subst (λ z. Keeps (after_goal (roll-RGoal z))) is (layer y))

front-kept : (g : RGoal) (bound inside : List ℕ) → Some inside ≡ after_goal g bound → take (length bound) inside ≡ bound
front-kept g bound inside e = subst (λ (o : Option (List ℕ)). FrontOf bound o) (sym e) (goal-keeps g bound)

-- so what is bound after a `not` are the first of what is bound inside it
pub after-not : (g : RGoal) (bound inside : List ℕ) → Some inside ≡ after_goal g bound → after_goal (goal.Not g) bound ≡ Some (take (length bound) inside)
after-not g bound inside e =
    ap (λ (x : RGoal). after_goal x bound) (sym (rolls-Not g))
    ∙ ap (λ (p : Part). p bound) (fold-roll-RGoal Part bound_at (RGoal-F.Not g))
    ∙ ap (option_map (λ (within : List ℕ). bound)) (sym e)
    ∙ ap Some (sym (front-kept g bound inside e))
