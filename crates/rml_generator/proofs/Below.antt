-- Types as they stand in a graph and as a text reads them name no more variables than before.
use Rattle.std.proofs.Common.{◌≡◌, ℕ, zero, suc, Bool, true, ◌&&◌, List, [], ◌∷◌, map, get_or, Option, Some, None, refl, ap, ◌∙◌}
use Rattle.std.specs.Prelude.{IsTrue}
use Rattle.std.specs.List.{AllByRecursion}
use Rattle.std.specs.Option.{option_map_or}
use Rattle.rml_types.specs.declared.tree.SchemeTree.{SchemeTree}
use Rattle.rml_types.specs.declared.tree.SchemeTree.TheVariants as tree
use Rattle.rml_types.specs.Schemes.{below_at, every, inst, unit, vars_below}
use Rattle.rml_types.proofs.Callers.{below-Named, below-Rel, below-Tuple, both, fold-Named, fold-Rel, fold-Tuple, fold-Var, induct, inst-Named, inst-Rel, inst-Tuple, inst-Var}
use Rattle.rml_typed.specs.Own.{Meanings, written, written_at}
use Rattle.rml_equations.specs.declared.coding.Coding.{Coding}
use Rattle.rml_equations.specs.declared.coding.Coding.TheVariants.{Plain, Packed}
use Rattle.rml_equations.specs.Coding.{coded, packed, packed_at}

and-true : (a b : Bool) → a ≡ true → b ≡ true → (a && b) ≡ true
and-true a b p q = rw (p, q) refl

every-one : (b : Bool) → b ≡ true → every (b ∷ []) ≡ true
every-one b e = rw e refl

module _ (n : ℕ) where
  abbrev IsBelow : SchemeTree → Type 0
  IsBelow t = IsTrue (vars_below n t)

  abbrev AreBelow : List SchemeTree → Type 0
  AreBelow ts = IsTrue (every (map (vars_below n) ts))

  tuple-below : (us : List SchemeTree) → AreBelow us → IsBelow (tree.Tuple us)
  tuple-below us e = fold-Tuple Bool (below_at n) us ∙ e

  named-below : (c : ℕ) (us : List SchemeTree) → AreBelow us → IsBelow (tree.Named c us)
  named-below c us e = fold-Named Bool (below_at n) c us ∙ e

  rel-below : (us ws : List SchemeTree) → AreBelow us → AreBelow ws → IsBelow (tree.Rel us ws)
  rel-below us ws d e = fold-Rel Bool (below_at n) us ws ∙ and-true (every (map (vars_below n) us)) (every (map (vars_below n) ws)) d e

  -- what keeps the variables of each type keeps those of all
  all-below : (f : SchemeTree → SchemeTree) (us : List SchemeTree) → AllByRecursion (λ u. IsBelow (f u)) us → AreBelow (map f us)
  all-below f [] a = refl
  all-below f (u ∷ us) a = and-true (vars_below n (f u)) (every (map (vars_below n) (map f us))) a.0 (all-below f us a.1)

  carried-below : (f : SchemeTree → SchemeTree) (us : List SchemeTree) → AllByRecursion (λ u. IsBelow u → IsBelow (f u)) us → AreBelow us → AreBelow (map f us)
  carried-below f [] a h = refl
  carried-below f (u ∷ us) a h =
      let (p, q) = both (vars_below n u) (every (map (vars_below n) us)) h in
      and-true (vars_below n (f u)) (every (map (vars_below n) (map f us))) (a.0 p) (carried-below f us a.1 q)

  at-below : (ts : List SchemeTree) (k : ℕ) → AreBelow ts → IsBelow (get_or ts k unit)
  at-below [] k h = tuple-below [] refl
  at-below (t ∷ ts) zero h = (both (vars_below n t) (every (map (vars_below n) ts)) h).0
  at-below (t ∷ ts) (suc k) h = at-below ts k (both (vars_below n t) (every (map (vars_below n) ts)) h).1

  -- each variable is replaced, so no other is left
  inst-below : (ts : List SchemeTree) → AreBelow ts → (t : SchemeTree) → IsBelow (inst ts t)
  inst-below ts h = induct (λ t. IsBelow (inst ts t))
      (λ k. ap (vars_below n) (inst-Var ts k) ∙ at-below ts k h)
      (λ c us a. ap (vars_below n) (inst-Named ts c us) ∙ named-below c (map (inst ts) us) (all-below (inst ts) us a))
      (λ us a. ap (vars_below n) (inst-Tuple ts us) ∙ tuple-below (map (inst ts) us) (all-below (inst ts) us a))
      (λ us ws a b. ap (vars_below n) (inst-Rel ts us ws) ∙ rel-below (map (inst ts) us) (map (inst ts) ws) (all-below (inst ts) us a) (all-below (inst ts) ws b))

  packed-below : (t : SchemeTree) → IsBelow t → IsBelow (packed t)
  packed-below = induct (λ t. IsBelow t → IsBelow (packed t))
      (λ k h. ap (vars_below n) (fold-Var SchemeTree packed_at k) ∙ h)
      (λ c us a h. ap (vars_below n) (fold-Named SchemeTree packed_at c us) ∙ named-below c (map packed us) (carried-below packed us a (below-Named n c us h)))
      (λ us a h. ap (vars_below n) (fold-Tuple SchemeTree packed_at us) ∙ tuple-below (map packed us) (carried-below packed us a (below-Tuple n us h)))
      (λ us ws a b h. (
      let parts = below-Rel n us ws h in
      ap (vars_below n) (fold-Rel SchemeTree packed_at us ws)
      ∙ rel-below (tree.Tuple (map packed us) ∷ []) (tree.Tuple (map packed ws) ∷ [])
      (every-one (vars_below n (tree.Tuple (map packed us))) (tuple-below (map packed us) (carried-below packed us a parts.0)))
      (every-one (vars_below n (tree.Tuple (map packed ws))) (tuple-below (map packed ws) (carried-below packed ws b parts.1)))))

  pub coded-below : (c : Coding) (t : SchemeTree) → IsTrue (vars_below n t) → IsTrue (vars_below n (coded c t))
  coded-below Plain t h = h
  coded-below Packed t h = packed-below t h

  stands-below : (o : Option SchemeTree) (c : ℕ) (us : List SchemeTree) → AreBelow us → IsBelow (option_map_or (inst us) o (tree.Named c us))
  stands-below None c us h = named-below c us h
  stands-below (Some body) c us h = inst-below us h body

  pub written-below : (m : Meanings) (t : SchemeTree) → IsTrue (vars_below n t) → IsTrue (vars_below n (written m t))
  written-below m = induct (λ t. IsBelow t → IsBelow (written m t))
      (λ k h. ap (vars_below n) (fold-Var SchemeTree (written_at m) k) ∙ h)
      (λ c us a h. ap (vars_below n) (fold-Named SchemeTree (written_at m) c us) ∙ stands-below (m c) c (map (written m) us) (carried-below (written m) us a (below-Named n c us h)))
      (λ us a h. ap (vars_below n) (fold-Tuple SchemeTree (written_at m) us) ∙ tuple-below (map (written m) us) (carried-below (written m) us a (below-Tuple n us h)))
      (λ us ws a b h. (
      let parts = below-Rel n us ws h in
      ap (vars_below n) (fold-Rel SchemeTree (written_at m) us ws)
      ∙ rel-below (map (written m) us) (map (written m) ws) (carried-below (written m) us a parts.0) (carried-below (written m) ws b parts.1)))
