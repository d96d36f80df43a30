-- Parts one after another, in a loop: each of some things with its type, or each of some facts.
use Rattle.std.proofs.Common.{◌≡◌, ℕ, zero, suc, ◌+◌, ◌<◌, ◌≤◌, List, [], ◌∷◌, ◌++◌, take, drop, length, get_or, None, Result, Ok, Err, refl, sym, ap, append_assoc, subst, ◌∙◌, arith}
use Rattle.std.specs.Prelude.{Vec}
use Rattle.std.specs.declared.alloc.Global.{Global}
use Rattle.std.specs.List.{AllZip}
use Rattle.std.proofs.lemmas.List.{take-append-drop, take_more}
use Rattle.rml_types.specs.declared.tree.SchemeTree.{SchemeTree}
use Rattle.rml_types.specs.Nodes.{Nodes}
use Rattle.rml_equations.specs.declared.coding.Coding.{Coding}
use Rattle.rml_equations.specs.declared.stop.Stop.{Stop}
use Rattle.rml_generator.specs.Adds.{Watched, IsWithin, Told, Adds, Finds, Alone, AndThen, one_node, each_node}
use Rattle.rml_generator.proofs.Adding.{Holding, Left, adds-like, adds-next, adds-nothing, found, left-later}

pub take-next : {X : Type 0} (xs : List X) (i : ℕ) (x : X) → i < length xs → x ≡ get_or xs i x → take (i + 1) xs ≡ take i xs ++ x ∷ []
take-next xs i x lt is = take_more xs i x lt ∙ ap (λ z. take i xs ++ z ∷ []) (sym is)

pub split-at : {X : Type 0} (xs : List X) (i : ℕ) (x : X) → i < length xs → x ≡ get_or xs i x → xs ≡ take i xs ++ x ∷ drop (i + 1) xs
split-at xs i x lt is = sym (take-append-drop (i + 1) xs) ∙ ap (λ l. l ++ drop (i + 1) xs) (take-next xs i x lt is) ∙ append_assoc (take i xs) (x ∷ []) (drop (i + 1) xs)

pub take-past : {X : Type 0} (xs : List X) (i : ℕ) → length xs ≤ i → take i xs ≡ xs
take-past [] zero le = refl
take-past [] (suc i) le = refl
take-past (x ∷ xs) zero le = absurd (omega arith)
take-past (x ∷ xs) (suc i) le = ap (λ l. x ∷ l) (take-past xs i (omega arith))

module _ {X : Type 0} (R : X → SchemeTree → Type 0) where
  zip-nil : (ts : List SchemeTree) → AllZip R [] ts → ts ≡ []
  zip-nil [] z = refl
  zip-nil (t ∷ ts) z = absurd z

  zip-push : (ps : List X) (p : X) (ts : List SchemeTree) (t : SchemeTree) → AllZip R ps ts → R p t → AllZip R (ps ++ p ∷ []) (ts ++ t ∷ [])
  zip-push [] p [] t z r = (r, tt)
  zip-push [] p (u ∷ ts) t z r = absurd z
  zip-push (q ∷ ps) p [] t z r = absurd z
  zip-push (q ∷ ps) p (u ∷ ts) t z r = (z.0, zip-push ps p ts t z.1 r)

  zip-last : (ps : List X) (p : X) (us : List SchemeTree) → AllZip R (ps ++ p ∷ []) us → (ts : List SchemeTree) × (t : SchemeTree) × (us ≡ ts ++ t ∷ []) × AllZip R ps ts × R p t
  zip-last [] p [] z = absurd z
  zip-last [] p (u ∷ []) z = ([], u, refl, tt, z.0)
  zip-last [] p (u ∷ v ∷ us) z = absurd z.1
  zip-last (q ∷ ps) p [] z = absurd z
  zip-last (q ∷ ps) p (u ∷ us) z = let r = zip-last ps p us z.1 in (u ∷ r.0, r.1, ap (λ l. u ∷ l) r.2, (z.0, r.3), r.4)

  zip-parts : (ps : List X) (p : X) (qs : List X) (us : List SchemeTree) → AllZip R (ps ++ p ∷ qs) us → ((ts : List SchemeTree) × AllZip R ps ts) × ((t : SchemeTree) × R p t)
  zip-parts [] p qs [] z = absurd z
  zip-parts [] p qs (u ∷ us) z = (([], tt), (u, z.0))
  zip-parts (x ∷ ps) p qs [] z = absurd z
  zip-parts (x ∷ ps) p qs (u ∷ us) z = let r = zip-parts ps p qs us z.1 in ((u ∷ r.0.0, (z.0, r.0.1)), r.1)

module _ (c : Coding) (w : Watched) {X : Type 0} (R : Told → X → SchemeTree → Type 0) (xs : List X) where
  -- each of the first things with its type
  abbrev pub EachOf : ℕ → Holding
  EachOf i told ts = AllZip (R told) (take i xs) ts

  pub each-none : (g : Nodes) (ns : List ℕ) → g.failed ≡ None → ns ≡ [] → Adds c w g g (EachOf 0) ns
  each-none g ns live is =
      subst (Adds c w g g (EachOf 0)) (sym is)
      (adds-like c w g g (λ told ts. ts ≡ []) (EachOf 0) [] (λ told ts e. subst (AllZip (R told) []) (sym e) tt) (λ told ts z. zip-nil (R told) ts z) (adds-nothing c w g live))

  pub each-more : (g h k : Nodes) (i : ℕ) (x : X) (ns ms : List ℕ) (n : ℕ) → i < length xs → x ≡ get_or xs i x → ms ≡ ns ++ n ∷ [] → IsWithin c w g → Adds c w g h (EachOf i) ns
      → Adds c w h k (Alone (λ told t. R told x t)) (n ∷ []) → Adds c w g k (EachOf (i + 1)) ms
  each-more g h k i x ns ms n lt is pushed inside a b =
      subst (Adds c w g k (EachOf (i + 1))) (sym pushed)
      (adds-like c w g k (AndThen (EachOf i) (λ told t. R told x t)) (EachOf (i + 1)) (ns ++ n ∷ [])
      (λ told us u. subst (λ l. AllZip (R told) l us) (sym (take-next xs i x lt is)) (subst (AllZip (R told) (take i xs ++ x ∷ [])) (sym u.2) (zip-push (R told) (take i xs) x u.0 u.1 u.3 u.4)))
      (λ told us z. zip-last (R told) (take i xs) x us (subst (λ l. AllZip (R told) l us) (take-next xs i x lt is) z))
      (adds-next c w g h k (EachOf i) (λ told t. R told x t) ns n inside a b))

  pub each-left : (g h k j : Nodes) (i : ℕ) (x : X) (ns : List ℕ) (P : Holding) (r : Result (Vec ℕ Global) Stop) {e : Stop} → Left r e → i < length xs → x ≡ get_or xs i x → IsWithin c w g
      → ((told : Told) (ts : List SchemeTree) → P told ts → AllZip (R told) xs ts)
      → Adds c w g h (EachOf i) ns → Finds one_node c w h k (Alone (λ told t. R told x t)) (Err e) → Finds each_node c w g j P r
  each-left g h k j i x ns P r {e = e} l lt is inside there a f =
      left-later c w one_node each_node g h k j (EachOf i) (Alone (λ told t. R told x t)) P ns r l
      (λ told us u. (let z = zip-parts (R told) (take i xs) x (drop (i + 1) xs) us (subst (λ v. AllZip (R told) v us) (split-at xs i x lt is) (there told us u)) in (z.0, (z.1.0 ∷ [], z.1.1))))
      inside a f

  -- all were gone through
  pub each-found : (g h : Nodes) (i : ℕ) (nodes : Vec ℕ Global) (P : Holding) → length xs ≤ i → ((told : Told) (ts : List SchemeTree) → AllZip (R told) xs ts → P told ts)
      → ((told : Told) (ts : List SchemeTree) → P told ts → AllZip (R told) xs ts) → Adds c w g h (EachOf i) nodes.items → Finds each_node c w g h P (Ok nodes)
  each-found g h i nodes P le there back a =
      found c w each_node g h P nodes
      (adds-like c w g h (EachOf i) P nodes.items (λ told ts z. there told ts (subst (λ l. AllZip (R told) l ts) (take-past xs i le) z))
      (λ told ts u. subst (λ l. AllZip (R told) l ts) (sym (take-past xs i le)) (back told ts u)) a)
