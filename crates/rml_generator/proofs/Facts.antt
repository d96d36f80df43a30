-- What is found for facts of parts, of which no node is told: two parts of one type, one fact after another, facts in a loop.
use Rattle.std.proofs.Common.{◌≡◌, ℕ, ◌+◌, ◌<◌, ◌≤◌, List, [], ◌∷◌, ◌++◌, map, take, drop, length, get_or, None, Result, Ok, Err, refl, sym, ap, subst, ◌∙◌, arith}
use Rattle.std.specs.List.{AllByRecursion}
use Rattle.std.proofs.lemmas.List.Elements.{All-nil}
use Rattle.rml_types.specs.declared.tree.SchemeTree.{SchemeTree}
use Rattle.rml_types.specs.declared.tree.SchemeTree.TheVariants as tree
use Rattle.rml_types.specs.Finite.{HasTypes}
use Rattle.rml_types.specs.Nodes.{Nodes}
use Rattle.rml_equations.specs.declared.coding.Coding.{Coding}
use Rattle.rml_equations.specs.declared.stop.Stop.{Stop}
use Rattle.rml_equations.specs.Coding.{coded, decoded, relation_as}
use Rattle.rml_equations.specs.Joins.{Extends, Makes}
use Rattle.rml_equations.proofs.Callers.{Solution, coded-Rel, decoded-Rel, extends-on, map-agree, map-through}
use Rattle.rml_generator.specs.Adds.{Watched, IsWithin, Told, Tells, Adds, Finds, Alone, Bare, Equals, one_node, no_node, each_node}
use Rattle.rml_generator.proofs.Adding.{Holding, Left, adds-like, adds-nothing, adds-same, adds-untold, alone-within, found, left-later, left-part, refutes-same, tells-later}
use Rattle.rml_generator.proofs.Turning.{split-at, take-next, take-past}

both-sides : (us vs ws xs : List SchemeTree) → us ≡ vs → ws ≡ xs → tree.Rel us ws ≡ tree.Rel vs xs
both-sides us vs ws xs e f = ap (λ z. tree.Rel z ws) e ∙ ap (tree.Rel vs) f

module _ (c : Coding) (w : Watched) where
  -- ---- two parts of one type

  -- there is a type of which both are
  abbrev pub OneType : (Told → SchemeTree → Type 0) → (Told → SchemeTree → Type 0) → Told → Type 0
  OneType P Q told = (t : SchemeTree) × P told t × Q told t

  pub same-found : (g h i j : Nodes) (P Q : Told → SchemeTree → Type 0) (m n : ℕ) (r : Result Unit Stop) → IsWithin c w g → Adds c w g h (Alone P) (m ∷ []) → Adds c w h i (Alone Q) (n ∷ []) → Equals i j m n r
      → Finds no_node c w g j (Bare (OneType P Q)) r
  same-found g h i j P Q m n (Ok done) inside a b e =
      found c w no_node g j (Bare (OneType P Q)) done
      (adds-like c w g j (Bare (λ told. (t : SchemeTree) × (P told t × Q told t))) (Bare (OneType P Q)) [] (λ told ts u. (u.0, (u.1.0, u.1.1.0, u.1.1.1))) (λ told ts u. (u.0, (u.1.0, (u.1.1, u.1.2))))
      (adds-untold c w g j (λ told t. P told t × Q told t) m (adds-same c w g h i j P Q m n inside a b e.ok)))
  same-found g h i j P Q m n (Err x) inside a b e = record {
    ok = tt;
    none = λ q types told ts has tells u. refutes-same c w g h i P Q m n inside a b (e.none q) types told (u.1.0 ∷ []) has tells (u.1.1, u.1.2);
  }

  pub same-left : (g h j : Nodes) (P Q : Told → SchemeTree → Type 0) (r : Result Unit Stop) {e : Stop} → Left r e → Finds one_node c w g h (Alone P) (Err e) → Finds no_node c w g j (Bare (OneType P Q)) r
  same-left g h j P Q r l f = left-part c w one_node no_node g h j (Alone P) (Bare (OneType P Q)) r l (λ told ts u. (u.1.0 ∷ [], u.1.1)) f

  pub same-left-later : (g h i j : Nodes) (P Q : Told → SchemeTree → Type 0) (m : ℕ) (r : Result Unit Stop) {e : Stop} → Left r e → IsWithin c w g → Adds c w g h (Alone P) (m ∷ [])
      → Finds one_node c w h i (Alone Q) (Err e) → Finds no_node c w g j (Bare (OneType P Q)) r
  same-left-later g h i j P Q m r l inside a f =
      left-later c w one_node no_node g h i j (Alone P) (Alone Q) (Bare (OneType P Q)) (m ∷ []) r l (λ told ts u. ((u.1.0 ∷ [], u.1.1), (u.1.0 ∷ [], u.1.2))) inside a f

  -- ---- a relation type of the types of parts

  abbrev pub RelationOf : Holding → Holding → Told → SchemeTree → Type 0
  RelationOf P Q told t = (us : List SchemeTree) × (ws : List SchemeTree) × P told us × Q told ws × (t ≡ tree.Rel us ws)

  pub adds-relation : (g h i j : Nodes) (P Q : Holding) (xs ys : List ℕ) (n : ℕ) → IsWithin c w g → Adds c w g h P xs → Adds c w h i Q ys
      → Makes i j (λ types. relation_as c (map types xs) (map types ys)) n → Adds c w g j (Alone (RelationOf P Q)) (n ∷ [])
  adds-relation g h i j P Q xs ys n inside a b m = record {
    live = m.live;
    unfixed = λ none. m.unfixed (b.unfixed (a.unfixed none));
    count = (let p = a.count in let q = b.count in let l = m.count in omega arith);
    within = alone-within (length j.forms) n m.within;
    old = λ types has. a.old types (b.old types (m.old types has));
    sound = λ types has. (
      map (λ k. decoded c (types k)) xs,
      map (λ k. decoded c (types k)) ys,
      a.sound types (b.old types (m.old types has)),
      b.sound types (m.old types has),
      ap (decoded c) (m.is types has) ∙ decoded-Rel c (map types xs) (map types ys) ∙ both-sides _ _ _ _ (map-through (decoded c) types xs) (map-through (decoded c) types ys),
    );
    complete = complete;
  }
    where
      complete : (types : Solution) (told : Told) (ts : List SchemeTree) → HasTypes g types → Tells c w types told → Alone (RelationOf P Q) told ts
          → (later : Solution) × Extends g j types later × (map later (n ∷ []) ≡ map (coded c) ts)
      complete types told [] has tells u = absurd u
      complete types told (t ∷ []) has tells u =
          let one = a.complete types told u.0 has tells u.2 in
          let two = b.complete one.0 told u.1 one.1.has (tells-later c w g h types one.0 told inside tells one.1) u.3 in
          let three = m.extends two.0 two.1.has in
          let xs-are : map three.0 xs ≡ map (coded c) u.0 =
          map-agree three.0 one.0 (length h.forms) xs a.within (λ k lt. three.1.same k (let q = b.count in omega arith) ∙ two.1.same k lt) ∙ one.2 in
          let ys-are : map three.0 ys ≡ map (coded c) u.1 = map-agree three.0 two.0 (length i.forms) ys b.within three.1.same ∙ two.2 in
          let n-is : three.0 n ≡ coded c t =
          m.is three.0 three.1.has ∙ ap (λ l. relation_as c l (map three.0 ys)) xs-are ∙ ap (relation_as c (map (coded c) u.0)) ys-are ∙ sym (coded-Rel c u.0 u.1) ∙ sym (ap (coded c) u.4) in
          (three.0, extends-on g h j types one.0 three.0 a.count one.1 (extends-on h i j one.0 two.0 three.0 b.count two.1 three.1), ap (λ v. v ∷ []) n-is)
      complete types told (t ∷ v ∷ ts) has tells u = absurd u

  relation-parts : (P Q : Holding) (told : Told) (ts : List SchemeTree) → Alone (RelationOf P Q) told ts → ((us : List SchemeTree) × P told us) × ((ws : List SchemeTree) × Q told ws)
  relation-parts P Q told [] u = absurd u
  relation-parts P Q told (t ∷ []) u = ((u.0, u.2), (u.1, u.3))
  relation-parts P Q told (t ∷ v ∷ ts) u = absurd u

  pub relation-left : (g h j : Nodes) (P Q : Holding) (r : Result ℕ Stop) {e : Stop} → Left r e → Finds each_node c w g h P (Err e) → Finds one_node c w g j (Alone (RelationOf P Q)) r
  relation-left g h j P Q r l f = left-part c w each_node one_node g h j P (Alone (RelationOf P Q)) r l (λ told ts u. (relation-parts P Q told ts u).0) f

  pub relation-left-later : (g h i j : Nodes) (P Q : Holding) (xs : List ℕ) (r : Result ℕ Stop) {e : Stop} → Left r e → IsWithin c w g → Adds c w g h P xs → Finds each_node c w h i Q (Err e)
      → Finds one_node c w g j (Alone (RelationOf P Q)) r
  relation-left-later g h i j P Q xs r l inside a f = left-later c w each_node one_node g h i j P Q (Alone (RelationOf P Q)) xs r l (relation-parts P Q) inside a f

  -- ---- one fact after another

  abbrev pub Both : (Told → Type 0) → (Told → Type 0) → Told → Type 0
  Both P Q told = P told × Q told

  pub adds-both : (g h i : Nodes) (P Q : Told → Type 0) → IsWithin c w g → Adds c w g h (Bare P) [] → Adds c w h i (Bare Q) [] → Adds c w g i (Bare (Both P Q)) []
  adds-both g h i P Q inside a b = record {
    live = b.live;
    unfixed = λ none. b.unfixed (a.unfixed none);
    count = (let p = a.count in let q = b.count in omega arith);
    within = All-nil (λ k. k < length i.forms);
    old = λ types has. a.old types (b.old types has);
    sound = λ types has. (refl, ((a.sound types (b.old types has)).1, (b.sound types has).1));
    complete = λ types told ts has tells u. (
        let one = a.complete types told [] has tells (refl, u.1.0) in
        let two = b.complete one.0 told [] one.1.has (tells-later c w g h types one.0 told inside tells one.1) (refl, u.1.1) in
        (two.0, extends-on g h i types one.0 two.0 a.count one.1 two.1, ap (map (coded c)) (sym u.0)));
  }

  -- what holds of all types
  pub found-always : (g : Nodes) (P : Told → Type 0) (u : Unit {0}) → g.failed ≡ None → ((told : Told) → P told) → Finds no_node c w g g (Bare P) (Ok u)
  found-always g P u live holds = found c w no_node g g (Bare P) u (adds-like c w g g (λ told ts. ts ≡ []) (Bare P) [] (λ told ts e. (e, holds told)) (λ told ts b. b.0) (adds-nothing c w g live))

  -- a fact after another was found, or not
  pub both-found : (g h i : Nodes) (P Q : Told → Type 0) (r : Result Unit Stop) → IsWithin c w g → Adds c w g h (Bare P) [] → Finds no_node c w h i (Bare Q) r → Finds no_node c w g i (Bare (Both P Q)) r
  both-found g h i P Q (Ok done) inside a f = found c w no_node g i (Bare (Both P Q)) done (adds-both g h i P Q inside a f.ok)
  both-found g h i P Q (Err e) inside a f = record {
    ok = tt;
    none = λ q types told ts has tells u. (
        let one = a.complete types told [] has tells (refl, u.1.0) in
        f.none q one.0 told [] one.1.has (tells-later c w g h types one.0 told inside tells one.1) (refl, u.1.1));
  }

  pub fact-left : (g h j : Nodes) (P R : Told → Type 0) (r : Result Unit Stop) {e : Stop} → Left r e → ((told : Told) → R told → P told) → Finds no_node c w g h (Bare P) (Err e) → Finds no_node c w g j (Bare R) r
  fact-left g h j P R r l part f = left-part c w no_node no_node g h j (Bare P) (Bare R) r l (λ told ts u. ([], (refl, part told u.1))) f

  -- ---- facts in a loop

  module _ {X : Type 0} (R : Told → X → Type 0) (xs : List X) where
    abbrev pub FactsOf : ℕ → Told → Type 0
    FactsOf i told = AllByRecursion (R told) (take i xs)

    all-push : (told : Told) (ps : List X) (p : X) → AllByRecursion (R told) ps → R told p → AllByRecursion (R told) (ps ++ p ∷ [])
    all-push told [] p a r = (r, tt)
    all-push told (q ∷ ps) p a r = (a.0, all-push told ps p a.1 r)

    all-parts : (told : Told) (ps : List X) (p : X) (qs : List X) → AllByRecursion (R told) (ps ++ p ∷ qs) → AllByRecursion (R told) ps × R told p
    all-parts told [] p qs a = (tt, a.0)
    all-parts told (q ∷ ps) p qs a = let r = all-parts told ps p qs a.1 in ((a.0, r.0), r.1)

    pub facts-none : (g : Nodes) → g.failed ≡ None → Adds c w g g (Bare (FactsOf 0)) []
    facts-none g live = adds-like c w g g (λ told ts. ts ≡ []) (Bare (FactsOf 0)) [] (λ told ts e. (e, tt)) (λ told ts b. b.0) (adds-nothing c w g live)

    pub facts-more : (g h k : Nodes) (i : ℕ) (x : X) → i < length xs → x ≡ get_or xs i x → IsWithin c w g → Adds c w g h (Bare (FactsOf i)) [] → Adds c w h k (Bare (λ told. R told x)) []
        → Adds c w g k (Bare (FactsOf (i + 1))) []
    facts-more g h k i x lt is inside a b =
        adds-like c w g k (Bare (Both (FactsOf i) (λ told. R told x))) (Bare (FactsOf (i + 1))) []
        (λ told ts u. (u.0, subst (AllByRecursion (R told)) (sym (take-next xs i x lt is)) (all-push told (take i xs) x u.1.0 u.1.1)))
        (λ told ts u. (u.0, all-parts told (take i xs) x [] (subst (AllByRecursion (R told)) (take-next xs i x lt is) u.1)))
        (adds-both g h k (FactsOf i) (λ told. R told x) inside a b)

    pub facts-left : (g h k j : Nodes) (i : ℕ) (x : X) (P : Told → Type 0) (r : Result Unit Stop) {e : Stop} → Left r e → i < length xs → x ≡ get_or xs i x → IsWithin c w g
        → ((told : Told) → P told → AllByRecursion (R told) xs) → Adds c w g h (Bare (FactsOf i)) [] → Finds no_node c w h k (Bare (λ told. R told x)) (Err e) → Finds no_node c w g j (Bare P) r
    facts-left g h k j i x P r l lt is inside there a f =
        left-later c w no_node no_node g h k j (Bare (FactsOf i)) (Bare (λ told. R told x)) (Bare P) [] r l
        (λ told us u. (let z = all-parts told (take i xs) x (drop (i + 1) xs) (subst (AllByRecursion (R told)) (split-at xs i x lt is) (there told u.1)) in (([], (refl, z.0)), ([], (refl, z.1)))))
        inside a f

    -- all were gone through
    pub facts-found : (g h : Nodes) (i : ℕ) (P : Told → Type 0) (u : Unit {0}) → length xs ≤ i → ((told : Told) → AllByRecursion (R told) xs → P told) → ((told : Told) → P told → AllByRecursion (R told) xs)
        → Adds c w g h (Bare (FactsOf i)) [] → Finds no_node c w g h (Bare P) (Ok u)
    facts-found g h i P u le there back a =
        found c w no_node g h (Bare P) u
        (adds-like c w g h (Bare (FactsOf i)) (Bare P) [] (λ told ts z. (z.0, there told (subst (AllByRecursion (R told)) (take-past xs i le) z.1)))
        (λ told ts z. (z.0, subst (AllByRecursion (R told)) (sym (take-past xs i le)) (back told z.1))) a)
