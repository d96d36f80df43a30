-- Nodes that are held to the types of a side, and the parts of a rule one after another.
use Rattle.std.proofs.Common.{◌≡◌, ℕ, ◌+◌, ◌<◌, ◌≤◌, List, [], ◌∷◌, ◌++◌, map, take, drop, length, get_or, None, Result, Ok, Err, refl, sym, ap, subst, ◌∙◌, arith}
use Rattle.std.specs.Prelude.{All, OnOk, Vec}
use Rattle.std.specs.declared.alloc.Global.{Global}
use Rattle.std.proofs.lemmas.List.{length-map, length-take-le, map-append}
use Rattle.std.proofs.lemmas.List.Elements.{All-head, All-nil}
use Rattle.rml_types.specs.declared.tree.SchemeTree.{SchemeTree, out-SchemeTree, out-roll-SchemeTree}
use Rattle.rml_types.specs.declared.tree.SchemeTree.TheOpen.{SchemeTree-F}
use Rattle.rml_types.specs.declared.tree.SchemeTree.TheVariants as tree
use Rattle.rml_types.specs.Finite.{HasTypes, CannotEquateTypes}
use Rattle.rml_types.specs.Nodes.{Nodes}
use Rattle.rml_equations.specs.declared.coding.Coding.{Coding}
use Rattle.rml_equations.specs.declared.stop.Stop.{Stop}
use Rattle.rml_equations.specs.declared.stop.Stop.TheVariants as stop
use Rattle.rml_equations.specs.Coding.{coded, decoded, parts_at}
use Rattle.rml_equations.specs.Joins.{Extends, Makes}
use Rattle.rml_equations.proofs.Callers.{Solution, coded-Tuple, decoded-Tuple, extends-on, map-agree, map-through, unfixed-same}
use Rattle.rml_generator.specs.declared.parts.Side.{Side}
use Rattle.rml_generator.specs.declared.parts.Side.TheVariants as side
use Rattle.rml_generator.specs.Adds.{Watched, IsWithin, Told, told_by, Adds, Finds, Bare, Equates, Equals, no_node, each_node}
use Rattle.rml_generator.specs.declared.scope.Scope.{Scope}
use Rattle.rml_generator.specs.Scopes.{GoesOn, Serves, watched}
use Rattle.rml_generator.specs.Sides.{CannotEquateEach, CannotTie, EqualsEach, EquatesEach, Gives, Tied, Ties, side_nodes}
use Rattle.rml_generator.proofs.Adding.{Holding, Left, err-is, memory-untyped, ok-untyped, found, left-part, tells-later, within-later}
use Rattle.rml_generator.proofs.Turning.{split-at, take-next, take-past}

-- ---- nodes made equal one by one

pub each-none : (g : Nodes) → g.failed ≡ None → EquatesEach g g [] []
each-none g live = record { live = live; forms = refl; types = λ types. (λ has. (has, refl), λ both. both.0) }

push-both : (ts us : List SchemeTree) (t u : SchemeTree) → ts ≡ us → t ≡ u → ts ++ t ∷ [] ≡ us ++ u ∷ []
push-both ts us t u e f = ap (λ l. l ++ t ∷ []) e ∙ ap (λ v. us ++ v ∷ []) f

-- lists that are equal up to a place, and one more
fronts : (ts us : List SchemeTree) (t u : SchemeTree) (vs ws : List SchemeTree) → length ts ≡ length us → ts ++ t ∷ vs ≡ us ++ u ∷ ws → (ts ≡ us) × (t ≡ u)
fronts [] [] t u vs ws n e = (refl, cc)
fronts [] (x ∷ us) t u vs ws n e = absurd (omega arith)
fronts (x ∷ ts) [] t u vs ws n e = absurd (omega arith)
fronts (x ∷ ts) (y ∷ us) t u vs ws n e =
    let heads : x ≡ y = cc in
    let tails : ts ++ t ∷ vs ≡ us ++ u ∷ ws = cc in
    let r = fronts ts us t u vs ws (omega arith) tails in
    (ap (λ z. z ∷ ts) heads ∙ ap (λ l. y ∷ l) r.0, r.1)

module _ (g : Nodes) (xs ys : List ℕ) where
  -- the nodes before a place are equal
  abbrev pub EqualTo : Nodes → ℕ → Type 0
  EqualTo h i = EquatesEach g h (take i xs) (take i ys)

  same-count : (types : Solution) (i : ℕ) → i < length xs → i < length ys → length (map types (take i xs)) ≡ length (map types (take i ys))
  same-count types i lx ly =
      length-map (take i xs) types ∙ length-take-le i xs (omega arith) ∙ sym (length-take-le i ys (omega arith)) ∙ sym (length-map (take i ys) types)

  module _ (h : Nodes) (i m n : ℕ) (lx : i < length xs) (ly : i < length ys) (is-m : m ≡ get_or xs i m) (is-n : n ≡ get_or ys i n) (e : EqualTo h i) where
    front-xs : (types : Solution) → map types (take (i + 1) xs) ≡ map types (take i xs) ++ types m ∷ []
    front-xs types = ap (map types) (take-next xs i m lx is-m) ∙ map-append types (take i xs) (m ∷ [])

    front-ys : (types : Solution) → map types (take (i + 1) ys) ≡ map types (take i ys) ++ types n ∷ []
    front-ys types = ap (map types) (take-next ys i n ly is-n) ∙ map-append types (take i ys) (n ∷ [])

    pub each-more : (k : Nodes) → Equates h k m n → EqualTo k (i + 1)
    each-more k q = record {
      live = q.live;
      forms = q.forms ∙ e.forms;
      types = λ types. (
        λ has. (
            let b = (q.types types).0 has in
            let a = (e.types types).0 b.0 in
            (a.0, front-xs types ∙ push-both (map types (take i xs)) (map types (take i ys)) (types m) (types n) a.1 b.1 ∙ sym (front-ys types))),
        λ both. (
            let f = fronts (map types (take i xs)) (map types (take i ys)) (types m) (types n) [] [] (same-count types i lx ly) (sym (front-xs types) ∙ both.1 ∙ front-ys types) in
            (q.types types).1 ((e.types types).1 (both.0, f.0), f.1)),
      );
    }

    pub each-refused : CannotEquateTypes h m n → CannotEquateEach g xs ys
    each-refused cannot types has all =
        let at-xs : map types xs ≡ map types (take i xs) ++ types m ∷ map types (drop (i + 1) xs) = ap (map types) (split-at xs i m lx is-m) ∙ map-append types (take i xs) (m ∷ drop (i + 1) xs) in
        let at-ys : map types ys ≡ map types (take i ys) ++ types n ∷ map types (drop (i + 1) ys) = ap (map types) (split-at ys i n ly is-n) ∙ map-append types (take i ys) (n ∷ drop (i + 1) ys) in
        let f = fronts (map types (take i xs)) (map types (take i ys)) (types m) (types n) _ _ (same-count types i lx ly) (sym at-xs ∙ all ∙ at-ys) in
        cannot types ((e.types types).1 (has, f.0)) f.1

-- as many nodes as types
pub counts-differ : (g : Nodes) (xs ys : List ℕ) → (length xs ≡ length ys → ⊥) → CannotEquateEach g xs ys
counts-differ g xs ys differ types has all = differ (sym (length-map xs types) ∙ ap length all ∙ length-map ys types)

module _ (g h : Nodes) (xs ys : List ℕ) where
  -- nodes that are not as many are not equal
  pub equals-each-none : (length xs ≡ length ys → ⊥) → EqualsEach g h xs ys (Err stop.Untyped)
  equals-each-none differ = record { ok = tt; none = λ q. counts-differ g xs ys differ }

  pub equals-each-left : (r : Result (Unit {0}) Stop) {e : Stop} → Left r e → (e ≡ stop.Untyped → CannotEquateEach g xs ys) → EqualsEach g h xs ys r
  equals-each-left r {e = e} l refused = subst (EqualsEach g h xs ys) (sym (l.1 ∙ ap Err l.2)) (record { ok = tt; none = λ q. refused (err-is (Err e) e refl q) })

  -- all were gone through
  pub equals-each : (i : ℕ) (u : Unit {0}) → length xs ≤ i → length xs ≡ length ys → EqualTo g xs ys h i → EqualsEach g h xs ys (Ok u)
  equals-each i u le same e = record {
    ok = record {
      live = e.live;
      forms = e.forms;
      types = λ types. (let t = e.types types in (λ has. (let b = t.0 has in (b.0, sym (all-xs types) ∙ b.1 ∙ all-ys types)), λ both. t.1 (both.0, all-xs types ∙ both.1 ∙ sym (all-ys types))));
    };
    none = λ q. absurd (ok-untyped (Ok u) u refl q);
  }
    where
      all-xs : (types : Solution) → map types (take i xs) ≡ map types xs
      all-xs types = ap (map types) (take-past xs i le)

      all-ys : (types : Solution) → map types (take i ys) ≡ map types ys
      all-ys types = ap (map types) (take-past ys i (omega arith))

-- ---- sides

pub each-ties : (c : Coding) (g h : Nodes) (xs ys : List ℕ) (held : Side) (nodes : Vec ℕ Global) → held ≡ side.Each nodes → nodes.items ≡ ys → EquatesEach g h xs ys → Ties c g h xs held
each-ties c g h xs ys held nodes is same e = subst (Ties c g h xs) (sym is) (record {
  live = e.live;
  unfixed = unfixed-same g h e.forms;
  count = (let f = ap length e.forms in omega arith);
  old = λ types has. ((e.types types).0 has).0;
  sound = λ types has. (
      ap (map (λ n. decoded c (types n))) same ∙ sym (map-through (decoded c) types ys) ∙ ap (map (decoded c)) (sym ((e.types types).0 has).1) ∙ map-through (decoded c) types xs);
  complete = λ types ts has at given. (types, record { has = (e.types types).1 (has, at ∙ sym given ∙ ap (map types) same); same = λ n lt. refl });
})

pub each-tied : (c : Coding) (g h : Nodes) (xs ys : List ℕ) (held : Side) (nodes : Vec ℕ Global) (r : Result Unit Stop) → held ≡ side.Each nodes → nodes.items ≡ ys → EqualsEach g h xs ys r → Tied c g h xs held r
each-tied c g h xs ys held nodes (Ok done) is same e = record { ok = each-ties c g h xs ys held nodes is same e.ok; none = λ q. absurd (ok-untyped (Ok done) done refl q) }
each-tied c g h xs ys held nodes (Err x) is same e = record {
  ok = tt;
  none = λ q. subst (CannotTie c g xs) (sym is) (λ types ts has at given. e.none q types has (at ∙ sym given ∙ ap (map types) same));
}

out-tuple : (us : List SchemeTree) → parts_at (out-SchemeTree (tree.Tuple us)) ≡ us
out-tuple us = ap parts_at (ap out-SchemeTree (sym (tree.rolls-Tuple us)) ∙ out-roll-SchemeTree (SchemeTree-F.Tuple us))

module _ (c : Coding) (g h i : Nodes) (xs : List ℕ) (m n : ℕ) (inside : All (λ k. k < length g.forms) xs) (below : n < length g.forms) (made : Makes g h (λ types. tree.Tuple (map types xs)) m) where
  begun : (types : Solution) (ts : List SchemeTree) → HasTypes g types → map types xs ≡ map (coded c) ts → types n ≡ coded c (tree.Tuple ts)
      → (later : Solution) × Extends g h types later × (later m ≡ later n)
  begun types ts has at given =
      let l = made.extends types has in (
        l.0,
        l.1,
        made.is l.0 l.1.has ∙ ap tree.Tuple (map-agree l.0 types (length g.forms) xs inside l.1.same ∙ at) ∙ sym (coded-Tuple c ts) ∙ sym given ∙ sym (l.1.same n below),
      )

  whole-ties : Equates h i m n → Ties c g i xs (side.Whole n)
  whole-ties e = record {
    live = e.live;
    unfixed = λ none. unfixed-same h i e.forms (made.unfixed none);
    count = (let f = ap length e.forms in let q = made.count in omega arith);
    old = λ types has. made.old types ((e.types types).0 has).0;
    sound = λ types has. (
        let both = (e.types types).0 has in
        ap (λ t. parts_at (out-SchemeTree (decoded c t))) (sym both.1 ∙ made.is types both.0) ∙ ap (λ t. parts_at (out-SchemeTree t)) (decoded-Tuple c (map types xs)) ∙ out-tuple (map (decoded c) (map types xs))
        ∙ map-through (decoded c) types xs);
    complete = λ types ts has at given. (let b = begun types ts has at given in (b.0, record { has = (e.types b.0).1 (b.1.has, b.2); same = b.1.same }));
  }

  pub whole-tied : (held : Side) (r : Result Unit Stop) → held ≡ side.Whole n → Equals h i m n r → Tied c g i xs held r
  whole-tied held (Ok done) is e = record { ok = subst (Ties c g i xs) (sym is) (whole-ties e.ok); none = λ q. absurd (ok-untyped (Ok done) done refl q) }
  whole-tied held (Err x) is e = record {
    ok = tt;
    none = λ q. subst (CannotTie c g xs) (sym is) (λ types ts has at given. (let b = begun types ts has at given in e.none q b.0 b.1.has b.2));
  }

-- a whole is a node, where the nodes of its side are
pub whole-below : (count : ℕ) (held : Side) (n : ℕ) → held ≡ side.Whole n → All (λ k. k < count) (side_nodes held) → n < count
whole-below count held n is a = All-head (λ k. k < count) n [] (subst (λ (x : Side). All (λ k. k < count) (side_nodes x)) is a)

pub each-below : (count : ℕ) (held : Side) (nodes : Vec ℕ Global) (ys : List ℕ) → held ≡ side.Each nodes → ys ≡ nodes.items → All (λ k. k < count) (side_nodes held) → All (λ k. k < count) ys
each-below count held nodes ys is same a = subst (All (λ k. k < count)) (sym same) (subst (λ (x : Side). All (λ k. k < count) (side_nodes x)) is a)

-- want of memory says nothing
pub tied-no-memory : (c : Coding) (g h : Nodes) (xs : List ℕ) (held : Side) (r : Result Unit Stop) → Left r stop.Memory → Tied c g h xs held r
tied-no-memory c g h xs held r l = subst (Tied c g h xs held) (sym (l.1 ∙ ap Err l.2)) (record { ok = tt; none = λ q. absurd (memory-untyped stop.Memory refl (err-is (Err stop.Memory) stop.Memory refl q)) })

-- ---- parts that are held

module _ (c : Coding) (w : Watched) (g h i : Nodes) (P : Holding) (xs : List ℕ) (held : Side) (k : Told → List SchemeTree) (inside : IsWithin c w g) (gives : Gives c w g held k) (a : Adds c w g h P xs) where
  abbrev pub HeldTo : Told → Type 0
  HeldTo told = P told (k told)

  adds-held : Ties c h i xs held → Adds c w g i (Bare HeldTo) []
  adds-held ties = record {
    live = ties.live;
    unfixed = λ none. ties.unfixed (a.unfixed none);
    count = (let p = a.count in let q = ties.count in omega arith);
    within = All-nil (λ n. n < length i.forms);
    old = λ types has. a.old types (ties.old types has);
    sound = λ types has. (
        let in-h = ties.old types has in
        (refl, subst (P (told_by c w types)) (sym (gives.sound types (a.old types in-h) ∙ ties.sound types has)) (a.sound types in-h)));
    complete = λ types told ts has tells u. (
        let one = a.complete types told (k told) has tells u.1 in
        let later = tells-later c w g h types one.0 told inside tells one.1 in
        let two = ties.complete one.0 (k told) one.1.has one.2 (gives.complete one.0 told (a.old one.0 one.1.has) later) in
        (two.0, extends-on g h i types one.0 two.0 a.count one.1 two.1, ap (map (coded c)) (sym u.0)));
  }

  pub held-found : (r : Result Unit Stop) → Tied c h i xs held r → Finds no_node c w g i (Bare HeldTo) r
  held-found (Ok done) t = found c w no_node g i (Bare HeldTo) done (adds-held t.ok)
  held-found (Err e) t = record {
    ok = tt;
    none = λ q types told ts has tells u. (
        let one = a.complete types told (k told) has tells u.1 in
        let later = tells-later c w g h types one.0 told inside tells one.1 in
        t.none q one.0 (k told) one.1.has one.2 (gives.complete one.0 told (a.old one.0 one.1.has) later));
  }

-- and the graph serves as well
pub goes-held : (s : Scope) (g h i : Nodes) (P : Holding) (xs : List ℕ) (held : Side) → Serves s g → Adds s.coding (watched s) g h P xs → (r : Result (Unit {0}) Stop) → Tied s.coding h i xs held r → OnOk r (GoesOn s g i)
goes-held s g h i P xs held serves a (Err e) t = tt
goes-held s g h i P xs held serves a (Ok done) t = record {
  serves = record {
    live = t.ok.live;
    within = within-later s.coding (watched s) g i (let p = a.count in let q = t.ok.count in omega arith) (λ types has. a.old types (t.ok.old types has)) serves.within;
  };
  count = (let p = a.count in let q = t.ok.count in omega arith);
  old = λ types has. a.old types (t.ok.old types has);
}

-- what stops at the parts stops there
pub held-left : (c : Coding) (w : Watched) (g h j : Nodes) (P : Holding) (k : Told → List SchemeTree) (r : Result (Unit {0}) Stop) {e : Stop} → Left r e → Finds each_node c w g h P (Err e)
    → Finds no_node c w g j (Bare (λ told. P told (k told))) r
held-left c w g h j P k r l f = left-part c w each_node no_node g h j P (Bare (λ told. P told (k told))) r l (λ told ts u. (k told, u.1)) f

-- what is given of a graph is given of later ones
pub gives-later : (c : Coding) (w : Watched) (g h : Nodes) (held : Side) (k : Told → List SchemeTree) → ((types : Solution) → HasTypes h types → HasTypes g types) → Gives c w g held k → Gives c w h held k
gives-later c w g h held k old gives = record { sound = λ types has. gives.sound types (old types has); complete = λ types told has tells. gives.complete types told (old types has) tells }
