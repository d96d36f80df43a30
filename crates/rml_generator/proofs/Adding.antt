-- How equations of parts add up: nothing, one part after another, a node over those of parts; and what is refuted.
use Rattle.std.proofs.Common.{◌≡◌, ℕ, ◌<◌, ◌≤◌, List, [], ◌∷◌, ◌++◌, map, length, None, Result, Ok, Err, refl, sym, ap, subst, ◌∙◌, arith}
use Rattle.std.specs.Prelude.{All}
use Rattle.std.proofs.lemmas.List.{map-append}
use Rattle.std.proofs.lemmas.List.Elements.{All-head, All-nil, All-cons, All-push, All-weaker}
use Rattle.rml_types.specs.declared.tree.SchemeTree.{SchemeTree}
use Rattle.rml_types.specs.Finite.{HasTypes, CannotEquateTypes}
use Rattle.rml_types.specs.Nodes.{Nodes}
use Rattle.rml_equations.specs.declared.coding.Coding.{Coding}
use Rattle.rml_equations.specs.declared.stop.Stop.{Stop}
use Rattle.rml_equations.specs.declared.stop.Stop.TheVariants as stop
use Rattle.rml_equations.specs.Coding.{coded, decoded}
use Rattle.rml_equations.specs.Joins.{Extends, Joins, Prevents, Links}
use Rattle.rml_equations.proofs.Callers.{Solution, extends-on, map-agree, unfixed-same}
use Rattle.rml_generator.specs.Adds.{Watched, IsWithin, Told, told_by, Tells, Adds, Refutes, Finds, Alone, AndThen, Bare, Equates, Joined, one_node, no_node, each_node}

abbrev pub Holding : Type 1
Holding = Told → List SchemeTree → Type 0

first : (t u : SchemeTree) → t ∷ [] ≡ u ∷ [] → t ≡ u
first t u e = cc

-- ---- answers

pub ok-untyped : {X : Type 0} (r : Result X Stop) (x : X) → r ≡ Ok x → r ≡ Err stop.Untyped → ⊥
ok-untyped r x e q = cc

pub err-is : {X : Type 0} (r : Result X Stop) (e : Stop) → r ≡ Err e → r ≡ Err stop.Untyped → e ≡ stop.Untyped
err-is r e is q = cc

pub memory-untyped : (e : Stop) → e ≡ stop.Memory → e ≡ stop.Untyped → ⊥
memory-untyped e is q = cc

-- an answer that hands on an error
abbrev pub Left : {X : Type 0} → Result X Stop → Stop → Type 0
Left r e = (new : Stop) × (r ≡ Err new) × (new ≡ e)

pub alone-within : (count n : ℕ) → n < count → All (λ m. m < count) (n ∷ [])
alone-within count n lt = All-cons (λ m. m < count) n [] lt (All-nil (λ m. m < count))

module _ (c : Coding) (w : Watched) where
  -- what is told stays so where finite types are extended
  pub tells-later : (g h : Nodes) (types later : Solution) (told : Told) → IsWithin c w g → Tells c w types told → Extends g h types later → Tells c w later told
  tells-later g h types later told within tells extends = record {
    vars = λ x n e. extends.same n (within.vars x n e) ∙ tells.vars x n e;
    past = tells.past;
    group = λ r n e. extends.same n (within.group r n e) ∙ tells.group r n e;
  }

  pub within-later : (g h : Nodes) → length g.forms ≤ length h.forms → ((types : Solution) → HasTypes h types → HasTypes g types) → IsWithin c w g → IsWithin c w h
  within-later g h le old inside = record { vars = λ x n e. (let l = inside.vars x n e in omega arith); group = λ r n e. (let l = inside.group r n e in omega arith); relations = λ r n e types has. inside.relations r n e types (old types has) }

  -- no part, no equation
  pub adds-nothing : (g : Nodes) → g.failed ≡ None → Adds c w g g (λ told ts. ts ≡ []) []
  adds-nothing g live = record {
    live = live;
    unfixed = λ none. none;
    count = omega arith;
    within = All-nil (λ n. n < length g.forms);
    old = λ types has. has;
    sound = λ types has. refl;
    complete = λ types told ts has tells is. (types, record { has = has; same = λ n lt. refl }, sym (ap (map (coded c)) is));
  }

  -- the same said otherwise
  pub adds-like : (g h : Nodes) (P Q : Holding) (xs : List ℕ) → ((told : Told) (ts : List SchemeTree) → P told ts → Q told ts)
      → ((told : Told) (ts : List SchemeTree) → Q told ts → P told ts) → Adds c w g h P xs → Adds c w g h Q xs
  adds-like g h P Q xs there back a = record {
    live = a.live;
    unfixed = a.unfixed;
    count = a.count;
    within = a.within;
    old = a.old;
    sound = λ types has. there _ _ (a.sound types has);
    complete = λ types told ts has tells q. a.complete types told ts has tells (back told ts q);
  }

  -- some parts, and one more
  pub adds-next : (g h i : Nodes) (P : Holding) (Q : Told → SchemeTree → Type 0) (xs : List ℕ) (x : ℕ) → IsWithin c w g
      → Adds c w g h P xs → Adds c w h i (Alone Q) (x ∷ []) → Adds c w g i (AndThen P Q) (xs ++ x ∷ [])
  adds-next g h i P Q xs x inside a b = record {
    live = b.live;
    unfixed = λ none. b.unfixed (a.unfixed none);
    count = (let p = a.count in let q = b.count in omega arith);
    within = All-push (λ n. n < length i.forms) xs x (All-weaker (λ n. n < length h.forms) (λ n. n < length i.forms) (λ n lt. (let q = b.count in omega arith)) xs a.within)
        (All-head (λ n. n < length i.forms) x [] b.within);
    old = λ types has. a.old types (b.old types has);
    sound = λ types has. (
      map (λ n. decoded c (types n)) xs,
      decoded c (types x),
      map-append (λ n. decoded c (types n)) xs (x ∷ []),
      a.sound types (b.old types has),
      b.sound types has,
    );
    complete = complete;
  }
    where
      complete : (types : Solution) (told : Told) (us : List SchemeTree) → HasTypes g types → Tells c w types told → AndThen P Q told us
          → (later : Solution) × Extends g i types later × (map later (xs ++ x ∷ []) ≡ map (coded c) us)
      complete types told us has tells h4 =
          let one = a.complete types told h4.0 has tells h4.3 in
          let two = b.complete one.0 told (h4.1 ∷ []) one.1.has (tells-later g h types one.0 told inside tells one.1) h4.4 in (
            two.0,
            extends-on g h i types one.0 two.0 a.count one.1 two.1,
            map-append two.0 xs (x ∷ [])
                ∙ ap (λ l. l ++ two.0 x ∷ []) (map-agree two.0 one.0 (length h.forms) xs a.within two.1.same ∙ one.2)
                ∙ ap (λ l. map (coded c) h4.0 ++ l) two.2
                ∙ sym (map-append (coded c) h4.0 (h4.1 ∷ [])) ∙ sym (ap (map (coded c)) h4.2),
          )

  -- what parts refute after others, all refute
  pub refutes-next : (g h : Nodes) (P : Holding) (Q : Told → SchemeTree → Type 0) (xs : List ℕ) → IsWithin c w g
      → Adds c w g h P xs → Refutes c w h (Alone Q) → Refutes c w g (AndThen P Q)
  refutes-next g h P Q xs inside a refuted types told us has tells h4 =
      let one = a.complete types told h4.0 has tells h4.3 in
      refuted one.0 told (h4.1 ∷ []) one.1.has (tells-later g h types one.0 told inside tells one.1) h4.4

  -- a node over those of parts
  pub adds-joined : (g h i : Nodes) (P : Holding) (Q : List SchemeTree → SchemeTree → Type 0) (xs : List ℕ) (n : ℕ)
      → Adds c w g h P xs → Joins c h i xs Q n → Adds c w g i (Alone (Joined P Q)) (n ∷ [])
  adds-joined g h i P Q xs n a j = record {
    live = j.live;
    unfixed = λ none. j.unfixed (a.unfixed none);
    count = (let p = a.count in let q = j.count in omega arith);
    within = alone-within (length i.forms) n j.within;
    old = λ types has. a.old types (j.old types has);
    sound = λ types has. (map (λ m. decoded c (types m)) xs, a.sound types (j.old types has), j.sound types has);
    complete = complete;
  }
    where
      complete : (types : Solution) (told : Told) (ts : List SchemeTree) → HasTypes g types → Tells c w types told → Alone (Joined P Q) told ts
          → (later : Solution) × Extends g i types later × (map later (n ∷ []) ≡ map (coded c) ts)
      complete types told [] has tells u = absurd u
      complete types told (t ∷ []) has tells u =
          let one = a.complete types told u.0 has tells u.1 in
          let two = j.complete one.0 u.0 t one.1.has one.2 u.2 in
          (two.0, extends-on g h i types one.0 two.0 a.count one.1 two.1, ap (λ v. v ∷ []) two.2)
      complete types told (t ∷ v ∷ ts) has tells u = absurd u

  pub refutes-joined : (g h : Nodes) (P : Holding) (Q : List SchemeTree → SchemeTree → Type 0) (xs : List ℕ)
      → Adds c w g h P xs → Prevents c h xs Q → Refutes c w g (Alone (Joined P Q))
  refutes-joined g h P Q xs a refuted types told [] has tells u = u
  refutes-joined g h P Q xs a refuted types told (t ∷ []) has tells u =
      let one = a.complete types told u.0 has tells u.1 in
      refuted one.0 u.0 t one.1.has one.2 u.2
  refutes-joined g h P Q xs a refuted types told (t ∷ v ∷ ts) has tells u = u

  -- ---- answers

  -- equations were made
  pub found : {X : Type 0} (nodes : X → List ℕ) (g h : Nodes) (P : Holding) (x : X) → Adds c w g h P (nodes x) → Finds nodes c w g h P (Ok x)
  found nodes g h P x a = record { ok = a; none = λ q. absurd (ok-untyped (Ok x) x refl q) }

  -- there was no memory
  pub found-no-memory : {X : Type 0} (nodes : X → List ℕ) (g h : Nodes) (P : Holding) (e : Stop) → e ≡ stop.Memory → Finds nodes c w g h P (Err e)
  found-no-memory nodes g h P e is = record { ok = tt; none = λ q. absurd (memory-untyped e is (err-is (Err e) e refl q)) }

  -- what stops at a part stops at the whole
  pub found-stop : {X Y : Type 0} (nodes : X → List ℕ) (all : Y → List ℕ) (g h i : Nodes) (P Q : Holding) (e : Stop)
      → ((told : Told) (ts : List SchemeTree) → Q told ts → (us : List SchemeTree) × P told us) → Finds nodes c w g h P (Err e) → Finds all c w g i Q (Err e)
  found-stop nodes all g h i P Q e part f = record { ok = tt; none = λ q types told ts has tells u. (let p = part told ts u in f.none (ap Err (err-is (Err e) e refl q)) types told p.0 has tells p.1) }

  -- what stops at a later part stops at the whole
  pub found-stop-later : {X Y : Type 0} (nodes : X → List ℕ) (all : Y → List ℕ) (g h i j : Nodes) (P Q R : Holding) (xs : List ℕ) (e : Stop)
      → ((told : Told) (ts : List SchemeTree) → R told ts → ((us : List SchemeTree) × P told us) × ((ws : List SchemeTree) × Q told ws))
      → IsWithin c w g → Adds c w g h P xs → Finds nodes c w h i Q (Err e) → Finds all c w g j R (Err e)
  found-stop-later nodes all g h i j P Q R xs e parts inside a f = record {
    ok = tt;
    none = λ q types told ts has tells u. (
        let p = parts told ts u in
        let one = a.complete types told p.0.0 has tells p.0.1 in
        f.none (ap Err (err-is (Err e) e refl q)) one.0 told p.1.0 one.1.has (tells-later g h types one.0 told inside tells one.1) p.1.1);
  }

  -- a node over those of parts was found, or not
  pub found-joined : (g h i : Nodes) (P : Holding) (Q : List SchemeTree → SchemeTree → Type 0) (xs : List ℕ) (r : Result ℕ Stop)
      → Adds c w g h P xs → Links c h i xs Q r → Finds one_node c w g i (Alone (Joined P Q)) r
  found-joined g h i P Q xs (Ok n) a l = found one_node g i (Alone (Joined P Q)) n (adds-joined g h i P Q xs n a l.ok)
  found-joined g h i P Q xs (Err e) a l = record { ok = tt; none = λ q. refutes-joined g h P Q xs a (l.none q) }

  pub finds-like : {X : Type 0} (nodes : X → List ℕ) (g h : Nodes) (P Q : Holding) (r : Result X Stop) → ((told : Told) (ts : List SchemeTree) → P told ts → Q told ts)
      → ((told : Told) (ts : List SchemeTree) → Q told ts → P told ts) → Finds nodes c w g h P r → Finds nodes c w g h Q r
  finds-like nodes g h P Q (Ok x) there back f = found nodes g h Q x (adds-like g h P Q (nodes x) there back f.ok)
  finds-like nodes g h P Q (Err e) there back f = record { ok = tt; none = λ q types told ts has tells u. f.none q types told ts has tells (back told ts u) }

  joined-parts : (P : Holding) (Q : List SchemeTree → SchemeTree → Type 0) (told : Told) (ts : List SchemeTree) → Alone (Joined P Q) told ts → (us : List SchemeTree) × P told us
  joined-parts P Q told [] u = absurd u
  joined-parts P Q told (t ∷ []) u = (u.0, u.1)
  joined-parts P Q told (t ∷ v ∷ ts) u = absurd u

  alone-like : (P Q : Told → SchemeTree → Type 0) → ((told : Told) (t : SchemeTree) → P told t → Q told t) → (told : Told) (ts : List SchemeTree) → Alone P told ts → Alone Q told ts
  alone-like P Q to told [] u = absurd u
  alone-like P Q to told (t ∷ []) u = to told t u
  alone-like P Q to told (t ∷ v ∷ ts) u = absurd u

  -- a node was found, and the same said otherwise
  pub node-like : (g h : Nodes) (P Q : Told → SchemeTree → Type 0) (r : Result ℕ Stop) → ((told : Told) (t : SchemeTree) → P told t → Q told t)
      → ((told : Told) (t : SchemeTree) → Q told t → P told t) → Finds one_node c w g h (Alone P) r → Finds one_node c w g h (Alone Q) r
  node-like g h P Q r there back = finds-like one_node g h (Alone P) (Alone Q) r (alone-like P Q there) (alone-like Q P back)

  -- what is found for a fact, and the same said otherwise
  pub fact-like : (g h : Nodes) (P Q : Told → Type 0) (r : Result Unit Stop) → ((told : Told) → P told → Q told)
      → ((told : Told) → Q told → P told) → Finds no_node c w g h (Bare P) r → Finds no_node c w g h (Bare Q) r
  fact-like g h P Q r there back = finds-like no_node g h (Bare P) (Bare Q) r (λ told ts b. (b.0, there told b.1)) (λ told ts b. (b.0, back told b.1))

  -- a node over nothing was found, or not
  pub found-alone : (g h : Nodes) (Q : SchemeTree → Type 0) (r : Result ℕ Stop) → g.failed ≡ None → Links c g h [] (λ ts t. Q t) r → Finds one_node c w g h (Alone (λ told t. Q t)) r
  found-alone g h Q r live l =
      node-like g h (Joined (λ told ts. ts ≡ []) (λ ts t. Q t)) (λ told t. Q t) r (λ told t j. j.2) (λ told t q. ([], refl, q))
      (found-joined g g h (λ told ts. ts ≡ []) (λ ts t. Q t) [] r (adds-nothing g live) l)

  -- nothing can be of no type
  pub found-none : {X : Type 0} (nodes : X → List ℕ) (g h : Nodes) (P : Holding) (r : Result X Stop) → r ≡ Err stop.Untyped → ((told : Told) (ts : List SchemeTree) → P told ts → ⊥) → Finds nodes c w g h P r
  found-none nodes g h P (Ok x) is never = absurd (ok-untyped (Ok x) x refl is)
  found-none nodes g h P (Err e) is never = record { ok = tt; none = λ q types told ts has tells u. never told ts u }

  alone-none : (P : Told → SchemeTree → Type 0) → ((told : Told) (t : SchemeTree) → P told t → ⊥) → (told : Told) (ts : List SchemeTree) → Alone P told ts → ⊥
  alone-none P never told [] u = u
  alone-none P never told (t ∷ []) u = never told t u
  alone-none P never told (t ∷ v ∷ ts) u = u

  pub found-no-node : (g h : Nodes) (P : Told → SchemeTree → Type 0) (r : Result ℕ Stop) → r ≡ Err stop.Untyped → ((told : Told) (t : SchemeTree) → P told t → ⊥) → Finds one_node c w g h (Alone P) r
  found-no-node g h P r is never = found-none one_node g h (Alone P) r is (alone-none P never)

  -- ---- two nodes of one type

  -- the first of two nodes, which were made equal
  pub adds-same : (g h i j : Nodes) (P Q : Told → SchemeTree → Type 0) (m n : ℕ) → IsWithin c w g → Adds c w g h (Alone P) (m ∷ []) → Adds c w h i (Alone Q) (n ∷ []) → Equates i j m n
      → Adds c w g j (Alone (λ told t. P told t × Q told t)) (m ∷ [])
  adds-same g h i j P Q m n inside a b e = record {
    live = e.live;
    unfixed = λ none. unfixed-same i j e.forms (b.unfixed (a.unfixed none));
    count = (let p = a.count in let q = b.count in let l = ap length e.forms in omega arith);
    within = alone-within (length j.forms) m (let l = ap length e.forms in let q = b.count in let less = All-head (λ k. k < length h.forms) m [] a.within in omega arith);
    old = λ types has. a.old types (b.old types ((e.types types).0 has).0);
    sound = λ types has. (
        let both = (e.types types).0 has in
        (a.sound types (b.old types both.0), subst (Q (told_by c w types)) (sym (ap (decoded c) both.1)) (b.sound types both.0)));
    complete = complete;
  }
    where
      complete : (types : Solution) (told : Told) (ts : List SchemeTree) → HasTypes g types → Tells c w types told → Alone (λ told t. P told t × Q told t) told ts
          → (later : Solution) × Extends g j types later × (map later (m ∷ []) ≡ map (coded c) ts)
      complete types told [] has tells u = absurd u
      complete types told (t ∷ []) has tells u =
          let one = a.complete types told (t ∷ []) has tells u.0 in
          let two = b.complete one.0 told (t ∷ []) one.1.has (tells-later g h types one.0 told inside tells one.1) u.1 in
          let m-is : two.0 m ≡ coded c t = two.1.same m (All-head (λ k. k < length h.forms) m [] a.within) ∙ first (one.0 m) (coded c t) one.2 in
          let has-two : HasTypes j two.0 = (e.types two.0).1 (two.1.has, m-is ∙ sym (first (two.0 n) (coded c t) two.2)) in
          let on = extends-on g h i types one.0 two.0 a.count one.1 two.1 in
          (two.0, record { has = has-two; same = on.same }, ap (λ v. v ∷ []) m-is)
      complete types told (t ∷ v ∷ ts) has tells u = absurd u

  -- where two nodes can't be made equal, no type is of both
  pub refutes-same : (g h i : Nodes) (P Q : Told → SchemeTree → Type 0) (m n : ℕ) → IsWithin c w g → Adds c w g h (Alone P) (m ∷ []) → Adds c w h i (Alone Q) (n ∷ []) → CannotEquateTypes i m n
      → Refutes c w g (Alone (λ told t. P told t × Q told t))
  refutes-same g h i P Q m n inside a b cannot types told [] has tells u = u
  refutes-same g h i P Q m n inside a b cannot types told (t ∷ []) has tells u =
      let one = a.complete types told (t ∷ []) has tells u.0 in
      let two = b.complete one.0 told (t ∷ []) one.1.has (tells-later g h types one.0 told inside tells one.1) u.1 in
      cannot two.0 two.1.has (two.1.same m (All-head (λ k. k < length h.forms) m [] a.within) ∙ first (one.0 m) (coded c t) one.2 ∙ sym (first (two.0 n) (coded c t) two.2))
  refutes-same g h i P Q m n inside a b cannot types told (t ∷ v ∷ ts) has tells u = u

  -- the node is not told any more
  pub adds-untold : (g h : Nodes) (P : Told → SchemeTree → Type 0) (n : ℕ) → Adds c w g h (Alone P) (n ∷ []) → Adds c w g h (Bare (λ told. (t : SchemeTree) × P told t)) []
  adds-untold g h P n a = record {
    live = a.live;
    unfixed = a.unfixed;
    count = a.count;
    within = All-nil (λ k. k < length h.forms);
    old = a.old;
    sound = λ types has. (refl, (decoded c (types n), a.sound types has));
    complete = λ types told ts has tells u. (let l = a.complete types told (u.1.0 ∷ []) has tells u.1.1 in (l.0, l.1, ap (map (coded c)) (sym u.0)));
  }

  -- ---- what is left early, by a `?`

  -- there was no memory
  pub left-no-memory : {X : Type 0} (nodes : X → List ℕ) (g h : Nodes) (P : Holding) (r : Result X Stop) → Left r stop.Memory → Finds nodes c w g h P r
  left-no-memory nodes g h P r l = subst (Finds nodes c w g h P) (sym l.1) (found-no-memory nodes g h P l.0 l.2)

  -- a part is untyped
  pub left-part : {X Y : Type 0} (nodes : X → List ℕ) (all : Y → List ℕ) (g h i : Nodes) (P Q : Holding) (r : Result Y Stop) {e : Stop} → Left r e
      → ((told : Told) (ts : List SchemeTree) → Q told ts → (us : List SchemeTree) × P told us) → Finds nodes c w g h P (Err e) → Finds all c w g i Q r
  left-part nodes all g h i P Q r {e = e} l part f = subst (Finds all c w g i Q) (sym (l.1 ∙ ap Err l.2)) (found-stop nodes all g h i P Q e part f)

  -- a later part is
  pub left-later : {X Y : Type 0} (nodes : X → List ℕ) (all : Y → List ℕ) (g h i j : Nodes) (P Q R : Holding) (xs : List ℕ) (r : Result Y Stop) {e : Stop} → Left r e
      → ((told : Told) (ts : List SchemeTree) → R told ts → ((us : List SchemeTree) × P told us) × ((ws : List SchemeTree) × Q told ws))
      → IsWithin c w g → Adds c w g h P xs → Finds nodes c w h i Q (Err e) → Finds all c w g j R r
  left-later nodes all g h i j P Q R xs r {e = e} l parts inside a f = subst (Finds all c w g j R) (sym (l.1 ∙ ap Err l.2)) (found-stop-later nodes all g h i j P Q R xs e parts inside a f)

  -- what is refuted
  pub left-refuted : {Y : Type 0} (all : Y → List ℕ) (g i : Nodes) (Q : Holding) (r : Result Y Stop) {e : Stop} → Left r e → (e ≡ stop.Untyped → Refutes c w g Q) → Finds all c w g i Q r
  left-refuted all g i Q r {e = e} l refuted = subst (Finds all c w g i Q) (sym (l.1 ∙ ap Err l.2)) (record { ok = tt; none = λ q. refuted (err-is (Err e) e refl q) })

  -- ---- a node over those of parts, which are told by a list

  pub whole-found : {X : Type 0} (P : List X → Holding) (Q : List SchemeTree → SchemeTree → Type 0) (g h i : Nodes) (ps qs : List X) (xs zs : List ℕ) (r : Result ℕ Stop)
      → qs ≡ ps → zs ≡ xs → Adds c w g h (P qs) xs → Links c h i zs Q r → Finds one_node c w g i (Alone (Joined (P ps) Q)) r
  whole-found P Q g h i ps qs xs zs r same nodes a l =
      found-joined g h i (P ps) Q xs r (subst (λ us. Adds c w g h (P us) xs) same a) (subst (λ us. Links c h i us Q r) nodes l)

  pub whole-left : {X : Type 0} (P : List X → Holding) (Q : List SchemeTree → SchemeTree → Type 0) (g h i : Nodes) (ps qs : List X) (r : Result ℕ Stop) {e : Stop}
      → qs ≡ ps → Left r e → Finds each_node c w g h (P qs) (Err e) → Finds one_node c w g i (Alone (Joined (P ps) Q)) r
  whole-left P Q g h i ps qs r {e = e} same l f =
      left-part each_node one_node g h i (P ps) (Alone (Joined (P ps) Q)) r l (joined-parts (P ps) Q) (subst (λ us. Finds each_node c w g h (P us) (Err e)) same f)
