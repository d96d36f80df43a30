-- Nodes over nodes, and nodes made equal.
use Rattle.std.proofs.Common.{◌≡◌, ℕ, ◌+◌, ◌<◌, ◌≤◌, Bool, true, false, ◌==◌, List, [], ◌∷◌, ◌++◌, map, take, drop, length, get_or, Option, Some, None, Result, Ok, Err, refl, sym, ap, subst, ◌∙◌, arith, eq-eqb, eqb-true}
use Rattle.std.specs.Prelude.{All, IfOk, OnOk, if◌then◌else◌}
use Rattle.std.proofs.Math.Seq.{take-append_seam}
use Rattle.std.proofs.lemmas.List.{get_or_at, length-append, length-map, map-append, take-append-drop, take_more}
use Rattle.std.proofs.lemmas.List.Elements.{All-append, All-head, All-tail}
use Rattle.rml_base.specs.declared.memory.Memory.{Memory}
use Rattle.rml_types.specs.declared.form.Form.{Form}
use Rattle.rml_types.specs.declared.form.TypeCon.{TypeCon}
use Rattle.rml_types.specs.declared.form.TypeCon.TheVariants as con
use Rattle.rml_types.specs.declared.form.UnifyErr.{UnifyErr}
use Rattle.rml_types.specs.declared.form.UnifyErr.TheVariants as refused
use Rattle.rml_types.specs.declared.tree.SchemeTree.{SchemeTree}
use Rattle.rml_types.specs.declared.tree.SchemeTree.TheVariants as tree
use Rattle.rml_types.specs.Finite.{HasTypes, CannotEquateTypes, EquatesTypes, Adds as AddsNode, built, with_type}
use Rattle.rml_types.specs.Nodes.{HasNoFixed, Nodes, form_in, form_of, with_node}
use Rattle.rml_types.proofs.Callers.{grows-by, no-form}
use Rattle.rml_builtin.specs.declared.types.TheConstants.{LIST}
use Rattle.rml_builtin.specs.Types.{list}
use Rattle.rml_typed.specs.Typed.{AreChain, AreItems}
use Rattle.rml_equations.specs.declared.coding.Coding.{Coding}
use Rattle.rml_equations.specs.declared.stop.Stop.{Stop}
use Rattle.rml_equations.specs.declared.stop.Stop.TheVariants as stop
use Rattle.rml_equations.specs.Coding.{coded, decoded}
use Rattle.rml_equations.specs.Stops.{stop_of}
use Rattle.rml_equations.specs.Joins.{CannotEquateAll, EquatesAll, Extends, Joins, Links, Makes, Prevents}
use Rattle.rml_equations.proofs.CodedTypes.{coded-Named, decoded-Named}

abbrev pub Solution : Type 0
Solution = ℕ → SchemeTree

pub map-agree : (f g : Solution) (count : ℕ) (xs : List ℕ) → All (λ x. x < count) xs → ((x : ℕ) → x < count → f x ≡ g x) → map f xs ≡ map g xs
map-agree f g count [] all agree = refl
map-agree f g count (x ∷ xs) all agree =
    ap (λ t. t ∷ map f xs) (agree x (All-head (λ y. y < count) x xs all)) ∙ ap (λ ts. g x ∷ ts) (map-agree f g count xs (All-tail (λ y. y < count) x xs all) agree)

-- where finite types are extended twice, they are extended
pub extends-on : (g h i : Nodes) (types mid later : Solution) → length g.forms ≤ length h.forms → Extends g h types mid → Extends h i mid later → Extends g i types later
extends-on g h i types mid later le e f = record { has = f.has; same = λ n lt. f.same n (omega arith) ∙ e.same n lt }

pub with-at : (types : Solution) (n : ℕ) (t : SchemeTree) → with_type types n t n ≡ t
with-at types n t = ap (λ b. if b then t else types n) (eq-eqb n n refl)

pub with-other : (types : Solution) (n : ℕ) (t : SchemeTree) (m : ℕ) → m < n → with_type types n t m ≡ types m
with-other types n t m less = on (m == n) refl
  where
    on : (b : Bool) → (m == n) ≡ b → (if b then t else types m) ≡ types m
    on true e = absurd (let q = eqb-true m n e in omega arith)
    on false e = refl

pub longer : (g h : Nodes) (form : Option Form) → h ≡ with_node g form → length h.forms ≡ length g.forms + 1
longer g h form is = ap (λ (n : Nodes). length n.forms) is ∙ length-append g.forms (form ∷ [])

pub new-form : (g h : Nodes) (form : Option Form) → h ≡ with_node g form → form_of h (length g.forms) ≡ form
new-form g h form is = ap (λ (n : Nodes). form_of n (length g.forms)) is ∙ get_or_at g.forms form [] None (length g.forms) refl

-- ---- no variable came to stand fixed

pub unfixed-with : (g h : Nodes) (form : Option Form) → ((f : Form) (k : ℕ) → form ≡ Some f → f.con ≡ con.Fixed k → ⊥) → h ≡ with_node g form → AddsNode g h form → HasNoFixed g → HasNoFixed h
unfixed-with g h form other is adds = (grows-by g h form other is adds).unfixed

-- nor where nodes were made equal
pub unfixed-same : (g h : Nodes) → h.forms ≡ g.forms → HasNoFixed g → HasNoFixed h
unfixed-same g h forms none n f k e q = none n f k (sym (ap (λ (fs : List (Option Form)). form_in fs n) forms) ∙ e) q

-- ---- nodes whose types are made of others

-- a constructor of types that is no variable
abbrev pub IsNoVariable : TypeCon → Type 0
IsNoVariable c = (k : ℕ) → c ≡ con.Fixed k → ⊥

pub named-no-variable : (c : ℕ) → IsNoVariable (con.Named c)
named-no-variable c k e = cc

pub tuple-no-variable : IsNoVariable con.Tuple
tuple-no-variable k e = cc

pub rel-no-variable : (count : ℕ) → IsNoVariable (con.Rel count)
rel-no-variable count k e = cc

abbrev form-of : TypeCon → List ℕ → Form
form-of k xs = record { con = k; args = xs }

makes-app : (g h : Nodes) (k : TypeCon) (xs : List ℕ) → IsNoVariable k → g.failed ≡ None → h ≡ with_node g (Some (record { con = k; args = xs })) → AddsNode g h (Some (record { con = k; args = xs }))
    → Makes g h (λ types. built k (map types xs)) (length g.forms)
makes-app g h k xs other live is adds = record {
  live = ap (λ (n : Nodes). n.failed) is ∙ live;
  unfixed = unfixed-with g h (Some (form-of k xs)) (λ f j s q. other j (ap (λ (x : Form). x.con) (some-of (form-of k xs) f s) ∙ q)) is adds;
  count = (let e = longer g h (Some (form-of k xs)) is in omega arith);
  within = (let e = longer g h (Some (form-of k xs)) is in omega arith);
  old = adds.restricts;
  is = λ types has. has.forms (length g.forms) (form-of k xs) (new-form g h (Some (form-of k xs)) is);
  extends = λ types has. (
    with_type types (length g.forms) (built k (map types xs)),
    record { has = adds.extends types (built k (map types xs)) has (made types); same = with-other types (length g.forms) (built k (map types xs)) },
  );
}
  where
    some-of : (f e : Form) → Some f ≡ Some e → f ≡ e
    some-of f e s = cc

    made : (types : Solution) (f : Form) → Some (form-of k xs) ≡ Some f → built k (map types xs) ≡ built f.con (map types f.args)
    made types f s = ap (λ (x : Form). built x.con (map types x.args)) (some-of (form-of k xs) f s)

pub makes-app-at : (g h : Nodes) (k : TypeCon) (xs : List ℕ) (r : Result ℕ Memory) → IsNoVariable k → g.failed ≡ None → IfOk r (λ n. n ≡ length g.forms)
    → OnOk r (h ≡ with_node g (Some (record { con = k; args = xs }))) → OnOk r (AddsNode g h (Some (record { con = k; args = xs }))) → IfOk r (Makes g h (λ types. built k (map types xs)))
makes-app-at g h k xs (Err e) other live node is adds = tt
makes-app-at g h k xs (Ok n) other live node is adds = subst (Makes g h (λ types. built k (map types xs))) (sym node) (makes-app g h k xs other live is adds)

pub makes-like : (g h : Nodes) (make other : Solution → SchemeTree) (r : Result ℕ Memory) → ((types : Solution) → make types ≡ other types) → IfOk r (Makes g h make) → IfOk r (Makes g h other)
makes-like g h make other (Err e) same m = tt
makes-like g h make other (Ok n) same m =
    record { live = m.live; unfixed = m.unfixed; count = m.count; within = m.within; old = m.old; is = λ types has. m.is types has ∙ same types; extends = m.extends }

drop-seam : {X : Type 0} (xs ys : List X) → drop (length xs) (xs ++ ys) ≡ ys
drop-seam [] ys = refl
drop-seam (x ∷ xs) ys = drop-seam xs ys

pub rel-built : (types : Solution) (k : ℕ) (xs ys all : List ℕ) → k ≡ length xs → all ≡ xs ++ ys → built (con.Rel k) (map types all) ≡ tree.Rel (map types xs) (map types ys)
rel-built types k xs ys all count is =
    let whole : map types all ≡ map types xs ++ map types ys = ap (map types) is ∙ map-append types xs ys in
    let n : k ≡ length (map types xs) = count ∙ sym (length-map xs types) in
    ap (built (con.Rel k)) whole ∙ ap (λ j. built (con.Rel j) (map types xs ++ map types ys)) n
    ∙ ap (λ us. tree.Rel us (drop (length (map types xs)) (map types xs ++ map types ys))) (take-append_seam (map types xs) (map types ys))
    ∙ ap (tree.Rel (map types xs)) (drop-seam (map types xs) (map types ys))

pub all-both : (count : ℕ) (xs ys all : List ℕ) → all ≡ xs ++ ys → All (λ n. n < count) xs → All (λ n. n < count) ys → All (λ n. n < count) all
all-both count xs ys all is a b = subst (All (λ n. n < count)) (sym is) (All-append (λ n. n < count) xs ys a b)

makes-packed : (g h i j : Nodes) (xs ys : List ℕ) (a b n : ℕ) → Makes g h (λ types. tree.Tuple (map types xs)) a → Makes h i (λ types. tree.Tuple (map types ys)) b
    → Makes i j (λ types. built (con.Rel 1) (map types (a ∷ b ∷ []))) n → Makes g j (λ types. tree.Rel (tree.Tuple (map types xs) ∷ []) (tree.Tuple (map types ys) ∷ [])) n
makes-packed g h i j xs ys a b n m k l = record {
  live = l.live;
  unfixed = λ none. l.unfixed (k.unfixed (m.unfixed none));
  count = (let p = m.count in let q = k.count in let r = l.count in omega arith);
  within = l.within;
  old = λ types has. m.old types (k.old types (l.old types has));
  is = λ types has.
      l.is types has ∙ ap (λ t. tree.Rel (t ∷ []) (types b ∷ [])) (m.is types (k.old types (l.old types has))) ∙ ap (λ t. tree.Rel (tree.Tuple (map types xs) ∷ []) (t ∷ [])) (k.is types (l.old types has));
  extends = λ types has. (
      let one = m.extends types has in
      let two = k.extends one.0 one.1.has in
      let three = l.extends two.0 two.1.has in
      (three.0, extends-on g h j types one.0 three.0 m.count one.1 (extends-on h i j one.0 two.0 three.0 k.count two.1 three.1)));
}

pub makes-packed-at : (g h i j : Nodes) (xs ys : List ℕ) (a b : ℕ) (r : Result ℕ Memory) → Makes g h (λ types. tree.Tuple (map types xs)) a → Makes h i (λ types. tree.Tuple (map types ys)) b
    → IfOk r (Makes i j (λ types. built (con.Rel 1) (map types (a ∷ b ∷ [])))) → IfOk r (Makes g j (λ types. tree.Rel (tree.Tuple (map types xs) ∷ []) (tree.Tuple (map types ys) ∷ [])))
makes-packed-at g h i j xs ys a b (Err e) m k l = tt
makes-packed-at g h i j xs ys a b (Ok n) m k l = makes-packed g h i j xs ys a b n m k l

-- ---- nodes made equal to one

pub equates-none : (g : Nodes) (one : ℕ) → g.failed ≡ None → EquatesAll g g [] one
equates-none g one live = record { live = live; forms = refl; types = λ types. (λ has. (has, tt), λ both. both.0) }

are-push : (u : SchemeTree) (ts : List SchemeTree) (t : SchemeTree) → AreItems u ts → t ≡ u → AreItems u (ts ++ t ∷ [])
are-push u [] t are e = (e, tt)
are-push u (v ∷ ts) t are e = (are.0, are-push u ts t are.1 e)

are-front : (u : SchemeTree) (ts us : List SchemeTree) → AreItems u (ts ++ us) → AreItems u ts
are-front u [] us are = tt
are-front u (t ∷ ts) us are = (are.0, are-front u ts us are.1)

are-last : (u : SchemeTree) (ts : List SchemeTree) (t : SchemeTree) → AreItems u (ts ++ t ∷ []) → t ≡ u
are-last u [] t are = are.0
are-last u (v ∷ ts) t are = are-last u ts t are.1

pub equates-more : (g h i : Nodes) (xs : List ℕ) (x one : ℕ) → EquatesAll g h xs one → i.failed ≡ None → i.forms ≡ h.forms → EquatesTypes h i x one → EquatesAll g i (xs ++ x ∷ []) one
equates-more g h i xs x one e live forms both = record {
  live = live;
  forms = forms ∙ e.forms;
  types = λ types. (
    λ has. (
        let b = (both types).0 has in let a = (e.types types).0 b.0 in
        (a.0, subst (AreItems (types one)) (sym (map-append types xs (x ∷ []))) (are-push (types one) (map types xs) (types x) a.1 b.1))),
    λ all. (
        let are = subst (AreItems (types one)) (map-append types xs (x ∷ [])) all.1 in
        (both types).1 ((e.types types).1 (all.0, are-front (types one) (map types xs) (types x ∷ []) are), are-last (types one) (map types xs) (types x) are)),
  );
}

-- what is refused after some nodes is refused for all
pub cannot-more : (g h : Nodes) (xs ys all : List ℕ) (x one : ℕ) → all ≡ (xs ++ x ∷ []) ++ ys → EquatesAll g h xs one → CannotEquateTypes h x one → CannotEquateAll g all one
cannot-more g h xs ys all x one is e cannot types has are =
    let front = are-front (types one) (map types (xs ++ x ∷ [])) (map types ys) (subst (AreItems (types one)) (ap (map types) is ∙ map-append types (xs ++ x ∷ []) ys) are) in
    let both = subst (AreItems (types one)) (map-append types xs (x ∷ [])) front in
    cannot types ((e.types types).1 (has, are-front (types one) (map types xs) (types x ∷ []) both)) (are-last (types one) (map types xs) (types x) both)

only-unit : (r : Result Unit Stop) (s : Stop) → r ≡ Err s → r ≡ Err stop.Untyped → s ≡ stop.Untyped
only-unit r s is q = cc

pub clashed : (e : UnifyErr) → stop_of e ≡ stop.Untyped → e ≡ refused.Clash
clashed refused.Clash e = refl
clashed refused.Memory e = cc

-- what stops at a node stops at all
pub cannot-at : (g h : Nodes) (xs : List ℕ) (i one : ℕ) (r : Result Unit Stop) (s : Stop) (e : UnifyErr) → i < length xs → r ≡ Err s → s ≡ stop_of e → EquatesAll g h (take i xs) one
    → (e ≡ refused.Clash → CannotEquateTypes h (get_or xs i 0) one) → r ≡ Err stop.Untyped → CannotEquateAll g xs one
cannot-at g h xs i one r s e lt is of equates refuses q =
    cannot-more g h (take i xs) (drop (i + 1) xs) xs (get_or xs i 0) one (sym (take-append-drop (i + 1) xs) ∙ ap (λ ys. ys ++ drop (i + 1) xs) (take_more xs i 0 lt)) equates
    (refuses (clashed e (sym of ∙ only-unit r s is q)))

-- ---- lists

are-mapped : (f : SchemeTree → SchemeTree) (u : SchemeTree) (ts : List SchemeTree) → AreItems u ts → AreItems (f u) (map f ts)
are-mapped f u [] are = tt
are-mapped f u (t ∷ ts) are = (ap f are.0, are-mapped f u ts are.1)

pub map-through : (f : SchemeTree → SchemeTree) (types : Solution) (xs : List ℕ) → map f (map types xs) ≡ map (λ n. f (types n)) xs
map-through f types [] = refl
map-through f types (x ∷ xs) = ap (λ ts. f (types x) ∷ ts) (map-through f types xs)

abbrev pub IsListOf : List SchemeTree → SchemeTree → Type 0
IsListOf ts t = (u : SchemeTree) × AreItems u ts × (t ≡ list u)

-- ---- answers

untyped-only : (r : Result ℕ Stop) (n : ℕ) → r ≡ Ok n → r ≡ Err stop.Untyped → ⊥
untyped-only r n e q = cc

memory-only : (r : Result ℕ Stop) (e : Stop) → r ≡ Err e → e ≡ stop.Memory → r ≡ Err stop.Untyped → ⊥
memory-only r e is memory q = cc

only-stop : (r : Result ℕ Stop) (e : Stop) → r ≡ Err e → r ≡ Err stop.Untyped → e ≡ stop.Untyped
only-stop r e is q = cc

module _ (c : Coding) (g h : Nodes) (xs : List ℕ) (Q : List SchemeTree → SchemeTree → Type 0) where
  pub linked : (n : ℕ) → Joins c g h xs Q n → Links c g h xs Q (Ok n)
  linked n j = record { ok = j; none = λ q. absurd (untyped-only (Ok n) n refl q) }

  pub links-no-memory : (e : Stop) → e ≡ stop.Memory → Links c g h xs Q (Err e)
  links-no-memory e is = record { ok = tt; none = λ q. absurd (memory-only (Err e) e refl is q) }

  pub links-stop : (e : Stop) → (e ≡ stop.Untyped → Prevents c g xs Q) → Links c g h xs Q (Err e)
  links-stop e prevented = record { ok = tt; none = λ q. prevented (only-stop (Err e) e refl q) }

module _ (c : Coding) (g h i : Nodes) (xs : List ℕ) (live : g.failed ≡ None) (inside : All (λ n. n < length g.forms) xs) (is : h ≡ with_node g None) (adds : AddsNode g h None) where
  abbrev item : ℕ
  item = length g.forms

  none-form : {A : Type 0} (f : Form) → None ≡ Some f → A
  none-form f e = cc

  -- finite types of the graph with a node for the type of the items
  begun : (types : Solution) (ts : List SchemeTree) (u : SchemeTree) → HasTypes g types → map types xs ≡ map (coded c) ts → AreItems u ts
      → HasTypes h (with_type types item (coded c u)) × AreItems (with_type types item (coded c u) item) (map (with_type types item (coded c u)) xs)
  begun types ts u has e are = (
    adds.extends types (coded c u) has (λ f q. none-form f q),
    subst (λ v. AreItems v (map (with_type types item (coded c u)) xs)) (sym (with-at types item (coded c u)))
        (subst (AreItems (coded c u)) (sym (map-agree (with_type types item (coded c u)) types item xs inside (with-other types item (coded c u)) ∙ e)) (are-mapped (coded c) u ts are)),
  )

  pub list-prevented : CannotEquateAll h xs item → Prevents c g xs IsListOf
  list-prevented cannot types ts t has e l = let b = begun types ts l.0 has e l.1 in cannot (with_type types item (coded c l.0)) b.0 b.1

  pub list-joined : (j : Nodes) (n : ℕ) → EquatesAll h i xs item → Makes i j (λ types. built (con.Named LIST) (map types (item ∷ []))) n → Joins c g j xs IsListOf n
  list-joined j n equates m = record {
    live = m.live;
    unfixed = λ none. m.unfixed (unfixed-same h i equates.forms (unfixed-with g h None no-form is adds none));
    count = (let e = longer g h None is in let f = ap length equates.forms in let k = m.count in omega arith);
    within = m.within;
    old = λ types has. adds.restricts types ((equates.types types).0 (m.old types has)).0;
    sound = λ types has. (
        let both = (equates.types types).0 (m.old types has) in (
          decoded c (types item),
          subst (AreItems (decoded c (types item))) (map-through (decoded c) types xs) (are-mapped (decoded c) (types item) (map types xs) both.1),
          ap (decoded c) (m.is types has) ∙ decoded-Named c LIST (types item ∷ []),
        ));
    complete = λ types ts t has e l. (
        let b = begun types ts l.0 has e l.1 in
        let first : Solution = with_type types item (coded c l.0) in
        let later = m.extends first ((equates.types first).1 b) in
        let less : item < length i.forms = (let k = longer g h None is in let f = ap length equates.forms in omega arith) in (
          later.0,
          record { has = later.1.has; same = λ n lt. later.1.same n (omega arith) ∙ with-other types item (coded c l.0) n lt },
          m.is later.0 later.1.has ∙ ap (λ v. tree.Named LIST (v ∷ [])) (later.1.same item less ∙ with-at types item (coded c l.0))
              ∙ sym (coded-Named c LIST (l.0 ∷ [])) ∙ sym (ap (coded c) l.2),
        ));
  }

-- ---- chains

abbrev pub IsChainOf : List SchemeTree → SchemeTree → Type 0
IsChainOf ts t = (u : SchemeTree) × AreChain u ts × (t ≡ list u)

chain-there : (u : SchemeTree) (ts : List SchemeTree) (v : SchemeTree) → AreItems u ts → v ≡ list u → AreChain u (ts ++ v ∷ [])
chain-there u [] v are e = e
chain-there u (t ∷ []) v are e = (are.0, e)
chain-there u (t ∷ s ∷ ts) v are e = (are.0, chain-there u (s ∷ ts) v are.1 e)

chain-back : (u : SchemeTree) (ts : List SchemeTree) (v : SchemeTree) → AreChain u (ts ++ v ∷ []) → AreItems u ts × (v ≡ list u)
chain-back u [] v e = (tt, e)
chain-back u (t ∷ []) v are = ((are.0, tt), are.1)
chain-back u (t ∷ s ∷ ts) v are = let b = chain-back u (s ∷ ts) v are.1 in ((are.0, b.0), b.1)

cons-nil : (t : SchemeTree) (ts : List SchemeTree) → t ∷ ts ≡ [] → ⊥
cons-nil t ts e = cc

push-nil : (ts : List SchemeTree) (t : SchemeTree) → ts ++ t ∷ [] ≡ [] → ⊥
push-nil [] t e = cc
push-nil (u ∷ ts) t e = cc

heads : (t u : SchemeTree) (ts us : List SchemeTree) → t ∷ ts ≡ u ∷ us → t ≡ u
heads t u ts us e = cc

tails : (t u : SchemeTree) (ts us : List SchemeTree) → t ∷ ts ≡ u ∷ us → ts ≡ us
tails t u ts us e = cc

-- what is over one node more has one type more
pub record Last (types : Solution) (k : SchemeTree → SchemeTree) (xs : List ℕ) (x : ℕ) (us : List SchemeTree) : Type 0 where
  pub front : List SchemeTree
  pub last : SchemeTree
  pub is : us ≡ front ++ last ∷ []
  pub fronts : map types xs ≡ map k front
  pub lasts : types x ≡ k last

split-last : (types : Solution) (k : SchemeTree → SchemeTree) (xs : List ℕ) (x : ℕ) (us : List SchemeTree) → map types (xs ++ x ∷ []) ≡ map k us → Last types k xs x us
split-last types k [] x [] e = absurd (cons-nil (types x) [] e)
split-last types k [] x (u ∷ []) e = record { front = []; last = u; is = refl; fronts = refl; lasts = heads (types x) (k u) [] [] e }
split-last types k [] x (u ∷ v ∷ us) e = absurd (cons-nil (k v) (map k us) (sym (tails (types x) (k u) [] (map k (v ∷ us)) e)))
split-last types k (y ∷ xs) x [] e = absurd (cons-nil (types y) (map types (xs ++ x ∷ [])) e)
split-last types k (y ∷ xs) x (u ∷ us) e =
    let r = split-last types k xs x us (tails (types y) (k u) (map types (xs ++ x ∷ [])) (map k us) e) in
    record {
      front = u ∷ r.front;
      last = r.last;
      is = ap (λ ts. u ∷ ts) r.is;
      fronts = ap (λ t. t ∷ map types xs) (heads (types y) (k u) (map types (xs ++ x ∷ [])) (map k us) e) ∙ ap (λ ts. k u ∷ ts) r.fronts;
      lasts = r.lasts;
    }

module _ (c : Coding) (g h : Nodes) (xs : List ℕ) (x : ℕ) where
  -- the items and the tail of a chain
  opened : (types : Solution) (us : List SchemeTree) (t : SchemeTree) (chain : IsChainOf us t) (s : Last types (coded c) xs x us) → AreItems chain.0 s.front × (s.last ≡ list chain.0)
  opened types us t chain s = chain-back chain.0 s.front s.last (subst (AreChain chain.0) s.is chain.1)

  pub chain-stopped : Prevents c g xs IsListOf → Prevents c g (xs ++ x ∷ []) IsChainOf
  chain-stopped prevented types us t has e chain =
      let s = split-last types (coded c) xs x us e in
      let o = opened types us t chain s in
      prevented types s.front t has s.fronts (chain.0, o.0, chain.2)

  module _ (n : ℕ) (inside : x < length g.forms) (l : Joins c g h xs IsListOf n) where
    -- finite types of the graph with the list, of which the tail is
    begun-chain : (types : Solution) (us : List SchemeTree) (t : SchemeTree) → HasTypes g types → map types (xs ++ x ∷ []) ≡ map (coded c) us → IsChainOf us t
        → (later : Solution) × Extends g h types later × (later n ≡ coded c t) × (later x ≡ later n)
    begun-chain types us t has e chain =
        let s = split-last types (coded c) xs x us e in
        let o = opened types us t chain s in
        let b = l.complete types s.front t has s.fronts (chain.0, o.0, chain.2) in
        (b.0, b.1, b.2, b.1.same x inside ∙ s.lasts ∙ ap (coded c) (o.1 ∙ sym chain.2) ∙ sym b.2)

    pub chain-prevented : CannotEquateTypes h x n → Prevents c g (xs ++ x ∷ []) IsChainOf
    chain-prevented cannot types us t has e chain = let b = begun-chain types us t has e chain in cannot b.0 b.1.has b.3

    pub chain-joined : (i : Nodes) → i.failed ≡ None → i.forms ≡ h.forms → EquatesTypes h i x n → Joins c g i (xs ++ x ∷ []) IsChainOf n
    chain-joined i live forms equates = record {
      live = live;
      unfixed = λ none. unfixed-same h i forms (l.unfixed none);
      count = (let e = ap length forms in let k = l.count in omega arith);
      within = (let e = ap length forms in let k = l.within in omega arith);
      old = λ types has. l.old types ((equates types).0 has).0;
      sound = λ types has. (
          let both = (equates types).0 has in
          let list_of = l.sound types both.0 in (
            list_of.0,
            subst (AreChain list_of.0) (sym (map-append (λ m. decoded c (types m)) xs (x ∷ [])))
                (chain-there list_of.0 (map (λ m. decoded c (types m)) xs) (decoded c (types x)) list_of.1 (ap (decoded c) both.1 ∙ list_of.2)),
            list_of.2,
          ));
      complete = λ types us t has e chain. (let b = begun-chain types us t has e chain in (b.0, record { has = (equates b.0).1 (b.1.has, b.3); same = b.1.same }, b.2));
    }
