-- The nodes of variables, of instances of schemes, and of what a constructor makes.
use Rattle.std.proofs.Common.{◌≡◌, ℕ, ◌<◌, List, [], ◌∷◌, map, length, Option, Some, None, refl, sym, ap, subst, ◌∙◌, arith}
use Rattle.std.specs.Prelude.{All, IfSome, Result, option_map, slice_get}
use Rattle.rml_types.specs.declared.tree.SchemeTree.{SchemeTree}
use Rattle.rml_types.specs.declared.tree.SchemeTree.TheVariants as tree
use Rattle.rml_types.specs.Finite.{HasTypes, CannotEquateTypes, Adds as AddsNode, with_type}
use Rattle.rml_types.specs.Instances.{IsInstance}
use Rattle.rml_types.specs.Nodes.{Nodes, with_node}
use Rattle.rml_types.specs.Runs.{Grows, HasInstances}
use Rattle.rml_types.proofs.Callers.{no-form}
use Rattle.rml_builtin.specs.declared.row.Row.{Row}
use Rattle.rml_builtin.specs.Table.{type_of, vars_of}
use Rattle.rml_typed.specs.Typed.{HasInstance}
use Rattle.rml_equations.specs.declared.coding.Coding.{Coding}
use Rattle.rml_equations.specs.declared.stop.Stop.{Stop}
use Rattle.rml_equations.specs.Coding.{coded, decoded, relation_as}
use Rattle.rml_equations.specs.Joins.{Extends, Joins, Links, Makes, Prevents}
use Rattle.rml_equations.proofs.Callers.{Solution, coded-Rel, coded-Tuple, coded-inst, decoded-Rel, decoded-Tuple, decoded-inst, extends-on, longer, map-agree, map-through, unfixed-same, unfixed-with, with-at, with-other}
use Rattle.rml_generator.specs.Adds.{Watched, IsWithin, Told, told_at, Tells, Adds, Alone, Equates}
use Rattle.rml_generator.proofs.Adding.{alone-within}
use Rattle.rml_generator.proofs.Making.{none-form}

-- ---- variables

module _ (c : Coding) (w : Watched) (g : Nodes) (x : ℕ) where
  -- the node of a variable has the variable's type
  pub adds-variable : (n : ℕ) → g.failed ≡ None → IsWithin c w g → slice_get w.vars x ≡ Some n → Adds c w g g (Alone (λ told t. t ≡ told.vars x)) (n ∷ [])
  adds-variable n live inside at = record {
    live = live;
    unfixed = λ none. none;
    count = omega arith;
    within = alone-within (length g.forms) n (inside.vars x n at);
    old = λ types has. has;
    sound = λ types has. sym (ap (told_at c types) at);
    complete = complete;
  }
    where
      complete : (types : Solution) (told : Told) (ts : List SchemeTree) → HasTypes g types → Tells c w types told → Alone (λ told t. t ≡ told.vars x) told ts
          → (later : Solution) × Extends g g types later × (map later (n ∷ []) ≡ map (coded c) ts)
      complete types told [] has tells is = absurd is
      complete types told (t ∷ []) has tells is = (types, record { has = has; same = λ m less. refl }, ap (λ u. u ∷ []) (tells.vars x n at ∙ sym (ap (coded c) is)))
      complete types told (t ∷ u ∷ ts) has tells is = absurd is

  -- and a variable that the rule has not is of the type without parts
  pub adds-unknown : (h : Nodes) (n : ℕ) → slice_get w.vars x ≡ None → Makes g h (λ types. tree.Tuple []) n → Adds c w g h (Alone (λ told t. t ≡ told.vars x)) (n ∷ [])
  adds-unknown h n at m = record {
    live = m.live;
    unfixed = m.unfixed;
    count = m.count;
    within = alone-within (length h.forms) n m.within;
    old = m.old;
    sound = λ types has. ap (decoded c) (m.is types has) ∙ decoded-Tuple c [] ∙ sym (ap (told_at c types) at);
    complete = complete;
  }
    where
      complete : (types : Solution) (told : Told) (ts : List SchemeTree) → HasTypes g types → Tells c w types told → Alone (λ told t. t ≡ told.vars x) told ts
          → (later : Solution) × Extends g h types later × (map later (n ∷ []) ≡ map (coded c) ts)
      complete types told [] has tells is = absurd is
      complete types told (t ∷ []) has tells is =
          let l = m.extends types has in
          (l.0, l.1, ap (λ u. u ∷ []) (m.is l.0 l.1.has ∙ sym (coded-Tuple c []) ∙ sym (ap (coded c) (is ∙ tells.past x at))))
      complete types told (t ∷ u ∷ ts) has tells is = absurd is

-- ---- instances

pub joins-instance : (c : Coding) (g h : Nodes) (n : ℕ) (body : SchemeTree) → g.failed ≡ None → Grows g h → HasInstances g h n (coded c body) → Joins c g h [] (λ ts t. IsInstance body t) n
joins-instance c g h n body live grows has = record {
  live = grows.kept.failed ∙ live;
  unfixed = grows.unfixed;
  count = grows.kept.count;
  within = has.within;
  old = grows.kept.restricts;
  sound = λ types solves. (let i = has.instances types solves in (map (decoded c) i.0, ap (decoded c) i.1 ∙ decoded-inst c i.0 body));
  complete = λ types ts t solves e is. (
      let l = has.each types (map (coded c) is.0) solves in
      (l.0, record { has = l.1; same = l.2 }, l.3 ∙ sym (coded-inst c is.0 body) ∙ sym (ap (coded c) is.1)));
}

-- the type of a built-in has the instances of its scheme
pub links-built : (c : Coding) (g h : Nodes) (r : Result ℕ Stop) (o : Option Row) (row : Row) (vars : ℕ) (body : SchemeTree) → o ≡ Some row → IfSome o (λ (k : Row). (vars ≡ vars_of k) × (body ≡ type_of k))
    → Links c g h [] (λ ts t. IsInstance body t) r → Links c g h [] (λ ts t. HasInstance (option_map type_of o) t) r
links-built c g h r None row vars body is of l = absurd (none-some row is)
  where
    none-some : (row : Row) → None ≡ Some row → ⊥
    none-some row e = cc
links-built c g h r (Some k) row vars body is of l = subst (λ (u : SchemeTree). Links c g h [] (λ ts t. IsInstance u t) r) of.1 l

-- ---- what a constructor makes

module _ (c : Coding) (g h i : Nodes) (parts : List ℕ) (taken : ℕ) (Q : SchemeTree → Type 0) (inside : All (λ n. n < length g.forms) parts) (is : h ≡ with_node g None) (adds : AddsNode g h None)
    (m : Makes h i (λ types. relation_as c (map types parts) (map types (length g.forms ∷ []))) taken) where
  abbrev whole : ℕ
  whole = length g.forms

  abbrev pub IsMadeBy : List SchemeTree → SchemeTree → Type 0
  IsMadeBy ts t = Q (tree.Rel ts (t ∷ []))

  -- finite types of the graph with a node for what is made, and one of the constructor's type
  begun : (types : Solution) (ts : List SchemeTree) (t : SchemeTree) → HasTypes g types → map types parts ≡ map (coded c) ts
      → (later : Solution) × Extends g i types later × (later whole ≡ coded c t) × (later taken ≡ coded c (tree.Rel ts (t ∷ [])))
  begun types ts t has e =
      let l = longer g h None is in
      let first : Solution = with_type types whole (coded c t) in
      let second = m.extends first (adds.extends types (coded c t) has (λ f q. none-form f q)) in
      let parts_are : map second.0 parts ≡ map (coded c) ts =
      map-agree second.0 first whole parts inside (λ n lt. second.1.same n (omega arith)) ∙ map-agree first types whole parts inside (with-other types whole (coded c t)) ∙ e in
      let whole_is : second.0 whole ≡ coded c t = second.1.same whole (omega arith) ∙ with-at types whole (coded c t) in (
        second.0,
        record { has = second.1.has; same = λ n lt. second.1.same n (omega arith) ∙ with-other types whole (coded c t) n lt },
        whole_is,
        m.is second.0 second.1.has ∙ ap (λ us. relation_as c us (second.0 whole ∷ [])) parts_are ∙ ap (λ v. relation_as c (map (coded c) ts) (v ∷ [])) whole_is ∙ sym (coded-Rel c ts (t ∷ [])),
      )

  -- where no type is one of the constructor, it makes none
  pub made-stopped : Prevents c i [] (λ ts t. Q t) → Prevents c g parts IsMadeBy
  made-stopped prevented types ts t has e q = let b = begun types ts t has e in prevented b.0 [] (tree.Rel ts (t ∷ [])) b.1.has refl q

  module _ (j : Nodes) (s : ℕ) (instance : Joins c i j [] (λ ts t. Q t) s) where
    begun-instance : (types : Solution) (ts : List SchemeTree) (t : SchemeTree) → HasTypes g types → map types parts ≡ map (coded c) ts → IsMadeBy ts t
        → (later : Solution) × Extends g j types later × (later whole ≡ coded c t) × (later taken ≡ later s)
    begun-instance types ts t has e q =
        let l = longer g h None is in
        let k = m.count in
        let b = begun types ts t has e in
        let third = instance.complete b.0 [] (tree.Rel ts (t ∷ [])) b.1.has refl q in (
          third.0,
          extends-on g i j types b.0 third.0 (omega arith) b.1 third.1,
          third.1.same whole (omega arith) ∙ b.2,
          third.1.same taken m.within ∙ b.3 ∙ sym third.2,
        )

    pub made-prevented : CannotEquateTypes j taken s → Prevents c g parts IsMadeBy
    made-prevented cannot types ts t has e q = let b = begun-instance types ts t has e q in cannot b.0 b.1.has b.3

    pub made-joined : (k : Nodes) → Equates j k taken s → Joins c g k parts IsMadeBy whole
    made-joined k equates = record {
      live = equates.live;
      unfixed = λ none. unfixed-same j k equates.forms (instance.unfixed (m.unfixed (unfixed-with g h None no-form is adds none)));
      count = (let e = longer g h None is in let f = ap length equates.forms in let p = m.count in let q = instance.count in omega arith);
      within = (let e = longer g h None is in let f = ap length equates.forms in let p = m.count in let q = instance.count in omega arith);
      old = λ types has. adds.restricts types (m.old types (instance.old types ((equates.types types).0 has).0));
      sound = λ types has. (
          let b = (equates.types types).0 has in
          let in_i = instance.old types b.0 in
          subst Q
          (sym (ap (decoded c) b.1) ∙ ap (decoded c) (m.is types in_i) ∙ decoded-Rel c (map types parts) (types whole ∷ []) ∙ ap (λ us. tree.Rel us (decoded c (types whole) ∷ [])) (map-through (decoded c) types parts))
          (instance.sound types b.0));
      complete = λ types ts t has e q. (
          let b = begun-instance types ts t has e q in
          (b.0, record { has = (equates.types b.0).1 (b.1.has, b.3); same = b.1.same }, b.2));
    }
