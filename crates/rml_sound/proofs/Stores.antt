-- Stores that grow: values keep their types in them, an entry is added that is unset, and one is set to a value of its type.
use Rattle.std.proofs.Common.{◌≡◌, ℕ, zero, suc, ◌⊎◌, inl, inr, List, [], ◌∷◌, ◌++◌, length, map, Some, None, refl, sym, ap, subst, ◌∙◌, arith, append_assoc, append-nil}
use Rattle.std.specs.Prelude.{slice_get, slice_set}
use Rattle.std.proofs.lemmas.Option.{slice_get_within}
use Rattle.rml_types.specs.declared.tree.SchemeTree.{SchemeTree}
use Rattle.rml_types.specs.Schemes.{inst}
use Rattle.rml_value.specs.declared.value.Value.{Value}
use Rattle.rml_builtin.specs.Applied.{Store}
use Rattle.rml_resolved.specs.declared.parts.Parts.{Parts}
use Rattle.rml_typed.specs.Typed.{Assigned}
use Rattle.rml_terms.specs.Env.{Env}
use Rattle.rml_sound.specs.Values.{arguments_of, StoreTypes, ValueHas, ValuesHave, StoreHas, Grows}
use Rattle.rml_sound.specs.Safe.{EnvHas}

-- ---- lists by index

slice_get-more : {X : Type 0} (xs ys : List X) (k : ℕ) (x : X) → slice_get xs k ≡ Some x → slice_get (xs ++ ys) k ≡ Some x
slice_get-more [] ys k x h = absurd (cc)
slice_get-more (a ∷ xs) ys zero x h = h
slice_get-more (a ∷ xs) ys (suc k) x h = slice_get-more xs ys k x h

pub slice_get-last : {X : Type 0} (xs : List X) (x : X) → slice_get (xs ++ x ∷ []) (length xs) ≡ Some x
slice_get-last [] x = refl
slice_get-last (a ∷ xs) x = slice_get-last xs x

slice_get-snoc : {X : Type 0} (xs : List X) (y : X) (k : ℕ) (z : X) → slice_get (xs ++ y ∷ []) k ≡ Some z → (slice_get xs k ≡ Some z) ⊎ ((k ≡ length xs) × (y ≡ z))
slice_get-snoc [] y zero z h = inr (refl, (let k : Some y ≡ Some z = h in cc))
slice_get-snoc [] y (suc k) z h = absurd (let e : None ≡ Some z = h in cc)
slice_get-snoc (a ∷ xs) y zero z h = inl h
slice_get-snoc (a ∷ xs) y (suc k) z h = elim (slice_get-snoc xs y k z h) [ inl l ↦ inl l | inr p ↦ inr (ap suc p.0, p.1) ]

-- what stands at a place of a list in which one place was set
slice_get-set : {X : Type 0} (xs : List X) (i : ℕ) (y : X) (k : ℕ) (z : X) → slice_get (slice_set xs i y) k ≡ Some z → (slice_get xs k ≡ Some z) ⊎ ((k ≡ i) × (y ≡ z))
slice_get-set [] i y k z h = inl h
slice_get-set (a ∷ xs) zero y zero z h = inr (refl, (let e : Some y ≡ Some z = h in cc))
slice_get-set (a ∷ xs) zero y (suc k) z h = inl h
slice_get-set (a ∷ xs) (suc i) y zero z h = inl h
slice_get-set (a ∷ xs) (suc i) y (suc k) z h = elim (slice_get-set xs i y k z h) [ inl l ↦ inl l | inr p ↦ inr (ap suc p.0, p.1) ]

length-set : {X : Type 0} (xs : List X) (i : ℕ) (y : X) → length (slice_set xs i y) ≡ length xs
length-set [] i y = refl
length-set (a ∷ xs) zero y = refl
length-set (a ∷ xs) (suc i) y = ap suc (length-set xs i y)

length-snoc : {X : Type 0} (xs : List X) (x : X) → length (xs ++ x ∷ []) ≡ suc (length xs)
length-snoc [] x = refl
length-snoc (a ∷ xs) x = ap suc (length-snoc xs x)

-- ---- a store that grows

pub grows-self : (S : StoreTypes) → Grows S S
grows-self S = record { news = []; is = sym (append-nil S) }

pub grows-more : (S T U : StoreTypes) → Grows S T → Grows T U → Grows S U
grows-more S T U g h = record { news = g.news ++ h.news; is = h.is ∙ ap (λ (x : StoreTypes). x ++ h.news) g.is ∙ append_assoc S g.news h.news }

module _ (p : Parts) (S more_types : StoreTypes) where
  mutual
    value-grows : (v : Value) (t : SchemeTree) → ValueHas p S v t → ValueHas p (S ++ more_types) v t
    value-grows v t (ValueHas.integer n) = ValueHas.integer n
    value-grows v t (ValueHas.character c) = ValueHas.character c
    value-grows v t (ValueHas.text s) = ValueHas.text s
    value-grows v t (ValueHas.con c d vs ts e h) = ValueHas.con c d vs ts e (values-grow vs (map (inst ts) (arguments_of p d)) h)
    value-grows v t (ValueHas.tuple vs ts h) = ValueHas.tuple vs ts (values-grow vs ts h)
    value-grows v t (ValueHas.rel r ins outs h) = ValueHas.rel r ins outs h
    value-grows v t (ValueHas.cell k u e) = ValueHas.cell k u (slice_get-more S more_types k u e)
    value-grows v t (ValueHas.items vs ts u are h) = ValueHas.items vs ts u are (values-grow vs ts h)

    values-grow : (vs : List Value) (ts : List SchemeTree) → ValuesHave p S vs ts → ValuesHave p (S ++ more_types) vs ts
    values-grow vs ts ValuesHave.none = ValuesHave.none
    values-grow vs ts (ValuesHave.more v t ws us h k) = ValuesHave.more v t ws us (value-grows v t h) (values-grow ws us k)

module _ (p : Parts) (S T : StoreTypes) (g : Grows S T) where
  pub value-on : (v : Value) (t : SchemeTree) → ValueHas p S v t → ValueHas p T v t
  value-on v t h = subst (λ (x : StoreTypes). ValueHas p x v t) (sym g.is) (value-grows p S g.news v t h)

  pub env-on : (reads : SchemeTree → SchemeTree) (G : Assigned) (env : Env) → EnvHas p S reads G env → EnvHas p T reads G env
  env-on reads G env h x v is = value-on v (reads (G x)) (h x v is)

-- a new entry that is not set
pub store-new : (p : Parts) (S : StoreTypes) (t : SchemeTree) (store : Store) → StoreHas p S store → StoreHas p (S ++ t ∷ []) (store ++ None ∷ [])
store-new p S t store h = record {
  long = length-snoc S t ∙ ap suc h.long ∙ sym (length-snoc store None);
  typed = λ k u v at is. elim (slice_get-snoc store None k (Some v) is) [
    | inl l ↦ (elim (slice_get-snoc S t k u at) [
      | inl m ↦ value-on p S (S ++ t ∷ []) (record { news = t ∷ []; is = refl }) v u (h.typed k u v m l)
      | inr q ↦ absurd (let less = slice_get_within store k (Some v) l in let e = q.0 in let long = h.long in omega arith)
    ])
    | inr q ↦ absurd (let e : None ≡ Some v = q.1 in cc)
  ];
}

-- an entry that is set to a value of its type
pub store-set : (p : Parts) (S : StoreTypes) (k : ℕ) (t : SchemeTree) (v : Value) (store : Store) → slice_get S k ≡ Some t → ValueHas p S v t → StoreHas p S store → StoreHas p S (slice_set store k (Some v))
store-set p S k t v store at has h = record {
  long = h.long ∙ sym (length-set store k (Some v));
  typed = λ j u w there is. elim (slice_get-set store k (Some v) j (Some w) is) [
    | inl l ↦ h.typed j u w there l
    | inr q ↦
        (let same : t ≡ u = (let e : slice_get S k ≡ Some u = subst (λ (x : ℕ). slice_get S x ≡ Some u) q.0 there in cc) in
        let is : v ≡ w = (let e = q.1 in cc) in
        subst (λ (x : Value). ValueHas p S x u) is (subst (ValueHas p S v) same has))
  ];
}
