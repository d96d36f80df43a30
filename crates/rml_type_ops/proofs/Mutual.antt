-- Types that are instances of each other are one up to names.
use Rattle.std.proofs.Common.{◌≡◌, ℕ, List, [], ◌∷◌, ◌++◌, map, refl, sym, ap, ◌∙◌, subst, get_or}
use Rattle.std.specs.Prelude.{◌↔◌}
use Rattle.std.specs.List.{AllByRecursion}
use Rattle.std.proofs.lemmas.List.Elements.{All-contains, All-from_recursion}
use Rattle.rml_types.specs.declared.tree.SchemeTree.{SchemeTree, out-SchemeTree}
use Rattle.rml_types.specs.declared.tree.SchemeTree.TheOpen.{SchemeTree-F}
use Rattle.rml_types.specs.declared.tree.SchemeTree.TheVariants as tree
use Rattle.rml_types.specs.declared.tree.SchemeTree.TheVariants.{rolls-Var, rolls-Named, rolls-Tuple, rolls-Rel}
use Rattle.rml_types.specs.declared.tree.SchemeTree.TheViews.{out-roll-SchemeTree}
use Rattle.rml_types.specs.General.{all_of, variables_at, variables_in}
use Rattle.rml_types.specs.Instances.{IsInstance}
use Rattle.rml_types.specs.Schemes.{inst, unit}
use Rattle.rml_types.proofs.Callers.{body-instance, fold-Named, fold-Rel, fold-Tuple, fold-Var, induct, inst-Named, inst-Rel, inst-Tuple, inst-Var}
use Rattle.rml_type_ops.specs.Renaming.{IsSameUpToNames, renamed, renamed_at}
use Rattle.rml_type_ops.proofs.Instances.{same-instances}

out-Var : (k : ℕ) → out-SchemeTree (tree.Var k) ≡ SchemeTree-F.Var k
out-Var k = ap out-SchemeTree (sym (rolls-Var k)) ∙ out-roll-SchemeTree (SchemeTree-F.Var k)

out-Named : (c : ℕ) (us : List SchemeTree) → out-SchemeTree (tree.Named c us) ≡ SchemeTree-F.Named c us
out-Named c us = ap out-SchemeTree (sym (rolls-Named c us)) ∙ out-roll-SchemeTree (SchemeTree-F.Named c us)

out-Tuple : (us : List SchemeTree) → out-SchemeTree (tree.Tuple us) ≡ SchemeTree-F.Tuple us
out-Tuple us = ap out-SchemeTree (sym (rolls-Tuple us)) ∙ out-roll-SchemeTree (SchemeTree-F.Tuple us)

out-Rel : (ins outs : List SchemeTree) → out-SchemeTree (tree.Rel ins outs) ≡ SchemeTree-F.Rel ins outs
out-Rel ins outs = ap out-SchemeTree (sym (rolls-Rel ins outs)) ∙ out-roll-SchemeTree (SchemeTree-F.Rel ins outs)

-- the parts of types that are one type
parts-Var : (j k : ℕ) → tree.Var j ≡ tree.Var k → j ≡ k
parts-Var j k e = let o = sym (out-Var j) ∙ ap out-SchemeTree e ∙ out-Var k in cc

parts-Named : (c : ℕ) (us vs : List SchemeTree) → tree.Named c us ≡ tree.Named c vs → us ≡ vs
parts-Named c us vs e = let o = sym (out-Named c us) ∙ ap out-SchemeTree e ∙ out-Named c vs in cc

parts-Tuple : (us vs : List SchemeTree) → tree.Tuple us ≡ tree.Tuple vs → us ≡ vs
parts-Tuple us vs e = let o = sym (out-Tuple us) ∙ ap out-SchemeTree e ∙ out-Tuple vs in cc

parts-Rel : (us vs ws xs : List SchemeTree) → tree.Rel us vs ≡ tree.Rel ws xs → (us ≡ ws) × (vs ≡ xs)
parts-Rel us vs ws xs e = let o = sym (out-Rel us vs) ∙ ap out-SchemeTree e ∙ out-Rel ws xs in (cc, cc)

-- only a variable has a variable as an instance
abbrev FromVar : List SchemeTree → ℕ → SchemeTree → Type 0
FromVar ts k u = inst ts u ≡ tree.Var k → (j : ℕ) × (u ≡ tree.Var j) × (get_or ts j unit ≡ tree.Var k)

from-var : (ts : List SchemeTree) (k : ℕ) (u : SchemeTree) → FromVar ts k u
from-var ts k = induct (FromVar ts k)
    (λ j e. (j, refl, sym (inst-Var ts j) ∙ e))
    (λ c us a e. (let o = sym (out-Named c (map (inst ts) us)) ∙ ap out-SchemeTree (sym (inst-Named ts c us) ∙ e) ∙ out-Var k in cc))
    (λ us a e. (let o = sym (out-Tuple (map (inst ts) us)) ∙ ap out-SchemeTree (sym (inst-Tuple ts us) ∙ e) ∙ out-Var k in cc))
    (λ ins outs a b e. (let o = sym (out-Rel (map (inst ts) ins) (map (inst ts) outs)) ∙ ap out-SchemeTree (sym (inst-Rel ts ins outs) ∙ e) ∙ out-Var k in cc))

-- the number of a variable
abbrev number_at : SchemeTree-F SchemeTree → ℕ
number_at (SchemeTree-F.Var k) = k
number_at (SchemeTree-F.Named c us) = 0
number_at (SchemeTree-F.Tuple us) = 0
number_at (SchemeTree-F.Rel ins outs) = 0

all-both : (P : ℕ → Type 0) (ks js : List ℕ) → AllByRecursion P ks → AllByRecursion P js → AllByRecursion P (ks ++ js)
all-both P [] js a b = b
all-both P (k ∷ ks) js a b = (a.0, all-both P ks js a.1 b)

-- of a type that two substitutions give back, the first renames the variables, and the second names them again
module _ (us ts : List SchemeTree) where
  abbrev name : ℕ → ℕ
  name k = number_at (out-SchemeTree (get_or us k unit))

  abbrev IsNamedAgain : ℕ → Type 0
  IsNamedAgain k = get_or ts (name k) unit ≡ tree.Var k

  pub record Renames (t : SchemeTree) : Type 0 where
    pub is : inst us t ≡ renamed name t
    pub again : AllByRecursion IsNamedAgain (variables_in t)

  abbrev Returns : SchemeTree → Type 0
  Returns t = inst ts (inst us t) ≡ t → Renames t

  heads : {x y : SchemeTree} {xs ys : List SchemeTree} → x ∷ xs ≡ y ∷ ys → (x ≡ y) × (xs ≡ ys)
  heads e = (cc, cc)

  all-return : (xs : List SchemeTree) → AllByRecursion Returns xs → map (inst ts) (map (inst us) xs) ≡ xs
      → (map (inst us) xs ≡ map (renamed name) xs) × AllByRecursion IsNamedAgain (all_of (map variables_in xs))
  all-return [] a e = (refl, tt)
  all-return (x ∷ xs) a e =
      let h = heads e in
      let r = a.0 h.0 in
      let s = all-return xs a.1 h.1 in
      (rw (r.is, s.0) refl, all-both IsNamedAgain (variables_in x) (all_of (map variables_in xs)) r.again s.1)

  var-returns : (k : ℕ) → Returns (tree.Var k)
  var-returns k e =
      let v = from-var ts k (get_or us k unit) (ap (inst ts) (sym (inst-Var us k)) ∙ e) in
      let n : name k ≡ v.0 = ap (λ u. number_at (out-SchemeTree u)) v.1 ∙ ap number_at (out-Var v.0) in
      record {
        is = inst-Var us k ∙ v.1 ∙ ap tree.Var (sym n) ∙ sym (fold-Var SchemeTree (renamed_at name) k);
        again = subst (AllByRecursion IsNamedAgain) (sym (fold-Var (List ℕ) variables_at k)) (ap (λ i. get_or ts i unit) n ∙ v.2, tt);
      }

  named-returns : (c : ℕ) (xs : List SchemeTree) → AllByRecursion Returns xs → Returns (tree.Named c xs)
  named-returns c xs a e =
      let s = all-return xs a (parts-Named c (map (inst ts) (map (inst us) xs)) xs (sym (ap (inst ts) (inst-Named us c xs) ∙ inst-Named ts c (map (inst us) xs)) ∙ e)) in
      record {
        is = inst-Named us c xs ∙ ap (tree.Named c) s.0 ∙ sym (fold-Named SchemeTree (renamed_at name) c xs);
        again = subst (AllByRecursion IsNamedAgain) (sym (fold-Named (List ℕ) variables_at c xs)) s.1;
      }

  tuple-returns : (xs : List SchemeTree) → AllByRecursion Returns xs → Returns (tree.Tuple xs)
  tuple-returns xs a e =
      let s = all-return xs a (parts-Tuple (map (inst ts) (map (inst us) xs)) xs (sym (ap (inst ts) (inst-Tuple us xs) ∙ inst-Tuple ts (map (inst us) xs)) ∙ e)) in
      record {
        is = inst-Tuple us xs ∙ ap tree.Tuple s.0 ∙ sym (fold-Tuple SchemeTree (renamed_at name) xs);
        again = subst (AllByRecursion IsNamedAgain) (sym (fold-Tuple (List ℕ) variables_at xs)) s.1;
      }

  rel-returns : (ins outs : List SchemeTree) → AllByRecursion Returns ins → AllByRecursion Returns outs → Returns (tree.Rel ins outs)
  rel-returns ins outs a b e =
      let p = parts-Rel (map (inst ts) (map (inst us) ins)) (map (inst ts) (map (inst us) outs)) ins outs
      (sym (ap (inst ts) (inst-Rel us ins outs) ∙ inst-Rel ts (map (inst us) ins) (map (inst us) outs)) ∙ e) in
      let s = all-return ins a p.0 in
      let r = all-return outs b p.1 in
      record {
        is = inst-Rel us ins outs ∙ ap (λ x. tree.Rel x (map (inst us) outs)) s.0 ∙ ap (tree.Rel (map (renamed name) ins)) r.0 ∙ sym (fold-Rel SchemeTree (renamed_at name) ins outs);
        again = subst (AllByRecursion IsNamedAgain) (sym (fold-Rel (List ℕ) variables_at ins outs))
            (all-both IsNamedAgain (all_of (map variables_in ins)) (all_of (map variables_in outs)) s.1 r.1);
      }

  returns : (t : SchemeTree) → Returns t
  returns = induct Returns var-returns named-returns tuple-returns rel-returns

by-instances : (a b : SchemeTree) → IsInstance a b → IsInstance b a → IsSameUpToNames a b
by-instances a b i j =
    let r = returns i.0 j.0 a (ap (inst j.0) (sym i.1) ∙ sym j.1) in
    let each = All-from_recursion (IsNamedAgain i.0 j.0) (variables_in a) r.again in
    record {
      name = name i.0 j.0;
      one_to_one = λ k l in_k in_l same. parts-Var k l (
          sym (All-contains (IsNamedAgain i.0 j.0) (variables_in a) k each in_k) ∙ ap (λ n. get_or j.0 n unit) same ∙ All-contains (IsNamedAgain i.0 j.0) (variables_in a) l each in_l);
      is = sym r.is ∙ sym i.1;
    }

pub mutual-instances : (a b : SchemeTree) → (IsInstance a b × IsInstance b a) ↔ IsSameUpToNames a b
mutual-instances a b = (
  λ h. by-instances a b h.0 h.1,
  λ s. ((same-instances a b b s).1 (body-instance b), (same-instances a b a s).0 (body-instance a)),
)
