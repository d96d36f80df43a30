-- Whether types are the same, as tests: what the tests answer is so.
use Rattle.std.proofs.Common.{◌≡◌, ℕ, Bool, true, false, List, [], ◌∷◌, refl, sym, ap, ◌∙◌, arith}
use Rattle.std.specs.Prelude.{nat_eq, ◌&&◌, ◌↔◌, IsTrue}
use Rattle.std.proofs.lemmas.Bool.Decides.{nat_tests}
use Rattle.rml_types.specs.Labels.{Label, labels}
use Rattle.rml_types.specs.declared.form.TypeCon.{TypeCon}
use Rattle.rml_types.specs.declared.form.TypeCon.TheVariants as con
use Rattle.rml_types.specs.declared.tree.SchemeTree.{SchemeTree}
use Rattle.rml_types.proofs.Callers.{both}
use Rattle.rml_type_ops.specs.Numbered.{numbered}
use Rattle.rml_type_ops.specs.Renaming.{IsSameUpToNames}
use Rattle.rml_type_ops.proofs.Renamings.{by-numbers, by-renaming}
use Rattle.rml_type_facts.specs.Same.{are_one, same_con, same_labels}

same-number : (m n : ℕ) → nat_eq m n ≡ true → m ≡ n
same-number m n e = grind (arith, nat_tests)

number-same : (n : ℕ) → nat_eq n n ≡ true
number-same n = grind (arith, nat_tests)

same-con : (c d : TypeCon) → same_con c d ≡ true → c ≡ d
same-con (con.Named c) (con.Named d) e = ap con.Named (same-number c d e)
same-con (con.Named c) (con.Fixed k) e = cc
same-con (con.Named c) con.Tuple e = cc
same-con (con.Named c) (con.Rel k) e = cc
same-con (con.Fixed j) (con.Named d) e = cc
same-con (con.Fixed j) (con.Fixed k) e = ap con.Fixed (same-number j k e)
same-con (con.Fixed j) con.Tuple e = cc
same-con (con.Fixed j) (con.Rel k) e = cc
same-con con.Tuple (con.Named d) e = cc
same-con con.Tuple (con.Fixed k) e = cc
same-con con.Tuple con.Tuple e = refl
same-con con.Tuple (con.Rel k) e = cc
same-con (con.Rel j) (con.Named d) e = cc
same-con (con.Rel j) (con.Fixed k) e = cc
same-con (con.Rel j) con.Tuple e = cc
same-con (con.Rel j) (con.Rel k) e = ap con.Rel (same-number j k e)

con-same : (c : TypeCon) → same_con c c ≡ true
con-same (con.Named c) = number-same c
con-same (con.Fixed k) = number-same k
con-same con.Tuple = refl
con-same (con.Rel k) = number-same k

pub same-labels : (ls ms : List Label) → same_labels ls ms ≡ true → ls ≡ ms
same-labels [] [] e = refl
same-labels [] (m ∷ ms) e = cc
same-labels (l ∷ ls) [] e = cc
same-labels (l ∷ ls) (m ∷ ms) e =
    let p = both (same_con l.0 m.0 && nat_eq l.1 m.1) (same_labels ls ms) e in
    let q = both (same_con l.0 m.0) (nat_eq l.1 m.1) p.0 in
    let c = same-con l.0 m.0 q.0 in
    let n = same-number l.1 m.1 q.1 in
    ap (λ (k : Label). k ∷ ls) (ap (λ d. (d, l.1)) c ∙ ap (λ i. (m.0, i)) n) ∙ ap (λ ks. m ∷ ks) (same-labels ls ms p.1)

labels-self : (ls : List Label) → same_labels ls ls ≡ true
labels-self [] = refl
labels-self (l ∷ ls) = rw (con-same l.0, number-same l.1, labels-self ls) refl

pub labels-same : (ls ms : List Label) → ls ≡ ms → same_labels ls ms ≡ true
labels-same ls ms e = ap (same_labels ls) (sym e) ∙ labels-self ls

-- tests that hold together are one
pub one-answer : (a b : Bool) → (a ≡ true → b ≡ true) → (b ≡ true → a ≡ true) → a ≡ b
one-answer true b f g = sym (f refl)
one-answer false true f g = g refl
one-answer false false f g = refl

-- two types are one by the test exactly where they are up to the names of their variables
pub one-types : (a b : SchemeTree) → IsTrue (are_one a b) ↔ IsSameUpToNames a b
one-types a b = (
  λ e. by-numbers a b (same-labels (numbered [] (labels a)) (numbered [] (labels b)) e),
  λ s. labels-same (numbered [] (labels a)) (numbered [] (labels b)) (by-renaming a b s),
)

pub one-type : (one : Bool) (a b : SchemeTree) → (IsTrue one ↔ IsSameUpToNames a b) → one ≡ are_one a b
one-type one a b h = one-answer one (are_one a b) (λ e. (one-types a b).1 (h.0 e)) (λ e. h.1 ((one-types a b).0 e))

pub same-type : (a b : SchemeTree) → a ≡ b → are_one a b ≡ true
same-type a b e = labels-same (numbered [] (labels a)) (numbered [] (labels b)) (ap (λ t. numbered [] (labels t)) e)
