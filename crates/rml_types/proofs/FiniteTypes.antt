-- Finite types as constructors over types, as trees, and by their nodes.
use Rattle.std.proofs.Common.{◌≡◌, ℕ, zero, suc, ◌+◌, ◌<◌, ◌≤◌, List, [], ◌∷◌, ◌++◌, length, map, take, drop, refl, sym, ap, ◌∙◌, arith, subst, Some, None, length-append, get_or}
use Rattle.std.specs.Prelude.{slice_index, if◌then◌else◌, nat_lt, true, false, Bool}
use Rattle.std.specs.List.{AllByRecursion}
use Rattle.std.proofs.Math.Seq.{take-append_seam}
use Rattle.std.proofs.lemmas.List.{take-append-drop, map-append, length-take-le, length-map}
use Rattle.std.proofs.lemmas.Bool.Decides.{nat_tests}
use borrow.Author.Tests.{ltb-true}
use Rattle.rml_types.specs.declared.form.Form.{Form}
use Rattle.rml_types.specs.declared.form.TypeCon.{TypeCon}
use Rattle.rml_types.specs.declared.form.TypeCon.TheVariants as con
use Rattle.rml_types.specs.declared.tree.SchemeTree.{SchemeTree}
use Rattle.rml_types.specs.declared.tree.SchemeTree.TheVariants as tree
use Rattle.rml_types.specs.Nodes.{CannotEquate, Equates, Fits, Nodes, Solves, form_of}
use Rattle.rml_types.specs.Trees.{Tree, Same}
use Rattle.rml_types.specs.Finite.{CannotEquateTypes, EquatesTypes, HasTypes, branch, built, node, nodes, nodes_at, sum_of, tree_at, tree_of}
use Rattle.rml_types.proofs.Trees.{induct, fold-Var, fold-Named, fold-Tuple, fold-Rel}

pub drop-seam : {X : Type 0} (xs ys : List X) → drop (length xs) (xs ++ ys) ≡ ys
drop-seam [] ys = refl
drop-seam (x ∷ xs) ys = drop-seam xs ys

all-append : {X : Type 0} (P : X → Type 0) (xs ys : List X) → AllByRecursion P xs → AllByRecursion P ys → AllByRecursion P (xs ++ ys)
all-append P [] ys a b = b
all-append P (x ∷ xs) ys a b = (a.0, all-append P xs ys a.1 b)

-- what holds of each constructor over types where it holds of these, holds of each type
pub induct-built : (P : SchemeTree → Type 0) → ((c : TypeCon) (ts : List SchemeTree) → Fits c (length ts) → AllByRecursion P ts → P (built c ts)) → (t : SchemeTree) → P t
induct-built P h = induct P
    (λ k. h (con.Fixed k) [] refl tt)
    (λ c ts a. h (con.Named c) ts tt a)
    (λ ts a. h con.Tuple ts tt a)
    (λ ins outs a b.
    subst P (ap (λ x. tree.Rel x (drop (length ins) (ins ++ outs))) (take-append_seam ins outs) ∙ ap (tree.Rel ins) (drop-seam ins outs))
    (h (con.Rel (length ins)) (ins ++ outs) (let l = length-append ins outs in omega arith) (all-append P ins outs a b)))

pub nil-of : {X : Type 0} (ts : List X) → length ts ≡ 0 → ts ≡ []
nil-of [] e = refl
nil-of (t ∷ ts) e = absurd (omega arith)

pub map-parts : {X : Type 0} (f : SchemeTree → X) (k : ℕ) (ts : List SchemeTree) → map f (take k ts) ++ map f (drop k ts) ≡ map f ts
map-parts f k ts = sym (map-append f (take k ts) (drop k ts)) ∙ ap (map f) (take-append-drop k ts)

-- the tree of a constructor over types
pub tree-built : (c : TypeCon) (ts : List SchemeTree) → Fits c (length ts) → tree_of (built c ts) ≡ node c (map tree_of ts)
tree-built (con.Named c) ts fits = fold-Named Tree tree_at c ts
tree-built (con.Fixed k) ts fits = fold-Var Tree tree_at k ∙ ap (λ us. node (con.Fixed k) (map tree_of us)) (sym (nil-of ts fits))
tree-built con.Tuple ts fits = fold-Tuple Tree tree_at ts
tree-built (con.Rel k) ts fits =
    let n : length (map tree_of (take k ts)) ≡ k = length-map (take k ts) tree_of ∙ length-take-le k ts fits in
    fold-Rel Tree tree_at (take k ts) (drop k ts) ∙ ap (λ m. node (con.Rel m) (map tree_of (take k ts) ++ map tree_of (drop k ts))) n ∙ ap (node (con.Rel k)) (map-parts tree_of k ts)

sum-append : (xs ys : List ℕ) → sum_of (xs ++ ys) ≡ sum_of xs + sum_of ys
sum-append [] ys = omega arith
sum-append (x ∷ xs) ys = omega (arith, sum-append xs ys)

-- the nodes of a constructor over types
pub nodes-built : (c : TypeCon) (ts : List SchemeTree) → Fits c (length ts) → nodes (built c ts) ≡ suc (sum_of (map nodes ts))
nodes-built (con.Named c) ts fits = fold-Named ℕ nodes_at c ts
nodes-built (con.Fixed k) ts fits = fold-Var ℕ nodes_at k ∙ ap (λ us. suc (sum_of (map nodes us))) (sym (nil-of ts fits))
nodes-built con.Tuple ts fits = fold-Tuple ℕ nodes_at ts
nodes-built (con.Rel k) ts fits = fold-Rel ℕ nodes_at (take k ts) (drop k ts) ∙ ap suc (sym (sum-append (map nodes (take k ts)) (map nodes (drop k ts))) ∙ ap sum_of (map-parts nodes k ts))

-- types with one tree are one type
abbrev IsKnownByTree : SchemeTree → Type 0
IsKnownByTree s = (t : SchemeTree) → Same (tree_of s) (tree_of t) → s ≡ t

same-branches : (ss ts : List SchemeTree) → AllByRecursion IsKnownByTree ss → length ss ≡ length ts → ((i : ℕ) (path : List ℕ) → branch (map tree_of ss) i path ≡ branch (map tree_of ts) i path) → ss ≡ ts
same-branches [] [] a n h = refl
same-branches [] (t ∷ ts) a n h = absurd (omega arith)
same-branches (s ∷ ss) [] a n h = absurd (omega arith)
same-branches (s ∷ ss) (t ∷ ts) a n h = rw (a.0 t (λ path. h zero path), same-branches ss ts a.1 (omega arith) (λ i path. h (suc i) path)) refl

some-of : {x y : TypeCon × ℕ} → Some x ≡ Some y → x ≡ y
some-of e = cc

some-pair : {x y : TypeCon × ℕ} → Some x ≡ Some y → (x.0 ≡ y.0) × (x.1 ≡ y.1)
some-pair e = let p = some-of e in (ap (λ (q : TypeCon × ℕ). q.0) p, ap (λ (q : TypeCon × ℕ). q.1) p)

same-nodes : (c d : TypeCon) (ss ts : List SchemeTree) → AllByRecursion IsKnownByTree ss → Same (node c (map tree_of ss)) (node d (map tree_of ts)) → built c ss ≡ built d ts
same-nodes c d ss ts a h =
    let p = some-pair (h []) in
    let n : length ss ≡ length ts = sym (length-map ss tree_of) ∙ p.1 ∙ length-map ts tree_of in
    let e : ss ≡ ts = same-branches ss ts a n (λ i path. h (i ∷ path)) in
    rw (p.0, e) refl

pub known-by-tree : (s t : SchemeTree) → Same (tree_of s) (tree_of t) → s ≡ t
known-by-tree = induct-built IsKnownByTree (λ c ss fits a t.
    induct-built (λ t. Same (tree_of (built c ss)) (tree_of t) → built c ss ≡ t) (λ d ts fits' b h.
    same-nodes c d ss ts a (λ path. ap (λ (u : Tree). u path) (sym (tree-built c ss fits)) ∙ h path ∙ ap (λ (u : Tree). u path) (tree-built d ts fits'))) t)

-- what stands in the trees of arguments
branch-within : (types : ℕ → SchemeTree) (args : List ℕ) (i : ℕ) (path : List ℕ) → i < length args → branch (map tree_of (map types args)) i path ≡ tree_of (types (slice_index args i)) path
branch-within types [] i path lt = absurd (omega arith)
branch-within types (a ∷ args) zero path lt = refl
branch-within types (a ∷ args) (suc i) path lt = branch-within types args i path (omega arith)

branch-past : (types : ℕ → SchemeTree) (args : List ℕ) (i : ℕ) (path : List ℕ) → length args ≤ i → branch (map tree_of (map types args)) i path ≡ None
branch-past types [] i path le = refl
branch-past types (a ∷ args) zero path le = absurd (omega arith)
branch-past types (a ∷ args) (suc i) path le = branch-past types args i path (omega arith)

branch-all : (types : ℕ → SchemeTree) (args : List ℕ) (i : ℕ) (path : List ℕ) → branch (map tree_of (map types args)) i path ≡ (if nat_lt i (length args) then tree_of (types (slice_index args i)) path else None)
branch-all types args i path = go (nat_lt i (length args)) refl where
  go : (b : Bool) → nat_lt i (length args) ≡ b → branch (map tree_of (map types args)) i path ≡ (if b then tree_of (types (slice_index args i)) path else None)
  go true e = branch-within types args i path (ltb-true i (length args) e)
  go false e = branch-past types args i path (not-less e) where
    not-less : nat_lt i (length args) ≡ false → length args ≤ i
    not-less e = grind (arith, nat_tests)

module _ (g : Nodes) (fits : (n : ℕ) (f : Form) → form_of g n ≡ Some f → Fits f.con (length f.args)) (types : ℕ → SchemeTree) where
  abbrev trees : ℕ → Tree
  trees n = tree_of (types n)

  tree-at : (n : ℕ) (f : Form) → form_of g n ≡ Some f → tree_of (built f.con (map types f.args)) ≡ node f.con (map tree_of (map types f.args))
  tree-at n f e = tree-built f.con (map types f.args) (subst (Fits f.con) (sym (length-map f.args types)) (fits n f e))

  count-at : (f : Form) → length (map tree_of (map types f.args)) ≡ length f.args
  count-at f = length-map (map types f.args) tree_of ∙ length-map f.args types

  -- finite types solve the graph as trees
  pub as-trees : HasTypes g types → Solves g (λ n. tree_of (types n))
  as-trees h = record {
    forms = λ n f e. (
        let at : tree_of (types n) ≡ node f.con (map tree_of (map types f.args)) = ap tree_of (h.forms n f e) ∙ tree-at n f e in
        (ap (λ (u : Tree). u []) at ∙ ap (λ m. Some (f.con, m)) (count-at f), λ i path. ap (λ (u : Tree). u (i ∷ path)) at ∙ branch-all types f.args i path));
    classes = λ m n e path. ap (λ t. tree_of t path) (h.classes m n e);
  }

  -- and where their trees do, they do
  pub as-types : Solves g (λ n. tree_of (types n)) → HasTypes g types
  as-types s = record {
    forms = λ n f e. known-by-tree (types n) (built f.con (map types f.args)) (λ path. whole n f e path ∙ ap (λ (u : Tree). u path) (sym (tree-at n f e)));
    classes = λ m n e. known-by-tree (types m) (types n) (s.classes m n e);
  } where
    whole : (n : ℕ) (f : Form) → form_of g n ≡ Some f → (path : List ℕ) → tree_of (types n) path ≡ node f.con (map tree_of (map types f.args)) path
    whole n f e [] = (s.forms n f e).0 ∙ ap (λ m. Some (f.con, m)) (sym (count-at f))
    whole n f e (i ∷ path) = (s.forms n f e).1 i path ∙ sym (branch-all types f.args i path)

module _ (old new : Nodes) (a b : ℕ) (same : new.forms ≡ old.forms) (fits : (n : ℕ) (f : Form) → form_of old n ≡ Some f → Fits f.con (length f.args)) where
  new-fits : (n : ℕ) (f : Form) → form_of new n ≡ Some f → Fits f.con (length f.args)
  new-fits n f e = fits n f (ap (λ fs. get_or fs n None) (sym same) ∙ e)

  -- what is equated for trees is so for finite types
  pub equated-types : Equates old new a b → EquatesTypes old new a b
  equated-types eq types = (
    λ h. (let s = (eq (λ n. tree_of (types n))).0 (as-trees new new-fits types h) in (as-types old fits types s.0, known-by-tree (types a) (types b) s.1)),
    λ h. as-types new new-fits types ((eq (λ n. tree_of (types n))).1 (as-trees old fits types h.0, λ path. ap (λ t. tree_of t path) h.1)),
  )

pub refused-types : (g : Nodes) (a b : ℕ) → ((n : ℕ) (f : Form) → form_of g n ≡ Some f → Fits f.con (length f.args)) → CannotEquate g a b → CannotEquateTypes g a b
refused-types g a b fits never types h e = never (λ n. tree_of (types n)) (as-trees g fits types h) (λ path. ap (λ t. tree_of t path) e)
