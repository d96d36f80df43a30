-- What labels say of a type: its nodes, its variables, and that no two types have the same labels.
use Rattle.rml_base.specs.declared.memory.Memory.{Memory}
use Rattle.std.proofs.Common.{◌≡◌, ℕ, ◌+◌, ◌<◌, ◌≤◌, List, [], ◌∷◌, ◌++◌, length, map, refl, sym, ap, ◌∙◌, arith, subst, length-append, append_assoc, take, drop, Option, Bool, true, false, Result, Ok, Err}
use Rattle.std.specs.Prelude.{IsTrue, ◌&&◌, max, IfOk, nat_lt}
use Rattle.std.specs.List.{AllByRecursion, list_all}
use Rattle.std.proofs.Math.Nat.{le-max_left, le-max_right}
use Rattle.std.proofs.lemmas.List.{append-nil}
use borrow.Author.Tests.{lt-ltb}
use Rattle.rml_types.specs.declared.form.Form.{Form}
use Rattle.rml_types.specs.declared.form.TypeCon.{TypeCon}
use Rattle.rml_types.specs.declared.form.TypeCon.TheVariants as con
use Rattle.rml_types.specs.declared.tree.SchemeTree.{SchemeTree}
use Rattle.rml_types.specs.declared.tree.SchemeTree.TheVariants as tree
use Rattle.rml_types.specs.Finite.{built, nodes, sum_of}
use Rattle.rml_types.specs.General.{InOrder, all_of, variables_at, variables_in}
use Rattle.rml_types.specs.Instances.{IsInstance}
use Rattle.rml_types.specs.Labels.{Label, all_labels, labels}
use Rattle.rml_types.specs.Nodes.{Fits}
use Rattle.rml_types.specs.Runs.{InScope, Ready, run}
use Rattle.rml_types.specs.Schemes.{below_at, every, names_below, vars_below}
use Rattle.rml_types.specs.Spelled.{Numbered, leaves, number_of, numbers_in}
use Rattle.rml_types.proofs.FiniteTypes.{induct-built, map-parts, nil-of, nodes-built}
use Rattle.rml_types.proofs.Growth.{begun-ready, begun-runs}
use Rattle.rml_types.proofs.LabelLists.{labels-built}
use Rattle.rml_types.proofs.Spelled.{leaf-at}
use Rattle.rml_types.proofs.Substitutions.{same}
use Rattle.rml_types.proofs.Trees.{fold-Var, fold-Named, fold-Tuple, fold-Rel}

-- what labels say of a type: its nodes and its variables
all-lengths : (ts : List SchemeTree) → AllByRecursion (λ t. length (labels t) ≡ nodes t) ts → length (all_labels ts) ≡ sum_of (map nodes ts)
all-lengths [] a = refl
all-lengths (t ∷ ts) a = let l = length-append (labels t) (all_labels ts) in let e = a.0 in let f = all-lengths ts a.1 in omega arith

pub labels-nodes : (t : SchemeTree) → length (labels t) ≡ nodes t
labels-nodes = induct-built (λ t. length (labels t) ≡ nodes t) (λ c ts fits a. (
    let e = ap length (labels-built c ts fits) in
    let l = length-append (all_labels ts) ((c, length ts) ∷ []) in
    let n = nodes-built c ts fits in
    let k = all-lengths ts a in
    omega arith))

numbers-append : (ls ms : List Label) → numbers_in (ls ++ ms) ≡ numbers_in ls ++ numbers_in ms
numbers-append [] ms = refl
numbers-append (l ∷ ls) ms = ap (λ ks. number_of l.0 ++ ks) (numbers-append ls ms) ∙ sym (append_assoc (number_of l.0) (numbers_in ls) (numbers_in ms))

numbers-built : (c : TypeCon) (ts : List SchemeTree) → Fits c (length ts) → numbers_in (labels (built c ts)) ≡ numbers_in (all_labels ts) ++ number_of c
numbers-built c ts fits = ap numbers_in (labels-built c ts fits) ∙ numbers-append (all_labels ts) ((c, length ts) ∷ []) ∙ ap (λ ks. numbers_in (all_labels ts) ++ ks) (append-nil (number_of c))

all-numbers : (ts : List SchemeTree) → AllByRecursion (λ t. variables_in t ≡ numbers_in (labels t)) ts → all_of (map variables_in ts) ≡ numbers_in (all_labels ts)
all-numbers [] a = refl
all-numbers (t ∷ ts) a = ap (λ ks. ks ++ all_of (map variables_in ts)) a.0 ∙ ap (λ ks. numbers_in (labels t) ++ ks) (all-numbers ts a.1) ∙ sym (numbers-append (labels t) (all_labels ts))

all-of-append : (xs ys : List (List ℕ)) → all_of (xs ++ ys) ≡ all_of xs ++ all_of ys
all-of-append [] ys = refl
all-of-append (x ∷ xs) ys = ap (λ ks. x ++ ks) (all-of-append xs ys) ∙ sym (append_assoc x (all_of xs) (all_of ys))

variables-built : (c : TypeCon) (ts : List SchemeTree) → Fits c (length ts) → variables_in (built c ts) ≡ all_of (map variables_in ts) ++ number_of c
variables-built (con.Fixed k) ts fits = fold-Var (List ℕ) variables_at k ∙ ap (λ us. all_of (map variables_in us) ++ k ∷ []) (sym (nil-of ts fits))
variables-built (con.Named c) ts fits = fold-Named (List ℕ) variables_at c ts ∙ sym (append-nil (all_of (map variables_in ts)))
variables-built con.Tuple ts fits = fold-Tuple (List ℕ) variables_at ts ∙ sym (append-nil (all_of (map variables_in ts)))
variables-built (con.Rel k) ts fits =
    fold-Rel (List ℕ) variables_at (take k ts) (drop k ts) ∙ sym (all-of-append (map variables_in (take k ts)) (map variables_in (drop k ts)))
    ∙ ap all_of (map-parts variables_in k ts) ∙ sym (append-nil (all_of (map variables_in ts)))

pub variables-labels : (t : SchemeTree) → variables_in t ≡ numbers_in (labels t)
variables-labels = induct-built (λ t. variables_in t ≡ numbers_in (labels t)) (λ c ts fits a.
    variables-built c ts fits ∙ ap (λ ks. ks ++ number_of c) (all-numbers ts a) ∙ sym (numbers-built c ts fits))

-- variables that are numbered in order are below their number
order-least : (next : ℕ) (ks : List ℕ) (count : ℕ) → InOrder next ks count → next ≤ count
order-least next [] count o = omega arith
order-least next (k ∷ ks) count o = let h = order-least (max next (k + 1)) ks count o.1 in let m = le-max_left next (k + 1) in omega (arith, h, m)

order-below : (next : ℕ) (ks : List ℕ) (count : ℕ) → InOrder next ks count → AllByRecursion (λ k. k < count) ks
order-below next [] count o = tt
order-below next (k ∷ ks) count o = ((let h = order-least (max next (k + 1)) ks count o.1 in let m = le-max_right next (k + 1) in omega (arith, h, m)), order-below (max next (k + 1)) ks count o.1)

pub all-left : {X : Type 0} (P : X → Type 0) (xs ys : List X) → AllByRecursion P (xs ++ ys) → AllByRecursion P xs
all-left P [] ys a = tt
all-left P (x ∷ xs) ys a = (a.0, all-left P xs ys a.1)

pub all-right : {X : Type 0} (P : X → Type 0) (xs ys : List X) → AllByRecursion P (xs ++ ys) → AllByRecursion P ys
all-right P [] ys a = a
all-right P (x ∷ xs) ys a = all-right P xs ys a.1

pub and-true : (a b : Bool) → a ≡ true → b ≡ true → (a && b) ≡ true
and-true a b p q = rw (p, q) refl

every-left : (xs ys : List Bool) → IsTrue (every (xs ++ ys)) → IsTrue (every xs)
every-left [] ys e = refl
every-left (true ∷ xs) ys e = every-left xs ys e
every-left (false ∷ xs) ys e = cc

every-right : (xs ys : List Bool) → IsTrue (every (xs ++ ys)) → IsTrue (every ys)
every-right [] ys e = e
every-right (true ∷ xs) ys e = every-right xs ys e
every-right (false ∷ xs) ys e = cc

pub below-built : (n : ℕ) (c : TypeCon) (ts : List SchemeTree) → InScope n c → IsTrue (every (map (vars_below n) ts)) → IsTrue (vars_below n (built c ts))
below-built n (con.Fixed k) ts scope e = fold-Var Bool (below_at n) k ∙ lt-ltb k n scope
below-built n (con.Named c) ts scope e = fold-Named Bool (below_at n) c ts ∙ e
below-built n con.Tuple ts scope e = fold-Tuple Bool (below_at n) ts ∙ e
below-built n (con.Rel k) ts scope e =
    let all : IsTrue (every (map (vars_below n) (take k ts) ++ map (vars_below n) (drop k ts))) = subst (λ bs. IsTrue (every bs)) (sym (map-parts (vars_below n) k ts)) e in
    fold-Rel Bool (below_at n) (take k ts) (drop k ts)
    ∙ and-true (every (map (vars_below n) (take k ts))) (every (map (vars_below n) (drop k ts))) (every-left (map (vars_below n) (take k ts)) (map (vars_below n) (drop k ts)) all) (every-right (map (vars_below n) (take k ts)) (map (vars_below n) (drop k ts)) all)

abbrev BelowByNumbers : ℕ → SchemeTree → Type 0
BelowByNumbers n t = AllByRecursion (λ k. k < n) (numbers_in (labels t)) → IsTrue (vars_below n t)

all-below : (n : ℕ) (ts : List SchemeTree) → AllByRecursion (BelowByNumbers n) ts → AllByRecursion (λ k. k < n) (numbers_in (all_labels ts)) → IsTrue (every (map (vars_below n) ts))
all-below n [] a h = refl
all-below n (t ∷ ts) a h =
    let both : AllByRecursion (λ k. k < n) (numbers_in (labels t) ++ numbers_in (all_labels ts)) = subst (AllByRecursion (λ k. k < n)) (numbers-append (labels t) (all_labels ts)) h in
    and-true (vars_below n t) (every (map (vars_below n) ts)) (a.0 (all-left (λ k. k < n) (numbers_in (labels t)) (numbers_in (all_labels ts)) both))
    (all-below n ts a.1 (all-right (λ k. k < n) (numbers_in (labels t)) (numbers_in (all_labels ts)) both))

scope-by : (n : ℕ) (c : TypeCon) → AllByRecursion (λ k. k < n) (number_of c) → InScope n c
scope-by n (con.Fixed k) a = a.0
scope-by n (con.Named c) a = tt
scope-by n con.Tuple a = tt
scope-by n (con.Rel k) a = tt

pub below-by-numbers : (n : ℕ) (t : SchemeTree) → BelowByNumbers n t
below-by-numbers n = induct-built (BelowByNumbers n) (λ c ts fits a h. (
    let both : AllByRecursion (λ k. k < n) (numbers_in (all_labels ts) ++ number_of c) = subst (AllByRecursion (λ k. k < n)) (numbers-built c ts fits) h in
    below-built n c ts (scope-by n c (all-right (λ k. k < n) (numbers_in (all_labels ts)) (number_of c) both)) (all-below n ts a (all-left (λ k. k < n) (numbers_in (all_labels ts)) (number_of c) both))))

pub named-by : (known : ℕ → Option Form) (classes : List ℕ) (ls : List Label) (count : ℕ) (body : SchemeTree) → Numbered known classes ls count → labels body ≡ ls → IsTrue (vars_below count body)
named-by known classes ls count body n e = below-by-numbers count body (subst (λ ms. AllByRecursion (λ k. k < count) (numbers_in ms)) (sym e) (order-below 0 (numbers_in ls) count n.order))

-- each variable of a type is below a number where each label is
abbrev below-label : ℕ → Label → Bool
below-label n l = names_below n l.0

all-join : {X : Type 0} (p : X → Bool) (xs ys : List X) → list_all p (xs ++ ys) ≡ (list_all p xs && list_all p ys)
all-join p [] ys = refl
all-join p (x ∷ xs) ys = rw (all-join p xs ys) (and-and (p x) (list_all p xs) (list_all p ys)) where
  and-and : (a b c : Bool) → (a && (b && c)) ≡ ((a && b) && c)
  and-and true b c = refl
  and-and false b c = refl

below-each : (n : ℕ) (ts : List SchemeTree) → AllByRecursion (λ t. list_all (below-label n) (labels t) ≡ vars_below n t) ts → list_all (below-label n) (all_labels ts) ≡ every (map (vars_below n) ts)
below-each n [] a = refl
below-each n (t ∷ ts) a = all-join (below-label n) (labels t) (all_labels ts) ∙ rw (a.0, below-each n ts a.1) refl

and-right : (b : Bool) → (b && true) ≡ b
and-right true = refl
and-right false = refl

below-parts-and : (n : ℕ) (c : TypeCon) (ts : List SchemeTree) → Fits c (length ts) → vars_below n (built c ts) ≡ (every (map (vars_below n) ts) && names_below n c)
below-parts-and n (con.Fixed k) ts fits = fold-Var Bool (below_at n) k ∙ ap (λ us. every (map (vars_below n) us) && nat_lt k n) (sym (nil-of ts fits))
below-parts-and n (con.Named c) ts fits = fold-Named Bool (below_at n) c ts ∙ sym (and-right (every (map (vars_below n) ts)))
below-parts-and n con.Tuple ts fits = fold-Tuple Bool (below_at n) ts ∙ sym (and-right (every (map (vars_below n) ts)))
below-parts-and n (con.Rel k) ts fits =
    fold-Rel Bool (below_at n) (take k ts) (drop k ts)
    ∙ sym (all-join (λ b. b) (map (vars_below n) (take k ts)) (map (vars_below n) (drop k ts)))
    ∙ ap every (map-parts (vars_below n) k ts)
    ∙ sym (and-right (every (map (vars_below n) ts)))

pub labels-below : (n : ℕ) (t : SchemeTree) → list_all (λ (l : Label). names_below n l.0) (labels t) ≡ vars_below n t
labels-below n = induct-built (λ t. list_all (below-label n) (labels t) ≡ vars_below n t) (λ c ts fits a.
    ap (list_all (below-label n)) (labels-built c ts fits)
    ∙ all-join (below-label n) (all_labels ts) ((c, length ts) ∷ [])
    ∙ ap (λ b. b && (names_below n c && true)) (below-each n ts a)
    ∙ ap (λ b. every (map (vars_below n) ts) && b) (and-right (names_below n c))
    ∙ sym (below-parts-and n c ts fits))

only : {t u : SchemeTree} → t ∷ [] ≡ u ∷ [] → t ≡ u
only e = cc

-- a number above some numbers
all-up : (m n : ℕ) (ks : List ℕ) → m ≤ n → AllByRecursion (λ k. k < m) ks → AllByRecursion (λ k. k < n) ks
all-up m n [] le a = tt
all-up m n (k ∷ ks) le a = ((let h = a.0 in omega arith), all-up m n ks le a.1)

bound : (ks : List ℕ) → (n : ℕ) × AllByRecursion (λ k. k < n) ks
bound [] = (0, tt)
bound (k ∷ ks) =
    let b = bound ks in
    let l = le-max_left (k + 1) b.0 in
    let r = le-max_right (k + 1) b.0 in
    (max (k + 1) b.0, (omega (arith, l), all-up b.0 (max (k + 1) b.0) ks r b.1))

-- each variable of a type is below some number
pub below-bound : (t : SchemeTree) → (n : ℕ) × IsTrue (vars_below n t)
below-bound t = let b = bound (numbers_in (labels t)) in (b.0, below-by-numbers b.0 t b.1)

-- each variable for itself
pub body-instance : (body : SchemeTree) → IsInstance body body
body-instance body =
    let b = below-bound body in
    let vs = leaves (λ c. tree.Var c) b.0 in
    (vs, sym (same b.0 vs body b.1 (leaf-at (λ c. tree.Var c) b.0)))

-- types with the same labels are one type
pub labels-one : (s t : SchemeTree) → labels s ≡ labels t → s ≡ t
labels-one s t e =
    let b = bound (numbers_in (labels s)) in
    let vs = leaves (λ c. tree.Var c) b.0 in
    let at = leaf-at (λ c. tree.Var c) b.0 in
    let whole_s = same b.0 vs s (below-by-numbers b.0 s b.1) at in
    let whole_t = same b.0 vs t (below-by-numbers b.0 t (subst (λ ls. AllByRecursion (λ k. k < b.0) (numbers_in ls)) e b.1)) at in
    sym whole_s ∙ only (sym (begun-runs vs s) ∙ ap (λ ls. run vs ls []) e ∙ begun-runs vs t) ∙ whole_t

-- the labels of a type are those of a type
pub labels-ready : (t : SchemeTree) → (vars : ℕ) × Ready vars (labels t) 0
labels-ready t = let b = below-bound t in (b.0, begun-ready b.0 t b.1)

-- a type made of the labels of another is the other
pub copied : (r : Result SchemeTree Memory) (all : List Label) (t : SchemeTree) → all ≡ labels t → IfOk r (λ s. labels s ≡ all) → IfOk r (λ s. s ≡ t)
copied (Ok s) all t e is = labels-one s t (is ∙ e)
copied (Err m) all t e is = tt
