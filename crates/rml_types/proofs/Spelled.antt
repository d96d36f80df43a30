-- How classes come to spell the type of a node.
use Rattle.std.proofs.Common.{◌≡◌, ℕ, suc, ◌+◌, ◌-◌, ◌<◌, ◌≤◌, List, [], ◌∷◌, ◌++◌, length, map, refl, sym, ap, ◌∙◌, arith, subst, get_or, length-append, Option, Some, None}
use Rattle.std.specs.Prelude.{All, option_and_then}
use Rattle.std.proofs.lemmas.List.{get_or_append_left, get_or_at, get_or_default, length-map, map-append}
use Rattle.std.proofs.lemmas.List.Elements.{All-append, All-cons, All-nil, All-same}
use Rattle.std.proofs.lemmas.List.FromFn.{get_or-map-range_with_len}
use Rattle.rml_types.specs.declared.form.Form.{Form}
use Rattle.rml_types.specs.declared.form.TypeCon.{TypeCon}
use Rattle.rml_types.specs.declared.form.TypeCon.TheVariants as con
use Rattle.rml_types.specs.declared.tree.SchemeTree.{SchemeTree}
use Rattle.rml_types.specs.Finite.{nodes, sum_of}
use Rattle.rml_types.specs.Kept.{IsOpen, known_by}
use Rattle.rml_types.specs.Nodes.{Fits, form_in}
use Rattle.rml_types.specs.Runs.{InScope, Ready, make, run}
use Rattle.rml_types.specs.Schemes.{unit}
use Rattle.rml_types.specs.Spelled.{Spelling, Spells, Unfixed, Unfolds, args_in, class_labels, label_by, leaves}
use Rattle.rml_types.specs.Written.{level}
use Rattle.rml_types.proofs.FiniteTypes.{induct-built, nodes-built}
use Rattle.rml_types.proofs.Grown.{none-some}
use Rattle.rml_types.proofs.Growth.{make-other, run-label}

-- what is known of a class is the form of a node
pub known-form : (forms : List (Option Form)) (shapes : List (Option ℕ)) (c : ℕ) (f : Form) → known_by forms shapes c ≡ Some f → (n : ℕ) × (form_in forms n ≡ Some f)
known-form forms shapes c f e = go (get_or shapes c None) e where
  go : (o : Option ℕ) → option_and_then (form_in forms) o ≡ Some f → (n : ℕ) × (form_in forms n ≡ Some f)
  go None q = none-some refl q
  go (Some s) q = (s, q)

module _ (forms : List (Option Form)) (roots : List ℕ) (shapes : List (Option ℕ)) (is : IsOpen forms roots shapes) where
  pub known-fits : (c : ℕ) (f : Form) → known_by forms shapes c ≡ Some f → Fits f.con (length f.args)
  known-fits c f e = let n = known-form forms shapes c f e in is.fits n.0 f n.1

  pub known-within : (c : ℕ) → All (λ n. n < length forms) (args_in (known_by forms shapes c))
  known-within c = go (known_by forms shapes c) refl where
    go : (o : Option Form) → known_by forms shapes c ≡ o → All (λ n. n < length forms) (args_in o)
    go None e = All-nil (λ n. n < length forms)
    go (Some f) e = λ k d lt. (let n = known-form forms shapes c f e in subst (λ m. m < length forms) (get_or_default f.args k 0 d lt) (is.arguments n.0 f n.1 k lt))

pub in-scope : (count : ℕ) (c : TypeCon) → ((k : ℕ) → c ≡ con.Fixed k → ⊥) → InScope count c
in-scope count (con.Fixed k) other = absurd (other k refl)
in-scope count (con.Named c) other = tt
in-scope count con.Tuple other = tt
in-scope count (con.Rel k) other = tt

pub nodes-some : (t : SchemeTree) → 1 ≤ nodes t
nodes-some = induct-built (λ t. 1 ≤ nodes t) (λ c ts fits a. (let n = nodes-built c ts fits in omega arith))

pub nodes-many : (ts : List SchemeTree) → length ts ≤ sum_of (map nodes ts)
nodes-many [] = omega arith
nodes-many (t ∷ ts) = let a = nodes-some t in let b = nodes-many ts in omega arith

pub sum-joined : (ts us : List SchemeTree) → sum_of (map nodes (ts ++ us)) ≡ sum_of (map nodes ts) + sum_of (map nodes us)
sum-joined [] us = omega arith
sum-joined (t ∷ ts) us = omega (arith, sum-joined ts us)

all-front : {X : Type 0} (P : X → Type 0) (xs : List X) (y : X) → All P (xs ++ y ∷ []) → All P xs
all-front P xs y a k d lt = subst P (get_or_append_left xs (y ∷ []) d k lt) (a k d (let l = length-append xs (y ∷ []) in omega arith))

pub all-last : {X : Type 0} (P : X → Type 0) (xs : List X) (y : X) → All P (xs ++ y ∷ []) → P y
all-last P xs y a = subst P (get_or_at xs y [] y (length xs) refl) (a (length xs) y (let l = length-append xs (y ∷ []) in omega arith))

pub leaf-at : (leaf : ℕ → SchemeTree) (count c : ℕ) → c < count → get_or (leaves leaf count) c unit ≡ leaf c
leaf-at leaf count c lt = get_or-map-range_with_len leaf 0 count c c unit lt (omega arith)

module _ (root : ℕ → ℕ) (known : ℕ → Option Form) (count node : ℕ) (fits : (c : ℕ) (f : Form) → known c ≡ Some f → Fits f.con (length f.args)) (unfixed : Unfixed known) where
  pub spelling-begun : (waiting : List ℕ) → waiting ≡ node ∷ [] → node < count → Spelling root known count node waiting []
  spelling-begun waiting e lt = rw e (record {
    waits = All-cons (λ n. n < count) node [] lt (All-nil (λ n. n < count));
    within = All-nil (λ n. n < count);
    ready = refl;
    types = λ leaf types u. refl;
    wide = λ leaf types u. omega arith;
  })

  -- what is known of a class makes the type of a node from the types of its arguments
  made : (leaf types : ℕ → SchemeTree) (n c : ℕ) (o : Option Form) → Unfolds root known leaf types → c ≡ root n → c < count → known c ≡ o
      → make (leaves leaf count) (label_by c o).0 (map types (args_in o)) ≡ types n
  made leaf types n c None u is lt e = leaf-at leaf count c lt ∙ ap leaf is ∙ sym (u n ∙ ap (level leaf types (root n)) (ap known (sym is) ∙ e))
  made leaf types n c (Some f) u is lt e =
      make-other (leaves leaf count) f.con (map types f.args) (λ k q. unfixed c f k e q) ∙ sym (u n ∙ ap (level leaf types (root n)) (ap known (sym is) ∙ e))

  -- and its nodes are one more than theirs, at least
  heavier : (leaf types : ℕ → SchemeTree) (n : ℕ) (o : Option Form) → Unfolds root known leaf types → known (root n) ≡ o → suc (sum_of (map nodes (map types (args_in o)))) ≤ nodes (types n)
  heavier leaf types n None u e = nodes-some (types n)
  heavier leaf types n (Some f) u e =
      let t = ap nodes (u n ∙ ap (level leaf types (root n)) e) in
      let b = nodes-built f.con (map types f.args) (subst (Fits f.con) (sym (length-map f.args types)) (fits (root n) f e)) in
      omega arith

  label-fits : (c : ℕ) (o : Option Form) → known c ≡ o → c < count → Fits (label_by c o).0 (label_by c o).1 × InScope count (label_by c o).0 × ((label_by c o).1 ≡ length (args_in o))
  label-fits c None e lt = (refl, lt, refl)
  label-fits c (Some f) e lt = (fits c f e, in-scope count f.con (λ k q. unfixed c f k e q), refl)

  -- a node that waited is spelled by its class, and its arguments wait
  pub spelling-next : (old new spelled : List ℕ) (n c : ℕ) (args : List ℕ) → Spelling root known count node (old ++ n ∷ []) spelled → c ≡ root n → c < count
      → args ≡ args_in (known c) → All (λ m. m < count) args → new ≡ old ++ args → Spelling root known count node new (c ∷ spelled)
  spelling-next old new spelled n c args s is lt ea within en = record {
    waits = All-same (λ m. m < count) new (old ++ args) en (All-append (λ m. m < count) old args (all-front (λ m. m < count) old n s.waits) within);
    within = All-cons (λ m. m < count) c spelled lt s.within;
    ready = (
        let l = length-append old args in
        let k = length-append old (n ∷ []) in
        let m = ap length en in
        let a = ap length ea in
        let f = label-fits c (known c) refl lt in
        let e : length (old ++ n ∷ []) ≡ length new - (label_by c (known c)).1 + 1 = omega (arith, f.2) in
        (omega (arith, f.2), f.0, f.1, subst (Ready count (class_labels known spelled)) e s.ready));
    types = λ leaf types u. (
        ap (run (leaves leaf count) (class_labels known (c ∷ spelled))) (ap (map types) (en ∙ ap (λ xs. old ++ xs) ea) ∙ map-append types old (args_in (known c)))
        ∙ run-label (make (leaves leaf count)) (label_by c (known c)).0 (label_by c (known c)).1 (class_labels known spelled) (map types old) (map types (args_in (known c)))
        ((label-fits c (known c) refl lt).2 ∙ sym (length-map (args_in (known c)) types))
        ∙ ap (λ t. run (leaves leaf count) (class_labels known spelled) (map types old ++ t ∷ [])) (made leaf types n c (known c) u is lt refl)
        ∙ ap (run (leaves leaf count) (class_labels known spelled)) (sym (map-append types old (n ∷ [])))
        ∙ s.types leaf types u);
    wide = λ leaf types u. (
        let w = s.wide leaf types u in
        let h = heavier leaf types n (known (root n)) u refl in
        let a = ap (λ xs. sum_of (map nodes (map types xs))) (en ∙ ap (λ xs. old ++ xs) (ea ∙ ap (λ x. args_in (known x)) is)) in
        let b = ap (λ ts. sum_of (map nodes ts)) (map-append types old (args_in (known (root n)))) in
        let d = sum-joined (map types old) (map types (args_in (known (root n)))) in
        let f = ap (λ ts. sum_of (map nodes ts)) (map-append types old (n ∷ [])) in
        let g = sum-joined (map types old) (types n ∷ []) in
        omega arith);
  }

  -- where more would be spelled than there may be, the type is too wide
  pub spelling-wide : (old spelled : List ℕ) (n c limit : ℕ) (args : List ℕ) → Spelling root known count node (old ++ n ∷ []) spelled → c ≡ root n → args ≡ args_in (known c)
      → limit - length spelled - length old ≤ length args → (leaf types : ℕ → SchemeTree) → Unfolds root known leaf types → limit < nodes (types node)
  spelling-wide old spelled n c limit args s is ea room leaf types u =
      let w = s.wide leaf types u in
      let h = heavier leaf types n (known (root n)) u refl in
      let a = ap length (ea ∙ ap (λ x. args_in (known x)) is) in
      let b = nodes-many (map types (args_in (known (root n)))) in
      let bl = length-map (args_in (known (root n))) types in
      let d = nodes-many (map types old) in
      let dl = length-map old types in
      let f = ap (λ ts. sum_of (map nodes ts)) (map-append types old (n ∷ [])) in
      let g = sum-joined (map types old) (types n ∷ []) in
      omega arith

  pub spelling-ended : (waiting spelled : List ℕ) → waiting ≡ [] → Spelling root known count node waiting spelled → Spells root known count node spelled
  spelling-ended waiting spelled e s = record {
    within = s.within;
    ready = subst (λ xs. Ready count (class_labels known spelled) (length xs)) e s.ready;
    types = λ leaf types u. ap (λ (xs : List ℕ). run (leaves leaf count) (class_labels known spelled) (map types xs)) (sym e) ∙ s.types leaf types u;
  }
