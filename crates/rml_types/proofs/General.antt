-- What the classes that spell a type, and the labels that number its variables, say of the most general type.
use Rattle.std.proofs.Common.{◌≡◌, ℕ, zero, suc, ◌+◌, ◌-◌, ◌<◌, ◌≤◌, List, [], ◌∷◌, ◌++◌, length, map, refl, sym, ap, ◌∙◌, arith, subst, get_or, take, drop, Option, Some, None}
use Rattle.std.specs.Prelude.{All, max, slice_index, option_and_then}
use Rattle.std.specs.List.{AllByRecursion}
use Rattle.std.proofs.Math.Nat.{le-max_left, le-max_right}
use Rattle.std.proofs.lemmas.List.{length-map}
use Rattle.rml_types.specs.declared.form.Form.{Form}
use Rattle.rml_types.specs.declared.form.TypeCon.{TypeCon}
use Rattle.rml_types.specs.declared.form.TypeCon.TheVariants as con
use Rattle.rml_types.specs.declared.scheme.Scheme.{Scheme}
use Rattle.rml_types.specs.declared.tree.SchemeTree.{SchemeTree}
use Rattle.rml_types.specs.declared.tree.SchemeTree.TheVariants as tree
use Rattle.rml_types.specs.Finite.{HasTypes, built, nodes, sum_of}
use Rattle.rml_types.specs.General.{HasType, InOrder, IsGeneral, IsNumbered, IsWide}
use Rattle.rml_types.specs.Kept.{IsGraph, known_by}
use Rattle.rml_types.specs.Labels.{Label, labels}
use Rattle.rml_types.specs.Nodes.{HasNoFixed, Fits, Nodes, class_of, form_in}
use Rattle.rml_types.specs.Runs.{InScope, Ready, make, run}
use Rattle.rml_types.specs.Schemes.{inst, unit}
use Rattle.rml_types.specs.Spelled.{IsName, Names, Numbered, Spells, Unfixed, Unfolds, class_labels, label_by, leaves, number_of, place}
use Rattle.rml_types.specs.Walks.{Ends, Sizes}
use Rattle.rml_types.specs.Written.{level, written}
use Rattle.rml_types.proofs.FiniteTypes.{induct-built, nil-of, nodes-built}
use Rattle.rml_types.proofs.Grown.{Equal, Less, More, none-some, order, past}
use Rattle.rml_types.proofs.Growth.{begun-runs, make-inst, make-other}
use Rattle.rml_types.proofs.LabelNumbers.{labels-nodes, variables-labels}
use Rattle.rml_types.proofs.Numbering.{at-place}
use Rattle.rml_types.proofs.Spelled.{in-scope, known-form, leaf-at, nodes-some}
use Rattle.rml_types.proofs.Substitutions.{inst-Var}
use Rattle.rml_types.proofs.Turns.{known-is}
use Rattle.rml_types.proofs.Written.{class-type, known-type, levels-enough, sizes, written-types}

-- labels under names and labels of classes do the same
module _ (known : ℕ → Option Form) (unfixed : Unfixed known) where
  pub names-length : (vars cs : List ℕ) (ls : List Label) → Names known vars cs ls → length ls ≡ length cs
  names-length vars [] [] n = refl
  names-length vars [] (l ∷ ls) n = absurd n
  names-length vars (c ∷ cs) [] n = absurd n
  names-length vars (c ∷ cs) (l ∷ ls) n = ap suc (names-length vars cs ls n.1)

  ready-name : (vars : List ℕ) (count : ℕ) (c : ℕ) (o : Option Form) (l : Label) (k : ℕ) (A B : ℕ → Type 0) → known c ≡ o → IsName vars o c l → ((j : ℕ) → A j → B j)
      → ((label_by c o).1 ≤ k) × Fits (label_by c o).0 (label_by c o).1 × InScope count (label_by c o).0 × A (k - (label_by c o).1 + 1)
      → (l.1 ≤ k) × Fits l.0 l.1 × InScope (length vars) l.0 × B (k - l.1 + 1)
  ready-name vars count c None l k A B e is rest r = let back = sym is.0 in
      subst (λ (m : Label). (m.1 ≤ k) × Fits m.0 m.1 × InScope (length vars) m.0 × B (k - m.1 + 1)) back (r.0, refl, is.1, rest (k - 0 + 1) r.3)
  ready-name vars count c (Some f) l k A B e is rest r = let back = sym is in
      subst (λ (m : Label). (m.1 ≤ k) × Fits m.0 m.1 × InScope (length vars) m.0 × B (k - m.1 + 1)) back (r.0, r.1, in-scope (length vars) f.con (λ j q. unfixed c f j e q), rest (k - length f.args + 1) r.3)

  pub ready-named : (vars : List ℕ) (count : ℕ) (cs : List ℕ) (ls : List Label) → Names known vars cs ls → (k : ℕ) → Ready count (class_labels known cs) k → Ready (length vars) ls k
  ready-named vars count [] [] n k r = r
  ready-named vars count [] (l ∷ ls) n k r = absurd n
  ready-named vars count (c ∷ cs) [] n k r = absurd n
  ready-named vars count (c ∷ cs) (l ∷ ls) n k r =
      ready-name vars count c (known c) l k (Ready count (class_labels known cs)) (Ready (length vars) ls) refl n.0 (ready-named vars count cs ls n.1) r

  make-name : (vs ws : List SchemeTree) (vars : List ℕ) (c : ℕ) (o : Option Form) (l : Label) → known c ≡ o → IsName vars o c l → (place vars c < length vars → get_or vs (place vars c) unit ≡ get_or ws c unit)
      → (l.1 ≡ (label_by c o).1) × ((us : List SchemeTree) → make vs l.0 us ≡ make ws (label_by c o).0 us)
  make-name vs ws vars c None l e is agree = (ap (λ (m : Label). m.1) is.0, λ us. ap (λ (m : Label). make vs m.0 us) is.0 ∙ agree is.1)
  make-name vs ws vars c (Some f) l e is agree = (
    ap (λ (m : Label). m.1) is,
    λ us. ap (λ (m : Label). make vs m.0 us) is ∙ make-other vs f.con us (λ k q. unfixed c f k e q) ∙ sym (make-other ws f.con us (λ k q. unfixed c f k e q)),
  )

  pub run-named : (vs ws : List SchemeTree) (vars : List ℕ) (count : ℕ) (cs : List ℕ) (ls : List Label) → Names known vars cs ls → AllByRecursion (λ c. c < count) cs
      → ((c : ℕ) → c < count → place vars c < length vars → get_or vs (place vars c) unit ≡ get_or ws c unit) → (ts : List SchemeTree) → run vs ls ts ≡ run ws (class_labels known cs) ts
  run-named vs ws vars count [] [] n within agree ts = refl
  run-named vs ws vars count [] (l ∷ ls) n within agree ts = absurd n
  run-named vs ws vars count (c ∷ cs) [] n within agree ts = absurd n
  run-named vs ws vars count (c ∷ cs) (l ∷ ls) n within agree ts =
      let m = make-name vs ws vars c (known c) l refl n.0 (agree c within.0) in
      run-named vs ws vars count cs ls n.1 within.1 agree (take (length ts - l.1) ts ++ make vs l.0 (drop (length ts - l.1) ts) ∷ [])
      ∙ ap (run ws (class_labels known cs)) (ap (λ t. take (length ts - l.1) ts ++ t ∷ []) (m.1 (drop (length ts - l.1) ts))
      ∙ ap (λ k. take (length ts - k) ts ++ make ws (label_by c (known c)).0 (drop (length ts - k) ts) ∷ []) m.0)

-- no substitution takes nodes away
abbrev Widens : List SchemeTree → SchemeTree → Type 0
Widens vs t = nodes t ≤ nodes (inst vs t)

sums-widen : (vs : List SchemeTree) (ts : List SchemeTree) → AllByRecursion (Widens vs) ts → sum_of (map nodes ts) ≤ sum_of (map nodes (map (inst vs) ts))
sums-widen vs [] a = omega arith
sums-widen vs (t ∷ ts) a = let e = a.0 in let f = sums-widen vs ts a.1 in omega arith

widens-built : (vs : List SchemeTree) (c : TypeCon) (ts : List SchemeTree) → Fits c (length ts) → ((k : ℕ) → c ≡ con.Fixed k → ⊥) → AllByRecursion (Widens vs) ts → Widens vs (built c ts)
widens-built vs c ts fits other a =
    let e = ap nodes (sym (make-inst vs c ts) ∙ make-other vs c (map (inst vs) ts) other) in
    let n = nodes-built c ts fits in
    let m = nodes-built c (map (inst vs) ts) (subst (Fits c) (sym (length-map ts (inst vs))) fits) in
    let s = sums-widen vs ts a in
    omega arith

not-fixed : {A : Type 0} (c : TypeCon) (k : ℕ) → number_of c ≡ [] → c ≡ con.Fixed k → A
not-fixed c k e q = let h : number_of c ≡ k ∷ [] = ap number_of q in cc

pub widens : (vs : List SchemeTree) (t : SchemeTree) → Widens vs t
widens vs = induct-built (Widens vs) step where
  step : (c : TypeCon) (ts : List SchemeTree) → Fits c (length ts) → AllByRecursion (Widens vs) ts → Widens vs (built c ts)
  step (con.Fixed k) ts fits a = let n = nodes-built (con.Fixed k) ts fits in let z = ap (λ us. sum_of (map nodes us)) (nil-of ts fits) in let m = nodes-some (inst vs (built (con.Fixed k) ts)) in omega arith
  step (con.Named c) ts fits a = widens-built vs (con.Named c) ts fits (λ k q. not-fixed (con.Named c) k refl q) a
  step con.Tuple ts fits a = widens-built vs con.Tuple ts fits (λ k q. not-fixed con.Tuple k refl q) a
  step (con.Rel inputs) ts fits a = widens-built vs (con.Rel inputs) ts fits (λ k q. not-fixed (con.Rel inputs) k refl q) a

pub narrowest : (g : Nodes) (node : ℕ) (body t : SchemeTree) → IsGeneral g node body → HasType g node t → nodes body ≤ nodes t
narrowest g node body t general h = let i = (general t).1 h in let w = widens i.0 body in let e = ap nodes i.1 in omega arith

only : {t u : SchemeTree} → t ∷ [] ≡ u ∷ [] → t ≡ u
only e = cc

each-within : (count : ℕ) (cs : List ℕ) → All (λ c. c < count) cs → AllByRecursion (λ c. c < count) cs
each-within count [] a = tt
each-within count (c ∷ cs) a = (a 0 c (omega arith), each-within count cs (λ k d lt. a (suc k) d (omega arith)))

-- a number above some sizes
above : (size : ℕ → ℕ) (count : ℕ) → (most : ℕ) × ((n : ℕ) → n < count → size n < most)
above size zero = (0, λ n lt. absurd (omega arith))
above size (suc count) =
    let a = above size count in (
      max a.0 (size count + 1),
      λ n lt. (let l = le-max_left a.0 (size count + 1) in let r = le-max_right a.0 (size count + 1) in elim (order n count) [
        | Less h ↦ (let w = a.1 n h in omega (arith, l, w))
        | Equal e ↦ (let w = ap size e in omega (arith, r, w))
        | More h ↦ absurd (omega arith)
      ]),
    )

module _ (g : Nodes) (shapes : List (Option ℕ)) (is : IsGraph g shapes) (fine : g.failed ≡ None) (finite : (types : ℕ → SchemeTree) × HasTypes g types) (no_fixed : HasNoFixed g) where
  abbrev known : ℕ → Option Form
  known = known_by g.forms shapes

  pub unfixed : Unfixed known
  unfixed c f k e q = let n = known-form g.forms shapes c f e in no_fixed n.0 f k n.1 q

  -- types that solve the graph unfold, each class without a form being its own leaf
  unfolds : (types : ℕ → SchemeTree) → HasTypes g types → Unfolds (class_of g) known types types
  unfolds types h n = go (known (class_of g n)) refl where
    go : (o : Option Form) → known (class_of g n) ≡ o → types n ≡ level types types (class_of g n) o
    go None e = sym (class-type g known is.fits is.own (known-is g shapes is) types h n)
    go (Some f) e = sym (class-type g known is.fits is.own (known-is g shapes is) types h n) ∙ known-type g known is.fits is.own (known-is g shapes is) types h (class_of g n) f (is.own n) e

  size : ℕ → ℕ
  size c = nodes (finite.0 c)

  falls : Sizes (class_of g) known size
  unfolding size
  falls = sizes g known is.fits is.own (known-is g shapes is) finite.0 finite.1

  ends-by-size : (k c : ℕ) → class_of g c ≡ c → size c < k → Ends (class_of g) known k c
  ends-by-size zero c own lt = absurd (omega arith)
  ends-by-size (suc k) c own lt = λ f e i within. ends-by-size k (class_of g (slice_index f.args i)) (is.own (slice_index f.args i)) (let s = falls c f own e i within in omega (arith, s))

  most : (most : ℕ) × ((n : ℕ) → n < length g.forms → size (class_of g n) < most)
  most = above (λ n. size (class_of g n)) (length g.forms)

  pub levels : ℕ
  levels = most.0

  pub ends : (n : ℕ) → n < length g.forms → Ends (class_of g) known levels (class_of g n)
  unfolding levels
  ends n lt = ends-by-size most.0 (class_of g n) (is.own n) (most.1 n lt)

  ends-more : (k c : ℕ) → Ends (class_of g) known k c → Ends (class_of g) known (suc k) c
  ends-more zero c e = absurd e
  ends-more (suc k) c e = λ f q i lt. ends-more k (class_of g (slice_index f.args i)) (e f q i lt)

  ends-all : (n : ℕ) → Ends (class_of g) known (suc levels) (class_of g n)
  ends-all n = elim (order n (length g.forms)) [
    | Less h ↦ ends-more levels (class_of g n) (ends n h)
    | Equal q ↦ nothing (omega arith)
    | More h ↦ nothing (omega arith)
  ] where
    nothing : length g.forms ≤ n → Ends (class_of g) known (suc levels) (class_of g n)
    nothing le f e i lt =
        let own : class_of g n ≡ n = past g.roots n n (let k = is.count in omega arith) in
        let none : get_or shapes n None ≡ None = past shapes n None (let k = is.shape_count in omega arith) in
        let some = known-form g.forms shapes n f (ap known (sym own) ∙ e) in
        let gone : known n ≡ None = ap (option_and_then (form_in g.forms)) none in
        none-some gone (ap known (sym own) ∙ e)

  -- the finite types with given leaves
  solution : (ℕ → SchemeTree) → ℕ → SchemeTree
  solution leaf = written leaf (class_of g) known (suc levels)

  solution-types : (leaf : ℕ → SchemeTree) → HasTypes g (solution leaf)
  unfolding solution
  solution-types leaf = written-types leaf g known (is.closed fine) (suc levels) (λ n f e. ends-all n)

  solution-unfolds : (leaf : ℕ → SchemeTree) → Unfolds (class_of g) known leaf (solution leaf)
  unfolding solution
  solution-unfolds leaf n = levels-enough leaf (class_of g) known (suc levels) n (ends-all n)

  -- what the labels make of some leaves is the type of the node over these leaves
  module _ (node : ℕ) (classes : List ℕ) (scheme : Scheme) (spells : Spells (class_of g) known (length g.forms) node classes) (numbered : Numbered known classes (labels scheme.body) scheme.vars) where
    made : (leaf types : ℕ → SchemeTree) (vs : List SchemeTree) → Unfolds (class_of g) known leaf types
        → ((c : ℕ) → c < length g.forms → place numbered.vars c < length numbered.vars → get_or vs (place numbered.vars c) unit ≡ leaf c) → types node ≡ inst vs scheme.body
    made leaf types vs u agree = only (
        sym (spells.types leaf types u)
        ∙ sym (run-named known unfixed vs (leaves leaf (length g.forms)) numbered.vars (length g.forms) classes (labels scheme.body) numbered.names (each-within (length g.forms) classes spells.within)
        (λ c lt inside. agree c lt inside ∙ sym (leaf-at leaf (length g.forms) c lt)) [])
        ∙ begun-runs vs scheme.body)

    pub is-general : IsGeneral g node scheme.body
    is-general t = (
      λ i. (
          let leaf : ℕ → SchemeTree = λ c. get_or i.0 (place numbered.vars c) unit in
          (solution leaf, solution-types leaf, made leaf (solution leaf) i.0 (solution-unfolds leaf) (λ c lt inside. refl) ∙ sym i.1)),
      λ h. (
        map h.0 numbered.vars,
        sym h.2 ∙ made h.0 h.0 (map h.0 numbered.vars) (unfolds h.0 h.1) (λ c lt inside. at-place h.0 unit numbered.vars c inside),
      ),
    )

    pub is-numbered : IsNumbered scheme.vars scheme.body
    is-numbered = subst (λ ks. InOrder 0 ks scheme.vars) (sym (variables-labels scheme.body)) numbered.order

    pub is-narrow : (limit : ℕ) → length classes ≤ limit → nodes scheme.body ≤ limit
    is-narrow limit le =
        let a = labels-nodes scheme.body in
        let c = names-length known unfixed numbered.vars classes (labels scheme.body) numbered.names in
        omega arith

  -- the type whose leaves are classes
  abbrev widest : ℕ → ℕ → SchemeTree
  widest = written (λ c. tree.Var c) (class_of g) known

  root-within : (n : ℕ) → n < length g.forms → class_of g n < length g.forms
  root-within n lt = is.rooted n lt

  args-within : (c : ℕ) (f : Form) → known c ≡ Some f → (i : ℕ) → i < length f.args → slice_index f.args i < length g.forms
  args-within c f e i lt = let n = known-form g.forms shapes c f e in is.arguments n.0 f n.1 i lt

  module _ (leaf types : ℕ → SchemeTree) (vs : List SchemeTree) (u : Unfolds (class_of g) known leaf types) (agree : (c : ℕ) → c < length g.forms → get_or vs c unit ≡ leaf c) where
    level-made : (k c : ℕ) (o : Option Form) → known c ≡ o → c < length g.forms → ((f : Form) → o ≡ Some f → map (inst vs) (map (widest k) f.args) ≡ map types f.args)
        → inst vs (level (λ d. tree.Var d) (widest k) c o) ≡ level leaf types c o
    level-made k c None e lt rest = inst-Var vs c ∙ agree c lt
    level-made k c (Some f) e lt rest =
        sym (make-inst vs f.con (map (widest k) f.args)) ∙ make-other vs f.con (map (inst vs) (map (widest k) f.args)) (λ j q. unfixed c f j e q) ∙ ap (built f.con) (rest f refl)

    widest-made : (k n : ℕ) → n < length g.forms → Ends (class_of g) known k (class_of g n) → inst vs (widest k n) ≡ types n
    widest-made zero n lt e = absurd e
    widest-made (suc k) n lt e =
        level-made k (class_of g n) (known (class_of g n)) refl (root-within n lt)
        (λ f q. twice f.args (λ i inside. widest-made k (slice_index f.args i) (args-within (class_of g n) f q i inside) (e f q i inside)))
        ∙ sym (u n)
      where
        twice : (args : List ℕ) → ((i : ℕ) → i < length args → inst vs (widest k (slice_index args i)) ≡ types (slice_index args i)) → map (inst vs) (map (widest k) args) ≡ map types args
        twice [] h = refl
        twice (a ∷ args) h = rw (h zero (omega arith)) (ap (λ ts. types a ∷ ts) (twice args (λ i inside. h (suc i) (omega arith))))

  -- the most general type of a node, however wide it is
  pub most-general : (node : ℕ) → node < length g.forms → (body : SchemeTree) × IsGeneral g node body
  most-general node lt = (
    widest (suc levels) node,
    λ t. (
      λ i. (
          let leaf : ℕ → SchemeTree = λ c. get_or i.0 c unit in
          (solution leaf, solution-types leaf, sym (widest-made leaf (solution leaf) i.0 (solution-unfolds leaf) (λ c inside. refl) (suc levels) node lt (ends-all node)) ∙ sym i.1)),
      λ h. (
        leaves h.0 (length g.forms),
        sym h.2 ∙ sym (widest-made h.0 h.0 (leaves h.0 (length g.forms)) (unfolds h.0 h.1) (λ c inside. leaf-at h.0 (length g.forms) c inside) (suc levels) node lt (ends-all node)),
      ),
    ),
  )

  pub is-wide : (node limit : ℕ) → node < length g.forms → ((leaf types : ℕ → SchemeTree) → Unfolds (class_of g) known leaf types → limit < nodes (types node)) → IsWide g node limit
  is-wide node limit lt wide =
      let m = most-general node lt in
      record {
        general = m.0;
        is = m.1;
        wide = λ t h. subst (λ s. limit < nodes s) h.2 (wide h.0 h.0 (unfolds h.0 h.1));
      }
