-- Graphs that grow, and types made from labels on them.
use Rattle.std.proofs.Common.{◌≡◌, ℕ, zero, suc, ◌+◌, ◌-◌, ◌<◌, ◌≤◌, List, [], ◌∷◌, ◌++◌, length, map, take, drop, refl, sym, ap, ◌∙◌, arith, append_assoc, length-append, get_or, Option, Some, None, subst, Result, Ok, Err}
use Rattle.std.specs.Prelude.{◌==◌, true, false, Bool, IsTrue, IfOk, OnOk, OnErr, All}
use Rattle.std.specs.List.{AllByRecursion}
use Rattle.std.proofs.Math.Seq.{take-append_seam}
use Rattle.std.proofs.lemmas.Bool.Decides.{nat_tests}
use Rattle.std.proofs.lemmas.List.{append-nil, map-id, get_or-map, get_or_append_left, get_or_at, length-map, length-take-le, map-append, take_all, length-drop, drop_more, get_or_default}
use Rattle.std.proofs.lemmas.List.Elements.{All-append, All-cons, All-nil, All-same, All-take}
use Rattle.rml_types.specs.declared.form.Form.{Form}
use Rattle.rml_types.specs.declared.form.TypeCon.{TypeCon}
use Rattle.rml_types.specs.declared.form.TypeCon.TheVariants as con
use Rattle.rml_base.specs.declared.memory.Memory.{Memory}
use Rattle.rml_types.specs.declared.scheme.Scheme.{Scheme}
use Rattle.rml_types.specs.declared.tree.SchemeTree.{SchemeTree}
use Rattle.rml_types.specs.declared.tree.SchemeTree.TheVariants as tree
use Rattle.rml_types.specs.Finite.{Adds, HasTypes, built, with_type}
use Rattle.rml_types.specs.Labels.{Label, all_labels, labels}
use Rattle.rml_types.specs.Nodes.{Fits, HasNoFixed, Nodes, form_of, with_node}
use Rattle.rml_types.specs.Runs.{Fresh, Grows, HasInstances, InScope, Keeps, Making, Placed, Placing, Ready, make, run, run_by}
use Rattle.rml_types.specs.Schemes.{every, inst, unit, vars_below}
use Rattle.rml_types.proofs.FiniteTypes.{drop-seam, induct-built, map-parts, nil-of}
use Rattle.rml_types.proofs.Grown.{Equal, Less, More, none-some, order, past-one}
use Rattle.rml_types.proofs.LabelLists.{labels-built}
use Rattle.rml_types.proofs.Substitutions.{below-Named, below-Rel, below-Tuple, below-Var, both, inst-Named, inst-Rel, inst-Tuple, inst-Var, named}

pub keeps-refl : (g : Nodes) → Keeps g g
keeps-refl g = record { failed = refl; count = omega arith; restricts = λ types h. h; extends = λ types h. (types, h, λ n lt. refl) }

pub keeps-trans : (a b c : Nodes) → Keeps a b → Keeps b c → Keeps a c
keeps-trans a b c f g = record {
  failed = g.failed ∙ f.failed;
  count = (let p = f.count in let q = g.count in omega arith);
  restricts = λ types h. f.restricts types (g.restricts types h);
  extends = λ types h. (
      let p = f.extends types h in
      let q = g.extends p.0 p.1 in
      (q.0, q.1, λ n lt. q.2 n (let k = f.count in omega arith) ∙ p.2 n lt));
}

pub grows-refl : (g : Nodes) → Grows g g
grows-refl g = record { kept = keeps-refl g; unfixed = λ h. h }

pub grows-trans : (a b c : Nodes) → Grows a b → Grows b c → Grows a c
grows-trans a b c f g = record { kept = keeps-trans a b c f.kept g.kept; unfixed = λ h. g.unfixed (f.unfixed h) }

other-than : (types : ℕ → SchemeTree) (n : ℕ) (t : SchemeTree) (m : ℕ) → (m ≡ n → ⊥) → with_type types n t m ≡ types m
other-than types n t m ne = let e : (m == n) ≡ false = grind (arith, nat_tests, ne) in rw e refl

at-that : (types : ℕ → SchemeTree) (n : ℕ) (t : SchemeTree) → with_type types n t n ≡ t
at-that types n t = let e : (n == n) ≡ true = grind (arith, nat_tests) in rw e refl

type-for : (types : ℕ → SchemeTree) → Option Form → SchemeTree
type-for types None = unit
type-for types (Some f) = built f.con (map types f.args)

type-for-is : (types : ℕ → SchemeTree) (o : Option Form) (f : Form) → o ≡ Some f → type-for types o ≡ built f.con (map types f.args)
unfolding type-for
type-for-is types o f e = ap (type-for types) e

-- a node more that is no variable that stands fixed
pub unfixed-more : (g : Nodes) (form : Option Form) → ((f : Form) (k : ℕ) → form ≡ Some f → f.con ≡ con.Fixed k → ⊥) → HasNoFixed g → HasNoFixed (with_node g form)
unfixed-more g form other h n f k e q = elim (order n (length g.forms)) [
  | Less lt ↦ h n f k (sym (get_or_append_left g.forms (form ∷ []) None n lt) ∙ e) q
  | Equal same ↦ other f k (sym (get_or_at g.forms form [] None n (sym same)) ∙ e) q
  | More gt ↦ none-some (past-one g.forms form n None gt) e
]

pub keeps-by : (old new : Nodes) (form : Option Form) → new ≡ with_node old form → Adds old new form → Keeps old new
keeps-by old new form e a = record {
  failed = ap (λ (g : Nodes). g.failed) e;
  count = (let k = ap (λ (g : Nodes). length g.forms) e in let l = length-append old.forms (form ∷ []) in omega arith);
  restricts = a.restricts;
  extends = λ types h. (
    with_type types (length old.forms) (type-for types form),
    a.extends types (type-for types form) h (λ f q. type-for-is types form f q),
    λ n lt. other-than types (length old.forms) (type-for types form) n (λ q. omega arith),
  );
}

pub grows-by : (old new : Nodes) (form : Option Form) → ((f : Form) (k : ℕ) → form ≡ Some f → f.con ≡ con.Fixed k → ⊥) → new ≡ with_node old form → Adds old new form → Grows old new
grows-by old new form other e a = record { kept = keeps-by old new form e a; unfixed = λ h. subst HasNoFixed (sym e) (unfixed-more old form other h) }

pub fresh-none : (g : Nodes) → Fresh g g []
fresh-none g = record { within = λ i lt. absurd (omega arith); each = λ types ts h. (types, h, λ n lt. refl, λ k lt. absurd (omega arith)) }

-- fresh nodes stay so where the graph grows
pub fresh-on : (old mid new : Nodes) (nodes : List ℕ) → Grows old mid → Grows mid new → Fresh old mid nodes → Fresh old new nodes
fresh-on old mid new nodes before after f = record {
  within = λ i lt. (let w = f.within i lt in let c = after.kept.count in omega arith);
  each = λ types ts h. (
      let p = f.each types ts h in
      let q = after.kept.extends p.0 p.1 in
      (q.0, q.1, λ n lt. q.2 n (let c = before.kept.count in omega arith) ∙ p.2 n lt, λ k lt. q.2 (get_or nodes k 0) (f.within k lt) ∙ p.3 k lt));
}

pub fresh-more : (old mid new : Nodes) (nodes : List ℕ) (node : ℕ) → Grows old mid → Fresh old mid nodes → new ≡ with_node mid None → Adds mid new None → node ≡ length mid.forms → Fresh old new (nodes ++ node ∷ [])
fresh-more old mid new nodes node before f e a is = record {
  within = λ i lt. (
      let k = ap (λ (g : Nodes). length g.forms) e in let l = length-append mid.forms (None ∷ []) in let m = length-append nodes (node ∷ []) in
      elim (order i (length nodes)) [
        | Less h ↦ (let w = f.within i h in let g = get_or_append_left nodes (node ∷ []) 0 i h in omega arith)
        | Equal h ↦ (let g = get_or_at nodes node [] 0 i (sym h) in omega arith)
        | More h ↦ absurd (omega arith)
      ]);
  each = λ types ts h. (
      let p = f.each types ts h in
      let t = get_or ts (length nodes) unit in (
        with_type p.0 (length mid.forms) t,
        a.extends p.0 t p.1 (λ g q. none-is g q),
        λ n lt. other-than p.0 (length mid.forms) t n (λ q. (let c = before.kept.count in omega arith)) ∙ p.2 n lt,
        λ k lt. (let m = length-append nodes (node ∷ []) in elim (order k (length nodes)) [
          | Less h ↦ (let w = f.within k h in ap (with_type p.0 (length mid.forms) t) (get_or_append_left nodes (node ∷ []) 0 k h) ∙ other-than p.0 (length mid.forms) t (get_or nodes k 0) (λ q. omega arith) ∙ p.3 k h)
          | Equal h ↦ ap (with_type p.0 (length mid.forms) t) (get_or_at nodes node [] 0 k (sym h) ∙ is) ∙ at-that p.0 (length mid.forms) t ∙ ap (λ j. get_or ts j unit) (sym h)
          | More h ↦ absurd (omega arith)
        ]),
      ));
} where
  none-is : {A : Type 0} (g : Form) → None ≡ Some g → A
  none-is g q = cc

-- what a label makes of instances is the instance of what it makes
pub make-inst : (vars : List SchemeTree) (c : TypeCon) (us : List SchemeTree) → make vars c (map (inst vars) us) ≡ inst vars (built c us)
make-inst vars (con.Fixed k) us = sym (inst-Var vars k)
make-inst vars (con.Named c) us = sym (inst-Named vars c us)
make-inst vars con.Tuple us = sym (inst-Tuple vars us)
make-inst vars (con.Rel k) us = ap (λ x. tree.Rel x (drop k (map (inst vars) us))) (take-map k us) ∙ ap (tree.Rel (map (inst vars) (take k us))) (drop-map k us) ∙ sym (inst-Rel vars (take k us) (drop k us)) where
  take-map : (k : ℕ) (us : List SchemeTree) → take k (map (inst vars) us) ≡ map (inst vars) (take k us)
  take-map zero us = refl
  take-map (suc k) [] = refl
  take-map (suc k) (u ∷ us) = ap (λ x. inst vars u ∷ x) (take-map k us)

  drop-map : (k : ℕ) (us : List SchemeTree) → drop k (map (inst vars) us) ≡ map (inst vars) (drop k us)
  drop-map zero us = refl
  drop-map (suc k) [] = refl
  drop-map (suc k) (u ∷ us) = drop-map k us

seam : {X : Type 0} (xs ys : List X) (n : ℕ) → n ≡ length ys → length (xs ++ ys) - n ≡ length xs
seam xs ys n e = let l = length-append xs ys in omega arith

-- the last that was made gives way to what a label makes of it
pub run-label : {A : Type 0} (by : TypeCon → List A → A) (c : TypeCon) (n : ℕ) (ls : List Label) (ts us : List A) → n ≡ length us → run_by by ((c, n) ∷ ls) (ts ++ us) ≡ run_by by ls (ts ++ by c us ∷ [])
run-label by c n ls ts us e =
    ap (λ k. run_by by ls (take k (ts ++ us) ++ by c (drop k (ts ++ us)) ∷ [])) (seam ts us n e)
    ∙ ap (λ xs. run_by by ls (xs ++ by c (drop (length ts) (ts ++ us)) ∷ [])) (take-append_seam ts us)
    ∙ ap (λ xs. run_by by ls (ts ++ by c xs ∷ [])) (drop-seam ts us)

-- What goes by constructors is made from labels.
module _ {A : Type 0} (by : TypeCon → List A → A) (f : SchemeTree → A) (goes : (c : TypeCon) (us : List SchemeTree) → Fits c (length us) → by c (map f us) ≡ f (built c us)) where
  abbrev RunsTo : SchemeTree → Type 0
  RunsTo t = (ls : List Label) (made : List A) → run_by by (labels t ++ ls) made ≡ run_by by ls (made ++ f t ∷ [])

  run-all : (us : List SchemeTree) → AllByRecursion RunsTo us → (ls : List Label) (made : List A) → run_by by (all_labels us ++ ls) made ≡ run_by by ls (made ++ map f us)
  run-all [] a ls made = ap (run_by by ls) (sym (append-nil made))
  run-all (u ∷ us) a ls made =
      ap (λ xs. run_by by xs made) (append_assoc (labels u) (all_labels us) ls) ∙ a.0 (all_labels us ++ ls) made ∙ run-all us a.1 ls (made ++ f u ∷ [])
      ∙ ap (run_by by ls) (append_assoc made (f u ∷ []) (map f us))

  runs-to : (t : SchemeTree) → RunsTo t
  runs-to = induct-built RunsTo (λ c us fits a ls made.
      ap (λ xs. run_by by (xs ++ ls) made) (labels-built c us fits) ∙ ap (λ xs. run_by by xs made) (append_assoc (all_labels us) ((c, length us) ∷ []) ls)
      ∙ run-all us a ((c, length us) ∷ ls) made
      ∙ run-label by c (length us) ls made (map f us) (sym (length-map us f))
      ∙ ap (λ x. run_by by ls (made ++ x ∷ [])) (goes c us fits))

  pub begun-by : (t : SchemeTree) → run_by by (labels t) [] ≡ f t ∷ []
  begun-by t = ap (λ xs. run_by by xs []) (sym (append-nil (labels t))) ∙ runs-to t [] []

pub every-append : (xs ys : List Bool) → IsTrue (every xs) → IsTrue (every ys) → IsTrue (every (xs ++ ys))
every-append [] ys a b = b
every-append (true ∷ xs) ys a b = every-append xs ys a b
every-append (false ∷ xs) ys a b = cc

below-parts : (n : ℕ) (c : TypeCon) (us : List SchemeTree) → Fits c (length us) → IsTrue (vars_below n (built c us)) → InScope n c × IsTrue (every (map (vars_below n) us))
below-parts n (con.Fixed k) us fits h = (below-Var n k h, ap (λ xs. every (map (vars_below n) xs)) (nil-of us fits))
below-parts n (con.Named c) us fits h = (tt, below-Named n c us h)
below-parts n con.Tuple us fits h = (tt, below-Tuple n us h)
below-parts n (con.Rel k) us fits h =
    let p = below-Rel n (take k us) (drop k us) h in
    (tt, subst (λ xs. IsTrue (every xs)) (map-parts (vars_below n) k us) (every-append (map (vars_below n) (take k us)) (map (vars_below n) (drop k us)) p.0 p.1))

-- the labels of a type whose variables are below a number leave one type more
abbrev LeavesOne : ℕ → SchemeTree → Type 0
LeavesOne vars t = IsTrue (vars_below vars t) → (ls : List Label) (k : ℕ) → Ready vars ls (k + 1) → Ready vars (labels t ++ ls) k

ready-all : (vars : ℕ) (us : List SchemeTree) → AllByRecursion (LeavesOne vars) us → IsTrue (every (map (vars_below vars) us)) → (ls : List Label) (k : ℕ) → Ready vars ls (k + length us) → Ready vars (all_labels us ++ ls) k
ready-all vars [] a b ls k r = let e : k + 0 ≡ k = omega arith in subst (Ready vars ls) e r
ready-all vars (u ∷ us) a b ls k r =
    let (p, q) = both (vars_below vars u) (every (map (vars_below vars) us)) b in
    let e : k + suc (length us) ≡ (k + 1) + length us = omega arith in
    subst (λ xs. Ready vars xs k) (sym (append_assoc (labels u) (all_labels us) ls)) (a.0 p (all_labels us ++ ls) k (ready-all vars us a.1 q ls (k + 1) (subst (Ready vars ls) e r)))

pub ready-to : (vars : ℕ) (t : SchemeTree) → LeavesOne vars t
ready-to vars = induct-built (LeavesOne vars) (λ c us fits a below ls k r.
    let p = below-parts vars c us fits below in
    let e : k + length us - length us + 1 ≡ k + 1 = omega arith in
    subst (λ xs. Ready vars xs k) (sym (ap (λ xs. xs ++ ls) (labels-built c us fits) ∙ append_assoc (all_labels us) ((c, length us) ∷ []) ls))
    (ready-all vars us a p.1 ((c, length us) ∷ ls) k (omega arith, fits, p.0, subst (Ready vars ls) (sym e) r)))

pub begun-ready : (vars : ℕ) (t : SchemeTree) → IsTrue (vars_below vars t) → Ready vars (labels t) 0
begun-ready vars t below = subst (λ xs. Ready vars xs 0) (append-nil (labels t)) (ready-to vars t below [] 0 (omega arith))

pub begun-runs : (vars : List SchemeTree) (t : SchemeTree) → run vars (labels t) [] ≡ inst vars t ∷ []
begun-runs vars = begun-by (make vars) (inst vars) (λ c us fits. make-inst vars c us)

pub begun-stands : (t : SchemeTree) → run_by built (labels t) [] ≡ t ∷ []
begun-stands = begun-by built (λ t. t) (λ c us fits. ap (built c) (map-id us))

pub make-other : (vars : List SchemeTree) (c : TypeCon) (ts : List SchemeTree) → ((k : ℕ) → c ≡ con.Fixed k → ⊥) → make vars c ts ≡ built c ts
make-other vars (con.Fixed k) ts other = absurd (other k refl)
make-other vars (con.Named c) ts other = refl
make-other vars con.Tuple ts other = refl
make-other vars (con.Rel k) ts other = refl

-- what a new node of a form does where variables stand fixed
pub record Stands (old new : Nodes) (c : TypeCon) (args : List ℕ) (r : Result ℕ Memory) : Type 0 where
  pub keeps : Keeps old new
  pub within : IfOk r (λ n. n < length new.forms)
  pub types : IfOk r (λ n. (types : ℕ → SchemeTree) → HasTypes new types → types n ≡ built c (map types args))

pub stands : (old new : Nodes) (c : TypeCon) (args : List ℕ) (r : Result ℕ Memory) → IfOk r (λ n. n ≡ length old.forms)
    → OnOk r (new ≡ with_node old (Some (record { con = c; args = args }))) → OnOk r (Adds old new (Some (record { con = c; args = args }))) → OnErr r (new ≡ old) → Stands old new c args r
stands old new c args (Err e) node ok types err = record { keeps = subst (Keeps old) (sym err) (keeps-refl old); within = tt; types = tt }
stands old new c args (Ok n) node ok types err =
    let f : Form = record { con = c; args = args } in
    let k = ap (λ (g : Nodes). length g.forms) ok in
    let l = length-append old.forms (Some f ∷ []) in
    let at : form_of new n ≡ Some f = ap (λ (g : Nodes). form_of g n) ok ∙ get_or_at old.forms (Some f) [] None n (sym node) in
    record { keeps = keeps-by old new (Some f) ok types; within = omega arith; types = λ sigma h. h.forms n f at }

-- and where a variable is a node of its own
pub record Labelled (old new : Nodes) (c : TypeCon) (args vars : List ℕ) (r : Result ℕ Memory) : Type 0 where
  pub grows : Grows old new
  pub within : IfOk r (λ n. n < length new.forms)
  pub types : IfOk r (λ n. (types : ℕ → SchemeTree) → HasTypes new types → types n ≡ make (map types vars) c (map types args))

some-of : {f g : Form} → Some f ≡ Some g → f ≡ g
some-of e = cc

pub no-form : (f : Form) (k : ℕ) → None ≡ Some f → f.con ≡ con.Fixed k → ⊥
no-form f k e q = none-some refl e

pub labelled : (old new : Nodes) (c : TypeCon) (args vars : List ℕ) (r : Result ℕ Memory) → ((k : ℕ) → c ≡ con.Fixed k → ⊥) → IfOk r (λ n. n ≡ length old.forms)
    → OnOk r (new ≡ with_node old (Some (record { con = c; args = args }))) → OnOk r (Adds old new (Some (record { con = c; args = args }))) → OnErr r (new ≡ old) → Labelled old new c args vars r
labelled old new c args vars (Err e) other node ok types err = record { grows = subst (Grows old) (sym err) (grows-refl old); within = tt; types = tt }
labelled old new c args vars (Ok n) other node ok types err =
    let s = stands old new c args (Ok n) node ok types err in
    record {
      grows = grows-by old new (Some (record { con = c; args = args })) (λ g k q r. other k (ap (λ (x : Form). x.con) (some-of q) ∙ r)) ok types;
      within = s.within;
      types = λ sigma h. s.types sigma h ∙ sym (make-other (map sigma vars) c (map sigma args) other);
    }

map-take : {X : Type 0} (f : ℕ → X) (k : ℕ) (xs : List ℕ) → map f (take k xs) ≡ take k (map f xs)
map-take f zero xs = refl
map-take f (suc k) [] = refl
map-take f (suc k) (x ∷ xs) = ap (λ ys. f x ∷ ys) (map-take f k xs)

map-drop : {X : Type 0} (f : ℕ → X) (k : ℕ) (xs : List ℕ) → map f (drop k xs) ≡ drop k (map f xs)
map-drop f zero xs = refl
map-drop f (suc k) [] = refl
map-drop f (suc k) (x ∷ xs) = map-drop f k xs

-- a greater graph has all nodes of the lesser
pub below-kept : (old new : Nodes) (xs : List ℕ) → Keeps old new → All (λ n. n < length old.forms) xs → All (λ n. n < length new.forms) xs
below-kept old new xs g a k d lt = let w = a k d lt in let c = g.count in omega arith

pub placed : (by : Making) (old new : Nodes) (l : Label) (made later : List ℕ) (node : ℕ) → Keeps old new → l.1 ≤ length made → All (λ n. n < length old.forms) made → node < length new.forms
    → ((types : ℕ → SchemeTree) → HasTypes new types → types node ≡ by types l.0 (map types (drop (length made - l.1) made)))
    → later ≡ take (length made - l.1) made ++ node ∷ [] → Placed by new l made later
placed by old new l made later node g le within inside types e = record {
  within = All-same (λ n. n < length new.forms) later (take (length made - l.1) made ++ node ∷ []) e
      (All-append (λ n. n < length new.forms) (take (length made - l.1) made) (node ∷ []) (All-take (λ n. n < length new.forms) (length made - l.1) made (below-kept old new made g within))
      (All-cons (λ n. n < length new.forms) node [] inside (All-nil (λ n. n < length new.forms))));
  count = (let a = ap length e in let b = length-append (take (length made - l.1) made) (node ∷ []) in let c = length-take-le (length made - l.1) made (omega arith) in omega (arith, a, b, c));
  types = λ sigma h. ap (map sigma) e ∙ map-append sigma (take (length made - l.1) made) (node ∷ [])
      ∙ ap (λ xs. xs ++ sigma node ∷ []) (map-take sigma (length made - l.1) made)
      ∙ ap (λ t. take (length made - l.1) (map sigma made) ++ t ∷ []) (types sigma h ∙ ap (by sigma l.0) (map-drop sigma (length made - l.1) made));
}

pub placing-next : (by : Making) (vars : ℕ) (old new : Nodes) (all ls : List Label) (l : Label) (made later : List ℕ) → Keeps old new → Placing by vars old all (l ∷ ls) made → Placed by new l made later → Placing by vars new all ls later
placing-next by vars old new all ls l made later g p q = record {
  ready = subst (Ready vars ls) (sym q.count) p.ready.3;
  within = q.within;
  types = λ sigma h. ap (run_by (by sigma) ls) (q.types sigma h ∙ ap (λ k. take (k - l.1) (map sigma made) ++ by sigma l.0 (drop (k - l.1) (map sigma made)) ∷ []) (sym (length-map made sigma))) ∙ p.types sigma (g.restricts sigma h);
}

pub placing-begun : (by : Making) (vars : ℕ) (g : Nodes) (all : List Label) → Ready vars all 0 → Placing by vars g all all []
placing-begun by vars g all r = record { ready = r; within = All-nil (λ n. n < length g.forms); types = λ sigma h. refl }

one-left : {X : Type 0} (f : ℕ → X) (xs : List ℕ) → length xs ≡ 1 → map f xs ≡ f (get_or xs 0 0) ∷ []
one-left f [] e = absurd (omega arith)
one-left f (x ∷ []) e = refl
one-left f (x ∷ y ∷ xs) e = absurd (omega arith)

pub placing-ended : (by : Making) (vars : ℕ) (g : Nodes) (all : List Label) (made : List ℕ) → Placing by vars g all [] made
    → (types : ℕ → SchemeTree) → HasTypes g types → run_by (by types) all [] ≡ types (get_or made 0 0) ∷ []
placing-ended by vars g all made p sigma h = sym (p.types sigma h) ∙ one-left sigma made p.ready

-- a node of a scheme's type over fresh nodes has the scheme's instances
pub has-instances : (old mid new : Nodes) (vars : List ℕ) (node : ℕ) (scheme : Scheme) → Grows old mid → Fresh old mid vars → length vars ≡ scheme.vars → Grows mid new → node < length new.forms
    → ((types : ℕ → SchemeTree) → HasTypes new types → run (map types vars) (labels scheme.body) [] ≡ types node ∷ []) → HasInstances old new node scheme.body
has-instances old mid new vars node scheme before fresh count after inside types = record {
  within = inside;
  instances = λ sigma h. (map sigma vars, is sigma h);
  each = λ sigma ts h. (
      let f = fresh-on old mid new vars before after fresh in
      let p = f.each sigma ts h in (
        p.0,
        p.1,
        p.2,
        is p.0 p.1 ∙ named scheme.vars (map p.0 vars) ts scheme.body scheme.vars_named
            (λ k lt. get_or-map p.0 vars k 0 unit (omega arith) ∙ p.3 k (omega arith)),
      ));
} where
  only : {t u : SchemeTree} → t ∷ [] ≡ u ∷ [] → t ≡ u
  only e = cc

  is : (sigma : ℕ → SchemeTree) → HasTypes new sigma → sigma node ≡ inst (map sigma vars) scheme.body
  is sigma h = only (sym (types sigma h) ∙ begun-runs (map sigma vars) scheme.body)

pub to-the-end : (xs : List ℕ) (k : ℕ) → take (length xs - k) (drop k xs) ≡ drop k xs
to-the-end xs k = take_all (length xs - k) (drop k xs) (let l = length-drop k xs in omega arith)

pub placing-step : (by : Making) (vars : ℕ) (old new : Nodes) (all : List Label) (i : ℕ) (l : Label) (made later : List ℕ) → i < length all → get_or all i l ≡ l → Keeps old new
    → Placing by vars old all (drop i all) made → Placed by new l made later → Placing by vars new all (drop (i + 1) all) later
placing-step by vars old new all i l made later lt e g p q =
    placing-next by vars old new all (drop (i + 1) all) l made later g (subst (λ ls. Placing by vars old all ls made) (drop_more all i l lt ∙ ap (λ x. x ∷ drop (i + 1) all) e) p) q

pub at-any : (all : List Label) (i : ℕ) (d : Label) → i < length all → get_or all i (get_or all i d) ≡ get_or all i d
at-any all i d lt = get_or_default all i (get_or all i d) d lt

pub instance-at : (old mid new : Nodes) (vars : List ℕ) (all : List Label) (scheme : Scheme) (r : Result ℕ Memory) → Grows old mid → Fresh old mid vars → length vars ≡ scheme.vars → all ≡ labels scheme.body → Grows mid new
    → IfOk r (λ n. n < length new.forms) → IfOk r (λ n. (types : ℕ → SchemeTree) → HasTypes new types → run (map types vars) all [] ≡ types n ∷ []) → IfOk r (λ n. HasInstances old new n scheme.body)
instance-at old mid new vars all scheme (Err e) before fresh count is after inside types = tt
instance-at old mid new vars all scheme (Ok n) before fresh count is after inside types =
    has-instances old mid new vars n scheme before fresh count after inside (λ sigma h. ap (λ ls. run (map sigma vars) ls []) (sym is) ∙ types sigma h)

pub fixed-at : (g : Nodes) (all : List Label) (t : SchemeTree) (r : Result ℕ Memory) → all ≡ labels t → IfOk r (λ n. (types : ℕ → SchemeTree) → HasTypes g types → run_by built all [] ≡ types n ∷ [])
    → IfOk r (λ n. (types : ℕ → SchemeTree) → HasTypes g types → types n ≡ t)
fixed-at g all t (Err e) is types = tt
fixed-at g all t (Ok n) is types = λ sigma h. only (sym (types sigma h) ∙ ap (λ ls. run_by built ls []) is ∙ begun-stands t) where
  only : {t u : SchemeTree} → t ∷ [] ≡ u ∷ [] → t ≡ u
  only e = cc
