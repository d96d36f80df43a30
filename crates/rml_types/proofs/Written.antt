-- Where the types below all classes end, types that are written out solve the graph. Where types solve it, their sizes fall.
use Rattle.std.proofs.Common.{◌≡◌, ℕ, zero, suc, ◌<◌, ◌≤◌, List, [], ◌∷◌, length, map, refl, sym, ap, ◌∙◌, arith, Option, Some, None, subst}
use Rattle.std.specs.Prelude.{slice_index, Bool, true, false, IsTrue, ◌↔◌}
use Rattle.std.proofs.lemmas.List.{length-map}
use Rattle.rml_types.specs.declared.form.Form.{Form}
use Rattle.rml_types.specs.declared.tree.SchemeTree.{SchemeTree}
use Rattle.rml_types.specs.Finite.{HasTypes, built, nodes, sum_of}
use Rattle.rml_types.specs.Kept.{IsGraph, IsOpen, known_by}
use Rattle.rml_types.specs.Nodes.{Fits, Nodes, class_of, form_of}
use Rattle.rml_types.specs.Waiting.{Closed, Known}
use Rattle.rml_types.specs.Walks.{Ends, Sizes}
use Rattle.rml_types.specs.Written.{level, written}
use Rattle.rml_types.proofs.FiniteTypes.{nodes-built}
use Rattle.rml_types.proofs.Grown.{Equal, Less, More, none-some, order, past}
use Rattle.rml_types.proofs.Turns.{known-is}
use Rattle.rml_types.specs.Schemes.{unit}

pub map-agree : {X : Type 0} (f g : ℕ → X) (xs ys : List ℕ) → length xs ≡ length ys → ((i : ℕ) → i < length xs → f (slice_index xs i) ≡ g (slice_index ys i)) → map f xs ≡ map g ys
map-agree f g [] [] n h = refl
map-agree f g [] (y ∷ ys) n h = absurd (omega arith)
map-agree f g (x ∷ xs) [] n h = absurd (omega arith)
map-agree f g (x ∷ xs) (y ∷ ys) n h = rw (h zero (omega arith), map-agree f g xs ys (omega arith) (λ i lt. h (suc i) (omega arith))) refl

module _ (leaf : ℕ → SchemeTree) (root : ℕ → ℕ) (known : ℕ → Option Form) where
  pub written-class : (k m n : ℕ) → root m ≡ root n → written leaf root known k m ≡ written leaf root known k n
  written-class zero m n e = refl
  written-class (suc k) m n e = ap (λ c. level leaf (written leaf root known k) c (known c)) e

  level-enough : (s t : ℕ → SchemeTree) (c : ℕ) (o : Option Form) → ((f : Form) → o ≡ Some f → (i : ℕ) → i < length f.args → s (slice_index f.args i) ≡ t (slice_index f.args i)) → level leaf s c o ≡ level leaf t c o
  level-enough s t c None h = refl
  level-enough s t c (Some f) h = ap (built f.con) (map-agree s t f.args f.args refl (h f refl))

  -- levels enough are all alike
  pub levels-enough : (k n : ℕ) → Ends root known k (root n) → written leaf root known k n ≡ written leaf root known (suc k) n
  levels-enough zero n e = absurd e
  levels-enough (suc k) n e = level-enough (written leaf root known k) (written leaf root known (suc k)) (root n) (known (root n)) (λ f q i lt. levels-enough k (slice_index f.args i) (e f q i lt))

module _ (leaf : ℕ → SchemeTree) (g : Nodes) (known : ℕ → Option Form) (closed : Closed (form_of g) (class_of g) known) (k : ℕ)
    (ends : (n : ℕ) (f : Form) → form_of g n ≡ Some f → Ends (class_of g) known k (class_of g n)) where
  pub written-types : HasTypes g (written leaf (class_of g) known k)
  written-types = record {
    forms = λ n f e. (
        let c = closed n f e in
        levels-enough leaf (class_of g) known k n (ends n f e)
        ∙ ap (level leaf (written leaf (class_of g) known k) (class_of g n)) c.1
        ∙ ap (λ d. built d (map (written leaf (class_of g) known k) c.0.args)) (sym c.2.con)
        ∙ ap (built f.con) (sym (map-agree (written leaf (class_of g) known k) (written leaf (class_of g) known k) f.args c.0.args c.2.count (λ i lt. written-class leaf (class_of g) known k (slice_index f.args i) (slice_index c.0.args i) (c.2.arguments i lt)))));
    classes = λ m n e. written-class leaf (class_of g) known k m n e;
  }

sum-has : (types : ℕ → SchemeTree) (args : List ℕ) (i : ℕ) → i < length args → nodes (types (slice_index args i)) ≤ sum_of (map nodes (map types args))
sum-has types [] i lt = absurd (omega arith)
sum-has types (a ∷ args) zero lt = omega arith
sum-has types (a ∷ args) (suc i) lt = let h = sum-has types args i (omega arith) in omega arith

module _ (g : Nodes) (known : ℕ → Option Form) (fits : (n : ℕ) (f : Form) → form_of g n ≡ Some f → Fits f.con (length f.args)) (own : (n : ℕ) → class_of g (class_of g n) ≡ class_of g n)
    (is : Known (form_of g) (class_of g) known) (types : ℕ → SchemeTree) (h : HasTypes g types) where
  -- the type of a class by its known form
  pub known-type : (c : ℕ) (f : Form) → class_of g c ≡ c → known c ≡ Some f → types c ≡ built f.con (map types f.args)
  known-type c f root e = let n = is c f root e in h.classes c n.0 (root ∙ sym n.1) ∙ h.forms n.0 f n.2

  pub class-type : (n : ℕ) → types (class_of g n) ≡ types n
  class-type n = h.classes (class_of g n) n (own n)

  pub known-fits : (c : ℕ) (f : Form) → class_of g c ≡ c → known c ≡ Some f → Fits f.con (length (map types f.args))
  known-fits c f root e = let n = is c f root e in subst (Fits f.con) (sym (length-map f.args types)) (fits n.0 f n.2)

  -- types that solve the graph have sizes that fall
  pub sizes : Sizes (class_of g) known (λ c. nodes (types c))
  sizes c f root e i lt =
      let n = ap nodes (known-type c f root e) ∙ nodes-built f.con (map types f.args) (known-fits c f root e) in
      let a = ap nodes (class-type (slice_index f.args i)) in
      let s = sum-has types f.args i lt in
      omega arith

-- a graph, whatever was refused before
pub opened : (g : Nodes) (shapes : List (Option ℕ)) → IsGraph g shapes → IsOpen g.forms g.roots shapes
opened g shapes is = record {
  count = is.count;
  shape_count = is.shape_count;
  fits = is.fits;
  arguments = is.arguments;
  rooted = is.rooted;
  own = is.own;
  shaped = is.shaped;
  closed = λ e. none-some refl (sym e);
}

-- the search says exactly whether there are finite types
pub acyclic-exact : (g : Nodes) (shapes : List (Option ℕ)) (b : Bool) → IsGraph g shapes → g.failed ≡ None
    → (IsTrue b → (levels : ℕ) × ((n : ℕ) → n < length g.forms → Ends (class_of g) (known_by g.forms shapes) levels (class_of g n)))
    → (b ≡ false → (size : ℕ → ℕ) → Sizes (class_of g) (known_by g.forms shapes) size → ⊥)
    → IsTrue b ↔ ((types : ℕ → SchemeTree) × HasTypes g types)
acyclic-exact g shapes b is fine ends circle = (
  λ t. (let e = ends t in (
    written (λ c. unit) (class_of g) (known_by g.forms shapes) e.0,
    written-types (λ c. unit) g (known_by g.forms shapes) (is.closed fine) e.0 (λ n f q. e.1 n (within n f q)),
  )),
  λ h. go b refl h,
) where
  within : (n : ℕ) (f : Form) → form_of g n ≡ Some f → n < length g.forms
  within n f e = elim (order n (length g.forms)) [
    | Less h ↦ h
    | Equal q ↦ none-some (past g.forms n None (omega arith)) e
    | More h ↦ none-some (past g.forms n None (omega arith)) e
  ]

  go : (c : Bool) → b ≡ c → ((types : ℕ → SchemeTree) × HasTypes g types) → IsTrue b
  go true e h = e
  go false e h = absurd (circle e (λ c. nodes (h.0 c)) (sizes g (known_by g.forms shapes) is.fits is.own (known-is g shapes is) h.0 h.1))
