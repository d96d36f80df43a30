-- Graphs with which a rule begins: nodes of its variables, which may have any types, and nodes of types as they stand.
use Rattle.std.proofs.Common.{◌≡◌, ℕ, zero, suc, ◌+◌, ◌<◌, ◌≤◌, List, [], ◌∷◌, ◌++◌, map, take, length, get_or, Option, Some, None, refl, sym, ap, subst, ◌∙◌, arith}
use Rattle.std.specs.Prelude.{All, Vec, slice_get}
use Rattle.std.specs.declared.alloc.Global.{Global}
use Rattle.std.proofs.lemmas.List.{map-append}
use Rattle.std.proofs.lemmas.List.Elements.{All-nil, All-push}
use Rattle.rml_types.specs.declared.form.Form.{Form}
use Rattle.rml_types.specs.declared.tree.SchemeTree.{SchemeTree}
use Rattle.rml_types.specs.Finite.{HasTypes}
use Rattle.rml_types.specs.Nodes.{Nodes}
use Rattle.rml_types.specs.Runs.{Fresh, Grows, Keeps}
use Rattle.rml_types.specs.Schemes.{unit}
use Rattle.rml_types.proofs.Callers.{below-kept, keeps-refl}
use Rattle.rml_typed.specs.Typed.{Assigned}
use Rattle.rml_equations.specs.declared.coding.Coding.TheVariants.{Plain}
use Rattle.rml_equations.specs.Coding.{coded}
use Rattle.rml_equations.proofs.Callers.{Solution}
use Rattle.rml_generator.specs.declared.parts.Side.TheVariants as side
use Rattle.rml_generator.specs.Adds.{Watched, IsWithin}
use Rattle.rml_generator.specs.Sides.{Gives}
use Rattle.rml_generator.proofs.Callers.{take-next, take-past}

-- ---- types as they stand

-- nodes of the first of some types
pub record FixedTo (old new : Nodes) (trees : List SchemeTree) (i : ℕ) (nodes : List ℕ) : Type 0 where
  pub keeps : Keeps old new
  pub within : All (λ n. n < length new.forms) nodes
  pub types : (types : Solution) → HasTypes new types → map types nodes ≡ take i trees

pub fixed-next : (old mid new : Nodes) (trees : List SchemeTree) (i : ℕ) (t : SchemeTree) (nodes later : List ℕ) (n : ℕ) → i < length trees → t ≡ get_or trees i t → later ≡ nodes ++ n ∷ []
    → Keeps old new → Keeps mid new → FixedTo old mid trees i nodes → n < length new.forms → ((types : Solution) → HasTypes new types → types n ≡ t) → FixedTo old new trees (i + 1) later
fixed-next old mid new trees i t nodes later n lt at is keeps on f less of = record {
  keeps = keeps;
  within = subst (All (λ m. m < length new.forms)) (sym is) (All-push (λ m. m < length new.forms) nodes n (below-kept mid new nodes on f.within) less);
  types = λ types has.
      ap (map types) is ∙ map-append types nodes (n ∷ []) ∙ ap (λ l. l ++ types n ∷ []) (f.types types (on.restricts types has)) ∙ ap (λ u. take i trees ++ u ∷ []) (of types has)
      ∙ sym (take-next trees i t lt at);
}

pub fixed-none : (g : Nodes) (trees : List SchemeTree) (nodes : List ℕ) → nodes ≡ [] → FixedTo g g trees 0 nodes
fixed-none g trees nodes is = record {
  keeps = keeps-refl g;
  within = subst (All (λ n. n < length g.forms)) (sym is) (All-nil (λ n. n < length g.forms));
  types = λ types has. ap (map types) is;
}

-- of all
pub fixed-all : (old new : Nodes) (trees : List SchemeTree) (i : ℕ) (nodes : List ℕ) → length trees ≤ i → FixedTo old new trees i nodes → (types : Solution) → HasTypes new types → map types nodes ≡ trees
fixed-all old new trees i nodes le f types has = f.types types has ∙ take-past trees i le

-- ---- variables

-- the nodes of a rule's variables may have any types
pub record Begun (g : Nodes) (vs : List ℕ) : Type 0 where
  pub live : g.failed ≡ None
  pub within : (x n : ℕ) → slice_get vs x ≡ Some n → n < length g.forms
  pub each : (G : Assigned) → (types : Solution) × HasTypes g types × ((x n : ℕ) → slice_get vs x ≡ Some n → types n ≡ G x)

abbrev pub empty : Nodes
empty = record { forms = []; roots = []; failed = None }

no-form : (f : Form) → None ≡ Some f → ⊥
no-form f e = cc

pub empty-types : (types : Solution) → HasTypes empty types
empty-types types = record { forms = λ n f e. absurd (no-form f e); classes = λ m n e. ap types e }

-- the node at a place
pub there : (vs : List ℕ) (x n : ℕ) → slice_get vs x ≡ Some n → (x < length vs) × (get_or vs x 0 ≡ n)
there [] x n e = absurd (cc)
there (v ∷ vs) zero n e = (omega arith, cc)
there (v ∷ vs) (suc x) n e = let r = there vs x n e in (let l = r.0 in omega arith, r.1)

-- so many types, from one on
pub types-from : Assigned → ℕ → ℕ → List SchemeTree
types-from G from zero = []
types-from G from (suc n) = G from ∷ types-from G (suc from) n

pub type-at : (G : Assigned) (from n k : ℕ) → k < n → get_or (types-from G from n) k unit ≡ G (from + k)
unfolding types-from
type-at G from zero k lt = absurd (omega arith)
type-at G from (suc n) zero lt = ap G (omega arith)
type-at G from (suc n) (suc k) lt = type-at G (suc from) n k (omega arith) ∙ ap G (omega arith)

pub begun-fresh : (g : Nodes) (vs : List ℕ) → Grows empty g → Fresh empty g vs → Begun g vs
begun-fresh g vs grows fresh = record {
  live = grows.kept.failed;
  within = λ x n e. (let r = there vs x n e in subst (λ (m : ℕ). m < length g.forms) r.1 (fresh.within x r.0));
  each = each;
}
  where
    each : (G : Assigned) → (types : Solution) × HasTypes g types × ((x n : ℕ) → slice_get vs x ≡ Some n → types n ≡ G x)
    each G =
        let l = fresh.each (λ n. unit) (types-from G 0 (length vs)) (empty-types (λ n. unit)) in
        (l.0, l.1, λ x n e. (let r = there vs x n e in sym (ap l.0 r.1) ∙ l.3 x r.0 ∙ type-at G 0 (length vs) x r.0 ∙ ap G (omega arith)))

pub begun-later : (g h : Nodes) (vs : List ℕ) → Keeps g h → Begun g vs → Begun h vs
begun-later g h vs keeps b = record {
  live = keeps.failed ∙ b.live;
  within = λ x n e. (let l = b.within x n e in let k = keeps.count in omega arith);
  each = λ G. (
      let l = b.each G in
      let m = keeps.extends l.0 l.1 in
      (m.0, m.1, λ x n e. m.2 n (b.within x n e) ∙ l.2 x n e));
}

-- ---- what is watched, where there is no group

none-some : (o : Option ℕ) (n : ℕ) → o ≡ None → o ≡ Some n → ⊥
none-some o n e f = cc

pub begun-within : (w : Watched) (g : Nodes) (vs : List ℕ) → w.vars ≡ vs → ((r : ℕ) → w.node r ≡ None) → Begun g vs → IsWithin Plain w g
begun-within w g vs is none b = record {
  vars = λ x n e. b.within x n (sym (ap (λ (l : List ℕ). slice_get l x) is) ∙ e);
  group = λ r n e. absurd (none-some (w.node r) n (none r) e);
  relations = λ r n e. absurd (none-some (w.node r) n (none r) e);
}

-- nodes whose types are known give a side these types
pub plain-all : (ts : List SchemeTree) → map (coded Plain) ts ≡ ts
plain-all [] = refl
plain-all (t ∷ ts) = ap (λ us. t ∷ us) (plain-all ts)

pub gives-each : (w : Watched) (g : Nodes) (nodes : Vec ℕ Global) (ts : List SchemeTree) → ((types : Solution) → HasTypes g types → map types nodes.items ≡ ts) → Gives Plain w g (side.Each nodes) (λ told. ts)
gives-each w g nodes ts is = record {
  sound = λ types has. sym (is types has);
  complete = λ types told has tells. is types has ∙ sym (plain-all ts);
}
