-- Types made anew from their labels.
use Rattle.std.proofs.Common.{◌≡◌, ℕ, ◌+◌, ◌-◌, ◌<◌, ◌≤◌, List, [], ◌∷◌, length, map, take, drop, get_or, refl, sym, ap, subst, ◌∙◌, arith}
use Rattle.std.specs.Prelude.{IfOk, Result, Ok, Err}
use Rattle.std.proofs.lemmas.List.{drop_more, drop-map, length-append, length-take-le, take-map}
use Rattle.rml_base.specs.declared.memory.Memory.{Memory}
use Rattle.rml_types.specs.declared.form.TypeCon.{TypeCon}
use Rattle.rml_types.specs.declared.form.TypeCon.TheVariants as con
use Rattle.rml_types.specs.declared.tree.SchemeTree.{SchemeTree}
use Rattle.rml_types.specs.declared.tree.SchemeTree.TheVariants as tree
use Rattle.rml_types.specs.Finite.{built}
use Rattle.rml_types.specs.Labels.{Label, labels}
use Rattle.rml_types.specs.Nodes.{Fits}
use Rattle.rml_types.specs.Runs.{Ready, run_by}
use Rattle.rml_types.proofs.Callers.{begun-by, fold-Named, fold-Rel, fold-Tuple, fold-Var}
use Rattle.rml_typed.specs.Own.{written_at}
use Rattle.rml_equations.specs.Coding.{packed_at}
use Rattle.rml_equations.specs.declared.rebuilding.Way.{Way}
use Rattle.rml_equations.specs.declared.rebuilding.Way.TheVariants as way
use Rattle.rml_equations.specs.Rebuilding.{made_by, meanings_in, rebuilt, related_by, turned}

-- some labels of all are left, over what was made of the others
pub record Running {A : Type 0} (by : TypeCon → List A → A) (vars : ℕ) (all ls : List Label) (made : List A) : Type 0 where
  pub ready : Ready vars ls (length made)
  pub runs : run_by by ls made ≡ run_by by all []

length-turned : {A : Type 0} (by : TypeCon → List A → A) (l : Label) (made : List A) → l.1 ≤ length made → length (turned by l made) ≡ length made - l.1 + 1
length-turned by l made le =
    let a = length-append (take (length made - l.1) made) (by l.0 (drop (length made - l.1) made) ∷ []) in
    let b = length-take-le (length made - l.1) made (omega arith) in
    omega (arith, a, b)

pub running-begun : {A : Type 0} (by : TypeCon → List A → A) (vars : ℕ) (all : List Label) → Ready vars all 0 → Running by vars all all []
running-begun by vars all ready = record { ready = ready; runs = refl }

pub running-step : {A : Type 0} (by : TypeCon → List A → A) (vars : ℕ) (all : List Label) (i : ℕ) (l : Label) (made later : List A) → i < length all → get_or all i l ≡ l → later ≡ turned by l made
    → Running by vars all (drop i all) made → Running by vars all (drop (i + 1) all) later
running-step by vars all i l made later lt at e r = next (drop i all) (drop_more all i l lt ∙ ap (λ x. x ∷ drop (i + 1) all) at) r where
  next : (ls : List Label) → ls ≡ l ∷ drop (i + 1) all → Running by vars all ls made → Running by vars all (drop (i + 1) all) later
  next ls is r =
      let ready = subst (λ (xs : List Label). Ready vars xs (length made)) is r.ready in
      record {
        ready = subst (Ready vars (drop (i + 1) all)) (sym (ap length e ∙ length-turned by l made ready.0)) ready.3;
        runs = ap (run_by by (drop (i + 1) all)) e ∙ ap (λ (xs : List Label). run_by by xs made) (sym is) ∙ r.runs;
      }

pub one-left : {A : Type 0} (xs : List A) (x : A) → length xs ≡ 1 → x ≡ get_or xs 0 x → xs ≡ x ∷ []
one-left [] x count is = absurd (omega arith)
one-left (y ∷ []) x count is = ap (λ z. z ∷ []) (sym is)
one-left (y ∷ z ∷ ys) x count is = absurd (omega arith)

goes-Rel : (how : Way) (f : SchemeTree → SchemeTree) (k : ℕ) (us : List SchemeTree) → ((ins outs : List SchemeTree) → f (tree.Rel ins outs) ≡ related_by how (map f ins) (map f outs))
    → made_by how (con.Rel k) (map f us) ≡ f (built (con.Rel k) us)
goes-Rel how f k us rel =
    ap (λ ts. related_by how ts (drop k (map f us))) (take-map f k us) ∙ ap (related_by how (map f (take k us))) (drop-map f k us) ∙ sym (rel (take k us) (drop k us))

-- what is made of a type goes by its constructors
goes : (how : Way) (c : TypeCon) (us : List SchemeTree) → Fits c (length us) → made_by how c (map (rebuilt how) us) ≡ rebuilt how (built c us)
goes way.Packed (con.Named c) us fits = sym (fold-Named SchemeTree packed_at c us)
goes way.Packed (con.Fixed k) us fits = sym (fold-Var SchemeTree packed_at k)
goes way.Packed con.Tuple us fits = sym (fold-Tuple SchemeTree packed_at us)
goes way.Packed (con.Rel k) us fits = goes-Rel way.Packed (rebuilt way.Packed) k us (fold-Rel SchemeTree packed_at)
goes (way.Written table) (con.Named c) us fits = sym (fold-Named SchemeTree (written_at (meanings_in table.now)) c us)
goes (way.Written table) (con.Fixed k) us fits = sym (fold-Var SchemeTree (written_at (meanings_in table.now)) k)
goes (way.Written table) con.Tuple us fits = sym (fold-Tuple SchemeTree (written_at (meanings_in table.now)) us)
goes (way.Written table) (con.Rel k) us fits = goes-Rel (way.Written table) (rebuilt (way.Written table)) k us (fold-Rel SchemeTree (written_at (meanings_in table.now)))

pub rebuilt-by : (how : Way) (t : SchemeTree) → run_by (made_by how) (labels t) [] ≡ rebuilt how t ∷ []
rebuilt-by how = begun-by (made_by how) (rebuilt how) (goes how)

pub rebuilt-at : (how : Way) (all : List Label) (t : SchemeTree) (r : Result SchemeTree Memory) → all ≡ labels t → IfOk r (λ u. run_by (made_by how) all [] ≡ u ∷ []) → IfOk r (λ u. u ≡ rebuilt how t)
rebuilt-at how all t (Err e) is made = tt
rebuilt-at how all t (Ok u) is made = only (sym made ∙ ap (λ ls. run_by (made_by how) ls []) is ∙ rebuilt-by how t) where
  only : {t u : SchemeTree} → t ∷ [] ≡ u ∷ [] → t ≡ u
  only e = cc
