-- Whether the first parts of a rule can be typed, told by the equations that were made of them and the test of their graph.
use Rattle.std.proofs.Common.{◌≡◌, ◌↔◌, ℕ, zero, suc, ◌≤◌, Bool, List, [], ◌∷◌, length, Option, Some, None, Result, Ok, Err, IsTrue, IfOk, OnOk, refl, sym, ap, subst, ◌∙◌, arith}
use Rattle.std.specs.Prelude.{slice_get}
use Rattle.rml_base.specs.declared.memory.Memory.{Memory}
use Rattle.rml_types.specs.Nodes.{Nodes}
use Rattle.rml_types.specs.Runs.{Fresh, Grows, Keeps}
use Rattle.rml_types.proofs.Callers.{fresh-none, grows-refl}
use Rattle.rml_typed.specs.Typed.{Assigned}
use Rattle.rml_equations.specs.declared.coding.Coding.TheVariants.{Plain}
use Rattle.rml_equations.specs.declared.stop.Stop.{Stop}
use Rattle.rml_generator.specs.Adds.{Watched, Told, told_at, Tells, Finds, Bare, no_node}
use Rattle.rml_alone.specs.Answers.{IsAnswer}
use Rattle.rml_alone.specs.Texts.{IsOwn, held}
use Rattle.rml_alone.proofs.Deciding.{answered, solved}
use Rattle.rml_alone.proofs.Starting.{Begun, begun-fresh, begun-later, empty}

-- the graph with which a rule begins
pub begun : (n g h i : Nodes) (vs : List ℕ) → n ≡ empty → Grows n g → Fresh n g vs → Keeps g h → Keeps h i → Begun i vs
begun n g h i vs is grows fresh one two =
    begun-later h i vs two (begun-later g h vs one (begun-fresh g vs (subst (λ (m : Nodes). Grows m g) is grows) (subst (λ (m : Nodes). Fresh m g vs) is fresh)))

pub slice-past : (l : List ℕ) (x : ℕ) → length l ≤ x → slice_get l x ≡ None
slice-past [] x le = refl
slice-past (n ∷ l) zero le = absurd (omega arith)
slice-past (n ∷ l) (suc x) le = slice-past l x (omega arith)

pub past-slice : (l : List ℕ) (x : ℕ) → slice_get l x ≡ None → length l ≤ x
past-slice [] x e = omega arith
past-slice (n ∷ l) zero e = absurd (cc)
past-slice (n ∷ l) (suc x) e = (let le = past-slice l x e in omega arith)

no-node : (o : Option ℕ) (n : ℕ) → o ≡ None → o ≡ Some n → ⊥
no-node o n e f = cc

-- equations that were made leave a graph in which none was refused
pub made-live : (w : Watched) (g h : Nodes) (P : Told → Type 0) (r : Result (Unit {0}) Stop) → Finds no_node Plain w g h (Bare P) r → OnOk r (h.failed ≡ None)
made-live w g h P (Ok done) f = f.ok.live
made-live w g h P (Err e) f = tt

-- and one that begins with a node of a type as it stands, and no variables
pub begun-alone : (n g : Nodes) → n ≡ empty → Keeps n g → Begun g []
begun-alone n g is keeps = begun-later n g [] keeps (subst (λ (m : Nodes). Begun m []) (sym is) (begun-fresh empty [] (grows-refl empty) (fresh-none empty)))

module _ (w : Watched) (vs : List ℕ) (w-is : w.vars ≡ vs) (none : (r : ℕ) → w.node r ≡ None) (g h : Nodes) (b0 : Begun g vs) (vars : ℕ) (count : length vs ≡ vars) (P : Assigned → Type 0) where
  told-of : Assigned → Told
  told-of G = record { vars = G; group = λ r. held [] [] }

  tells : (G : Assigned) → IsOwn vars G → Tells Plain w (b0.each G).0 (told-of G)
  unfolding told-of
  tells G own = record {
    vars = λ x m e. (b0.each G).2 x m (sym (ap (λ (l : List ℕ). slice_get l x) w-is) ∙ e);
    past = λ x e. own x (let le = past-slice w.vars x e in let l = ap (λ (l : List ℕ). length l) w-is in omega arith);
    group = λ r m e. absurd (no-node (w.node r) m (none r) e);
  }

  pub decided : (made : Result (Unit {0}) Stop) (r : Result Bool Memory) → Finds no_node Plain w g h (Bare (λ told. P told.vars)) made → IfOk r (IsAnswer h made)
      → IfOk r (λ b. IsTrue b ↔ ((G : Assigned) × IsOwn vars G × P G))
  unfolding told-of
  decided made (Err e) f a = tt
  decided made (Ok b) f a = (
    λ is. (
        let s = solved Plain w g h (λ told. P told.vars) made b f a is in (
          λ x. told_at Plain s.0 (slice_get w.vars x),
          λ x le. ap (told_at Plain s.0) (slice-past w.vars x (let l = ap (λ (l : List ℕ). length l) w-is in omega arith)),
          s.2,
        )),
    λ typed. answered Plain w g h (λ told. P told.vars) made b f a (b0.each typed.0).0 (told-of typed.0) (b0.each typed.0).1 (tells typed.0 typed.1) typed.2,
  )
