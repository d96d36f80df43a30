use Rattle.std.proofs.Common.{◌≡◌, ap, subst, List, ℕ, length, None, Some, Option, Result, Ok, Err, refl}
use Rattle.std.specs.Prelude.{OnOk}
use Rattle.std.specs.Result.{result_err}
use Rattle.rml_types.specs.declared.form.Form.{Form}
use Rattle.rml_types.specs.declared.form.UnifyErr.{UnifyErr}
use Rattle.rml_types.specs.Kept.{IsGraph, known_by}
use Rattle.rml_types.specs.Trees.{Tree}
use Rattle.rml_types.specs.Waiting.{unfolded}
use Rattle.rml_types.specs.Nodes.{CannotEquate, Equates, Nodes, Solves, form_of, form_in, root_in}
use Rattle.rml_types.specs.Nodes.{Fits}
use Rattle.rml_types.specs.Finite.{EquatesTypes}
use Rattle.rml_types.proofs.FiniteTypes.{equated-types, refused-types}
use Rattle.rml_types.proofs.Solutions.{solves}
use Rattle.rml_types.proofs.graph.Graph.unify.Goals as goal

pub returns-clause-ok : goal.returns-clause-ok
returns-clause-ok c =
    let F : List (Option Form) → Nodes → Type 0 = λ forms old. OnOk c.settle-done.result (Equates old (record { forms = forms; roots = c.settle-done.new.classes; failed = None }) c.args.a c.args.b) in
    subst (F c.self.inside.forms.items) c.self.view_is (subst (λ (forms : List (Option Form)). F forms (record { forms = forms; roots = c.self.inside.classes; failed = None })) c.deref.ensures.value c.settle-done.ensures.ok)

solvable : {A : Type 0} (r : Result A UnifyErr) (forms : List (Option Form)) (roots : List ℕ) (shapes : List (Option ℕ)) → IsGraph (record { forms = forms; roots = roots; failed = result_err r }) shapes
    → OnOk r ((tree : ℕ → Tree) × Solves (record { forms = forms; roots = roots; failed = result_err r }) tree)
solvable (Ok v) forms roots shapes is = (unfolded (root_in roots) (known_by forms shapes), solves (root_in roots) (known_by forms shapes) (form_in forms) (is.closed refl))
solvable (Err e) forms roots shapes is = tt

pub returns-clause-solvable : goal.returns-clause-solvable
returns-clause-solvable c =
    let s = solvable c.settle-done.result c.deref.result.now c.settle-done.new.classes c.settle-done.new.shapes c.settle-done.ensures.graph in
    subst (λ (forms : List (Option Form)). OnOk c.settle-done.result ((tree : ℕ → Tree) × Solves (record { forms = forms; roots = c.settle-done.new.classes; failed = result_err c.settle-done.result }) tree)) c.deref.ensures.value s

types-of : {A E : Type 0} (r : Result A E) (old new : Nodes) (a b : ℕ) → new.forms ≡ old.forms → ((n : ℕ) (f : Form) → form_of old n ≡ Some f → Fits f.con (length f.args))
    → OnOk r (Equates old new a b) → OnOk r (EquatesTypes old new a b)
types-of (Ok v) old new a b same fits e = equated-types old new a b same fits e
types-of (Err x) old new a b same fits e = tt

fits-now : (c : goal.After-self-2-1) → (n : ℕ) (f : Form) → form_of c.args.self.now n ≡ Some f → Fits f.con (length f.args)
fits-now c = subst (λ (g : Nodes). (n : ℕ) (f : Form) → form_of g n ≡ Some f → Fits f.con (length f.args)) c.self.view_is c.self.invariant.0.fits

pub returns-clause-types : goal.returns-clause-types
returns-clause-types c = types-of c.settle-done.result c.args.self.now (record { forms = c.self.inside.forms.items; roots = c.settle-done.new.classes; failed = c.err-self-inside.result }) c.args.a c.args.b
    (ap (λ (g : Nodes). g.forms) c.self.view_is) (fits-now c) (returns-clause-ok c)

pub returns-clause-no_types : goal.returns-clause-no_types
returns-clause-no_types c e fine = refused-types c.args.self.now c.args.a c.args.b (fits-now c)
    (subst (λ (g : Nodes). CannotEquate g c.args.a c.args.b) c.self.view_is
    (subst (λ (forms : List (Option Form)). CannotEquate (record { forms = forms; roots = c.self.inside.classes; failed = None }) c.args.a c.args.b) c.deref.ensures.value (c.settle-done.ensures.clash e)))
