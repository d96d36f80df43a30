use Rattle.std.proofs.Common.{◌≡◌, ◌∙◌, ◌<◌, ap, sym, subst, List, ℕ, Option, length}
use Rattle.rml_types.specs.declared.form.Form.{Form}
use Rattle.rml_types.specs.declared.tree.SchemeTree.{SchemeTree}
use Rattle.rml_types.specs.Finite.{nodes}
use Rattle.rml_types.specs.Kept.{IsGraph, known_by}
use Rattle.rml_types.specs.Labels.{labels}
use Rattle.rml_types.specs.Nodes.{Nodes, class_of}
use Rattle.rml_types.specs.Spelled.{Numbered, Spells, Unfolds}
use Rattle.rml_types.proofs.General.{is-general, is-narrow, is-numbered, is-wide}
use Rattle.rml_types.proofs.Written.{opened}
use Rattle.rml_types.proofs.graph.Graph.general.Goals as goal

pub spelled-requires-clause-graph : goal.spelled-requires-clause-graph
spelled-requires-clause-graph c =
    let forms = c.deref.ensures.value in
    let shapes = c.deref-2.ensures.value in
    rw (forms, shapes) (opened (record { forms = c.self.inside.forms.items; roots = c.self.inside.classes; failed = c.self.inside.failed }) c.self.inside.shapes.items c.self.invariant.0)

pub returns-in_default-clause-wide : goal.returns-in_default-clause-wide
returns-in_default-clause-wide c =
    let of : List (Option Form) → Nodes = λ fs. record { forms = fs; roots = c.self.inside.classes; failed = c.self.inside.failed } in
    let e : of c.deref.result.now ≡ c.args.self.now = ap of c.deref.ensures.value ∙ c.self.view_is in
    let is : IsGraph c.args.self.now c.deref-2.result.now =
    subst (λ (g : Nodes). IsGraph g c.deref-2.result.now) c.self.view_is (subst (IsGraph (of c.self.inside.forms.items)) (sym c.deref-2.ensures.value) c.self.invariant.0) in
    is-wide c.args.self.now c.deref-2.result.now is c.requires.accepted c.requires.finite c.requires.unfixed c.args.node c.args.limit c.requires.within
    (subst (λ (g : Nodes). (leaf types : ℕ → SchemeTree) → Unfolds (class_of g) (known_by g.forms c.deref-2.result.now) leaf types → c.args.limit < nodes (types c.args.node)) e
    (rw c.in_default.is at c.in_ok-spelled.ensures.wide))

pub returns : goal.returns
returns c =
    let of : List (Option Form) → Nodes = λ fs. record { forms = fs; roots = c.self.inside.classes; failed = c.self.inside.failed } in
    let by_roots : List ℕ → Nodes = λ roots. record { forms = c.self.inside.forms.items; roots = roots; failed = c.self.inside.failed } in
    let shapes = c.deref-2.result.now in
    let now = c.args.self.now in
    let e : of c.deref.result.now ≡ now = ap of c.deref.ensures.value ∙ c.self.view_is in
    let is : IsGraph now shapes =
    subst (λ (g : Nodes). IsGraph g shapes) c.self.view_is (subst (IsGraph (of c.self.inside.forms.items)) (sym c.deref-2.ensures.value) c.self.invariant.0) in
    let spells : Spells (class_of now) (known_by now.forms shapes) (length now.forms) c.args.node c.in-Some.classes.items =
    subst (λ (g : Nodes). Spells (class_of g) (known_by g.forms shapes) (length g.forms) c.args.node c.in-Some.classes.items) e (rw c.in-Some.is at c.in_ok-spelled.ensures.some) in
    let forms : c.deref-3.result.now ≡ now.forms = c.deref-3.ensures.value ∙ ap (λ (g : Nodes). g.forms) c.self.view_is in
    let same : c.deref-4.result.now ≡ shapes = c.deref-4.ensures.value ∙ sym c.deref-2.ensures.value in
    let numbered : Numbered (known_by now.forms shapes) c.in-Some.classes.items (labels c.in_ok-scheme.scheme.body) c.in_ok-scheme.scheme.vars =
    subst (λ cs. Numbered (known_by now.forms shapes) cs (labels c.in_ok-scheme.scheme.body) c.in_ok-scheme.scheme.vars) c.deref-5.ensures.value
    (subst (λ fs. Numbered (known_by fs shapes) c.deref-5.result.now (labels c.in_ok-scheme.scheme.body) c.in_ok-scheme.scheme.vars) forms
    (subst (λ ss. Numbered (known_by c.deref-3.result.now ss) c.deref-5.result.now (labels c.in_ok-scheme.scheme.body) c.in_ok-scheme.scheme.vars) same c.in_ok-scheme.ensures)) in
    record {
      same = ap by_roots c.in_ok-spelled.ensures.same ∙ c.self.view_is;
      general = is-general now shapes is c.requires.accepted c.requires.finite c.requires.unfixed c.args.node c.in-Some.classes.items c.in_ok-scheme.scheme spells numbered;
      numbered = is-numbered now shapes is c.requires.accepted c.requires.finite c.requires.unfixed c.args.node c.in-Some.classes.items c.in_ok-scheme.scheme spells numbered;
      narrow = is-narrow now shapes is c.requires.accepted c.requires.finite c.requires.unfixed c.args.node c.in-Some.classes.items c.in_ok-scheme.scheme spells numbered c.args.limit
          (rw c.in-Some.is at c.in_ok-spelled.ensures.narrow);
      wide = tt;
    }
