use Rattle.std.proofs.Common.{◌≡◌, ◌∙◌, ap, subst, List, ℕ, None, Option}
use Rattle.std.specs.Prelude.{IsTrue, ◌↔◌}
use Rattle.rml_types.specs.declared.form.Form.{Form}
use Rattle.rml_types.specs.declared.tree.SchemeTree.{SchemeTree}
use Rattle.rml_types.specs.Finite.{HasTypes}
use Rattle.rml_types.specs.Kept.{IsGraph}
use Rattle.rml_types.specs.Nodes.{Nodes}
use Rattle.rml_types.proofs.Written.{acyclic-exact, opened}
use Rattle.rml_types.proofs.graph.Graph.acyclic.Goals as goal

pub end_all-requires-clause-graph : goal.end_all-requires-clause-graph
end_all-requires-clause-graph c =
    let forms = c.deref.ensures.value in
    let shapes = c.deref-2.ensures.value in
    rw (forms, shapes) (opened (record { forms = c.self.inside.forms.items; roots = c.self.inside.classes; failed = c.self.inside.failed }) c.self.inside.shapes.items c.self.invariant.0)

pub returns-clause-exact : goal.returns-clause-exact
returns-clause-exact c =
    let forms = c.deref.ensures.value in
    let shapes = c.deref-2.ensures.value in
    let of : List (Option Form) → Nodes = λ fs. record { forms = fs; roots = c.self.inside.classes; failed = c.self.inside.failed } in
    let is : IsGraph (of c.deref.result.now) c.deref-2.result.now = rw (forms, shapes) c.self.invariant.0 in
    let fine : c.self.inside.failed ≡ None = ap (λ (g : Nodes). g.failed) c.self.view_is ∙ c.requires in
    let exact = acyclic-exact (of c.deref.result.now) c.deref-2.result.now c.end_all.result is fine c.end_all.ensures.ends c.end_all.ensures.circle in
    subst (λ (g : Nodes). IsTrue c.end_all.result ↔ ((types : ℕ → SchemeTree) × HasTypes g types)) c.self.view_is
    (subst (λ (fs : List (Option Form)). IsTrue c.end_all.result ↔ ((types : ℕ → SchemeTree) × HasTypes (of fs) types)) forms exact)
