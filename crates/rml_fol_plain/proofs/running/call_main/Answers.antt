use Rattle.std.proofs.Common.{◌≡◌, List, [], ◌∷◌, IfOk, ap, ◌∙◌, subst}
use Rattle.rml_simulation.specs.declared.partial.Partial.{Partial}
use Rattle.rml_simulation.specs.Partial.{take_step}
use Rattle.rml_value.specs.declared.value.Value.{Value}
use Rattle.rml_builtin.specs.declared.applied.Answer.{Answer}
use Rattle.rml_fol.specs.declared.parts.Relation.{Relation}
use Rattle.rml_fol.specs.declared.parts.Val.{Val}
use Rattle.rml_fol.specs.Expressions.{values_of_vals}
use Rattle.rml_fol.specs.Relations.{relations}
use Rattle.rml_fol.specs.Runs.{main_called}
use Rattle.rml_fol_plain.proofs.running.call_main.Goals as goal

pub returns : goal.returns
returns c =
    let p = c.args.parts.now in
    let given : Value = c.in_ok-argument.field-0 in
    let is : take_step (relations (values_of_vals c.as_slice.result.now) c.as_slice-2.result.now p.main (record { values = given ∷ []; store = [] })) c.args.n ≡ main_called (values_of_vals p.vals) p.rels p.main c.args.args.now c.args.n =
    ap (λ (vals : List Val). take_step (relations (values_of_vals vals) c.as_slice-2.result.now p.main (record { values = given ∷ []; store = [] })) c.args.n) c.as_slice.ensures
    ∙ ap (λ (rels : List Relation). take_step (relations (values_of_vals p.vals) rels p.main (record { values = given ∷ []; store = [] })) c.args.n) c.as_slice-2.ensures
    ∙ ap (λ (v : Value). take_step (relations (values_of_vals p.vals) p.rels p.main (record { values = v ∷ []; store = [] })) c.args.n) c.in_ok-argument.ensures in
    subst (λ (x : Partial Answer). IfOk c.called_from.result (λ w. w ≡ x)) is c.called_from.ensures
