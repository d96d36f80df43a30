use Rattle.std.proofs.Common.{◌≡◌, List, [], ◌∷◌, IfOk, ap, ◌∙◌, subst}
use Rattle.rml_simulation.specs.declared.partial.Partial.{Partial}
use Rattle.rml_value.specs.declared.value.Value.{Value}
use Rattle.rml_builtin.specs.declared.applied.Answer.{Answer}
use Rattle.rml_resolved.specs.declared.tables.RelDef.{RelDef}
use Rattle.rml_search.specs.Context.{Context}
use Rattle.rml_search.specs.Search.{search_in}
use Rattle.rml_search.specs.Whole.{context_of, rules_of}
use Rattle.rml_search.specs.Given.{context_in}
use Rattle.rml_search.specs.Runs.{main_called}
use Rattle.rml_search.proofs.run.call_main.Goals as goal

pub returns : goal.returns
returns c =
    let p = c.args.program.now in
    let tables = c.tables_of-tables.result in
    let given : Value = c.in_ok-argument.field-0 in
    let is : search_in (context_in tables) (rules_of tables.rels.now) p.main (given ∷ []) c.args.n ≡ main_called p c.args.args.now c.args.n =
    ap (λ (x : Context). search_in x (rules_of tables.rels.now) p.main (given ∷ []) c.args.n) c.tables_of-tables.ensures.context
    ∙ ap (λ (rels : List RelDef). search_in (context_of p) (rules_of rels) p.main (given ∷ []) c.args.n) c.tables_of-tables.ensures.rels
    ∙ ap (λ (v : Value). search_in (context_of p) (rules_of p.rels) p.main (v ∷ []) c.args.n) c.in_ok-argument.ensures in
    subst (λ (x : Partial Answer). IfOk c.search_from.result (λ w. w ≡ x)) is c.search_from.ensures
