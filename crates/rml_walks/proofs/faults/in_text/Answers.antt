use Rattle.std.proofs.Common.{ap, ◌∙◌}
use Rattle.rml_scopes.specs.declared.walk.Walk.{Walk}
use Rattle.rml_walks.proofs.Least.{least_of_text}
use Rattle.rml_walks.proofs.faults.in_text.Goals as goal

pub returns : goal.returns
returns c =
    let start : Walk = record { scope = c.new.result; least = c.args.least } in
    ap (λ (walk : Walk). walk.least) c.in_ok-text.ensures ∙ least_of_text c.args.world.now c.args.number c.args.tree.now start c.new.ensures
