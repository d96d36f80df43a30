use Rattle.std.proofs.Common.{◌∙◌, List, ℕ, subst, sym}
use Rattle.rml_types.specs.Labels.{Label}
use Rattle.rml_types.specs.Runs.{Ready}
use Rattle.rml_types.proofs.Growth.{fixed-at}
use Rattle.rml_types.proofs.LabelNumbers.{labels-ready}
use Rattle.rml_types.proofs.graph.Graph.fixed.Goals as goal

pub place_fixed-requires : goal.place_fixed-requires
place_fixed-requires c = subst (λ (ls : List Label). (vars : ℕ) × Ready vars ls 0) (sym (c.deref.ensures.value ∙ c.in_ok-labels.ensures)) (labels-ready c.args.tree.now)

pub returns-clause-types : goal.returns-clause-types
returns-clause-types c = fixed-at c.place_fixed.new.self c.deref.result.now c.args.tree.now c.place_fixed.result (c.deref.ensures.value ∙ c.in_ok-labels.ensures) c.place_fixed.ensures.types
