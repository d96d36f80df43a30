use Rattle.std.proofs.Common.{◌∙◌, List, ℕ, subst, sym}
use Rattle.rml_types.specs.Labels.{Label}
use Rattle.rml_types.specs.Runs.{Ready}
use Rattle.rml_types.proofs.Callers.{labels-ready}
use Rattle.rml_equations.proofs.RebuiltTypes.{rebuilt-at}
use Rattle.rml_equations.proofs.rebuilding.rebuilt.Goals as goal

pub rebuild_all-requires : goal.rebuild_all-requires
rebuild_all-requires c = subst (λ (ls : List Label). (vars : ℕ) × Ready vars ls 0) (sym (c.deref.ensures.value ∙ c.in_ok-labels.ensures)) (labels-ready c.args.tree.now)

pub returns : goal.returns
returns c = rebuilt-at c.args.way c.deref.result.now c.args.tree.now c.rebuild_all.result (c.deref.ensures.value ∙ c.in_ok-labels.ensures) c.rebuild_all.ensures
