use Rattle.std.proofs.Common.{sym, subst, ℕ}
use Rattle.rml_types.specs.declared.tree.SchemeTree.{SchemeTree}
use Rattle.rml_types.specs.Finite.{HasTypes}
use Rattle.rml_types.specs.Nodes.{Nodes}
use Rattle.rml_graphs.proofs.graphs.general_of.Goals as goal

pub general-requires-clause-finite : goal.general-requires-clause-finite
general-requires-clause-finite c =
    subst (λ (g : Nodes). (types : ℕ → SchemeTree) × HasTypes g types) (sym c.acyclic.ensures.same) (c.acyclic.ensures.exact.0 c.if-not-acyclic.false)
