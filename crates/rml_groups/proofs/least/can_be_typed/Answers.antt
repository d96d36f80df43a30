use Rattle.rml_equations.specs.declared.coding.Coding.TheVariants.{Packed}
use Rattle.rml_groups.proofs.Beginning.{begins-read}
use Rattle.rml_groups.proofs.Decided.{decided}
use Rattle.rml_groups.proofs.least.can_be_typed.Goals as goal

pub returns : goal.returns
returns c = λ p text is.
    let u = c.args.unit.now in let g = c.begin.new.graph in let start = c.in_ok-start.start in let ms = c.deref-2.result.now in let nodes = c.deref.result.now in
    decided p text u is g c.equations-made.new.graph ms nodes (begins-read Packed u.rels.now u.number g start.members.items ms start.nodes.items nodes c.deref-2.ensures.value c.deref.ensures.value c.in_ok-start.ensures) c.args.extent
    c.equations-made.result c.equations-made.ensures c.is_solved.result c.is_solved.ensures
