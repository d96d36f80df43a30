use Rattle.std.proofs.Common.{ap, ◌∙◌}
use Rattle.rml_heap.specs.declared.cell.Cell.{Cell}
use Rattle.rml_code.specs.Stretch.{Turn, Stretch}
use Rattle.rml_acts.proofs.Looked.{calls}
use Rattle.rml_heap.specs.Form.{or_zero}
use Rattle.rml_acts.proofs.leaving.call.Goals as goal

pub returns : goal.returns
returns c =
    ap Turn (c.count_of.ensures ∙ ap (λ (d : Cell). or_zero d.number) c.get.ensures)
    ∙ ap (λ (a : Stretch). a.next) (calls c.args.a c.args.state.now c.requires.right)
