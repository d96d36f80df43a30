use Rattle.std.proofs.Common.{◌∙◌, subst}
use Rattle.rml_type_facts.specs.Circles.{AreOnCircles}
use Rattle.rml_signatures.specs.Types.{told}
use Rattle.rml_type_facts.proofs.CircleGraph.{circles-are, edges-graph}
use Rattle.rml_type_facts.proofs.circles.circles.Goals as goal

pub on_circles-requires : goal.on_circles-requires
on_circles-requires c = record { graph = edges-graph (told c.args.known.now c.args.types.now.tables) c.args.texts.now c.deref.result.now (c.deref.ensures.value ∙ c.in_ok-edges.ensures) c.requires.few }

pub returns : goal.returns
returns c =
    subst (λ all. AreOnCircles all c.in_ok-circles.circles.items) (c.deref.ensures.value ∙ c.in_ok-edges.ensures)
    (circles-are (record { enough = c.short_paths_are_enough.ensures.enough; sound = c.short_paths_are_enough.ensures.sound }) c.deref.result.now c.in_ok-circles.circles.items c.in_ok-circles.ensures.exact)
