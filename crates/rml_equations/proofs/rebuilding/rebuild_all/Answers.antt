use Rattle.std.proofs.Common.{sym, subst}
use Rattle.std.proofs.lemmas.List.{get_or_default}
use Rattle.rml_equations.specs.Rebuilding.{made_by}
use Rattle.rml_equations.proofs.RebuiltTypes.{Running, running-begun, running-step}
use Rattle.rml_equations.proofs.rebuilding.rebuild_all.Goals as goal

pub loop-label-init : goal.loop-label-init
loop-label-init c = (
  c.requires.0,
  subst (Running (made_by c.args.way) c.requires.0 c.args.labels.now c.args.labels.now) (sym c.new-made.ensures.items) (running-begun (made_by c.args.way) c.requires.0 c.args.labels.now c.requires.1),
)

pub loop-label-preserved : goal.loop-label-preserved
loop-label-preserved c =
    let lt = c.loop-label-test.true in
    let running = c.loop-label.invariant in (
      running.0,
      running-step (made_by c.args.way) running.0 c.args.labels.now c.loop-label.label-index _ c.loop-label.made.items c.rebuild.new.made.items lt
          (get_or_default c.args.labels.now c.loop-label.label-index _ _ lt) c.in_ok-rebuild.ensures running.1,
    )
