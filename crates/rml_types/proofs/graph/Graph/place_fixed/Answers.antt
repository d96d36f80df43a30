use Rattle.std.proofs.Common.{sym, subst}
use Rattle.rml_types.specs.Runs.{Placing, as_it_stands}
use Rattle.rml_types.proofs.Growth.{at-any, keeps-refl, keeps-trans, placing-begun, placing-step}
use Rattle.rml_types.proofs.graph.Graph.place_fixed.Goals as goal

pub loop-label-init : goal.loop-label-init
loop-label-init c = record {
  keeps = keeps-refl c.args.self.now;
  placing = (
    c.requires.0,
    subst (Placing as_it_stands c.requires.0 c.args.self.now c.args.labels.now c.args.labels.now) (sym c.new-made.ensures.items) (placing-begun as_it_stands c.requires.0 c.args.self.now c.args.labels.now c.requires.1),
  );
}

pub returns-in_err-take_fixed-clause-keeps : goal.returns-in_err-take_fixed-clause-keeps
returns-in_err-take_fixed-clause-keeps c = keeps-trans c.args.self.now c.loop-label.self c.take_fixed.new.self c.loop-label.invariant.keeps c.take_fixed.ensures.keeps

pub loop-label-preserved : goal.loop-label-preserved
loop-label-preserved c =
    let turn = c.in_ok-take_fixed.ensures in
    let lt = c.loop-label-test.true in
    let placing = c.loop-label.invariant.placing in
    record {
      keeps = keeps-trans c.args.self.now c.loop-label.self c.take_fixed.new.self c.loop-label.invariant.keeps turn.keeps;
      placing = (
        placing.0,
        placing-step as_it_stands placing.0 c.loop-label.self c.take_fixed.new.self c.args.labels.now c.loop-label.label-index _ c.loop-label.made.items c.take_fixed.new.made.items lt
            (at-any c.args.labels.now c.loop-label.label-index _ lt) turn.keeps placing.1 turn.ok,
      );
    }
