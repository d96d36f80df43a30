use Rattle.std.proofs.Common.{length, sym, subst}
use Rattle.rml_types.specs.Runs.{Placing, over}
use Rattle.rml_types.proofs.Growth.{at-any, below-kept, grows-refl, grows-trans, placing-begun, placing-step}
use Rattle.rml_types.proofs.graph.Graph.place.Goals as goal

pub loop-label-init : goal.loop-label-init
loop-label-init c = record {
  grows = grows-refl c.args.self.now;
  vars_within = c.requires.vars_within;
  placing = subst (Placing (over c.args.vars.now) (length c.args.vars.now) c.args.self.now c.args.labels.now c.args.labels.now) (sym c.new-made.ensures.items)
      (placing-begun (over c.args.vars.now) (length c.args.vars.now) c.args.self.now c.args.labels.now c.requires.ready);
}

pub returns-in_err-take_label-clause-grows : goal.returns-in_err-take_label-clause-grows
returns-in_err-take_label-clause-grows c = grows-trans c.args.self.now c.loop-label.self c.take_label.new.self c.loop-label.invariant.grows c.take_label.ensures.grows

pub loop-label-preserved : goal.loop-label-preserved
loop-label-preserved c =
    let turn = c.in_ok-take_label.ensures in
    let lt = c.loop-label-test.true in
    record {
      grows = grows-trans c.args.self.now c.loop-label.self c.take_label.new.self c.loop-label.invariant.grows turn.grows;
      vars_within = below-kept c.loop-label.self c.take_label.new.self c.args.vars.now turn.grows.kept c.loop-label.invariant.vars_within;
      placing = placing-step (over c.args.vars.now) (length c.args.vars.now) c.loop-label.self c.take_label.new.self c.args.labels.now c.loop-label.label-index _ c.loop-label.made.items c.take_label.new.made.items lt
          (at-any c.args.labels.now c.loop-label.label-index _ lt) turn.grows.kept c.loop-label.invariant.placing turn.ok;
    }
