use Rattle.std.proofs.Common.{◌-◌, ◌<◌, ◌≤◌, length}
use Rattle.rml_typed.specs.Parts.{pieces}
use Rattle.rml_alone.specs.Texts.{FirstTypedAlone, held}
use Rattle.rml_alone.proofs.rules.untyped_under.Given as goal

abbrev pub invariant-loop-typed : goal.invariant-loop-typed
invariant-loop-typed l = record {
  before : FirstTypedAlone l.text (held l.inputs l.outputs) l.rule l.typed;
  after : FirstTypedAlone l.text (held l.inputs l.outputs) l.rule l.untyped → ⊥;
  less : l.typed < l.untyped;
  within : l.untyped ≤ length (pieces l.rule);
}

abbrev pub decreases-loop-typed : goal.decreases-loop-typed
decreases-loop-typed l = l.untyped - l.typed
