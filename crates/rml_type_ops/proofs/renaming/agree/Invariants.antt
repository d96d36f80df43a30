use Rattle.std.proofs.Common.{◌≡◌, [], drop}
use Rattle.std.specs.Prelude.{◌↔◌}
use Rattle.rml_type_ops.specs.Numbered.{numbered}
use Rattle.rml_type_ops.proofs.renaming.agree.Given as goal

abbrev pub invariant-loop-i : goal.invariant-loop-i
invariant-loop-i l = (numbered l.left.keys (drop l.i l.these) ≡ numbered l.right.keys (drop l.i l.those)) ↔ (numbered [] l.these ≡ numbered [] l.those)
