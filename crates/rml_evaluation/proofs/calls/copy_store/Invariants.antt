use Rattle.std.proofs.Common.{◌≡◌, take}
use Rattle.rml_evaluation.proofs.calls.copy_store.Given as goal

abbrev pub invariant-loop-held : goal.invariant-loop-held
invariant-loop-held l = l.all ≡ take l.held-index l.store
