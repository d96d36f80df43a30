use Rattle.std.proofs.Common.{◌≡◌, drop}
use Rattle.rml_code.specs.Seen.{Seen}
use Rattle.rml_code.specs.Effects.{chosen}
use Rattle.rml_acts.specs.Sees.{Sees}
use Rattle.rml_acts.proofs.switch.choose.Given as goal

abbrev pub invariant-loop-case : goal.invariant-loop-case
invariant-loop-case l = (s : Seen) → Sees l.state.heap.values l.sight s → chosen s (drop l.case-index l.cases) l.otherwise l.state ≡ chosen s l.cases l.otherwise l.state
