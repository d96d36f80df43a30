use Rattle.std.proofs.Common.{◌≡◌, ℕ, ◌<◌, [], false, get_or}
use Rattle.rml_base.specs.Numbering.{same}
use Rattle.rml_reading.proofs.files.text_named.Given as goal

abbrev pub invariant-loop-at : goal.invariant-loop-at
invariant-loop-at l = (k : ℕ) → k < l.at → same (get_or l.parts k []) l.own ≡ false
