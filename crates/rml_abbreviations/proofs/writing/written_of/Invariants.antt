use Rattle.std.proofs.Common.{◌≡◌, ℕ, [], length, drop}
use Rattle.rml_types.specs.Runs.{Ready, run_by}
use Rattle.rml_abbreviations.specs.Written.{meaning_in, written_by}
use Rattle.rml_abbreviations.proofs.writing.written_of.Given as goal

abbrev pub invariant-loop-label : goal.invariant-loop-label
invariant-loop-label l = record {
  ready : (vars : ℕ) × Ready vars (drop l.label-index l.labels) (length l.made.items);
  runs : run_by (written_by (meaning_in l.bodies)) l.labels [] ≡ run_by (written_by (meaning_in l.bodies)) (drop l.label-index l.labels) l.made.items;
}
