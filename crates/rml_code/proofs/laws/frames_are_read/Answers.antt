use Rattle.rml_code.proofs.Pushed.{success-there, failure-there, success-label, failure-label}
use Rattle.rml_code.proofs.laws.frames_are_read.Goals as goal

pub returns : goal.returns
returns c = record { successes = success-there; failures = failure-there; success_labels = success-label; failure_labels = failure-label }
