-- What an instruction did, as its effect says it.
use Rattle.std.specs.Prelude.{◌≢◌}
use Rattle.rml_code.specs.Stretch as stretch
use Rattle.rml_code.specs.Stretch.{Next, Stretch}
use Rattle.rml_acts.specs.declared.step.End.{End}
use Rattle.rml_acts.specs.declared.step.End.TheVariants as end
use Rattle.rml_acts.specs.declared.step.Step.{Step}
use Rattle.rml_acts.specs.declared.step.Step.TheVariants as step

abbrev pub end_of : End → stretch.End
end_of (end.Answer value) = stretch.Answer value
end_of end.Failure = stretch.Failure
end_of (end.Full used need) = stretch.Full used need

abbrev pub next_of : Step → Next
next_of step.Behind = stretch.Behind
next_of (step.Jump b) = stretch.Jump b
next_of (step.Turn b) = stretch.Turn b
next_of (step.Stop e) = stretch.Stop (end_of e)

-- it has a meaning
abbrev pub IsRight : Stretch → Type 0
IsRight a = a.next ≢ stretch.Stop stretch.Wrong
