use Rattle.std.proofs.Common.{refl}
use Rattle.rml_words.specs.View.{asked}
use Rattle.rml_top.proofs.Performing.{by-words, stopped-so, performed-so, sources-short}
use Rattle.rml_top.proofs.perform.perform.Goals as goal

pub returns-in-Some-clause-performed : goal.returns-in-Some-clause-performed
returns-in-Some-clause-performed g c = by-words _ c.in-Some.due refl refl (c.in-Some.ensures.due _ _) c.in-Some.ensures.unread

pub answer-requires-clause-size : goal.answer-requires-clause-size
answer-requires-clause-size g c = rw c.as_slice.ensures.value (sources-short c.in-Ok.sources.items c.in-Ok.ensures.read.texts.within.each)

pub returns-in-Ok-clause-performed : goal.returns-in-Ok-clause-performed
returns-in-Ok-clause-performed g c =
    performed-so _ (asked c.args.command.now) c.in-Ok.sources.items c.answer.result record { line = refl; reads = c.in-None.ensures.reads }
    (rw c.text_names.ensures at c.in-Ok.ensures.read) (rw c.as_slice.ensures.value at c.answer.ensures.performed)

pub returns-in-Err-clause-performed : goal.returns-in-Err-clause-performed
returns-in-Err-clause-performed g c = rw c.stopped.ensures
    (stopped-so _ (asked c.args.command.now) c.in-Err.why record { line = refl; reads = c.in-None.ensures.reads } refl (rw c.text_names.ensures at c.in-Err.ensures.stopped))
