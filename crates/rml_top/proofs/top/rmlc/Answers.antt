use Rattle.std.proofs.Common.{◌≡◌, ◌∙◌, false, refl, ap, None, Some}
use Rattle.rml_words.proofs.Callers.{one}
use Rattle.rml_words.specs.View.{asked}
use Rattle.rml_top.specs.Line.{is_run}
use Rattle.rml_top.specs.Due.{usage}
use Rattle.rml_top.specs.declared.status.Status.TheVariants.{Usage}
use Rattle.rml_top.proofs.Ending.{answers, done-due, usage-not-done}
use Rattle.rml_top.proofs.Performing.{by-words}
use Rattle.rml_top.proofs.top.rmlc.Goals as goal

pub returns-in-None-clause-answered : goal.returns-in-None-clause-answered
returns-in-None-clause-answered g c = (None, c.in-None.ensures.only, answers _ Usage c.write_note.result (by-words _ Usage refl refl usage refl) c.write_note.ensures.noted)

pub returns-in-Some-clause-answered : goal.returns-in-Some-clause-answered
returns-in-Some-clause-answered g c =
    let noted = rw (c.text_names.ensures, c.is_run.ensures) at c.write_note-in-Some.ensures.noted in
    (Some (asked c.in-Some.command), c.in-Some.ensures.found, answers _ c.perform-due.result c.write_note-in-Some.result c.perform-due.ensures.performed noted)

pub returns-in-None-clause-silent : goal.returns-in-None-clause-silent
returns-in-None-clause-silent g c = λ asks line quiet k at. absurd (usage-not-done _ _ _ _ k c.write_note.ensures.noted at)

pub returns-in-Some-clause-silent : goal.returns-in-Some-clause-silent
returns-in-Some-clause-silent g c = λ asks line quiet k at.
    let run : c.is_run.result ≡ false = c.is_run.ensures ∙ ap is_run (one _ (asked c.in-Some.command) asks c.in-Some.ensures.found line) ∙ quiet in
    c.write_note-in-Some.ensures.silent run k (done-due _ _ _ _ _ k c.write_note-in-Some.ensures.noted at)
