use Rattle.std.proofs.Common.{◌∙◌, ap, sym}
use Rattle.rml_top.specs.Notes.{limit_note}
use Rattle.rml_top.proofs.LimitNotes.{texts-note, arguments-note, bytes-note, total-note, literal-note, nesting-note, rules-note}
use Rattle.rml_top.proofs.note.limit_note.Goals as goal

pub returns-in-Texts : goal.returns-in-Texts
returns-in-Texts c = texts-note ∙ ap limit_note (sym c.in-Texts.is)

pub returns-in-Arguments : goal.returns-in-Arguments
returns-in-Arguments c = arguments-note ∙ ap limit_note (sym c.in-Arguments.is)

pub returns-in-Bytes : goal.returns-in-Bytes
returns-in-Bytes c = bytes-note ∙ ap limit_note (sym c.in-Bytes.is)

pub returns-in-Total : goal.returns-in-Total
returns-in-Total c = total-note ∙ ap limit_note (sym c.in-Total.is)

pub returns-in-Literal : goal.returns-in-Literal
returns-in-Literal c = literal-note ∙ ap limit_note (sym c.in-Literal.is)

pub returns-in-Nesting : goal.returns-in-Nesting
returns-in-Nesting c = nesting-note ∙ ap limit_note (sym c.in-Nesting.is)

pub returns-in-Rules : goal.returns-in-Rules
returns-in-Rules c = rules-note ∙ ap limit_note (sym c.in-Rules.is)
