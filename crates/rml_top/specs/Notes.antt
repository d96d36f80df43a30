-- The notes, each with its line end.
use Rattle.std.specs.Prelude.{◌≡◌, ◌⊎◌, ℕ, Bool, if◌then◌else◌, List, [], ◌++◌, codes, slice_index_or, Result, Ok, Err}
use Rattle.std.specs.Fmt.{decimal}
use Rattle.std.specs.declared.option.Option.{Option}
use Rattle.std.specs.declared.option.Option.TheVariants.{Some, None}
use Rattle.rml_base.specs.declared.limits.TheConstants.{ARGUMENTS, BYTES, LITERAL, NESTING, RULES, TEXTS, TOTAL}
use Rattle.rml_base.specs.declared.place.Place.{Place}
use Rattle.rml_io.specs.Counts.{Rose}
use Rattle.rml_io.specs.Sink.{SinkSeen, and_bytes, TookFront}
use Rattle.rml_stages.specs.declared.refusal.Kind.{Kind}
use Rattle.rml_stages.specs.declared.refusal.Kind.TheVariants.{BadByte, OpenComment, OpenString, BadEscape, IntRange, Real, Unexpected}
use Rattle.rml_stages.specs.declared.refusal.Which.{Which}
use Rattle.rml_stages.specs.declared.refusal.Which.TheVariants.{Texts, Arguments, Bytes, Total, Literal, Nesting, Rules}
use Rattle.rml_top.specs.declared.status.Status.{Status}
use Rattle.rml_top.specs.declared.status.Status.TheVariants.{Done, Usage, ReadFault, WriteFault, Syntax, Limit, Memory, Unbuilt}

abbrev pub syntax_note : Kind → List ℕ
syntax_note BadByte = codes "syntax BadByte\n"
syntax_note OpenComment = codes "syntax OpenComment\n"
syntax_note OpenString = codes "syntax OpenString\n"
syntax_note BadEscape = codes "syntax BadEscape\n"
syntax_note IntRange = codes "syntax IntRange\n"
syntax_note Real = codes "syntax Real\n"
syntax_note Unexpected = codes "syntax Unexpected\n"

-- the note of a limit by its name
abbrev pub limit_text : List ℕ → ℕ → List ℕ
limit_text name limit = codes "limit " ++ (name ++ (codes " " ++ (decimal limit ++ codes "\n")))

abbrev pub limit_note : Which → List ℕ
limit_note Texts = limit_text (codes "texts") TEXTS
limit_note Arguments = limit_text (codes "arguments") ARGUMENTS
limit_note Bytes = limit_text (codes "bytes") BYTES
limit_note Total = limit_text (codes "total") TOTAL
limit_note Literal = limit_text (codes "literal") LITERAL
limit_note Nesting = limit_text (codes "nesting") NESTING
limit_note Rules = limit_text (codes "rules") RULES

-- `FILE: ` and then this
abbrev pub with_file : List ℕ → List ℕ → List ℕ
with_file file what = file ++ (codes ": " ++ what)

-- `FILE:L:C: ` and then this
abbrev pub with_place : List ℕ → Place → List ℕ → List ℕ
with_place file place what = file ++ (codes ":" ++ (decimal place.line ++ (codes ":" ++ (decimal place.column ++ (codes ": " ++ what)))))

-- the name of the text of this number
abbrev pub name_at : List (List ℕ) → ℕ → List ℕ
name_at names number = slice_index_or names number []

-- what the note of a passed limit says of where
abbrev pub located : List (List ℕ) → Place → Which → List ℕ → List ℕ
located names place Bytes what = with_file (name_at names place.text) what
located names place Total what = with_file (name_at names place.text) what
located names place Literal what = with_place (name_at names place.text) place what
located names place Nesting what = with_place (name_at names place.text) place what
located names place Rules what = with_place (name_at names place.text) place what
located names place Texts what = what
located names place Arguments what = what

abbrev pub limit_at : List (List ℕ) → Option Place → Which → List ℕ
limit_at names None which = limit_note which
limit_at names (Some place) which = located names place which (limit_note which)

-- The note of a status, for a line of texts with these names, of a run or of another command.
abbrev pub note_of : List (List ℕ) → Bool → Status → List ℕ
note_of names run (Done k) = if run then codes "yes\n" else []
note_of names run Usage = codes "usage\n"
note_of names run (ReadFault k) = with_file (name_at names k) (codes "read fault\n")
note_of names run WriteFault = codes "write fault\n"
note_of names run (Syntax place kind) = with_place (name_at names place.text) place (syntax_note kind)
note_of names run (Limit place which) = limit_at names place which
note_of names run Memory = codes "memory\n"
note_of names run Unbuilt = codes "unbuilt\n"

-- the text was written, or a write failed and a front of it was
abbrev pub Wrote : {T E : Type 0} → Option (List ℕ) → Option (List ℕ) → List ℕ → Result T E → Type 0
Wrote before after text (Ok x) = after ≡ and_bytes before text
Wrote before after text (Err e) = TookFront before after text

-- The note of the status that is due was written, or a write of it failed, and then a write fault is the status.
abbrev pub IsNoted : SinkSeen → SinkSeen → List ℕ → Status → Status → Type 0
IsNoted before after text due status =
    ((status ≡ due) × (after.text ≡ and_bytes before.text text))
    ⊎ ((status ≡ WriteFault) × Rose before.faults after.faults × TookFront before.text after.text text)
