-- How a call ends: what is due after reading and writing, and then the note.
use Rattle.std.specs.Prelude.{◌≡◌, ℕ, ◌+◌, Bool, false, List, length}
use Rattle.std.specs.declared.option.Option.{Option}
use Rattle.std.specs.declared.option.Option.TheVariants.{Some, None}
use Rattle.rml_base.specs.declared.limits.TheConstants.{BYTES, TOTAL}
use Rattle.rml_io.specs.Counts.{Rose}
use Rattle.rml_io.specs.Files.{FilesSeen}
use Rattle.rml_io.specs.Sink.{SinkSeen, and_bytes, TookFront}
use Rattle.rml_stages.specs.declared.refusal.Which.TheVariants as which
use Rattle.rml_words.specs.Forms.{Asks}
use Rattle.rml_top.specs.declared.status.Status.{Status}
use Rattle.rml_top.specs.declared.status.Status.TheVariants.{Done, ReadFault, WriteFault, Limit, Memory}
use Rattle.rml_top.specs.Due.{IsDue}
use Rattle.rml_top.specs.Line.{Reads, names_of, text_names, is_run}
use Rattle.rml_top.specs.Notes.{note_of}
use Rattle.rml_top.specs.Sources.{IsReached, HaveRead, HaveReadSome, RoseBy}

-- What is seen of a call from outside, but for its note: its words and what they ask for, and the files and the output before and
-- after it.
pub record Work : Type 0 where
  pub words : List (List ℕ)
  pub line : Option Asks
  pub files : FilesSeen
  pub files' : FilesSeen
  pub out : SinkSeen
  pub out' : SinkSeen

-- the words are a line whose texts are read
abbrev pub ReadsTexts : Work → Type 0
ReadsTexts w = (asks : Asks) × (w.line ≡ Some asks) × Reads asks

-- This is due, and this was written to the output.
abbrev pub Ends : Work → Status → Type 0
-- a read failed
Ends w (ReadFault k) = (asks : Asks) × (w.line ≡ Some asks) × Reads asks × IsReached w.files.held (text_names asks) k × Rose w.files.faults w.files'.faults × (w.out'.text ≡ w.out.text)
-- a write of what is due failed
Ends w WriteFault = Rose w.out.faults w.out'.faults × (text : List ℕ) × IsDue w.files.held w.words w.line (Done None) text × TookFront w.out.text w.out'.text text
Ends w Memory = ReadsTexts w × (w.out'.text ≡ w.out.text)
Ends w status = (text : List ℕ) × IsDue w.files.held w.words w.line status text × (w.out'.text ≡ and_bytes w.out.text text)

-- how many of so many files were read at such an end
abbrev pub read_by : ℕ → Status → ℕ
read_by names (ReadFault k) = k + 1
read_by names (Limit (Some place) which.Bytes) = place.text + 1
read_by names (Limit (Some place) which.Total) = place.text + 1
read_by names (Limit None passed) = 0
read_by names status = names

-- What was read by such an end.
abbrev pub Counts : Work → Status → Type 0
Counts w Memory = HaveReadSome (names_of w.line) w.files w.files'
Counts w status = HaveRead (names_of w.line) (read_by (length (names_of w.line)) status) w.files w.files'

-- Where too many bytes were met, so many were taken.
abbrev pub Takes : Work → Status → Type 0
Takes w (Limit (Some place) which.Bytes) = RoseBy (BYTES + 1) w.files.taken w.files'.taken
Takes w (Limit (Some place) which.Total) = RoseBy (TOTAL + 1) w.files.taken w.files'.taken
Takes w status = Unit {0}

-- All that is so of a call before its note.
pub record IsPerformed (w : Work) (due : Status) : Type 0 where
  pub ends : Ends w due
  pub counts : Counts w due
  pub takes : Takes w due

-- ---- the note

-- What is seen of a call: what was done, and the sink of the note before and after it.
pub record Call : Type 0 where
  pub work : Work
  pub note : SinkSeen
  pub note' : SinkSeen

abbrev pub notes_run : Option Asks → Bool
notes_run None = false
notes_run (Some asks) = is_run asks

-- the note of a status, for what the words ask for
abbrev pub note_for : Option Asks → Status → List ℕ
note_for line status = note_of (names_of line) (notes_run line) status
