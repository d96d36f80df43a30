-- How the top call answers: with what is due, then its note; and which status is due where nothing fails.
use Rattle.std.specs.Prelude.{◌≡◌, ℕ, ◌⊎◌, true, List, [], ◌∷◌, codes, IsSome}
use Rattle.std.specs.declared.option.Option.{Option}
use Rattle.std.specs.declared.option.Option.TheVariants.{None, Some}
use Rattle.rml_base.specs.Answers.{OrMemory}
use Rattle.rml_io.specs.Counts.{Rose}
use Rattle.rml_io.specs.Files.{Held}
use Rattle.rml_io.specs.Sink.{TookFront}
use Rattle.rml_words.specs.Forms.{is_file}
use Rattle.rml_top.specs.declared.status.Status.{Status}
use Rattle.rml_top.specs.declared.status.Status.TheVariants.{Done, ReadFault, Memory}
use Rattle.rml_top.specs.Due.{IsDue, IsMissing}
use Rattle.rml_top.specs.Ends.{Work, ReadsTexts, IsPerformed, Call, note_for}
use Rattle.rml_top.specs.Line.{Means}
use Rattle.rml_top.specs.Notes.{IsNoted}
use Rattle.rml_top.specs.Sources.{IsHeld}
use Rattle.rml_top.specs.Text.{IsText}

abbrev pub IsDueFor : Work → Status → List ℕ → Type 0
IsDueFor w status text = IsDue w.files.held w.words w.line status text

-- no read or write failed
pub record NoFault (c : Call) : Type 0 where
  pub read : ¬ Rose c.work.files.faults c.work.files'.faults
  pub write : ¬ Rose c.work.out.faults c.work.out'.faults
  pub note : ¬ Rose c.note.faults c.note'.faults

-- A call ends so.
pub record IsAnswered (c : Call) (status : Status) : Type 0 where
  -- what was due, read and written before the note
  pub due : Status
  pub performed : IsPerformed c.work due
  -- its note, or that this could not be written, which is a write fault
  pub noted : IsNoted c.note c.note' (note_for c.work.line due) due status
  -- Where no count rose and it is told what the files hold, that comes which is due, unless there was no memory.
  pub exact : NoFault c → IsSome c.work.files.held → (is : Status) (text : List ℕ) → IsDueFor c.work is text → OrMemory Memory status (status ≡ is)
  -- Where a file is due of which it is told that it is not held, a read has failed, unless there was no memory.
  pub missing : (files : Held) (number : ℕ) → c.work.files.held ≡ Some files → IsMissing files c.work.line number → OrMemory Memory due ((k : ℕ) × (due ≡ ReadFault k))
  -- Where no text is read, that comes which is due, whatever the files tell, unless the note can't be written.
  pub by_words : ¬ Rose c.note.faults c.note'.faults → ¬ ReadsTexts c.work → (is : Status) (text : List ℕ) → IsDueFor c.work is text → status ≡ is

-- ---- what the laws speak of

-- Nothing is written to the output but a front of what accepted texts give.
abbrev pub OnlyAccepted : Work → Type 0
OnlyAccepted w = (w.out'.text ≡ w.out.text) ⊎ ((text : List ℕ) × IsDueFor w (Done None) text × TookFront w.out.text w.out'.text text)

-- The words are `run FILE`, and the file holds a text of the first form, which prints this.
pub record RunsFirstForm (w : Work) (text : List ℕ) : Type 0 where
  pub file : List ℕ
  pub words : w.words ≡ codes "run" ∷ file ∷ []
  pub names_file : is_file file ≡ true
  -- the line of the call is what its words mean, as the contract of `rmlc` says
  pub means : Means w.words w.line
  pub bytes : List ℕ
  pub held : IsHeld w.files.held file bytes
  pub prints : IsText bytes text
