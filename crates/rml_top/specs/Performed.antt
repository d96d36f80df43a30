-- What a command came to over the texts of its files, before the note.
use Rattle.std.specs.Prelude.{◌≡◌, ℕ, List}
use Rattle.std.specs.declared.option.Option.TheVariants.{None}
use Rattle.rml_io.specs.Counts.{Rose}
use Rattle.rml_io.specs.Sink.{SinkSeen, and_bytes, TookFront}
use Rattle.rml_stages.specs.declared.refusal.Refusal.TheVariants as refusal
use Rattle.rml_words.specs.Forms.{Asks}
use Rattle.rml_top.specs.Due.{AreAccepted, Outputs, AreRefused}
use Rattle.rml_top.specs.declared.status.Status.{Status}
use Rattle.rml_top.specs.declared.status.Status.TheVariants.{Done, Usage, ReadFault, WriteFault, Syntax, Limit, Memory, Unbuilt}

-- the words and what they ask for, the texts, and the output before and after
abbrev pub Performed : List (List ℕ) → Asks → List (List ℕ) → SinkSeen → SinkSeen → Status → Type 0
Performed words asks texts out out' (Done k) = (k ≡ None) × (text : List ℕ) × Outputs words asks texts text × (out'.text ≡ and_bytes out.text text)
Performed words asks texts out out' WriteFault = Rose out.faults out'.faults × (text : List ℕ) × Outputs words asks texts text × TookFront out.text out'.text text
Performed words asks texts out out' (Syntax place kind) = AreRefused texts (refusal.Syntax place kind) × (out'.text ≡ out.text)
Performed words asks texts out out' (Limit place which) = AreRefused texts (refusal.Limit place which) × (out'.text ≡ out.text)
Performed words asks texts out out' Memory = out'.text ≡ out.text
Performed words asks texts out out' Unbuilt = AreAccepted texts × ((text : List ℕ) → ¬ Outputs words asks texts text) × (out'.text ≡ out.text)
Performed words asks texts out out' Usage = ⊥
Performed words asks texts out out' (ReadFault k) = ⊥
