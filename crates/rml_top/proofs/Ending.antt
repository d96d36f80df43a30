-- How a call ends, from what is due before the note.
use Rattle.std.proofs.Common.{rules, ◌≡◌, ℕ, List, [], length, Some, None, refl, sym, ap, subst, ◌∙◌, arith, inl, inr, take_all}
use Rattle.std.specs.Prelude.{ℤ, ◌⊎◌, IsSome}
use Rattle.std.specs.declared.option.Option.{Option}
use Rattle.rml_io.specs.Counts.{Rose}
use Rattle.rml_io.specs.Files.{Held}
use Rattle.rml_io.specs.Sink.{SinkSeen, and_bytes, TookFront}
use Rattle.rml_io.proofs.Callers.{and_bytes-nil}
use Rattle.rml_words.specs.Forms.{Asks}
use Rattle.rml_top.specs.Answers.{IsDueFor, NoFault, IsAnswered, OnlyAccepted}
use Rattle.rml_top.specs.Due.{IsDue, IsMissing, usage, unbuilt_command, many_texts, many_arguments, long_text, long_texts, limit, syntax_fault, done, unbuilt}
use Rattle.rml_top.specs.Ends.{Work, ReadsTexts, Ends, IsPerformed, Call, note_for}
use Rattle.rml_top.specs.Line.{Reads}
use Rattle.rml_top.specs.Notes.{IsNoted}
use Rattle.rml_top.specs.declared.status.Status.{Status}
use Rattle.rml_top.specs.declared.status.Status.TheVariants.{Done, Usage, ReadFault, WriteFault, Syntax, Limit, Memory, Unbuilt}
use Rattle.rml_top.proofs.Unique.{due-or-missing, one-due}

-- the note of what is due
abbrev Noted : Call → Status → Status → Type 0
Noted c due status = IsNoted c.note c.note' (note_for c.work.line due) due status

-- ---- what is due

-- what is done gives no integer yet, and every other status comes without output
abbrev IsPlain : Status → List ℕ → Type 0
IsPlain (Done k) text = k ≡ None
IsPlain _ text = text ≡ []

plain : (held : Option Held) (words : List (List ℕ)) (line : Option Asks) (status : Status) (text : List ℕ) → IsDue held words line status text → IsPlain status text
plain held words line status text usage = refl
plain held words line status text (unbuilt_command t) = refl
plain held words line status text (many_texts t m) = refl
plain held words line status text (many_arguments t f m) = refl
plain held words line status text (long_text d r l) = refl
plain held words line status text (long_texts d r l) = refl
plain held words line status text (limit ts d t r) = refl
plain held words line status text (syntax_fault ts d t r) = refl
plain held words line status text (done ts d t o) = refl
plain held words line status text (unbuilt ts d t a n) = refl

-- what is done is so over texts that are read, and only what is no line is a faulty one
abbrev LineOf : Option Asks → Status → Type 0
LineOf line (Done k) = (asks : Asks) × (line ≡ Some asks) × Reads asks
LineOf line Usage = line ≡ None
LineOf line _ = Unit {0}

line-of : (held : Option Held) (words : List (List ℕ)) (line : Option Asks) (status : Status) (text : List ℕ) → IsDue held words line status text → LineOf line status
line-of held words line status text usage = refl
line-of held words line status text (unbuilt_command t) = tt
line-of held words line status text (many_texts t m) = tt
line-of held words line status text (many_arguments t f m) = tt
line-of held words line status text (long_text d r l) = tt
line-of held words line status text (long_texts d r l) = tt
line-of held words line status text (limit ts d t r) = tt
line-of held words line status text (syntax_fault ts d t r) = tt
line-of held words line status text (done {asks = asks} ts d t o) = (asks, refl, d)
line-of held words line status text (unbuilt ts d t a n) = tt

-- ---- what was written to the output

whole-front : (before after : Option (List ℕ)) (text : List ℕ) → after ≡ and_bytes before text → TookFront before after text
whole-front before after text e = record { count = length text; within = omega arith; taken = e ∙ ap (λ (t : List ℕ). and_bytes before t) (sym (take_all (length text) text (omega arith))) }

nothing-written : (w : Work) (text : List ℕ) → text ≡ [] → w.out'.text ≡ and_bytes w.out.text text → OnlyAccepted w
nothing-written w text e out = inl (out ∙ ap (λ (t : List ℕ). and_bytes w.out.text t) e ∙ and_bytes-nil w.out.text)

pub accepted : (w : Work) (due : Status) → Ends w due → OnlyAccepted w
accepted w (Done k) e =
    let none : k ≡ None = plain w.files.held w.words w.line (Done k) e.0 e.1 in
    inr (e.0, subst (λ (j : Option ℤ). IsDueFor w (Done j) e.0) none e.1, whole-front w.out.text w.out'.text e.0 e.2)
accepted w Usage e = nothing-written w e.0 (plain w.files.held w.words w.line Usage e.0 e.1) e.2
accepted w (ReadFault k) e = inl e.5
accepted w WriteFault e = inr (e.1, e.2, e.3)
accepted w (Syntax p k) e = nothing-written w e.0 (plain w.files.held w.words w.line (Syntax p k) e.0 e.1) e.2
accepted w (Limit p k) e = nothing-written w e.0 (plain w.files.held w.words w.line (Limit p k) e.0 e.1) e.2
accepted w Memory e = inl e.1
accepted w Unbuilt e = nothing-written w e.0 (plain w.files.held w.words w.line Unbuilt e.0 e.1) e.2

-- ---- that comes which is due

abbrev Decided : Call → Type 0
Decided c = (asks : Asks) → c.work.line ≡ Some asks → Reads asks → (files : Held) × (c.work.files.held ≡ Some files)

same-due : (c : Call) (a b : Status) (x y : List ℕ) → Decided c → IsDueFor c.work a x → IsDueFor c.work b y → a ≡ b
same-due c a b x y told d e = (one-due c.work.files.held c.work.words c.work.line a b x y told d e).0

exact-due : (c : Call) (is : Status) → Ends c.work is → NoFault c → Decided c → (due : Status) (text : List ℕ) → IsDueFor c.work due text → (is ≡ due) ⊎ (is ≡ Memory)
exact-due c (Done k) e calm told due text d = inl (same-due c (Done k) due e.0 text told e.1 d)
exact-due c Usage e calm told due text d = inl (same-due c Usage due e.0 text told e.1 d)
exact-due c (ReadFault k) e calm told due text d = absurd (calm.read e.4)
exact-due c WriteFault e calm told due text d = absurd (calm.write e.0)
exact-due c (Syntax p k) e calm told due text d = inl (same-due c (Syntax p k) due e.0 text told e.1 d)
exact-due c (Limit p k) e calm told due text d = inl (same-due c (Limit p k) due e.0 text told e.1 d)
exact-due c Memory e calm told due text d = inr refl
exact-due c Unbuilt e calm told due text d = inl (same-due c Unbuilt due e.0 text told e.1 d)

told-held : (held : Option Held) → IsSome held → (files : Held) × (held ≡ Some files)
told-held None h = absurd (search rules)
told-held (Some files) h = (files, refl)

exact : (c : Call) (is status : Status) → IsPerformed c.work is → Noted c is status → NoFault c → IsSome c.work.files.held → (due : Status) (text : List ℕ) → IsDueFor c.work due text → (status ≡ due) ⊎ (status ≡ Memory)
exact c is status p noted calm told due text d =
    elim noted [
      | inl n ↦ elim (exact-due c is p.ends calm (λ asks e r. told-held c.work.files.held told) due text d) [ inl e ↦ inl (n.0 ∙ e) | inr e ↦ inr (n.0 ∙ e) ]
      | inr n ↦ absurd (calm.note n.1)
    ]

-- ---- a file that is not held

no-due : (w : Work) (files : Held) (number : ℕ) (status : Status) (text : List ℕ) → w.files.held ≡ Some files → IsMissing files w.line number → IsDueFor w status text → ⊥
no-due w files number status text told m d = due-or-missing files w.words w.line status text number (subst (λ (h : Option Held). IsDue h w.words w.line status text) told d) m

missing-due : (w : Work) (due : Status) → Ends w due → (files : Held) (number : ℕ) → w.files.held ≡ Some files → IsMissing files w.line number → ((k : ℕ) × (due ≡ ReadFault k)) ⊎ (due ≡ Memory)
missing-due w (Done k) e files number told m = absurd (no-due w files number (Done k) e.0 told m e.1)
missing-due w Usage e files number told m = absurd (no-due w files number Usage e.0 told m e.1)
missing-due w (ReadFault k) e files number told m = inl (k, refl)
missing-due w WriteFault e files number told m = absurd (no-due w files number (Done None) e.1 told m e.2)
missing-due w (Syntax p k) e files number told m = absurd (no-due w files number (Syntax p k) e.0 told m e.1)
missing-due w (Limit p k) e files number told m = absurd (no-due w files number (Limit p k) e.0 told m e.1)
missing-due w Memory e files number told m = inr refl
missing-due w Unbuilt e files number told m = absurd (no-due w files number Unbuilt e.0 told m e.1)

-- ---- where no text is read

worded : (c : Call) (is : Status) → Ends c.work is → ¬ ReadsTexts c.work → (due : Status) (text : List ℕ) → IsDueFor c.work due text → is ≡ due
worded c (Done k) e none due text d = same-due c (Done k) due e.0 text (λ asks l r. absurd (none (asks, l, r))) e.1 d
worded c Usage e none due text d = same-due c Usage due e.0 text (λ asks l r. absurd (none (asks, l, r))) e.1 d
worded c (ReadFault k) e none due text d = absurd (none (e.0, e.1, e.2))
worded c WriteFault e none due text d = absurd (none (line-of c.work.files.held c.work.words c.work.line (Done None) e.1 e.2))
worded c (Syntax p k) e none due text d = same-due c (Syntax p k) due e.0 text (λ asks l r. absurd (none (asks, l, r))) e.1 d
worded c (Limit p k) e none due text d = same-due c (Limit p k) due e.0 text (λ asks l r. absurd (none (asks, l, r))) e.1 d
worded c Memory e none due text d = absurd (none e.0)
worded c Unbuilt e none due text d = same-due c Unbuilt due e.0 text (λ asks l r. absurd (none (asks, l, r))) e.1 d

by-words : (c : Call) (is status : Status) → IsPerformed c.work is → Noted c is status → ¬ Rose c.note.faults c.note'.faults → ¬ ReadsTexts c.work → (due : Status) (text : List ℕ) → IsDueFor c.work due text → status ≡ due
by-words c is status p noted calm none due text d =
    elim noted [ inl n ↦ n.0 ∙ worded c is p.ends none due text d | inr n ↦ absurd (calm n.1) ]

-- ---- all

pub answers : (c : Call) (due status : Status) → IsPerformed c.work due → Noted c due status → IsAnswered c status
answers c due status p n = record {
  due = due;
  performed = p;
  noted = n;
  exact = λ calm told is text d. exact c due status p n calm told is text d;
  missing = λ files number told m. missing-due c.work due p.ends files number told m;
  by_words = λ calm none is text d. by-words c due status p n calm none is text d;
}

-- ---- a note that is not written

-- where the call is done, that was due
pub done-due : (before after : SinkSeen) (text : List ℕ) (due status : Status) (k : Option ℤ) → IsNoted before after text due status → status ≡ Done k → due ≡ Done k
done-due before after text due status k (inl n) at = sym n.0 ∙ at
done-due before after text due status k (inr n) at = absurd (let clash = sym at ∙ n.0 in cc)

pub usage-not-done : (before after : SinkSeen) (text : List ℕ) (status : Status) (k : Option ℤ) → IsNoted before after text Usage status → status ≡ Done k → ⊥
usage-not-done before after text status k n at = let clash = done-due before after text Usage status k n at in cc
