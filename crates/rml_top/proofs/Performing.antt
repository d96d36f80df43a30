-- What a command came to, from its words, its files and its texts.
use Rattle.std.proofs.Common.{◌≡◌, ℕ, ◌+◌, ◌<◌, ◌≤◌, List, [], length, Some, None, refl, sym, subst, ◌∙◌, arith}
use Rattle.std.proofs.lemmas.List.{length-map, get_or-map}
use Rattle.std.specs.Prelude.{ℤ, All}
use Rattle.std.specs.declared.option.Option.{Option}
use Rattle.rml_base.specs.declared.place.Place.{Place}
use Rattle.rml_io.specs.Files.{Held, FilesSeen}
use Rattle.rml_io.specs.Sink.{and_bytes}
use Rattle.rml_io.proofs.Callers.{and_bytes-nil}
use Rattle.rml_lex.specs.Places.{start}
use Rattle.rml_lex.specs.declared.piece.LexKind.{LexKind}
use Rattle.rml_lex.specs.declared.piece.LexKind.TheVariants as lexical
use Rattle.rml_grammar.specs.declared.fault.ParseKind.{ParseKind}
use Rattle.rml_grammar.specs.declared.fault.ParseKind.TheVariants as syntactic
use Rattle.rml_words.specs.Forms.{Asks}
use Rattle.rml_stages.specs.Sources.{contents}
use Rattle.rml_stages.specs.Reading.{IsRefused, is_misspelled, is_underived}
use Rattle.rml_stages.specs.Refusals.{misspelled, underived}
use Rattle.rml_stages.specs.declared.refusal.Refusal.{Refusal}
use Rattle.rml_stages.specs.declared.refusal.Refusal.TheVariants as refusal
use Rattle.rml_stages.specs.declared.refusal.Which.{Which}
use Rattle.rml_stages.specs.declared.refusal.Which.TheVariants as which
use Rattle.rml_stages.specs.declared.source.Source.{Source}
use Rattle.rml_top.specs.Due.{AreRefused, IsDue, usage, unbuilt_command, many_texts, many_arguments, long_text, long_texts, limit, syntax_fault, done, unbuilt}
use Rattle.rml_top.specs.Ends.{Work, Ends, Counts, Takes, IsPerformed, read_by}
use Rattle.rml_top.specs.Line.{Reads, text_names, names_of}
use Rattle.rml_top.specs.Performed.{Performed}
use Rattle.rml_top.specs.Sources.{AreSources, HaveRead, HaveReadSome, Stopped}
use Rattle.rml_top.specs.Stops.{status_of}
use Rattle.rml_top.specs.declared.sources.NotRead.{NotRead}
use Rattle.rml_top.specs.declared.sources.NotRead.TheVariants as not_read
use Rattle.rml_top.specs.declared.status.Status.{Status}
use Rattle.rml_top.specs.declared.status.Status.TheVariants.{Done, Usage, ReadFault, WriteFault, Syntax, Limit, Memory, Unbuilt}
use Rattle.rml_top.proofs.Turns.{told-nothing}

-- ---- due by the words alone

-- faults and want of memory are never due
abbrev IsSettled : Status → Type 0
IsSettled (ReadFault k) = ⊥
IsSettled WriteFault = ⊥
IsSettled Memory = ⊥
IsSettled _ = Unit {0}

settled : (held : Option Held) (words : List (List ℕ)) (line : Option Asks) (status : Status) (text : List ℕ) → IsDue held words line status text → IsSettled status
settled held words line status text usage = tt
settled held words line status text (unbuilt_command t) = tt
settled held words line status text (many_texts t m) = tt
settled held words line status text (many_arguments t f m) = tt
settled held words line status text (long_text d r l) = tt
settled held words line status text (long_texts d r l) = tt
settled held words line status text (limit ts d t r) = tt
settled held words line status text (syntax_fault ts d t r) = tt
settled held words line status text (done ts d t o) = tt
settled held words line status text (unbuilt ts d t a n) = tt

due-ends : (w : Work) (status : Status) (text : List ℕ) → IsDue w.files.held w.words w.line status text → w.out'.text ≡ and_bytes w.out.text text → Ends w status
due-ends w (Done k) text d e = (text, d, e)
due-ends w Usage text d e = (text, d, e)
due-ends w (ReadFault k) text d e = absurd (settled w.files.held w.words w.line (ReadFault k) text d)
due-ends w WriteFault text d e = absurd (settled w.files.held w.words w.line WriteFault text d)
due-ends w (Syntax p k) text d e = (text, d, e)
due-ends w (Limit p k) text d e = (text, d, e)
due-ends w Memory text d e = absurd (settled w.files.held w.words w.line Memory text d)
due-ends w Unbuilt text d e = (text, d, e)

due-counts : (w : Work) (status : Status) → IsSettled status → HaveRead (names_of w.line) (read_by (length (names_of w.line)) status) w.files w.files' → Counts w status
due-counts w (Done k) s h = h
due-counts w Usage s h = h
due-counts w (ReadFault k) s h = absurd s
due-counts w WriteFault s h = absurd s
due-counts w (Syntax p k) s h = h
due-counts w (Limit p k) s h = h
due-counts w Memory s h = absurd s
due-counts w Unbuilt s h = h

takes-none : (w : Work) (names : ℕ) (status : Status) → read_by names status ≡ 0 → Takes w status
takes-none w names (Done k) e = tt
takes-none w names Usage e = tt
takes-none w names (ReadFault k) e = tt
takes-none w names WriteFault e = tt
takes-none w names (Syntax p k) e = tt
takes-none w names (Limit None k) e = tt
takes-none w names (Limit (Some p) which.Bytes) e = absurd (omega arith)
takes-none w names (Limit (Some p) which.Total) e = absurd (omega arith)
takes-none w names (Limit (Some p) which.Texts) e = tt
takes-none w names (Limit (Some p) which.Arguments) e = tt
takes-none w names (Limit (Some p) which.Literal) e = tt
takes-none w names (Limit (Some p) which.Nesting) e = tt
takes-none w names (Limit (Some p) which.Rules) e = tt
takes-none w names Memory e = tt
takes-none w names Unbuilt e = tt

read-none : (names : List (List ℕ)) (count : ℕ) (seen : FilesSeen) → count ≡ 0 → HaveRead names count seen seen
read-none names count seen e = subst (λ (n : ℕ). HaveRead names n seen seen) (sym e) record { asked = told-nothing seen.asked; calls = refl }

pub by-words : (w : Work) (status : Status) → w.files' ≡ w.files → w.out'.text ≡ w.out.text → IsDue w.files.held w.words w.line status [] → read_by (length (names_of w.line)) status ≡ 0 → IsPerformed w status
by-words w status files out d none = record {
  ends = due-ends w status [] d (out ∙ sym (and_bytes-nil w.out.text));
  counts = due-counts w status (settled w.files.held w.words w.line status [] d)
      (subst (λ (s : FilesSeen). HaveRead (names_of w.line) (read_by (length (names_of w.line)) status) w.files s) (sym files) (read-none (names_of w.line) (read_by (length (names_of w.line)) status) w.files none));
  takes = takes-none w (length (names_of w.line)) status none;
}

-- ---- the files could not be read

-- the line of a work, whose texts are read
pub record Begun (w : Work) (asks : Asks) : Type 0 where
  pub line : w.line ≡ Some asks
  pub reads : Reads asks

abbrev due-for : (w : Work) (asks : Asks) (status : Status) (text : List ℕ) → w.line ≡ Some asks → IsDue w.files.held w.words (Some asks) status text → IsDue w.files.held w.words w.line status text
due-for w asks status text e d = subst (λ (l : Option Asks). IsDue w.files.held w.words l status text) (sym e) d

abbrev for-line : (w : Work) (asks : Asks) (P : List (List ℕ) → Type 0) → w.line ≡ Some asks → P (text_names asks) → P (names_of w.line)
for-line w asks P e p = subst (λ (l : Option Asks). P (names_of l)) (sym e) p

pub stopped-so : (w : Work) (asks : Asks) (why : NotRead) → Begun w asks → w.out'.text ≡ w.out.text → Stopped (text_names asks) w.files w.files' why → IsPerformed w (status_of why)
stopped-so w asks (not_read.Fault k) b out s = record {
  ends = (asks, b.line, b.reads, s.0, s.1, out);
  counts = for-line w asks (λ ns. HaveRead ns (k + 1) w.files w.files') b.line s.2;
  takes = tt;
}
stopped-so w asks (not_read.Bytes k) b out s = record {
  ends = ([], due-for w asks (Limit (Some (start k)) which.Bytes) [] b.line (long_text b.reads s.0 s.1), out ∙ sym (and_bytes-nil w.out.text));
  counts = for-line w asks (λ ns. HaveRead ns (k + 1) w.files w.files') b.line s.3;
  takes = s.2;
}
stopped-so w asks (not_read.Total k) b out s = record {
  ends = ([], due-for w asks (Limit (Some (start k)) which.Total) [] b.line (long_texts b.reads s.0 s.1), out ∙ sym (and_bytes-nil w.out.text));
  counts = for-line w asks (λ ns. HaveRead ns (k + 1) w.files w.files') b.line s.3;
  takes = s.2;
}
stopped-so w asks not_read.Memory b out s = record {
  ends = ((asks, b.line, b.reads), out);
  counts = for-line w asks (λ ns. HaveReadSome ns w.files w.files') b.line s;
  takes = tt;
}

-- ---- the texts were read

-- a limit that a text passes inside
abbrev pub IsInside : Option Place → Which → Type 0
IsInside None passed = ⊥
IsInside (Some p) which.Bytes = ⊥
IsInside (Some p) which.Total = ⊥
IsInside (Some p) passed = Unit {0}

-- so of what a text is refused for, which is never want of memory
abbrev pub IsInsideOf : Refusal → Type 0
IsInsideOf (refusal.Limit place passed) = IsInside place passed
IsInsideOf (refusal.Syntax place kind) = Unit {0}
IsInsideOf refusal.Memory = ⊥

misspelled-inside : (place : Place) (kind : LexKind) → IsInsideOf (misspelled place kind)
misspelled-inside place lexical.BadByte = tt
misspelled-inside place lexical.OpenComment = tt
misspelled-inside place lexical.OpenString = tt
misspelled-inside place lexical.BadEscape = tt
misspelled-inside place lexical.IntRange = tt
misspelled-inside place lexical.Real = tt
misspelled-inside place lexical.LongString = tt

underived-inside : (place : Place) (kind : ParseKind) → IsInsideOf (underived place kind)
underived-inside place syntactic.Unexpected = tt
underived-inside place syntactic.TooDeep = tt
underived-inside place syntactic.TooManyRules = tt

refused-inside : (number : ℕ) (bytes : List ℕ) (old : List (List ℕ)) (why : Refusal) → IsRefused number bytes old why → IsInsideOf why
refused-inside number bytes old why (is_misspelled place kind f e) = subst IsInsideOf (sym e) (misspelled-inside place kind)
refused-inside number bytes old why (is_underived spots new place kind s st e) = subst IsInsideOf (sym e) (underived-inside place kind)

pub inside : (texts : List (List ℕ)) (why : Refusal) → AreRefused texts why → IsInsideOf why
inside texts why r = refused-inside (0 + length r.before) r.text r.new why r.refused

inside-reads : (names : ℕ) (place : Option Place) (passed : Which) → IsInside place passed → read_by names (Limit place passed) ≡ names
inside-reads names None passed i = absurd i
inside-reads names (Some p) which.Bytes i = absurd i
inside-reads names (Some p) which.Total i = absurd i
inside-reads names (Some p) which.Texts i = refl
inside-reads names (Some p) which.Arguments i = refl
inside-reads names (Some p) which.Literal i = refl
inside-reads names (Some p) which.Nesting i = refl
inside-reads names (Some p) which.Rules i = refl

inside-takes : (w : Work) (place : Option Place) (passed : Which) → IsInside place passed → Takes w (Limit place passed)
inside-takes w None passed i = absurd i
inside-takes w (Some p) which.Bytes i = absurd i
inside-takes w (Some p) which.Total i = absurd i
inside-takes w (Some p) which.Texts i = tt
inside-takes w (Some p) which.Arguments i = tt
inside-takes w (Some p) which.Literal i = tt
inside-takes w (Some p) which.Nesting i = tt
inside-takes w (Some p) which.Rules i = tt

have-all : (w : Work) (asks : Asks) (sources : List Source) → w.line ≡ Some asks → AreSources (text_names asks) w.files w.files' sources → HaveRead (names_of w.line) (length (names_of w.line)) w.files w.files'
have-all w asks sources e s = for-line w asks (λ ns. HaveRead ns (length ns) w.files w.files') e s.have_read

have-some : (names : List (List ℕ)) (before after : FilesSeen) → HaveRead names (length names) before after → HaveReadSome names before after
have-some names before after h = record { count = length names; told = length names; within = omega arith; fewer = omega arith; asked = h.asked; calls = h.calls }

pub performed-so : (w : Work) (asks : Asks) (sources : List Source) (status : Status) → Begun w asks → AreSources (text_names asks) w.files w.files' sources
    → Performed w.words asks (contents sources) w.out w.out' status → IsPerformed w status
performed-so w asks sources (Done k) b s p =
    let due : IsDue w.files.held w.words (Some asks) (Done k) p.1 = subst (λ (j : Option ℤ). IsDue w.files.held w.words (Some asks) (Done j) p.1) (sym p.0) (done (contents sources) b.reads s.texts p.2) in
    record { ends = (p.1, due-for w asks (Done k) p.1 b.line due, p.3); counts = have-all w asks sources b.line s; takes = tt }
performed-so w asks sources WriteFault b s p = record {
  ends = (p.0, p.1, due-for w asks (Done None) p.1 b.line (done (contents sources) b.reads s.texts p.2), p.3);
  counts = have-all w asks sources b.line s;
  takes = tt;
}
performed-so w asks sources (Syntax place kind) b s p = record {
  ends = ([], due-for w asks (Syntax place kind) [] b.line (syntax_fault (contents sources) b.reads s.texts p.0), p.1 ∙ sym (and_bytes-nil w.out.text));
  counts = have-all w asks sources b.line s;
  takes = tt;
}
performed-so w asks sources (Limit place passed) b s p =
    let i : IsInside place passed = inside (contents sources) (refusal.Limit place passed) p.0 in
    record {
      ends = ([], due-for w asks (Limit place passed) [] b.line (limit (contents sources) b.reads s.texts p.0), p.1 ∙ sym (and_bytes-nil w.out.text));
      counts = subst (λ (n : ℕ). HaveRead (names_of w.line) n w.files w.files') (sym (inside-reads (length (names_of w.line)) place passed i)) (have-all w asks sources b.line s);
      takes = inside-takes w place passed i;
    }
performed-so w asks sources Memory b s p = record { ends = ((asks, b.line, b.reads), p); counts = have-some (names_of w.line) w.files w.files' (have-all w asks sources b.line s); takes = tt }
performed-so w asks sources Unbuilt b s p = record {
  ends = ([], due-for w asks Unbuilt [] b.line (unbuilt (contents sources) b.reads s.texts p.0 p.1), p.2 ∙ sym (and_bytes-nil w.out.text));
  counts = have-all w asks sources b.line s;
  takes = tt;
}
performed-so w asks sources Usage b s p = absurd p
performed-so w asks sources (ReadFault k) b s p = absurd p

-- each text of the sources is within the limit
pub sources-short : (sources : List Source) → All (λ text. length text ≤ 1048576) (contents sources) → All (λ s. length s.bytes ≤ 1048576) sources
sources-short sources a = λ k d lt. let there : k < length (contents sources) = rw length-map lt in subst (λ (t : List ℕ). length t ≤ 1048576) (get_or-map (λ (s : Source). s.bytes) sources k d d.bytes lt) (a k d.bytes there)
