-- What is due for `run FILE`, where the file holds a text of the first form.
use Rattle.std.proofs.Common.{◌≡◌, ℕ, ◌≤◌, true, List, [], ◌∷◌, length, None, Some, refl, sym, ap, subst, arith, lit<, lit≤}
use Rattle.std.specs.Prelude.{codes}
use Rattle.std.specs.declared.option.Option.{Option}
use Rattle.std.proofs.lemmas.List.Elements.{All-cons, All-nil}
use Rattle.rml_io.specs.Files.{Held}
use Rattle.rml_words.specs.Forms.{Asks, IsLine, Run, run, cells_first, default_cells, default_steps, no_dashes, is_file}
use Rattle.rml_words.proofs.Callers.{one}
use Rattle.rml_top.specs.Answers.{IsDueFor, RunsFirstForm}
use Rattle.rml_top.specs.Due.{IsDue, Outputs, done}
use Rattle.rml_top.specs.Ends.{Work}
use Rattle.rml_top.specs.Line.{Means, Reads, is_plain_run}
use Rattle.rml_top.specs.Sources.{AreTexts, IsHeld}
use Rattle.rml_top.specs.Text.{IsText}
use Rattle.rml_top.specs.declared.status.Status.TheVariants.{Done}
use Rattle.rml_top.proofs.Accepted.{first-accepted}

-- what `run FILE` asks for
abbrev asked : List ℕ → Asks
asked file = Run 16777216 100000000 (file ∷ []) []

is-line : (file : List ℕ) → is_file file ≡ true → IsLine (codes "run" ∷ file ∷ []) (asked file)
is-line file e = run (cells_first default_cells default_steps) (record { some = lit< tt; each = rw e refl }) no_dashes

line-is : (words : List (List ℕ)) (line : Option Asks) (asks : Asks) → Means words line → IsLine words asks → line ≡ Some asks
line-is words None asks m l = absurd (m asks l)
line-is words (Some a) asks m l = ap Some (one words a asks m l)

reads : (file : List ℕ) → Reads (asked file)
reads file = record { takes = refl; few_texts = lit≤ tt; few_arguments = lit≤ tt }

one-text : (held : Option Held) (file bytes : List ℕ) → IsHeld held file bytes → length bytes ≤ 1048576 → AreTexts held (file ∷ []) (bytes ∷ [])
one-text held file bytes h short = record {
  are_held = (h, tt);
  within = record {
    each = All-cons (λ (x : List ℕ). length x ≤ 1048576) bytes [] short (All-nil (λ (x : List ℕ). length x ≤ 1048576));
    together = omega arith;
  };
}

outputs : (words : List (List ℕ)) (file bytes text : List ℕ) → is_plain_run words ≡ true → IsText bytes text → Outputs words (asked file) (bytes ∷ []) text
outputs words file bytes text plain t = (plain, first-accepted bytes text t, (bytes, refl, t))

pub first-due : (w : Work) (text : List ℕ) → RunsFirstForm w text → IsDueFor w (Done None) text
first-due w text r =
    let plain : is_plain_run w.words ≡ true = ap is_plain_run r.words in
    let line : w.line ≡ Some (asked r.file) = line-is w.words w.line (asked r.file) r.means (subst (λ (x : List (List ℕ)). IsLine x (asked r.file)) (sym r.words) (is-line r.file r.names_file)) in
    let due : IsDue w.files.held w.words (Some (asked r.file)) (Done None) text = done (r.bytes ∷ []) (reads r.file) (one-text w.files.held r.file r.bytes r.held r.prints.short) (outputs w.words r.file r.bytes text plain r.prints) in
    subst (λ (x : Option Asks). IsDue w.files.held w.words x (Done None) text) (sym line) due
