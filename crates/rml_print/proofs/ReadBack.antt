-- Printed bytes are read back: they spell the tokens of the lines, and these derive the tree again.
use Rattle.std.proofs.Common.{◌≡◌, ℕ, List}
use Rattle.rml_syntax.specs.declared.texts.Text.{Text}
use Rattle.rml_lex.specs.Places.{place_after, start}
use Rattle.rml_print.specs.Printed.{printed_text}
use Rattle.rml_print.specs.ReadsBack.{AreReadBack}
use Rattle.rml_print.specs.Source.{IsOfSomeText}
use Rattle.rml_print.specs.Texts.{text_lines}
use Rattle.rml_print.proofs.Cuts.{lines-read}
use Rattle.rml_print.proofs.ReadsTexts.{reads-back, reads-nothing-else}
use Rattle.rml_print.proofs.TextPhrases.{text-printable}

printed-read-back : (number : ℕ) (names : List (List ℕ)) (t : Text) → IsOfSomeText names t → AreReadBack number names (printed_text names t) t
printed-read-back number names t h =
    let read = lines-read number names (text_lines t) (text-printable names t h) in
    let back = reads-back h.end (place_after (start number) (printed_text names t)) h.spots read.0 t h.derived read.2 in
    record {
      spots = read.0;
      spelled = read.1;
      tree = back.0;
      derived = back.1;
      same = back.2;
      only = λ end u d. reads-nothing-else h.end end h.spots read.0 t u h.derived read.2 d;
    }

-- the same of bytes that are those of the layout
pub read-back : (number : ℕ) (names : List (List ℕ)) (t : Text) (bytes : List ℕ) → bytes ≡ printed_text names t → IsOfSomeText names t → AreReadBack number names bytes t
read-back number names t bytes e h = rw e (printed-read-back number names t h)
