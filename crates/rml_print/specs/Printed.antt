-- What the printer writes: a text and a signature.
use Rattle.std.specs.Prelude.{ℕ, List}
use Rattle.rml_syntax.specs.declared.types.Sig.{Sig}
use Rattle.rml_syntax.specs.declared.texts.Text.{Text}
use Rattle.rml_print.specs.Lines.{spaced, lines_bytes}
use Rattle.rml_print.specs.Types.{sig_tokens}
use Rattle.rml_print.specs.Texts.{text_lines}

abbrev pub printed_text : List (List ℕ) → Text → List ℕ
printed_text names t = lines_bytes names (text_lines t)

abbrev pub printed_sig : List (List ℕ) → Sig → List ℕ
printed_sig names s = spaced names (sig_tokens s)
