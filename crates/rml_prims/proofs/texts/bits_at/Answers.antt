use Rattle.std.proofs.Common.{◌≡◌, ℕ, ◌*◌, ◌/◌, drop, ap, ◌∙◌, arith, rules}
use Rattle.std.specs.Int.{w64, cast_unsigned, from_le_bytes}
use Rattle.std.proofs.lemmas.Int.{of_z-to_z, to_z-of_z}
use Rattle.rml_heap.specs.Text.{word_of_bytes}
use Rattle.rml_heap.proofs.Callers.{each-drop}
use Rattle.rml_prims.proofs.Shifted.{word-bits}
use Rattle.rml_prims.proofs.texts.bits_at.Goals as goal

pub returns-then-k-text : goal.returns-then-k-text
returns-then-k-text c = λ d bytes is.
    let place : 8 * (8 * c.args.k / 8) ≡ 8 * c.args.k = omega arith in
    c.cast_unsigned.ensures
    ∙ ap (cast_unsigned w64) (to_z-of_z w64 c.word_at.result (search rules) ∙ c.word_at.ensures d bytes is ∙ ap (λ n. word_of_bytes (drop n bytes)) place)
    ∙ word-bits (drop (8 * c.args.k) bytes) (each-drop (8 * c.args.k) bytes is.each)
