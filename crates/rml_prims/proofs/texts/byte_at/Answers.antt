use Rattle.std.proofs.Common.{◌≡◌, ◌*◌, ◌/◌, ◌%◌, get_or, drop, ap, ◌∙◌, rules}
use Rattle.std.specs.Int.{w64}
use Rattle.std.proofs.lemmas.Int.{to_z-of_z}
use mir.Val.{to_z, of_z}
use Rattle.rml_heap.specs.Text.{word_of_bytes, bytes_of_word}
use Rattle.rml_prims.proofs.TextCells.{byte-there}
use Rattle.rml_prims.proofs.texts.byte_at.Goals as goal

pub returns : goal.returns
unfolding bytes_of_word
returns c = λ d bytes is.
    let word : to_z w64 (of_z w64 c.word_at.result) ≡ word_of_bytes (drop (8 * (c.args.i / 8)) bytes) = to_z-of_z w64 c.word_at.result (search rules) ∙ c.word_at.ensures d bytes is in
    let list : c.to_le_bytes-word.result ≡ bytes_of_word (to_z w64 (of_z w64 c.word_at.result)) = c.to_le_bytes-word.ensures in
    ap (λ bs. get_or bs (c.args.i % 8) 0) (list ∙ ap bytes_of_word word) ∙ byte-there bytes c.args.i is.each
