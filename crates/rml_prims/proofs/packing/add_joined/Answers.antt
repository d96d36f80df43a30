use Rattle.std.proofs.Common.{◌≡◌, ℕ, ◌+◌, ◌-◌, ◌/◌, ◌++◌, length, take, drop, sym, ap, ◌∙◌, arith}
use Rattle.rml_heap.specs.HeapState.{HeapState}
use Rattle.rml_heap.specs.Text.{words_for}
use Rattle.rml_prims.specs.Shapes.{AreJoined, text_head}
use Rattle.rml_prims.proofs.PackedTexts.{PackedTo, joined-long, joined-packed}
use Rattle.rml_prims.proofs.Joining.{all-words, second-words, whole-words}
use Rattle.rml_prims.proofs.packing.add_joined.Goals as goal

pub add_shifted-requires-clause-texts : goal.add_shifted-requires-clause-texts
add_shifted-requires-clause-texts c =
    let old : HeapState = c.args.heap.now in
    let t = c.requires.texts in
    let long : length t.0 ≡ c.args.first.size + c.args.second.size = joined-long old.values c.args.first.at c.args.first.size c.args.second.at c.args.second.size t.0 t.1 in
    let words : PackedTo old t.0 (c.args.first.size / 8) c.add_again.new.self =
    whole-words old c.add.new.self c.add_again.new.self c.args.first.at c.args.first.size c.args.second.at c.args.second.size t.0 c.text_head.result t.1 (c.text_head.ensures ∙ ap text_head (sym long)) c.add.ensures c.add_again.ensures
    in
    (t.0, joined-packed old c.add_again.new.self c.args.first.at c.args.first.size c.args.second.at c.args.second.size (c.args.first.size / 8) t.0 t.1 words)

pub returns-then-first-eq0 : goal.returns-then-first-eq0
returns-then-first-eq0 c = λ bytes h.
    let old : HeapState = c.args.heap.now in
    let long : length bytes ≡ c.args.first.size + c.args.second.size = joined-long old.values c.args.first.at c.args.first.size c.args.second.at c.args.second.size bytes h in
    let words : PackedTo old bytes (c.args.first.size / 8) c.add_again.new.self =
    whole-words old c.add.new.self c.add_again.new.self c.args.first.at c.args.first.size c.args.second.at c.args.second.size bytes c.text_head.result h (c.text_head.ensures ∙ ap text_head (sym long)) c.add.ensures c.add_again.ensures
    in
    let joined : AreJoined c.add_again.new.self.values c.args.first.at c.args.first.size c.args.second.at c.args.second.size bytes =
    joined-packed old c.add_again.new.self c.args.first.at c.args.first.size c.args.second.at c.args.second.size (c.args.first.size / 8) bytes h words
    in
    let whole = c.if-first-eq0.true in
    let count : c.args.first.size / 8 + words_for c.args.second.size ≡ words_for (length bytes) = omega (arith, long, whole) in
    let added = c.add_again-then-first-eq0.ensures ∙ ap (λ n. record c.add_again.new.self { values = c.add_again.new.self.values ++ take n (drop (c.args.second.at + 1) c.add_again.new.self.values) }) c.words_for.ensures in
    all-words old c.add_again.new.self c.add_again-then-first-eq0.new.self bytes (c.args.first.size / 8) (words_for c.args.second.size) count words
    (second-words c.add_again.new.self c.add_again-then-first-eq0.new.self c.args.first.at c.args.first.size c.args.second.at c.args.second.size bytes joined whole added)

pub returns-else-first-eq0 : goal.returns-else-first-eq0
returns-else-first-eq0 c = λ bytes h.
    let old : HeapState = c.args.heap.now in
    let long : length bytes ≡ c.args.first.size + c.args.second.size = joined-long old.values c.args.first.at c.args.first.size c.args.second.at c.args.second.size bytes h in
    let words : PackedTo old bytes (c.args.first.size / 8) c.add_again.new.self =
    whole-words old c.add.new.self c.add_again.new.self c.args.first.at c.args.first.size c.args.second.at c.args.second.size bytes c.text_head.result h (c.text_head.ensures ∙ ap text_head (sym long)) c.add.ensures c.add_again.ensures
    in
    let joined : AreJoined c.add_again.new.self.values c.args.first.at c.args.first.size c.args.second.at c.args.second.size bytes =
    joined-packed old c.add_again.new.self c.args.first.at c.args.first.size c.args.second.at c.args.second.size (c.args.first.size / 8) bytes h words
    in
    let rest : ℕ = words_for (c.args.first.size + c.args.second.size) - c.args.first.size / 8 in
    let count : c.args.first.size / 8 + rest ≡ words_for (length bytes) = omega (arith, long) in
    all-words old c.add_again.new.self c.add_shifted.new.heap bytes (c.args.first.size / 8) rest count words (c.add_shifted.ensures bytes joined)
