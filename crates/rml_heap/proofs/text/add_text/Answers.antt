use Rattle.std.proofs.Common.{◌≡◌, ℕ, ◌+◌, ◌*◌, List, [], ◌∷◌, ◌++◌, length, map, drop, sym, ap, ◌∙◌, arith, rules}
use Rattle.std.specs.Prelude.{ℤ, pos}
use Rattle.std.proofs.lemmas.List.{length-append, length-map, map-append, append_assoc, take_rest}
use Rattle.std.specs.Int.{w64}
use mir.Val.{to_z, of_z}
use Rattle.std.proofs.lemmas.Int.{to_z-of_z}
use Rattle.rml_heap.specs.declared.cell.Cell.{Cell}
use Rattle.rml_heap.specs.HeapState.{HeapState}
use Rattle.rml_heap.specs.Text.{packed, word_cell, word_of_bytes}
use Rattle.rml_heap.proofs.Packing.{length-packed, packed-more}
use Rattle.rml_heap.proofs.text.add_text.Goals as goal

pub add-requires-in-loop-i : goal.add-requires-in-loop-i
add-requires-in-loop-i c =
    let head : Cell = record { kind = 5; number = pos (length c.args.bytes.now) } in
    let words : List Cell = map word_cell (packed c.loop-i.i c.args.bytes.now) in
    let values : length c.loop-i.heap.values ≡ length c.args.heap.now.values + length (head ∷ words) = ap (λ (h : HeapState). length h.values) c.loop-i.invariant ∙ length-append c.args.heap.now.values (head ∷ words) in
    let frames : length c.loop-i.heap.frames ≡ length c.args.heap.now.frames = ap (λ (h : HeapState). length h.frames) c.loop-i.invariant in
    let limit : c.loop-i.heap.limit ≡ c.args.heap.now.limit = ap (λ (h : HeapState). h.limit) c.loop-i.invariant in
    let long : length words ≡ c.loop-i.i = length-map (packed c.loop-i.i c.args.bytes.now) word_cell ∙ length-packed c.loop-i.i c.args.bytes.now in
    omega (arith, values, frames, limit, long, c.requires)

pub loop-i-preserved : goal.loop-i-preserved
loop-i-preserved c =
    let bytes : List ℕ = c.args.bytes.now in
    let i : ℕ = c.loop-i.i in
    let head : Cell = record { kind = 5; number = pos (length bytes) } in
    let words : List Cell = map word_cell (packed i bytes) in
    let old : List Cell = c.args.heap.now.values in
    let word : to_z w64 (of_z w64 c.word_of.result) ≡ word_of_bytes (drop (8 * i) bytes) =
    to_z-of_z w64 c.word_of.result (search rules) ∙ c.word_of.ensures ∙ ap word_of_bytes (take_rest bytes (8 * i))
    in
    let added : words ++ word_cell (word_of_bytes (drop (8 * i) bytes)) ∷ [] ≡ map word_cell (packed (i + 1) bytes) =
    sym (map-append word_cell (packed i bytes) (word_of_bytes (drop (8 * i) bytes) ∷ [])) ∙ ap (map word_cell) (sym (packed-more i bytes))
    in
    let values : (old ++ head ∷ words) ++ word_cell (to_z w64 (of_z w64 c.word_of.result)) ∷ [] ≡ old ++ head ∷ map word_cell (packed (i + 1) bytes) =
    ap (λ (z : ℤ). (old ++ head ∷ words) ++ word_cell z ∷ []) word
    ∙ append_assoc old (head ∷ words) (word_cell (word_of_bytes (drop (8 * i) bytes)) ∷ [])
    ∙ ap (λ (ws : List Cell). old ++ head ∷ ws) added
    in
    c.add-in-loop-i.ensures
    ∙ ap (λ (h : HeapState). record h { values = h.values ++ word_cell (to_z w64 (of_z w64 c.word_of.result)) ∷ [] }) c.loop-i.invariant
    ∙ ap (λ (vs : List Cell). record c.args.heap.now { values = vs }) values
