-- The lemmas that proofs of other crates cite, each from the file where it is shown.
pub use Rattle.rml_heap.proofs.Blocks.{added-block, added-stands, all-no_lvar, at-end, before-append, before-end, before-next, block-form, each-cons, look-shown, stands-more, stands-no_lvar, looks-added}
pub use Rattle.rml_heap.proofs.Comparisons.{BlockStands, IsMade, block-made, block-stands, lvar-stands}
pub use Rattle.rml_heap.proofs.Forms.{HasForm, IsForm, cell_of, has-form}
pub use Rattle.rml_heap.proofs.Kept.{agrees-content, agrees-more, agrees-names, behind-other, look-below, look-content, no-head}
pub use Rattle.rml_heap.proofs.Outlines.{length-each_of, length-looks, map-some, outline, outline-read, outline_of, root, text-packed, then-some}
pub use Rattle.rml_heap.proofs.Packing.{EachByte, each-drop, length-packed, packed-more, text-read, word-byte, word-same}
pub use Rattle.rml_heap.proofs.Readings.{below-agrees, below-deep, below-higher, below-none, below-shallow, fits-block, one-reading, unset-form}
pub use Rattle.rml_heap.proofs.Tasks.{all-higher, stands-inside}
pub use Rattle.rml_heap.proofs.Told.{IsBlock, IsHead, IsPlain, block-address, block-kind, head-inside, head-is, head-some, look-is, plain-some, standing}
