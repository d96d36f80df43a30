use Rattle.rml_heap.proofs.Packing.{text-read}
use Rattle.rml_heap.proofs.laws.texts_are_read.Goals as goal

pub returns : goal.returns
returns c = text-read
