use Rattle.std.proofs.Common.{◌≡◌, ◌+◌, ◌-◌, length, drop}
use Rattle.rml_heap.specs.HeapState.{bottom_of}
use Rattle.rml_code.specs.Frames.{loaded}
use Rattle.rml_acts.proofs.frames.load.Given as goal

abbrev pub invariant-loop-r : goal.invariant-loop-r
invariant-loop-r l =
    (loaded (drop l.r-index l.rs) (drop (l.at - bottom_of l.heap) l.heap.frames) l.registers ≡ loaded l.rs (drop (l.from - bottom_of l.heap) l.heap.frames) l.fn.registers)
    × (l.at ≡ l.from + l.r-index)
    × (length l.registers ≡ length l.fn.registers)
