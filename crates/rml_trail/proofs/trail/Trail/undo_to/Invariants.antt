use Rattle.std.proofs.Common.{◌≡◌, ◌≤◌, vec_capacity, ◌/◌, vec_len}
use Rattle.rml_heap.specs.HeapState.{unset_cell}
use Rattle.rml_trail.proofs.Trails.{Undoing}
use Rattle.rml_trail.proofs.trail.Trail.undo_to.Given as goal

abbrev pub invariant-loop-unset : goal.invariant-loop-unset
invariant-loop-unset l =
    Undoing l.fn.self l.fn.heap l.mark (record { entries = l.self-inside.entries.items; limit = l.self-inside.limit }) l.heap
    × (vec_len l.self-inside.entries ≤ l.self-inside.limit / 2)
    × (l.self-inside.limit / 2 ≤ vec_capacity l.self-inside.entries)
    × (l.self-inside.limit ≤ 67_108_864)
    × (l.unset ≡ unset_cell)

abbrev pub decreases-loop-unset : goal.decreases-loop-unset
decreases-loop-unset l = vec_len l.self-inside.entries
