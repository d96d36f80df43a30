-- A frame is read as it was pushed, whatever was pushed after it.
use Rattle.std.specs.Prelude.{ℕ, ◌≡◌, ◌+◌, ◌-◌, ◌^◌, ◌<◌, ◌≤◌, true, ◌&&◌, nat_le, if◌then◌else◌, List, ◌++◌, length, drop, Some, None, option_and_then, pos}
use Rattle.std.proofs.Common.{ap, ◌∙◌, arith}
use Rattle.std.proofs.Math.Seq.{drop-append_seam}
use Rattle.std.proofs.lemmas.List.{length-append}
use Rattle.std.proofs.lemmas.Bool.{le-leb, lt-ltb}
use Rattle.rml_heap.specs.declared.cell.Cell.{Cell}
use Rattle.rml_heap.specs.HeapState.{HeapState, bottom_of}
use Rattle.rml_heap.specs.Form.{address}
use Rattle.rml_code.specs.declared.state.State.{State}
use Rattle.rml_code.specs.Frames.{success_frame, failure_frame, frames_from, success_in, failure_in, label_in, success_at, failure_at, label_at}

-- an address is read as itself
address-is : (n : ℕ) → n < 2 ^ 32 → address (pos n) ≡ n
address-is n small = ap (λ b. if b then n else 4_294_967_295) (lt-ltb n (2 ^ 32) small)

-- frames below which others were pushed
pub frames-there : (heap : HeapState) (above frame : List Cell) → heap.frames ≡ above ++ frame → length heap.frames ≤ heap.limit → frames_from (heap.limit - length frame) heap ≡ Some frame
frames-there heap above frame is fits =
    let long : length heap.frames ≡ length above + length frame = ap length is ∙ length-append above frame in
    let at : ℕ = heap.limit - length frame in
    let low : nat_le (bottom_of heap) at ≡ true = le-leb (bottom_of heap) at (omega (arith, long, fits)) in
    let high : nat_le at heap.limit ≡ true = le-leb at heap.limit (omega arith) in
    let both : (nat_le (bottom_of heap) at && nat_le at heap.limit) ≡ true = ap (λ b. b && nat_le at heap.limit) low ∙ high in
    let far : at - bottom_of heap ≡ length above = omega (arith, long, fits) in
    ap (λ b. if b then Some (drop (at - bottom_of heap) heap.frames) else None) both
    ∙ ap (λ n. Some (drop n heap.frames)) far ∙ ap (λ cells. Some (drop (length above) cells)) is ∙ ap Some (drop-append_seam above frame)

-- a success frame, with what stands before it
pub success-there : (heap : HeapState) (above saved before : List Cell) (label : ℕ) (s : State) → s.success < 2 ^ 32 → s.failure < 2 ^ 32
    → heap.frames ≡ above ++ (success_frame label saved s ++ before) → length heap.frames ≤ heap.limit
    → success_at (heap.limit - length (success_frame label saved s ++ before)) heap ≡ Some (record { success = s.success; failure = s.failure; rest = saved ++ before })
success-there heap above saved before label s k f is fits =
    ap (option_and_then success_in) (frames-there heap above (success_frame label saved s ++ before) is fits)
    ∙ ap (λ n. Some (record { success = n; failure = address (pos s.failure); rest = saved ++ before })) (address-is s.success k)
    ∙ ap (λ n. Some (record { success = s.success; failure = n; rest = saved ++ before })) (address-is s.failure f)

-- and a failure frame
pub failure-there : (heap : HeapState) (above saved before : List Cell) (label : ℕ) (s : State)
    → length s.trail.entries < 2 ^ 32 → length s.heap.values < 2 ^ 32 → s.success < 2 ^ 32 → s.failure < 2 ^ 32
    → heap.frames ≡ above ++ (failure_frame label saved s ++ before) → length heap.frames ≤ heap.limit
    → failure_at (heap.limit - length (failure_frame label saved s ++ before)) heap
    ≡ Some (record { mark = length s.trail.entries; top = length s.heap.values; success = s.success; failure = s.failure; rest = saved ++ before })
failure-there heap above saved before label s m v k f is fits =
    let entries : ℕ = length s.trail.entries in
    let values : ℕ = length s.heap.values in
    ap (option_and_then failure_in) (frames-there heap above (failure_frame label saved s ++ before) is fits)
    ∙ ap (λ n. Some (record { mark = n; top = address (pos values); success = address (pos s.success); failure = address (pos s.failure); rest = saved ++ before })) (address-is entries m)
    ∙ ap (λ n. Some (record { mark = entries; top = n; success = address (pos s.success); failure = address (pos s.failure); rest = saved ++ before })) (address-is values v)
    ∙ ap (λ n. Some (record { mark = entries; top = values; success = n; failure = address (pos s.failure); rest = saved ++ before })) (address-is s.success k)
    ∙ ap (λ n. Some (record { mark = entries; top = values; success = s.success; failure = n; rest = saved ++ before })) (address-is s.failure f)

-- a label, of either
pub success-label : (heap : HeapState) (above saved before : List Cell) (label : ℕ) (s : State)
    → heap.frames ≡ above ++ (success_frame label saved s ++ before) → length heap.frames ≤ heap.limit → label_at (heap.limit - length (success_frame label saved s ++ before)) heap ≡ Some label
success-label heap above saved before label s is fits = ap (option_and_then label_in) (frames-there heap above (success_frame label saved s ++ before) is fits)

pub failure-label : (heap : HeapState) (above saved before : List Cell) (label : ℕ) (s : State)
    → heap.frames ≡ above ++ (failure_frame label saved s ++ before) → length heap.frames ≤ heap.limit → label_at (heap.limit - length (failure_frame label saved s ++ before)) heap ≡ Some label
failure-label heap above saved before label s is fits = ap (option_and_then label_in) (frames-there heap above (failure_frame label saved s ++ before) is fits)
