use Rattle.std.proofs.Common.{◌≤◌, arith}
use Rattle.rml_prims.proofs.PackedTexts.{byte-second}
use Rattle.rml_prims.proofs.packing.joined_byte.Goals as goal

pub returns-then-i-first-2 : goal.returns-then-i-first-2
returns-then-i-first-2 c = λ bytes h.
    let past : c.args.first.size ≤ c.args.i = omega (arith, c.if-i-first.false) in
    byte-second c.args.heap.now.values c.args.first.at c.args.first.size c.args.second.at c.args.second.size bytes c.args.i c.byte_at-then-i-first-2.result h past
    (c.byte_at-then-i-first-2.ensures h.d h.right h.second)
