use Rattle.std.proofs.Common.{◌≡◌, ◌≤◌, ◌∷◌, [], length, ap, arith}
use Rattle.std.proofs.lemmas.List.Elements.{All-append}
use Rattle.std.specs.Prelude.{All}
use Rattle.rml_base.specs.declared.limits.TheConstants.{BYTES}
use Rattle.rml_stages.specs.declared.source.Source.{Source}
use Rattle.rml_stages.proofs.tests.sources.Goals as goal

one : (s : Source) → length s.bytes ≤ BYTES → All (λ x. length x.bytes ≤ BYTES) (s ∷ [])
one s h = λ k d lt. (let z : k ≡ 0 = omega arith in rw z h)

pub loop-text-preserved : goal.loop-text-preserved
loop-text-preserved c =
    rw c.in_ok-push.ensures.items (All-append (λ x. length x.bytes ≤ BYTES) c.loop-text.sources.items (c.in_ok-made.made ∷ []) c.loop-text.invariant (one c.in_ok-made.made (omega (arith, ap length c.as_slice.ensures))))
