use Rattle.std.proofs.Common.{sym, arith}
use Rattle.rml_grammar.specs.Reading.{long_at}
use Rattle.rml_grammar.specs.Types.{name_next}
use Rattle.rml_phrases.proofs.Loops.{goes-on}
use Rattle.rml_phrases.proofs.types.longs.Goals as goal

pub loop-next-preserved : goal.loop-next-preserved
loop-next-preserved c = rw c.in_ok-push.ensures.items (goes-on name_next long_at _ _ _ _ _ _ c.loop-next.invariant (sym c.in-Some.ensures.value) c.in_ok-item.ensures.mirrors (omega (arith, c.in_ok-item.ensures.shorter, c.in-Some.ensures.shorter)))
