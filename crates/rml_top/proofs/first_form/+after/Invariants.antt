use Rattle.std.proofs.Common.{length}
use Rattle.rml_top.proofs.first_form.+after.Given as goal

abbrev pub decreases-after : goal.decreases-after
decreases-after l = length l.tokens.now
