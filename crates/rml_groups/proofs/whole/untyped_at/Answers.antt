use Rattle.std.proofs.Common.{subst}
use Rattle.rml_groups.specs.Spots.{IsLeastPart}
use Rattle.rml_groups.proofs.Halved.{untyped-at}
use Rattle.rml_groups.proofs.whole.untyped_at.Goals as goal

pub returns-in_ok-part-in-Some : goal.returns-in_ok-part-in-Some
returns-in_ok-part-in-Some c = λ p text is never.
    untyped-at p text c.in-Some.least.0 c.in-Some.least.1 c.in_ok-part-in-Some.part (subst (IsLeastPart p text) c.in-Some.is (c.in_ok-found.ensures p text is never)) c.in_ok-part-in-Some.ensures

pub returns-in-None : goal.returns-in-None
returns-in-None c = λ p text is never. absurd (subst (IsLeastPart p text) c.in-None.is (c.in_ok-found.ensures p text is never))
