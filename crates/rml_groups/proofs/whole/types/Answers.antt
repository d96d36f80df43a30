use Rattle.std.proofs.Common.{subst}
use Rattle.rml_groups.specs.Found.{AreGeneral}
use Rattle.rml_groups.proofs.whole.types.Goals as goal

pub returns-in-Some : goal.returns-in-Some
returns-in-Some c = λ p text is. subst (AreGeneral p text) c.in-Some.is (c.in_ok-found.ensures p text is)

pub returns-in-None : goal.returns-in-None
returns-in-None c = λ p text is. c.untyped_at.ensures p text is (subst (AreGeneral p text) c.in-None.is (c.in_ok-found.ensures p text is))
