use Rattle.rml_base.proofs.LightLaws.{light_right}
use Rattle.rml_base.proofs.laws.light_keeps_right.Goals as goal

pub returns : goal.returns
returns g c = light_right _ _ c.requires.right c.requires.light
