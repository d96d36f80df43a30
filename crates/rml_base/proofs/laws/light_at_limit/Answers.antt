use Rattle.rml_base.proofs.LightLaws.{light_at_limit}
use Rattle.rml_base.proofs.laws.light_at_limit.Goals as goal

pub returns : goal.returns
returns g c limit = light_at_limit limit _ _ c.requires.no_limit c.requires.light
