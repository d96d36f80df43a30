use Rattle.rml_base.proofs.LightLaws.{light_reflexive}
use Rattle.rml_base.proofs.laws.light_reflexive.Goals as goal

pub returns : goal.returns
returns g c = light_reflexive (g.P.Meaning.runs c.args._p.now)
