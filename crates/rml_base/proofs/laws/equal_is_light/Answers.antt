use Rattle.rml_base.proofs.LightLaws.{light_equal}
use Rattle.rml_base.proofs.laws.equal_is_light.Goals as goal

pub returns : goal.returns
returns g c = light_equal (g.P.Meaning.runs c.args._p.now) (g.X.Meaning.runs c.args._x.now) c.requires.equal
