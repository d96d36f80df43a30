use Rattle.rml_base.proofs.SameLaws.{light_same}
use Rattle.rml_base.proofs.laws.light_is_same.Goals as goal

pub returns : goal.returns
returns g c = light_same (g.P.Meaning.runs c.args._p.now) (g.X.Meaning.runs c.args._x.now) c.requires.light
