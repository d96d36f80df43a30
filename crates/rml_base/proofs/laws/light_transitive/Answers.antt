use Rattle.rml_base.proofs.LightLaws.{light_transitive}
use Rattle.rml_base.proofs.laws.light_transitive.Goals as goal

pub returns : goal.returns
returns g c = light_transitive _ _ _ (g.P.Meaning.monotone c.args._p.now) c.requires.first c.requires.second
