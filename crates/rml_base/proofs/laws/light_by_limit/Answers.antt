use Rattle.rml_base.proofs.LightLaws.{light_at_limit, light_transitive}
use Rattle.rml_base.proofs.laws.light_by_limit.Goals as goal

pub returns : goal.returns
returns g c =
    light_transitive _ _ _ (g.P.Meaning.monotone c.args._p.now) (light_at_limit c.args._limit _ _ c.requires.no_limit c.requires.first) c.requires.second
