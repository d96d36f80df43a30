use Rattle.rml_base.proofs.SameLaws.{same_transitive, stable}
use Rattle.rml_base.proofs.laws.same_transitive.Goals as goal

pub returns : goal.returns
returns g c =
    same_transitive _ _ _ (λ args cells bytes. stable (g.P.Meaning.runs c.args._p.now) args cells (g.P.Meaning.monotone c.args._p.now args cells bytes)) c.requires.first c.requires.second
