use Rattle.rml_base.proofs.SameLaws.{together, stable}
use Rattle.rml_base.proofs.laws.same_ends.Goals as goal

pub returns : goal.returns
returns g c args cells bytes =
    together _ _ (stable (g.P.Meaning.runs c.args._p.now) args cells (g.P.Meaning.monotone c.args._p.now args cells bytes)) (c.requires.same.on args cells bytes)
