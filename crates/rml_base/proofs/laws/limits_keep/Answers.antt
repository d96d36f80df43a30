use Rattle.rml_base.proofs.laws.limits_keep.Goals as goal

pub returns-clause-monotone : goal.returns-clause-monotone
returns-clause-monotone g c limit cells args bytes = g.X.Meaning.monotone c.args._x.now args limit bytes

pub returns-clause-right : goal.returns-clause-right
returns-clause-right g c limit right = record { on = λ args cells bytes. right.on args limit bytes }
