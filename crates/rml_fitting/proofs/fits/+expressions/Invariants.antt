use Rattle.std.proofs.Common.{◌≡◌, map, drop}
use Rattle.rml_types.specs.Schemes.{every}
use Rattle.rml_resolved.specs.Fits.{exp_fits}
use Rattle.rml_fitting.proofs.fits.+expressions.Given as goal

abbrev pub invariant-are_expressions-loop-exp : goal.invariant-are_expressions-loop-exp
invariant-are_expressions-loop-exp l = every (map (exp_fits l.counts l.cons l.vars) l.exps) ≡ every (map (exp_fits l.counts l.cons l.vars) (drop l.exp-index l.exps))
