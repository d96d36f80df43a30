use Rattle.std.proofs.Common.{◌≡◌, map, drop}
use Rattle.rml_types.specs.Schemes.{every}
use Rattle.rml_resolved.specs.Fits.{pattern_fits}
use Rattle.rml_fitting.proofs.fits.+patterns.Given as goal

abbrev pub invariant-are_patterns-loop-pattern : goal.invariant-are_patterns-loop-pattern
invariant-are_patterns-loop-pattern l = every (map (pattern_fits l.counts l.cons l.vars) l.patterns) ≡ every (map (pattern_fits l.counts l.cons l.vars) (drop l.pattern-index l.patterns))
