use Rattle.std.proofs.Common.{◌≡◌, map, take}
use Rattle.rml_prelude.specs.Made.{pattern_of}
use Rattle.rml_prelude.proofs.made.patterns_of.Given as goal

abbrev pub invariant-loop-short : goal.invariant-loop-short
invariant-loop-short l = l.patterns ≡ map (pattern_of l.w) (take l.short-index l.shorts)
