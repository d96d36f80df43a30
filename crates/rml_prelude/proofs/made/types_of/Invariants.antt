use Rattle.std.proofs.Common.{◌≡◌, map, take}
use Rattle.rml_prelude.specs.Made.{type_of}
use Rattle.rml_prelude.proofs.made.types_of.Given as goal

abbrev pub invariant-loop-short : goal.invariant-loop-short
invariant-loop-short l = l.types ≡ map (type_of l.w) (take l.short-index l.shorts)
