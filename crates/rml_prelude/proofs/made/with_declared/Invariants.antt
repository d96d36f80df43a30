use Rattle.std.proofs.Common.{◌≡◌, ◌++◌, map, take}
use Rattle.rml_prelude.specs.Made.{declared_by}
use Rattle.rml_prelude.proofs.made.with_declared.Given as goal

abbrev pub invariant-loop-short : goal.invariant-loop-short
invariant-loop-short l = l.decls ≡ l.fn.before ++ map (declared_by l.w) (take l.short-index l.shorts)
