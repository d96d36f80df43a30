use Rattle.std.proofs.Common.{◌≡◌, map, take}
use Rattle.rml_prelude.specs.Made.{rule_of}
use Rattle.rml_prelude.proofs.made.rules_of.Given as goal

abbrev pub invariant-loop-short : goal.invariant-loop-short
invariant-loop-short l = l.rules ≡ map (rule_of l.w l.head) (take l.short-index l.shorts)
