use Rattle.std.proofs.Common.{◌≡◌, ◌+◌, ◌<◌, ◌^◌, drop}
use Rattle.rml_signatures.specs.Definitions.{declared_types}
use Rattle.rml_signatures.specs.Numbers.{capped}
use Rattle.rml_signatures.proofs.tables.declared_types.Given as goal

abbrev pub invariant-loop-text : goal.invariant-loop-text
invariant-loop-text l = record {
  sum : capped (0 + declared_types l.texts) ≡ capped (l.count + declared_types (drop l.text-index l.texts));
  fits : l.count < 2 ^ 32;
}
