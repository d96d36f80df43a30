use Rattle.std.proofs.Common.{◌≡◌, ◌+◌, ◌<◌, ◌^◌, drop}
use Rattle.rml_signatures.specs.Definitions.{types_among}
use Rattle.rml_signatures.specs.Numbers.{capped}
use Rattle.rml_signatures.proofs.tables.types_among.Given as goal

abbrev pub invariant-loop-decl : goal.invariant-loop-decl
invariant-loop-decl l = record {
  sum : capped (l.fn.count + types_among l.decls) ≡ capped (l.count + types_among (drop l.decl-index l.decls));
  fits : l.count < 2 ^ 32;
}
