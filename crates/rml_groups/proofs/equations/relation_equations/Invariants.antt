use Rattle.std.proofs.Common.{[], take}
use Rattle.std.specs.List.{AllByRecursion}
use Rattle.rml_resolved.specs.declared.tables.RRule.{RRule}
use Rattle.rml_generator.specs.Adds.{Adds, Bare}
use Rattle.rml_groups.specs.Groups.{FirstTypedInside, parts_in}
use Rattle.rml_groups.specs.Members.{watch}
use Rattle.rml_groups.proofs.equations.relation_equations.Given as goal

abbrev pub invariant-loop-rule : goal.invariant-loop-rule
invariant-loop-rule l =
    Adds l.coding (watch l.nodes) l.fn.graph l.graph (Bare (λ told. AllByRecursion (λ (rule : RRule). FirstTypedInside l.unit l.member.rel.now.«module» l.nodes told.group (told.group l.member.number) rule (parts_in l.extent rule)) (take l.rule-index l.member.rel.now.rules))) []
