use Rattle.std.proofs.Common.{[], take}
use Rattle.rml_generator.specs.Adds.{Adds, Bare}
use Rattle.rml_groups.specs.Members.{MembersTyped, watch}
use Rattle.rml_groups.proofs.equations.equations.Given as goal

abbrev pub invariant-loop-member : goal.invariant-loop-member
invariant-loop-member l = Adds l.coding (watch l.nodes) l.fn.graph l.graph (Bare (λ told. MembersTyped l.unit l.nodes told.group l.extent (take l.member-index l.members))) []
