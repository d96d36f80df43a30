-- The exit status for each end. The numbers between are for ends that nothing gives yet.
use Rattle.std.specs.Prelude.{ℕ}
use Rattle.rml_top.specs.declared.status.Status.{Status}
use Rattle.rml_top.specs.declared.status.Status.TheVariants.{Done, Usage, ReadFault, WriteFault, Syntax, Limit, Memory, Unbuilt}

abbrev pub code_of : Status → ℕ
code_of (Done k) = 0
code_of Usage = 2
code_of (ReadFault k) = 3
code_of WriteFault = 4
code_of (Syntax place kind) = 5
code_of (Limit place which) = 8
code_of Memory = 11
code_of Unbuilt = 13
