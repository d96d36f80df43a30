-- The status where the texts of a line could not be read from their files.
use Rattle.std.specs.declared.option.Option.TheVariants.{Some}
use Rattle.rml_lex.specs.Places.{start}
use Rattle.rml_stages.specs.declared.refusal.Which.TheVariants as which
use Rattle.rml_top.specs.declared.sources.NotRead.{NotRead}
use Rattle.rml_top.specs.declared.sources.NotRead.TheVariants.{Fault, Bytes, Total, Memory}
use Rattle.rml_top.specs.declared.status.Status.{Status}
use Rattle.rml_top.specs.declared.status.Status.TheVariants as status

abbrev pub status_of : NotRead → Status
status_of (Fault file) = status.ReadFault file
status_of (Bytes file) = status.Limit (Some (start file)) which.Bytes
status_of (Total file) = status.Limit (Some (start file)) which.Total
status_of Memory = status.Memory
