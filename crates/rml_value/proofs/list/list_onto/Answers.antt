use Rattle.std.proofs.Common.{rules}
use Rattle.rml_value.proofs.ListItems.{onto-append}
use Rattle.rml_value.proofs.list.list_onto.Goals as goal

pub loop-last-preserved : goal.loop-last-preserved
loop-last-preserved c = search (rules, onto-append)
