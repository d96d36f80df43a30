use Rattle.rml_print.proofs.ReadsTexts.{reads-back, reads-nothing-else}
use Rattle.rml_print.proofs.laws.printed_tokens_derive.Goals as goal

pub returns-clause-back : goal.returns-clause-back
returns-clause-back c = reads-back

pub returns-clause-nothing_else : goal.returns-clause-nothing_else
returns-clause-nothing_else c = reads-nothing-else
