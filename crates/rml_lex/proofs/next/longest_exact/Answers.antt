use Rattle.rml_lex.proofs.Wholes.{longest-is, spells-whole, stuck-is, whole-spells}
use Rattle.rml_lex.proofs.next.longest_exact.Goals as goal

pub returns-clause-spelled : goal.returns-clause-spelled
returns-clause-spelled c = whole-spells

pub returns-clause-whole : goal.returns-clause-whole
returns-clause-whole c = spells-whole

pub returns-clause-longest : goal.returns-clause-longest
returns-clause-longest c = longest-is

pub returns-clause-stuck : goal.returns-clause-stuck
returns-clause-stuck c = stuck-is
