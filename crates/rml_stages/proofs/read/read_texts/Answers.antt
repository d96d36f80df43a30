use Rattle.rml_stages.specs.Sources.{contents}
use Rattle.rml_stages.proofs.Calls.{gives-texts, refuses-texts}
use Rattle.rml_stages.proofs.read.read_texts.Goals as goal

pub returns-clause-reads : goal.returns-clause-reads
returns-clause-reads c = gives-texts (contents c.args.sources.now) c.args.names.now c.read_all.new.names c.read_all.result c.read_all.ensures.answer

pub returns-clause-refuses : goal.returns-clause-refuses
returns-clause-refuses c = refuses-texts (contents c.args.sources.now) c.args.names.now c.read_all.new.names c.read_all.result c.read_all.ensures.answer
