use Rattle.rml_top.proofs.texts.accept.Goals as goal

pub returns : goal.returns
returns c = rw c.new-names.ensures at c.in-Err.ensures.answer
