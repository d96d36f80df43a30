use Rattle.rml_words.specs.View.{asked, words_of}
use Rattle.rml_words.proofs.Reading.{given}
use Rattle.rml_words.proofs.read.read_words.Goals as goal

pub returns : goal.returns
returns c = let g = given asked (words_of c.args.words.now) c.line.result c.line.ensures in record { found = g.found; only = g.only; within = g.within }
