use Rattle.std.proofs.Common.{map, take}
use Rattle.rml_prelude.specs.Words.{text_of}
use Rattle.rml_prelude.specs.declared.word.TheConstants.{WORDS}
use Rattle.rml_prelude.proofs.Numbered.{Numbered}
use Rattle.rml_prelude.proofs.naming.known_words.Given as goal

abbrev pub invariant-loop-word : goal.invariant-loop-word
invariant-loop-word l = Numbered l.fn.names l.names l.numbers (map text_of (take l.word-index WORDS))
