use Rattle.std.proofs.Common.{◌∙◌, List, ℕ, ap}
use Rattle.rml_prelude.specs.Words.{number, words_of}
use Rattle.rml_prelude.specs.declared.word.Word.TheVariants as word
use Rattle.rml_given.proofs.giving.give.Goals as goal

pub returns-clause-main : goal.returns-clause-main
unfolding number words_of
returns-clause-main c = c.number-main.ensures ∙ ap (λ (w : List ℕ). number w word.Main) c.in_ok-words.ensures.words
