use Rattle.std.proofs.Common.{sym, ◌∙◌}
use Rattle.rml_words.proofs.Held.{all-files, no-words, other-words}
use Rattle.rml_words.proofs.files.only_files.Goals as goal
use Rattle.rml_words.proofs.files.only_files.Goals.{else-words-ge1-via-then-words-ge1+else-are_files, else-words-ge1-via-else-words-ge1}

pub returns-then-are_files : goal.returns-then-are_files
returns-then-are_files c = all-files c.args.words.now c.if-words-ge1.true (sym c.are_files.ensures ∙ c.if-are_files.true)

pub returns-else-words-ge1 : goal.returns-else-words-ge1
returns-else-words-ge1 c = elim c.else-words-ge1.branch [
  | else-words-ge1-via-then-words-ge1+else-are_files w ↦ other-words c.args.words.now w.if-words-ge1.true (sym w.are_files.ensures ∙ w.if-are_files.false)
  | else-words-ge1-via-else-words-ge1 w ↦ no-words c.args.words.now w.if-words-ge1.false
]
