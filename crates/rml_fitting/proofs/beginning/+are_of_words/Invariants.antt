use Rattle.std.proofs.Common.{length}
use Rattle.rml_fitting.proofs.beginning.+are_of_words.Given as goal

abbrev pub decreases-are_of_words : goal.decreases-are_of_words
decreases-are_of_words l = length l.words.now
