use Rattle.rml_words.proofs.Held.{count-within, files-there, no-file}
use Rattle.rml_words.proofs.files.files_at.Goals as goal

pub split_at-requires : goal.split_at-requires
split_at-requires c = count-within c.args.words.now c.count_files-count.result c.count_files-count.ensures

pub returns-then-count-ge1 : goal.returns-then-count-ge1
returns-then-count-ge1 c = files-there c.args.words.now c.count_files-count.result c.split_at.result.0.now c.split_at.result.1.now c.count_files-count.ensures c.if-count-ge1.true c.split_at.ensures.front c.split_at.ensures.back

pub returns-else-count-ge1 : goal.returns-else-count-ge1
returns-else-count-ge1 c = no-file c.args.words.now c.count_files-count.result c.count_files-count.ensures c.if-count-ge1.false
