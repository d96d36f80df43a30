use Rattle.std.proofs.Common.{◌∙◌, length, sym}
use Rattle.rml_builtin.specs.declared.row.TheConstants.{ROWS}
use Rattle.rml_prelude.specs.declared.word.TheConstants.{WORDS}
use Rattle.rml_prelude.proofs.Callers.{grows-further, words-known, words-stand}
use Rattle.rml_given.proofs.Standing.{both-among, grows-as}
use Rattle.rml_given.proofs.giving.numbers.Goals as goal

pub returns-clause-words : goal.returns-clause-words
returns-clause-words c =
    let later = grows-as (length ROWS) c.known_words.new.names c.rows.new.names c.in_ok-rows.ensures.names in
    c.in_ok-words.ensures.words ∙ sym (words-stand c.known_words.new.names c.rows.new.names c.in_ok-words.ensures.known later)

pub returns-clause-known : goal.returns-clause-known
returns-clause-known c =
    let later = grows-as (length ROWS) c.known_words.new.names c.rows.new.names c.in_ok-rows.ensures.names in
    both-among c.rows.new.names (words-known c.known_words.new.names c.rows.new.names c.in_ok-words.ensures.known later) c.in_ok-rows.ensures.known

pub returns-clause-names : goal.returns-clause-names
returns-clause-names c = grows-further (length WORDS) (length ROWS) c.args.names.now c.known_words.new.names c.rows.new.names c.in_ok-words.ensures.names c.in_ok-rows.ensures.names
