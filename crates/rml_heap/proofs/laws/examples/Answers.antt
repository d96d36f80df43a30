use Rattle.std.proofs.Common.{refl}
use Rattle.rml_heap.specs.Form.{form}
use Rattle.rml_heap.specs.Text.{word_of_bytes, bytes_of_word, text_of}
use Rattle.rml_heap.specs.Reading.{look, value_below}
use Rattle.rml_heap.proofs.laws.examples.Goals as goal

pub returns-clause-text : goal.returns-clause-text
unfolding form look value_below text_of word_of_bytes bytes_of_word
returns-clause-text c = refl

pub returns-clause-list : goal.returns-clause-list
unfolding form look value_below text_of word_of_bytes bytes_of_word
returns-clause-list c = refl

pub returns-clause-variable : goal.returns-clause-variable
unfolding form look value_below text_of word_of_bytes bytes_of_word
returns-clause-variable c = refl

pub returns-clause-vector : goal.returns-clause-vector
unfolding form look value_below text_of word_of_bytes bytes_of_word
returns-clause-vector c = refl

pub returns-clause-some : goal.returns-clause-some
unfolding form look value_below text_of word_of_bytes bytes_of_word
returns-clause-some c = refl

pub returns-clause-tuple : goal.returns-clause-tuple
unfolding form look value_below text_of word_of_bytes bytes_of_word
returns-clause-tuple c = refl

pub returns-clause-no_depth : goal.returns-clause-no_depth
unfolding form look value_below text_of word_of_bytes bytes_of_word
returns-clause-no_depth c = refl

pub returns-clause-above_top : goal.returns-clause-above_top
unfolding form look value_below text_of word_of_bytes bytes_of_word
returns-clause-above_top c = refl

pub returns-clause-no_name : goal.returns-clause-no_name
unfolding form look value_below text_of word_of_bytes bytes_of_word
returns-clause-no_name c = refl

pub returns-clause-cons_as_constructor : goal.returns-clause-cons_as_constructor
unfolding form look value_below text_of word_of_bytes bytes_of_word
returns-clause-cons_as_constructor c = refl

pub returns-clause-byte_too_many : goal.returns-clause-byte_too_many
unfolding form look value_below text_of word_of_bytes bytes_of_word
returns-clause-byte_too_many c = refl

pub returns-clause-part_of_itself : goal.returns-clause-part_of_itself
unfolding form look value_below text_of word_of_bytes bytes_of_word
returns-clause-part_of_itself c = refl

pub returns-clause-content : goal.returns-clause-content
unfolding form look value_below text_of word_of_bytes bytes_of_word
returns-clause-content c = refl
