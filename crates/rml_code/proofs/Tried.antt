-- A few runs, by computing.
use Rattle.std.specs.Prelude.{◌≡◌, ◌&&◌, IsTrue, []}
use Rattle.std.proofs.Common.{refl}
use Rattle.rml_value.specs.declared.value.Value as value
use Rattle.rml_heap.specs.Form as form
use Rattle.rml_heap.specs.Reading as reading
use Rattle.rml_heap.specs.Text as text
use Rattle.rml_code.specs.Fits.{constants_fit, blocks_fit, ends_fit, is_small, is_light}
use Rattle.rml_code.specs.Runs.{machine}
use Rattle.rml_code.specs.Sample.{sample, whole, cut_short, too_narrow, not_opened}

pub runs_whole : machine sample [] 19 5 ≡ whole
unfolding form.form reading.look reading.value_below text.text_of text.word_of_bytes text.bytes_of_word value.out-Value denote.Hole.Carrier.out
runs_whole = refl

pub is_cut : machine sample [] 19 3 ≡ cut_short
unfolding form.form reading.look reading.value_below text.text_of text.word_of_bytes text.bytes_of_word value.out-Value denote.Hole.Carrier.out
is_cut = refl

pub is_narrow : machine sample [] 18 5 ≡ too_narrow
unfolding form.form reading.look reading.value_below text.text_of text.word_of_bytes text.bytes_of_word value.out-Value denote.Hole.Carrier.out
is_narrow = refl

pub is_not_opened : machine sample [] 7 5 ≡ not_opened
is_not_opened = refl

pub sample_fits : IsTrue (constants_fit sample && blocks_fit sample && ends_fit sample && is_small sample && is_light sample)
sample_fits = refl
