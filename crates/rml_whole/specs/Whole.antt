-- **What later passes take for granted of texts**: they are what the grammar makes, over so many names, and no larger than their
-- bytes let them be.
use Rattle.std.specs.Prelude.{ℕ, Bool, ◌&&◌, List}
use Rattle.std.specs.List.{list_all}
use Rattle.rml_syntax.specs.declared.texts.Text.{Text}
use Rattle.rml_whole.specs.Sizes.{text_is_small}
use Rattle.rml_whole.specs.Texts.{text_is_formed}

abbrev pub text_is_whole : ℕ → Text → Bool
text_is_whole names t = text_is_formed names t && text_is_small t

abbrev pub texts_are_whole : ℕ → List Text → Bool
texts_are_whole names ts = list_all (text_is_whole names) ts
