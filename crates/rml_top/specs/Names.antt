-- The names of the texts of a line, as bytes.
use Rattle.std.specs.Prelude.{ℕ, List, [], ◌∷◌}
use Rattle.rml_words.specs.View.{words_of}
use Rattle.rml_top.specs.declared.files.FileNames.{FileNames}
use Rattle.rml_top.specs.declared.files.FileNames.TheVariants.{One, Each}

abbrev pub names_in : FileNames → List (List ℕ)
names_in (One file) = file.now ∷ []
names_in (Each files) = words_of files.now
