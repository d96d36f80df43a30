-- What the program holds, with its words as bytes.
use Rattle.std.specs.Prelude.{ℕ, List, map, String, string_bytes}
use Rattle.rml_words.specs.Forms.{Asks}
use Rattle.rml_words.specs.Forms as forms
use Rattle.rml_words.specs.declared.command.Command.{Command}
use Rattle.rml_words.specs.declared.command.Command.TheVariants.{Check, ShowTokens, ShowTree, Show, ShowC, Run, Crun, Make}

abbrev pub words_of : {A : Type 0} → List (String A) → List (List ℕ)
words_of words = map string_bytes words

-- what a command asks for
abbrev pub asked : Command → Asks
asked (Check files) = forms.Check (words_of files.now)
asked (ShowTokens file) = forms.ShowTokens file.now
asked (ShowTree file) = forms.ShowTree file.now
asked (Show stage files) = forms.Show stage (words_of files.now)
asked (ShowC cells files) = forms.ShowC cells (words_of files.now)
asked (Run cells steps files arguments) = forms.Run cells steps (words_of files.now) (words_of arguments.now)
asked (Crun steps file arguments) = forms.Crun steps file.now (words_of arguments.now)
asked (Make relations) = forms.Make relations
