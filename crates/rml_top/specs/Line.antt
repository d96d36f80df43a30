-- What the words of a command line ask for, as far as the program does it.
use Rattle.std.specs.Prelude.{◌≡◌, ℕ, ◌≤◌, Bool, true, false, List, [], ◌∷◌, length, codes}
use Rattle.std.specs.declared.option.Option.{Option}
use Rattle.std.specs.declared.option.Option.TheVariants.{Some, None}
use Rattle.std.specs.Str.{bytes_eq}
use Rattle.rml_base.specs.declared.limits.TheConstants.{ARGUMENTS, TEXTS}
use Rattle.rml_words.specs.Forms.{Asks, Check, ShowTokens, ShowTree, Show, ShowC, Run, Crun, Make, IsLine}

-- what the words ask for, or nothing, where they are of no form
abbrev pub Means : List (List ℕ) → Option Asks → Type 0
Means words None = (asks : Asks) → ¬ IsLine words asks
Means words (Some asks) = IsLine words asks

-- the files whose texts are read; a C text is not among them
abbrev pub text_names : Asks → List (List ℕ)
text_names (Check files) = files
text_names (ShowTokens file) = file ∷ []
text_names (ShowTree file) = file ∷ []
text_names (Show stage files) = files
text_names (ShowC cells files) = files
text_names (Run cells steps files arguments) = files
text_names (Crun steps file arguments) = []
text_names (Make relations) = []

abbrev pub names_of : Option Asks → List (List ℕ)
names_of None = []
names_of (Some asks) = text_names asks

abbrev pub arguments_of : Asks → List (List ℕ)
arguments_of (Check files) = []
arguments_of (ShowTokens file) = []
arguments_of (ShowTree file) = []
arguments_of (Show stage files) = []
arguments_of (ShowC cells files) = []
arguments_of (Run cells steps files arguments) = arguments
arguments_of (Crun steps file arguments) = arguments
arguments_of (Make relations) = []

-- a command that begins with texts; the others, of which nothing is built, read nothing
abbrev pub takes_texts : Asks → Bool
takes_texts (Check files) = true
takes_texts (ShowTokens file) = true
takes_texts (ShowTree file) = true
takes_texts (Show stage files) = true
takes_texts (ShowC cells files) = true
takes_texts (Run cells steps files arguments) = true
takes_texts (Crun steps file arguments) = false
takes_texts (Make relations) = false

-- a command whose end is noted when all was done
abbrev pub is_run : Asks → Bool
is_run (Check files) = false
is_run (ShowTokens file) = false
is_run (ShowTree file) = false
is_run (Show stage files) = false
is_run (ShowC cells files) = false
is_run (Run cells steps files arguments) = true
is_run (Crun steps file arguments) = true
is_run (Make relations) = false

-- Texts are read: those of a command that takes them, neither of which nor of the arguments there are too many.
pub record Reads (asks : Asks) : Type 0 where
  pub takes : takes_texts asks ≡ true
  pub few_texts : length (text_names asks) ≤ TEXTS
  pub few_arguments : length (arguments_of asks) ≤ ARGUMENTS

-- the words of a line are `run FILE`, without an option and without `--`
abbrev pub is_plain_run : List (List ℕ) → Bool
is_plain_run [] = false
is_plain_run (word ∷ []) = false
is_plain_run (word ∷ file ∷ []) = bytes_eq word (codes "run")
is_plain_run (word ∷ file ∷ other ∷ rest) = false
