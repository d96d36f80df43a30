-- The forms of the command line, without the program's name. A line of no form is a faulty one.
use Rattle.std.specs.Prelude.{◌≡◌, ℕ, ◌<◌, ◌≤◌, ◌==◌, nat_le, Bool, true, false, ◌&&◌, not, List, [], ◌∷◌, ◌++◌, length, codes}
use Rattle.std.specs.List.{list_all}
use Rattle.rml_base.specs.declared.limits.TheConstants.{ARGUMENT, CELLS, DEFAULT_CELLS, DEFAULT_STEPS, STEPS}
use Rattle.rml_words.specs.Numbers.{IsNumber}
use Rattle.rml_words.specs.declared.command.Stage.{Stage}
use Rattle.rml_words.specs.declared.command.Stage.TheVariants.{Types, Clauses, Factored, Trees, Cps, Simple, Code}
use Rattle.rml_words.specs.declared.read.TheConstants.{RELATIONS}

-- What a line asks for, with its words as bytes.
pub data Asks : Type 0 where
  Check : (files : List (List ℕ)) → Asks
  ShowTokens : (file : List ℕ) → Asks
  ShowTree : (file : List ℕ) → Asks
  Show : (stage : Stage) (files : List (List ℕ)) → Asks
  ShowC : (cells : ℕ) (files : List (List ℕ)) → Asks
  Run : (cells steps : ℕ) (files arguments : List (List ℕ)) → Asks
  Crun : (steps : ℕ) (file : List ℕ) (arguments : List (List ℕ)) → Asks
  Make : (relations : ℕ) → Asks

abbrev pub begins_with_dashes : List ℕ → Bool
begins_with_dashes [] = false
begins_with_dashes (a ∷ []) = false
begins_with_dashes (a ∷ b ∷ rest) = (a == 45) && (b == 45)

-- a word that names a file: it is not empty and does not begin with `--`
abbrev pub is_file : List ℕ → Bool
is_file [] = false
is_file (a ∷ rest) = not (begins_with_dashes (a ∷ rest))

-- one file or more
pub record AreFiles (files : List (List ℕ)) : Type 0 where
  pub some : 0 < length files
  pub each : list_all is_file files ≡ true

-- a word after `--`
abbrev pub is_argument : List ℕ → Bool
is_argument word = nat_le (length word) ARGUMENT

abbrev pub stage_word : Stage → List ℕ
stage_word Types = codes "types"
stage_word Clauses = codes "clauses"
stage_word Factored = codes "factored"
stage_word Trees = codes "trees"
stage_word Cps = codes "cps"
stage_word Simple = codes "simple"
stage_word Code = codes "code"

abbrev pub IsCells : List ℕ → ℕ → Type 0
IsCells = IsNumber 1 CELLS

abbrev pub IsSteps : List ℕ → ℕ → Type 0
IsSteps = IsNumber 0 STEPS

-- `--cells N`, or nothing, which stands for the default
pub data IsCellsOption : List (List ℕ) → ℕ → Type 0 where
  default_cells : IsCellsOption [] DEFAULT_CELLS
  some_cells : {word : List ℕ} {n : ℕ} → IsCells word n → IsCellsOption (codes "--cells" ∷ word ∷ []) n

-- `--steps N`, or nothing, which stands for the default
pub data IsStepsOption : List (List ℕ) → ℕ → Type 0 where
  default_steps : IsStepsOption [] DEFAULT_STEPS
  some_steps : {word : List ℕ} {n : ℕ} → IsSteps word n → IsStepsOption (codes "--steps" ∷ word ∷ []) n

-- each option at most once, in either order
pub data AreRunOptions : List (List ℕ) → ℕ → ℕ → Type 0 where
  cells_first : {a b : List (List ℕ)} {cells steps : ℕ} → IsCellsOption a cells → IsStepsOption b steps → AreRunOptions (a ++ b) cells steps
  steps_first : {a b : List (List ℕ)} {cells steps : ℕ} → IsStepsOption a steps → IsCellsOption b cells → AreRunOptions (a ++ b) cells steps

-- `-- ARG..`, where no argument may stand, or nothing
pub data AreArguments : List (List ℕ) → List (List ℕ) → Type 0 where
  no_dashes : AreArguments [] []
  after_dashes : {words : List (List ℕ)} → list_all is_argument words ≡ true → AreArguments (codes "--" ∷ words) words

-- The words are a line, which asks for this.
pub data IsLine : List (List ℕ) → Asks → Type 0 where
  check : {files : List (List ℕ)} → AreFiles files → IsLine (codes "check" ∷ files) (Check files)
  show_tokens : {file : List ℕ} → is_file file ≡ true → IsLine (codes "show" ∷ codes "tokens" ∷ file ∷ []) (ShowTokens file)
  show_tree : {file : List ℕ} → is_file file ≡ true → IsLine (codes "show" ∷ codes "tree" ∷ file ∷ []) (ShowTree file)
  show : (stage : Stage) {files : List (List ℕ)} → AreFiles files → IsLine (codes "show" ∷ stage_word stage ∷ files) (Show stage files)
  show_c : {options files : List (List ℕ)} {cells : ℕ} → IsCellsOption options cells → AreFiles files → IsLine (codes "show" ∷ codes "c" ∷ options ++ files) (ShowC cells files)
  run : {options files tail arguments : List (List ℕ)} {cells steps : ℕ} → AreRunOptions options cells steps → AreFiles files → AreArguments tail arguments
      → IsLine (codes "run" ∷ options ++ (files ++ tail)) (Run cells steps files arguments)
  crun : {options tail arguments : List (List ℕ)} {file : List ℕ} {steps : ℕ} → IsStepsOption options steps → is_file file ≡ true → AreArguments tail arguments
      → IsLine (codes "crun" ∷ options ++ (file ∷ tail)) (Crun steps file arguments)
  make : {word : List ℕ} {n : ℕ} → IsNumber 1 RELATIONS word n → IsLine (codes "make" ∷ word ∷ []) (Make n)

-- What is so of all that a line asks for.
abbrev pub IsInBounds : Asks → Type 0
IsInBounds (Check files) = AreFiles files
IsInBounds (ShowTokens file) = is_file file ≡ true
IsInBounds (ShowTree file) = is_file file ≡ true
IsInBounds (Show stage files) = AreFiles files
IsInBounds (ShowC cells files) = (1 ≤ cells) × (cells ≤ CELLS) × AreFiles files
IsInBounds (Run cells steps files arguments) = (1 ≤ cells) × (cells ≤ CELLS) × (steps ≤ STEPS) × AreFiles files × (list_all is_argument arguments ≡ true)
IsInBounds (Crun steps file arguments) = (steps ≤ STEPS) × (is_file file ≡ true) × (list_all is_argument arguments ≡ true)
IsInBounds (Make relations) = (1 ≤ relations) × (relations ≤ RELATIONS)
