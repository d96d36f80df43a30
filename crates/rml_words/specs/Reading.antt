-- The command line read from the left.
use Rattle.std.specs.Prelude.{ℕ, nat_le, Bool, ◌&&◌, if◌then◌else◌, List, [], ◌∷◌, length, take, drop, codes, Option, Some, None}
use Rattle.std.specs.Option.{option_map, unwrap_or}
use Rattle.std.specs.List.{list_all, prefix_len}
use Rattle.std.specs.Char.{is_ascii_digit}
use Rattle.std.specs.Str.{bytes_eq}
use Rattle.rml_base.specs.declared.limits.TheConstants.{CELLS, DEFAULT_CELLS, DEFAULT_STEPS, STEPS}
use Rattle.rml_words.specs.Numbers.{value_of}
use Rattle.rml_words.specs.Forms.{Asks, Check, ShowTokens, ShowTree, Show, ShowC, Run, Crun, Make, is_file, is_argument}
use Rattle.rml_words.specs.declared.command.Stage.{Stage}
use Rattle.rml_words.specs.declared.command.Stage.TheVariants.{Types, Clauses, Factored, Trees, Cps, Simple, Code}
use Rattle.rml_words.specs.declared.read.TheConstants.{RELATIONS}

infixl 10 ◌>>=◌
abbrev pub ◌>>=◌ : {A B : Type 0} → Option A → (A → Option B) → Option B
(Some x) >>= f = f x
None >>= f = None

-- ---- numbers

abbrev pub is_numeral : List ℕ → Bool
is_numeral word = nat_le 1 (length word) && nat_le (length word) 13 && list_all is_ascii_digit word

unfoldable pub number : ℕ → ℕ → List ℕ → Option ℕ
number low high word = if is_numeral word && (nat_le low (value_of word) && nat_le (value_of word) high) then Some (value_of word) else None

-- ---- files and arguments

abbrev pub one_file : List (List ℕ) → Option (List ℕ)
one_file [] = None
one_file (f ∷ []) = if is_file f then Some f else None
one_file (f ∷ g ∷ rest) = None

-- words that all are files, at least one
abbrev pub only_files : List (List ℕ) → Option (List (List ℕ))
only_files words = if nat_le 1 (length words) && list_all is_file words then Some words else None

-- the files at the front, at least one, and the words after them
unfoldable pub files_at : List (List ℕ) → Option (List (List ℕ) × List (List ℕ))
files_at words = if nat_le 1 (prefix_len is_file words) then Some (take (prefix_len is_file words) words, drop (prefix_len is_file words) words) else None

abbrev pub arguments : List (List ℕ) → Option (List (List ℕ))
arguments [] = Some []
arguments (w ∷ words) = if bytes_eq w (codes "--") && list_all is_argument words then Some words else None

-- ---- options

-- the option of this name at the front, where it stands there, and the words after it
abbrev pub numbered : ℕ → ℕ → List (List ℕ) → Option (Option ℕ × List (List ℕ))
numbered low high [] = None
numbered low high (w ∷ words) = number low high w >>= λ n. Some (Some n, words)

unfoldable pub option_at : List ℕ → ℕ → ℕ → List (List ℕ) → Option (Option ℕ × List (List ℕ))
option_at name low high [] = Some (None, [])
option_at name low high (w ∷ words) = if bytes_eq w name then numbered low high words else Some (None, w ∷ words)

abbrev pub cells_at : List (List ℕ) → Option (Option ℕ × List (List ℕ))
cells_at words = option_at (codes "--cells") 1 CELLS words

abbrev pub steps_at : List (List ℕ) → Option (Option ℕ × List (List ℕ))
steps_at words = option_at (codes "--steps") 0 STEPS words

-- the cells that are known already, or those at the front
abbrev pub cells_unless : Option ℕ → List (List ℕ) → Option (Option ℕ × List (List ℕ))
cells_unless None words = cells_at words
cells_unless (Some n) words = Some (Some n, words)

-- the cells and the steps, and the words after the options
unfoldable pub run_options : List (List ℕ) → Option (ℕ × ℕ × List (List ℕ))
run_options words = do
  before ← cells_at words
  steps ← steps_at before.1
  cells ← cells_unless before.0 steps.1
  Some (unwrap_or cells.0 DEFAULT_CELLS, unwrap_or steps.0 DEFAULT_STEPS, cells.1)

-- ---- lines, after their first word

unfoldable pub stage_of : List ℕ → Option Stage
stage_of word =
    if bytes_eq word (codes "types") then Some Types
    else (if bytes_eq word (codes "clauses") then Some Clauses
    else (if bytes_eq word (codes "factored") then Some Factored
    else (if bytes_eq word (codes "trees") then Some Trees
    else (if bytes_eq word (codes "cps") then Some Cps
    else (if bytes_eq word (codes "simple") then Some Simple
    else (if bytes_eq word (codes "code") then Some Code
    else None))))))

unfoldable pub show_c : List (List ℕ) → Option Asks
show_c words = cells_at words >>= λ cells. option_map (λ files. ShowC (unwrap_or cells.0 DEFAULT_CELLS) files) (only_files cells.1)

unfoldable pub show_stage : List ℕ → List (List ℕ) → Option Asks
show_stage word words = stage_of word >>= λ stage. option_map (λ files. Show stage files) (only_files words)

unfoldable pub show : List (List ℕ) → Option Asks
show [] = None
show (w ∷ words) =
    if bytes_eq w (codes "tokens") then option_map (λ file. ShowTokens file) (one_file words)
    else (if bytes_eq w (codes "tree") then option_map (λ file. ShowTree file) (one_file words)
    else (if bytes_eq w (codes "c") then show_c words
    else show_stage w words))

unfoldable pub run : List (List ℕ) → Option Asks
run words = do
  options ← run_options words
  files ← files_at options.2
  given ← arguments files.1
  Some (Run options.0 options.1 files.0 given)

-- the file at the front, and the words after it
abbrev pub file_at : List (List ℕ) → Option (List ℕ × List (List ℕ))
file_at [] = None
file_at (f ∷ words) = if is_file f then Some (f, words) else None

unfoldable pub crun : List (List ℕ) → Option Asks
crun words = do
  steps ← steps_at words
  file ← file_at steps.1
  given ← arguments file.1
  Some (Crun (unwrap_or steps.0 DEFAULT_STEPS) file.0 given)

unfoldable pub make : List (List ℕ) → Option Asks
make [] = None
make (w ∷ []) = option_map (λ n. Make n) (number 1 RELATIONS w)
make (w ∷ v ∷ rest) = None

unfoldable pub line : List (List ℕ) → Option Asks
line [] = None
line (w ∷ words) =
    if bytes_eq w (codes "check") then option_map (λ files. Check files) (only_files words)
    else (if bytes_eq w (codes "show") then show words
    else (if bytes_eq w (codes "run") then run words
    else (if bytes_eq w (codes "crun") then crun words
    else (if bytes_eq w (codes "make") then make words
    else None))))
