-- Each line that has a form is read, and what is read from the left is a line of that form.
use Rattle.std.proofs.Common.{◌≡◌, ℕ, suc, ◌+◌, ◌≤◌, Bool, true, false, ◌&&◌, cond, List, [], ◌∷◌, ◌++◌, length, take, drop, Option, Some, None, refl, sym, ap, subst, ◌∙◌, arith, append_assoc, inl, inr}
use Rattle.std.specs.Prelude.{◌⊎◌, nat_le, codes, IfSome, IfNone}
use Rattle.std.specs.Option.{option_map, unwrap_or}
use Rattle.std.specs.List.{list_all, prefix_len}
use Rattle.std.specs.Char.{is_ascii_digit}
use Rattle.std.specs.Str.{bytes_eq}
use Rattle.std.proofs.lemmas.List.{take_at, drop_at, take-append-drop}
use Rattle.std.proofs.lemmas.List.Folds.{length-prefix_len}
use Rattle.std.proofs.lemmas.Slice.Eq.{bytes_eq-Decides}
use Rattle.rml_words.specs.Numbers.{value_of, IsNumber}
use Rattle.rml_words.specs.Forms.{Asks, Check, ShowTokens, ShowTree, Show, ShowC, Run, Crun, Make, is_file, is_argument, AreFiles, stage_word, IsCells, IsSteps, IsCellsOption, default_cells, some_cells, IsStepsOption, default_steps, some_steps, AreRunOptions, cells_first, steps_first, AreArguments, no_dashes, after_dashes, IsLine, IsInBounds, check, show_tokens, show_tree, show, show_c, run, crun, make}
use Rattle.rml_words.specs.Reading as reading
use Rattle.rml_words.specs.Reading.{◌>>=◌, number, is_numeral, one_file, only_files, files_at, arguments, numbered, option_at, cells_at, steps_at, cells_unless, run_options, stage_of, show_stage, file_at, line}
use Rattle.rml_words.specs.declared.command.Stage.{Stage}
use Rattle.rml_words.specs.declared.command.Stage.TheVariants.{Types, Clauses, Factored, Trees, Cps, Simple, Code}

abbrev Words : Type 0
Words = List (List ℕ)

-- the value of a step that did not fail
bind_some : {A B : Type 0} (r : Option A) (f : A → Option B) (y : B) → (r >>= f) ≡ Some y → (x : A) × (r ≡ Some x) × (f x ≡ Some y)
bind_some (Some x) f y e = (x, refl, e)
bind_some None f y e = absurd cc

-- a test that did not fail
guard_some : {A : Type 0} (b : Bool) (x : Option A) (y : A) → cond b x None ≡ Some y → (b ≡ true) × (x ≡ Some y)
guard_some true x y e = (refl, e)
guard_some false x y e = absurd cc

map_some : {A B : Type 0} (f : A → B) (o : Option A) (y : B) → option_map f o ≡ Some y → (x : A) × (o ≡ Some x) × (f x ≡ y)
map_some f (Some x) y e = (x, refl, (let g : f x ≡ y = cc in g))
map_some f None y e = absurd cc

and-both : (a b : Bool) → (a && b) ≡ true → (a ≡ true) × (b ≡ true)
and-both true b e = (refl, e)
and-both false b e = absurd cc

le-true : (a b : ℕ) → a ≤ b → nat_le a b ≡ true
le-true a b e = grind arith

true-le : (a b : ℕ) → nat_le a b ≡ true → a ≤ b
true-le a b e = grind arith

same-word : (a b : List ℕ) → bytes_eq a b ≡ true → a ≡ b
same-word a b e = (bytes_eq-Decides a b).0 e

-- a file is no word that is none
file-apart : (f word : List ℕ) → is_file f ≡ true → is_file word ≡ false → bytes_eq f word ≡ false
file-apart f word e h = elim (bytes_eq f word) as (λ v. bytes_eq f word ≡ v → v ≡ false) [
  | true ↦ λ s. (let same : f ≡ word = same-word f word s in let clash : true ≡ false = sym e ∙ (ap is_file same ∙ h) in absurd cc)
  | false ↦ λ s. refl
] refl

abbrev both : {A B : Type 0} → A → B → Option (A × B)
both a b = Some (a, b)

pair-fst : {A B : Type 0} (a c : A) (b d : B) → both a b ≡ both c d → a ≡ c
pair-fst {A} {B} a c b d e = ap (λ (o : Option (A × B)). elim o [ None ↦ a | Some q ↦ q.0 ]) e

pair-snd : {A B : Type 0} (a c : A) (b d : B) → both a b ≡ both c d → b ≡ d
pair-snd {A} {B} a c b d e = ap (λ (o : Option (A × B)). elim o [ None ↦ b | Some q ↦ q.1 ]) e

-- ---- numbers

number-found : (low high : ℕ) (word : List ℕ) (n : ℕ) → IsNumber low high word n → number low high word ≡ Some n
unfolding number
number-found low high word n is =
    let least : nat_le low (value_of word) ≡ true = le-true _ _ (let a = is.at_least in let b = is.value in omega arith) in
    let most : nat_le (value_of word) high ≡ true = le-true _ _ (let a = is.at_most in let b = is.value in omega arith) in
    rw (le-true 1 (length word) (let a = is.some in omega arith)) (rw (le-true (length word) 13 is.few) (rw (is.digits) (rw least (rw most (ap Some (sym is.value))))))

some-is : {A : Type 0} (a b : A) → Some a ≡ Some b → a ≡ b
some-is a b e = cc

number-is : (low high : ℕ) (word : List ℕ) (n : ℕ) → number low high word ≡ Some n → IsNumber low high word n
unfolding number
number-is low high word n e =
    let v = value_of word in
    let g = guard_some (is_numeral word && (nat_le low v && nat_le v high)) (Some v) n e in
    let parts = and-both (is_numeral word) (nat_le low v && nat_le v high) g.0 in
    let numeral = and-both (nat_le 1 (length word) && nat_le (length word) 13) (list_all is_ascii_digit word) parts.0 in
    let lengths = and-both (nat_le 1 (length word)) (nat_le (length word) 13) numeral.0 in
    let range = and-both (nat_le low v) (nat_le v high) parts.1 in
    let value : v ≡ n = some-is v n g.1 in
    let some : 1 ≤ length word = true-le 1 (length word) lengths.0 in
    let least : low ≤ v = true-le low v range.0 in
    let most : v ≤ high = true-le v high range.1 in
    record {
      some = omega arith;
      few = true-le (length word) 13 lengths.1;
      digits = numeral.1;
      value = sym value;
      at_least = omega arith;
      at_most = omega arith;
    }

-- ---- files and arguments

only_files-found : (files : Words) → AreFiles files → only_files files ≡ Some files
only_files-found files are = let some : nat_le 1 (length files) ≡ true = le-true 1 (length files) (let a = are.some in omega arith) in rw some (rw (are.each) refl)

only_files-is : (words files : Words) → only_files words ≡ Some files → AreFiles files × (words ≡ files)
only_files-is words files e =
    let g = guard_some (nat_le 1 (length words) && list_all is_file words) (Some words) files e in
    let parts = and-both (nat_le 1 (length words)) (list_all is_file words) g.0 in
    let same : words ≡ files = some-is words files g.1 in
    let some : 1 ≤ length words = true-le 1 (length words) parts.0 in
    let are : AreFiles words = record { some = omega arith; each = parts.1 } in
    (subst (λ (x : Words). AreFiles x) same are, same)

one_file-found : (file : List ℕ) → is_file file ≡ true → one_file (file ∷ []) ≡ Some file
one_file-found file e = rw e refl

one_file-is : (words : Words) (file : List ℕ) → one_file words ≡ Some file → (words ≡ file ∷ []) × (is_file file ≡ true)
one_file-is [] file e = absurd cc
one_file-is (f ∷ []) file e =
    let g = guard_some (is_file f) (Some f) file e in
    let same : f ≡ file = some-is f file g.1 in
    (ap (λ (x : List ℕ). x ∷ []) same, subst (λ (x : List ℕ). is_file x ≡ true) same g.0)
one_file-is (f ∷ g ∷ rest) file e = absurd cc

file_at-is : (words rest : Words) (file : List ℕ) → file_at words ≡ Some (file, rest) → (words ≡ file ∷ rest) × (is_file file ≡ true)
file_at-is [] rest file e = absurd cc
file_at-is (f ∷ words) rest file e =
    let g = guard_some (is_file f) (Some (f, words)) (file, rest) e in
    let same = pair-fst f file words rest g.1 in
    let others = pair-snd f file words rest g.1 in
    (rw (same, others) refl, subst (λ (x : List ℕ). is_file x ≡ true) same g.0)

arguments-found : {tail given : Words} → AreArguments tail given → arguments tail ≡ Some given
arguments-found no_dashes = refl
arguments-found (after_dashes e) = rw e refl

arguments-is : (tail given : Words) → arguments tail ≡ Some given → AreArguments tail given
arguments-is [] given e = subst (λ (x : Words). AreArguments [] x) (some-is [] given e) no_dashes
arguments-is (w ∷ words) given e =
    let g = guard_some (bytes_eq w (codes "--") && list_all is_argument words) (Some words) given e in
    let parts = and-both (bytes_eq w (codes "--")) (list_all is_argument words) g.0 in
    let dashes : codes "--" ≡ w = sym (same-word w (codes "--") parts.0) in
    let same : words ≡ given = some-is words given g.1 in
    let are : AreArguments (codes "--" ∷ words) words = after_dashes parts.1 in
    subst (λ (x : Words). AreArguments (w ∷ words) x) same (subst (λ (x : List ℕ). AreArguments (x ∷ words) words) dashes are)

-- no file stands where the arguments begin
none-in-tail : {tail given : Words} → AreArguments tail given → prefix_len is_file tail ≡ 0
none-in-tail no_dashes = refl
none-in-tail (after_dashes e) = refl

count-files : (files tail : Words) → list_all is_file files ≡ true → prefix_len is_file tail ≡ 0 → prefix_len is_file (files ++ tail) ≡ length files
count-files [] tail e none = none
count-files (f ∷ files) tail e none =
    let parts = and-both (is_file f) (list_all is_file files) e in
    let others : prefix_len is_file (files ++ tail) ≡ length files = count-files files tail parts.1 none in
    rw (parts.0) (rw others (omega arith))

files_at-found : (files tail : Words) → AreFiles files → prefix_len is_file tail ≡ 0 → files_at (files ++ tail) ≡ Some (files, tail)
unfolding files_at
files_at-found files tail are none =
    let count = count-files files tail are.each none in
    let some : nat_le 1 (length files) ≡ true = le-true 1 (length files) (let a = are.some in omega arith) in
    rw count (rw some (rw (take_at files tail (length files) refl) (rw (drop_at files tail (length files) refl) refl)))

front-files : (words : Words) → list_all is_file (take (prefix_len is_file words) words) ≡ true
front-files [] = refl
front-files (w ∷ words) = elim (is_file w) as (λ v. is_file w ≡ v → list_all is_file (take (cond v (1 + prefix_len is_file words) 0) (w ∷ words)) ≡ true) [
  | true ↦ λ e. (let one : 1 + prefix_len is_file words ≡ suc (prefix_len is_file words) = omega arith in rw one (rw e (front-files words)))
  | false ↦ λ e. refl
] refl

files_at-is : (words files tail : Words) → files_at words ≡ Some (files, tail) → AreFiles files × (words ≡ files ++ tail)
unfolding files_at
files_at-is words files tail e =
    let n = prefix_len is_file words in
    let g = guard_some (nat_le 1 n) (Some (take n words, drop n words)) (files, tail) e in
    let front = pair-fst (take n words) files (drop n words) tail g.1 in
    let back = pair-snd (take n words) files (drop n words) tail g.1 in
    let some : 1 ≤ n = true-le 1 n g.0 in
    let count : length (take n words) ≡ n = length-prefix_len is_file words in
    let are : AreFiles (take n words) = record { some = omega arith; each = front-files words } in
    (subst (λ (x : Words). AreFiles x) front are, sym (take-append-drop n words) ∙ ap (λ (x : Words). x ++ drop n words) front ∙ ap (λ (x : Words). files ++ x) back)

-- ---- options

option-found : (name word : List ℕ) (rest : Words) (low high n : ℕ) → IsNumber low high word n → option_at name low high (name ∷ word ∷ rest) ≡ Some (Some n, rest)
unfolding option_at
option-found name word rest low high n is = let same : bytes_eq name name ≡ true = (bytes_eq-Decides name name).1 refl in rw same (rw (number-found low high word n is) refl)

option-absent : (name word : List ℕ) (rest : Words) (low high : ℕ) → bytes_eq word name ≡ false → option_at name low high (word ∷ rest) ≡ Some (None, word ∷ rest)
unfolding option_at
option-absent name word rest low high e = rw e refl

record Took (name : List ℕ) (low high : ℕ) (words : Words) (found : Option ℕ) (rest : Words) : Type 0 where
  pub word : List ℕ
  pub n : ℕ
  pub number : IsNumber low high word n
  pub is : found ≡ Some n
  pub parts : words ≡ name ∷ word ∷ rest

record Left (words : Words) (found : Option ℕ) (rest : Words) : Type 0 where
  pub is : found ≡ None
  pub parts : words ≡ rest

numbered-is : (name : List ℕ) (low high : ℕ) (words : Words) (found : Option ℕ) (rest : Words) → numbered low high words ≡ Some (found, rest) → Took name low high (name ∷ words) found rest
numbered-is name low high [] found rest e = absurd cc
numbered-is name low high (w ∷ words) found rest e =
    let n = bind_some (number low high w) (λ n. Some (Some n, words)) (found, rest) e in
    let is = pair-fst (Some n.0) found words rest n.2 in
    let others = pair-snd (Some n.0) found words rest n.2 in
    record { word = w; n = n.0; number = number-is low high w n.0 n.1; is = sym is; parts = ap (λ (x : Words). name ∷ w ∷ x) others }

option-is : (name : List ℕ) (low high : ℕ) (words : Words) (found : Option ℕ) (rest : Words) → option_at name low high words ≡ Some (found, rest) → Took name low high words found rest ⊎ Left words found rest
unfolding option_at
option-is name low high [] found rest e = inr (record { is = sym (pair-fst None found [] rest e); parts = pair-snd None found [] rest e })
option-is name low high (w ∷ words) found rest e =
    elim (bytes_eq w name) as (λ v. bytes_eq w name ≡ v → cond v (numbered low high words) (Some (None, w ∷ words)) ≡ Some (found, rest) → Took name low high (w ∷ words) found rest ⊎ Left (w ∷ words) found rest) [
      | true ↦ λ same h. inl (subst (λ (x : List ℕ). Took name low high (x ∷ words) found rest) (sym (same-word w name same)) (numbered-is name low high words found rest h))
      | false ↦ λ other h. inr (record { is = sym (pair-fst None found (w ∷ words) rest h); parts = pair-snd None found (w ∷ words) rest h })
    ] refl e

-- the cells of words that begin with an option, or with a file
record CellsRead (options : Words) (cells : ℕ) (rest : Words) : Type 0 where
  pub found : Option ℕ
  pub is : cells_at (options ++ rest) ≡ Some (found, rest)
  pub value : unwrap_or found 16777216 ≡ cells

cells-found : {options : Words} {cells : ℕ} (f : List ℕ) (rest : Words) → IsCellsOption options cells → bytes_eq f (codes "--cells") ≡ false → CellsRead options cells (f ∷ rest)
cells-found f rest default_cells e = record { found = None; is = option-absent (codes "--cells") f rest 1 67108864 e; value = refl }
cells-found f rest (some_cells {word} {n} is) e = record { found = Some n; is = option-found (codes "--cells") word (f ∷ rest) 1 67108864 n is; value = refl }

record StepsRead (options : Words) (steps : ℕ) (rest : Words) : Type 0 where
  pub found : Option ℕ
  pub is : steps_at (options ++ rest) ≡ Some (found, rest)
  pub value : unwrap_or found 100000000 ≡ steps

steps-found : {options : Words} {steps : ℕ} (f : List ℕ) (rest : Words) → IsStepsOption options steps → bytes_eq f (codes "--steps") ≡ false → StepsRead options steps (f ∷ rest)
steps-found f rest default_steps e = record { found = None; is = option-absent (codes "--steps") f rest 0 1000000000000 e; value = refl }
steps-found f rest (some_steps {word} {n} is) e = record { found = Some n; is = option-found (codes "--steps") word (f ∷ rest) 0 1000000000000 n is; value = refl }

took-cells : (words rest : Words) (found : Option ℕ) → cells_at words ≡ Some (found, rest) → (options : Words) × IsCellsOption options (unwrap_or found 16777216) × (words ≡ options ++ rest)
took-cells words rest found e = elim (option-is (codes "--cells") 1 67108864 words found rest e) [
  | inl t ↦ (codes "--cells" ∷ t.word ∷ [], subst (λ (x : Option ℕ). IsCellsOption (codes "--cells" ∷ t.word ∷ []) (unwrap_or x 16777216)) (sym t.is) (some_cells t.number), t.parts)
  | inr t ↦ ([], subst (λ (x : Option ℕ). IsCellsOption [] (unwrap_or x 16777216)) (sym t.is) default_cells, t.parts)
]

took-steps : (words rest : Words) (found : Option ℕ) → steps_at words ≡ Some (found, rest) → (options : Words) × IsStepsOption options (unwrap_or found 100000000) × (words ≡ options ++ rest)
took-steps words rest found e = elim (option-is (codes "--steps") 0 1000000000000 words found rest e) [
  | inl t ↦ (codes "--steps" ∷ t.word ∷ [], subst (λ (x : Option ℕ). IsStepsOption (codes "--steps" ∷ t.word ∷ []) (unwrap_or x 100000000)) (sym t.is) (some_steps t.number), t.parts)
  | inr t ↦ ([], subst (λ (x : Option ℕ). IsStepsOption [] (unwrap_or x 100000000)) (sym t.is) default_steps, t.parts)
]

-- ---- the options of a run

run-plain : (f : List ℕ) (rest : Words) → bytes_eq f (codes "--cells") ≡ false → bytes_eq f (codes "--steps") ≡ false → run_options (f ∷ rest) ≡ Some (16777216, 100000000, f ∷ rest)
unfolding run_options
run-plain f rest c s = rw (option-absent (codes "--cells") f rest 1 67108864 c) (rw (option-absent (codes "--steps") f rest 0 1000000000000 s) (rw (option-absent (codes "--cells") f rest 1 67108864 c) refl))

run-cells : (f word : List ℕ) (rest : Words) (n : ℕ) → IsCells word n → bytes_eq f (codes "--steps") ≡ false → run_options (codes "--cells" ∷ word ∷ f ∷ rest) ≡ Some (n, 100000000, f ∷ rest)
unfolding run_options
run-cells f word rest n is s = rw (option-found (codes "--cells") word (f ∷ rest) 1 67108864 n is) (rw (option-absent (codes "--steps") f rest 0 1000000000000 s) refl)

run-steps : (f word : List ℕ) (rest : Words) (n : ℕ) → IsSteps word n → bytes_eq f (codes "--cells") ≡ false → run_options (codes "--steps" ∷ word ∷ f ∷ rest) ≡ Some (16777216, n, f ∷ rest)
unfolding run_options
run-steps f word rest n is c =
    rw (option-absent (codes "--cells") (codes "--steps") (word ∷ f ∷ rest) 1 67108864 refl) (rw (option-found (codes "--steps") word (f ∷ rest) 0 1000000000000 n is) (rw (option-absent (codes "--cells") f rest 1 67108864 c) refl))

run-cells-steps : (f v w : List ℕ) (rest : Words) (m n : ℕ) → IsCells v m → IsSteps w n → run_options (codes "--cells" ∷ v ∷ codes "--steps" ∷ w ∷ f ∷ rest) ≡ Some (m, n, f ∷ rest)
unfolding run_options
run-cells-steps f v w rest m n c s = rw (option-found (codes "--cells") v (codes "--steps" ∷ w ∷ f ∷ rest) 1 67108864 m c) (rw (option-found (codes "--steps") w (f ∷ rest) 0 1000000000000 n s) refl)

run-steps-cells : (f v w : List ℕ) (rest : Words) (m n : ℕ) → IsCells v m → IsSteps w n → run_options (codes "--steps" ∷ w ∷ codes "--cells" ∷ v ∷ f ∷ rest) ≡ Some (m, n, f ∷ rest)
unfolding run_options
run-steps-cells f v w rest m n c s =
    rw (option-absent (codes "--cells") (codes "--steps") (w ∷ codes "--cells" ∷ v ∷ f ∷ rest) 1 67108864 refl)
    (rw (option-found (codes "--steps") w (codes "--cells" ∷ v ∷ f ∷ rest) 0 1000000000000 n s) (rw (option-found (codes "--cells") v (f ∷ rest) 1 67108864 m c) refl))

cells-then-steps : {a b : Words} {cells steps : ℕ} (f : List ℕ) (rest : Words) → IsCellsOption a cells → IsStepsOption b steps → bytes_eq f (codes "--cells") ≡ false → bytes_eq f (codes "--steps") ≡ false
    → run_options ((a ++ b) ++ f ∷ rest) ≡ Some (cells, steps, f ∷ rest)
cells-then-steps f rest default_cells default_steps c s = run-plain f rest c s
cells-then-steps f rest default_cells (some_steps {word} {n} is) c s = run-steps f word rest n is c
cells-then-steps f rest (some_cells {word} {n} is) default_steps c s = run-cells f word rest n is s
cells-then-steps f rest (some_cells {word = v} {n = m} is) (some_steps {word = w} {n = n} are) c s = run-cells-steps f v w rest m n is are

steps-then-cells : {a b : Words} {cells steps : ℕ} (f : List ℕ) (rest : Words) → IsStepsOption a steps → IsCellsOption b cells → bytes_eq f (codes "--cells") ≡ false → bytes_eq f (codes "--steps") ≡ false
    → run_options ((a ++ b) ++ f ∷ rest) ≡ Some (cells, steps, f ∷ rest)
steps-then-cells f rest default_steps default_cells c s = run-plain f rest c s
steps-then-cells f rest default_steps (some_cells {word} {n} is) c s = run-cells f word rest n is s
steps-then-cells f rest (some_steps {word} {n} is) default_cells c s = run-steps f word rest n is c
steps-then-cells f rest (some_steps {word = w} {n = n} are) (some_cells {word = v} {n = m} is) c s = run-steps-cells f v w rest m n is are

run_options-found : {options : Words} {cells steps : ℕ} (f : List ℕ) (rest : Words) → AreRunOptions options cells steps → bytes_eq f (codes "--cells") ≡ false → bytes_eq f (codes "--steps") ≡ false
    → run_options (options ++ f ∷ rest) ≡ Some (cells, steps, f ∷ rest)
run_options-found f rest (cells_first is are) c s = cells-then-steps f rest is are c s
run_options-found f rest (steps_first is are) c s = steps-then-cells f rest is are c s

abbrev three : ℕ → ℕ → Words → Option (ℕ × ℕ × Words)
three a b c = Some (a, b, c)

three-0 : (a b d e : ℕ) (c f : Words) → three a b c ≡ three d e f → a ≡ d
three-0 a b d e c f h = ap (λ (o : Option (ℕ × ℕ × Words)). elim o [ None ↦ a | Some q ↦ q.0 ]) h

three-1 : (a b d e : ℕ) (c f : Words) → three a b c ≡ three d e f → b ≡ e
three-1 a b d e c f h = ap (λ (o : Option (ℕ × ℕ × Words)). elim o [ None ↦ b | Some q ↦ q.1 ]) h

three-2 : (a b d e : ℕ) (c f : Words) → three a b c ≡ three d e f → c ≡ f
three-2 a b d e c f h = ap (λ (o : Option (ℕ × ℕ × Words)). elim o [ None ↦ c | Some q ↦ q.2 ]) h

record RunOptions (words : Words) (cells steps : ℕ) (rest : Words) : Type 0 where
  pub options : Words
  pub are : AreRunOptions options cells steps
  pub parts : words ≡ options ++ rest

two-options : (words middle rest a b : Words) → words ≡ a ++ middle → middle ≡ b ++ rest → words ≡ (a ++ b) ++ rest
two-options words middle rest a b e f = e ∙ ap (λ (x : Words). a ++ x) f ∙ sym (append_assoc a b rest)

-- what was read first, then the steps, then the cells where they were not read before
run-joined : (words first second rest : Words) (before steps cells : Option ℕ) → cells_at words ≡ Some (before, first) → steps_at first ≡ Some (steps, second) → cells_unless before second ≡ Some (cells, rest)
    → RunOptions words (unwrap_or cells 16777216) (unwrap_or steps 100000000) rest
run-joined words first second rest (Some n) steps cells e f g =
    let same = pair-fst (Some n) cells second rest g in
    let last = pair-snd (Some n) cells second rest g in
    let a = took-cells words first (Some n) e in
    let b = took-steps first second steps f in
    record {
      options = a.0 ++ b.0;
      are = cells_first (subst (λ (x : Option ℕ). IsCellsOption a.0 (unwrap_or x 16777216)) same a.1) b.1;
      parts = two-options words first rest a.0 b.0 a.2 (b.2 ∙ ap (λ (x : Words). b.0 ++ x) last);
    }
run-joined words first second rest None steps cells e f g =
    let a = took-steps first second steps f in
    let b = took-cells second rest cells g in
    let same : words ≡ first = elim (option-is (codes "--cells") 1 67108864 words None first e) [ inl t ↦ absurd (let clash = t.is in cc) | inr t ↦ t.parts ] in
    record {
      options = a.0 ++ b.0;
      are = steps_first a.1 b.1;
      parts = same ∙ two-options first second rest a.0 b.0 a.2 b.2;
    }

run_options-is : (words rest : Words) (cells steps : ℕ) → run_options words ≡ Some (cells, steps, rest) → RunOptions words cells steps rest
unfolding run_options
run_options-is words rest cells steps e =
    let a = bind_some (cells_at words) _ (cells, steps, rest) e in
    let b = bind_some (steps_at a.0.1) _ (cells, steps, rest) a.2 in
    let c = bind_some (cells_unless a.0.0 b.0.1) _ (cells, steps, rest) b.2 in
    let m = unwrap_or c.0.0 16777216 in
    let n = unwrap_or b.0.0 100000000 in
    let read = run-joined words a.0.1 b.0.1 c.0.1 a.0.0 b.0.0 c.0.0 a.1 b.1 c.1 in
    subst (λ (x : Words). RunOptions words cells steps x) (three-2 m n cells steps c.0.1 rest c.2)
    (subst (λ (x : ℕ). RunOptions words cells x c.0.1) (three-1 m n cells steps c.0.1 rest c.2)
    (subst (λ (x : ℕ). RunOptions words x n c.0.1) (three-0 m n cells steps c.0.1 rest c.2) read))

-- ---- stages

stage_of-found : (stage : Stage) → stage_of (stage_word stage) ≡ Some stage
unfolding stage_of
stage_of-found Types = refl
stage_of-found Clauses = refl
stage_of-found Factored = refl
stage_of-found Trees = refl
stage_of-found Cps = refl
stage_of-found Simple = refl
stage_of-found Code = refl

this-stage : (w word : List ℕ) (a stage : Stage) (others : Option Stage) → word ≡ stage_word a → (others ≡ Some stage → w ≡ stage_word stage) → cond (bytes_eq w word) (Some a) others ≡ Some stage → w ≡ stage_word stage
this-stage w word a stage others is further e =
    elim (bytes_eq w word) as (λ v. bytes_eq w word ≡ v → cond v (Some a) others ≡ Some stage → w ≡ stage_word stage) [
      | true ↦ λ same h. same-word w word same ∙ is ∙ ap stage_word (some-is a stage h)
      | false ↦ λ other h. further h
    ] refl e

stage_of-is : (w : List ℕ) (stage : Stage) → stage_of w ≡ Some stage → w ≡ stage_word stage
unfolding stage_of
stage_of-is w stage e =
    this-stage w (codes "types") Types stage _ refl (this-stage w (codes "clauses") Clauses stage _ refl (this-stage w (codes "factored") Factored stage _ refl
    (this-stage w (codes "trees") Trees stage _ refl (this-stage w (codes "cps") Cps stage _ refl (this-stage w (codes "simple") Simple stage _ refl
    (this-stage w (codes "code") Code stage None refl (λ h. absurd cc))))))) e

-- ---- lines that have a form are read

show-stage-found : (stage : Stage) (files : Words) → show_stage (stage_word stage) files ≡ reading.show (stage_word stage ∷ files)
unfolding reading.show
show-stage-found Types files = refl
show-stage-found Clauses files = refl
show-stage-found Factored files = refl
show-stage-found Trees files = refl
show-stage-found Cps files = refl
show-stage-found Simple files = refl
show-stage-found Code files = refl

stage-found : (stage : Stage) (files : Words) → AreFiles files → line (codes "show" ∷ stage_word stage ∷ files) ≡ Some (Show stage files)
unfolding line show_stage
stage-found stage files are = sym (show-stage-found stage files) ∙ rw (stage_of-found stage) (rw (only_files-found files are) refl)

c-found : {options : Words} {cells : ℕ} (files : Words) → IsCellsOption options cells → AreFiles files → line (codes "show" ∷ codes "c" ∷ options ++ files) ≡ Some (ShowC cells files)
unfolding line reading.show reading.show_c
c-found [] is are = absurd (let some = are.some in omega arith)
c-found (f ∷ more) is are =
    let file = (and-both (is_file f) (list_all is_file more) are.each).0 in
    let read = cells-found f more is (file-apart f (codes "--cells") file refl) in
    rw (read.is) (rw (only_files-found (f ∷ more) are) (rw (read.value) refl))

run-found : {options tail given : Words} {cells steps : ℕ} (files : Words) → AreRunOptions options cells steps → AreFiles files → AreArguments tail given → line (codes "run" ∷ options ++ (files ++ tail)) ≡ Some (Run cells steps files given)
unfolding line reading.run
run-found [] is are a = absurd (let some = are.some in omega arith)
run-found {options} {tail} {given} (f ∷ more) is are a =
    let file = (and-both (is_file f) (list_all is_file more) are.each).0 in
    let read = run_options-found f (more ++ tail) is (file-apart f (codes "--cells") file refl) (file-apart f (codes "--steps") file refl) in
    let files = files_at-found (f ∷ more) tail are (none-in-tail a) in
    rw read (rw files (rw (arguments-found a) refl))

crun-found : {options tail given : Words} {steps : ℕ} (file : List ℕ) → IsStepsOption options steps → is_file file ≡ true → AreArguments tail given → line (codes "crun" ∷ options ++ (file ∷ tail)) ≡ Some (Crun steps file given)
unfolding line reading.crun
crun-found {options} {tail} {given} file is e a =
    let read = steps-found file tail is (file-apart file (codes "--steps") e refl) in
    rw (read.is) (rw e (rw (arguments-found a) (rw (read.value) refl)))

plain-found : (files : Words) → AreFiles files → line (codes "check" ∷ files) ≡ Some (Check files)
unfolding line
plain-found files are = rw (only_files-found files are) refl

tokens-found : (file : List ℕ) → is_file file ≡ true → line (codes "show" ∷ codes "tokens" ∷ file ∷ []) ≡ Some (ShowTokens file)
unfolding line reading.show
tokens-found file e = rw e refl

tree-found : (file : List ℕ) → is_file file ≡ true → line (codes "show" ∷ codes "tree" ∷ file ∷ []) ≡ Some (ShowTree file)
unfolding line reading.show
tree-found file e = rw e refl

make-found : (word : List ℕ) (n : ℕ) → IsNumber 1 3000 word n → line (codes "make" ∷ word ∷ []) ≡ Some (Make n)
unfolding line reading.make
make-found word n is = rw (number-found 1 3000 word n is) refl

pub line-found : {words : Words} {asks : Asks} → IsLine words asks → line words ≡ Some asks
line-found (check {files} are) = plain-found files are
line-found (show_tokens {file} e) = tokens-found file e
line-found (show_tree {file} e) = tree-found file e
line-found (show stage {files} are) = stage-found stage files are
line-found (show_c {options} {files} is are) = c-found files is are
line-found (run {options} {files} is are a) = run-found files is are a
line-found (crun {file} is e a) = crun-found file is e a
line-found (make {word} {n} is) = make-found word n is

-- ---- what is read is a line

-- a choice that led to an answer
branch-is : {A : Type 0} (P : Type 0) (b : Bool) (x r : Option A) (a : A) → cond b x r ≡ Some a → (b ≡ true → x ≡ Some a → P) → (r ≡ Some a → P) → P
branch-is P true x r a e f g = f refl e
branch-is P false x r a e f g = g e

retold : {words others : Words} {a b : Asks} → words ≡ others → a ≡ b → IsLine others a → IsLine words b
retold {words} {others} {a} {b} e f l = subst (λ (x : Words). IsLine x b) (sym e) (subst (λ (x : Asks). IsLine others x) f l)

check-is : (words : Words) (a : Asks) → option_map (λ files. Check files) (only_files words) ≡ Some a → IsLine (codes "check" ∷ words) a
check-is words a e =
    let m = map_some (λ files. Check files) (only_files words) a e in
    let f = only_files-is words m.0 m.1 in
    retold (ap (λ (x : Words). codes "check" ∷ x) f.1) m.2 (check f.0)

tokens-is : (words : Words) (a : Asks) → option_map (λ file. ShowTokens file) (one_file words) ≡ Some a → IsLine (codes "show" ∷ codes "tokens" ∷ words) a
tokens-is words a e =
    let m = map_some (λ file. ShowTokens file) (one_file words) a e in
    let f = one_file-is words m.0 m.1 in
    retold (ap (λ (x : Words). codes "show" ∷ codes "tokens" ∷ x) f.0) m.2 (show_tokens f.1)

tree-is : (words : Words) (a : Asks) → option_map (λ file. ShowTree file) (one_file words) ≡ Some a → IsLine (codes "show" ∷ codes "tree" ∷ words) a
tree-is words a e =
    let m = map_some (λ file. ShowTree file) (one_file words) a e in
    let f = one_file-is words m.0 m.1 in
    retold (ap (λ (x : Words). codes "show" ∷ codes "tree" ∷ x) f.0) m.2 (show_tree f.1)

show_c-is : (words : Words) (a : Asks) → reading.show_c words ≡ Some a → IsLine (codes "show" ∷ codes "c" ∷ words) a
unfolding reading.show_c
show_c-is words a e =
    let c = bind_some (cells_at words) _ a e in
    let m = map_some (λ files. ShowC (unwrap_or c.0.0 16777216) files) (only_files c.0.1) a c.2 in
    let f = only_files-is c.0.1 m.0 m.1 in
    let o = took-cells words c.0.1 c.0.0 c.1 in
    retold (ap (λ (x : Words). codes "show" ∷ codes "c" ∷ x) (o.2 ∙ ap (λ (x : Words). o.0 ++ x) f.1)) m.2 (show_c o.1 f.0)

show_stage-is : (w : List ℕ) (words : Words) (a : Asks) → show_stage w words ≡ Some a → IsLine (codes "show" ∷ w ∷ words) a
unfolding show_stage
show_stage-is w words a e =
    let s = bind_some (stage_of w) _ a e in
    let m = map_some (λ files. Show s.0 files) (only_files words) a s.2 in
    let f = only_files-is words m.0 m.1 in
    retold (ap (λ (x : List ℕ). codes "show" ∷ x ∷ words) (stage_of-is w s.0 s.1) ∙ ap (λ (x : Words). codes "show" ∷ stage_word s.0 ∷ x) f.1) m.2 (show s.0 f.0)

show-is : (words : Words) (a : Asks) → reading.show words ≡ Some a → IsLine (codes "show" ∷ words) a
unfolding reading.show
show-is [] a e = absurd cc
show-is (w ∷ words) a e =
    let Line : List ℕ → Type 0 = λ x. IsLine (codes "show" ∷ x ∷ words) a in
    branch-is (Line w) (bytes_eq w (codes "tokens")) _ _ a e (λ same h. subst Line (sym (same-word w (codes "tokens") same)) (tokens-is words a h)) (λ e2.
    branch-is (Line w) (bytes_eq w (codes "tree")) _ _ a e2 (λ same h. subst Line (sym (same-word w (codes "tree") same)) (tree-is words a h)) (λ e3.
    branch-is (Line w) (bytes_eq w (codes "c")) _ _ a e3 (λ same h. subst Line (sym (same-word w (codes "c") same)) (show_c-is words a h)) (λ h. show_stage-is w words a h)))

run-is : (words : Words) (a : Asks) → reading.run words ≡ Some a → IsLine (codes "run" ∷ words) a
unfolding reading.run
run-is words a e =
    let o = bind_some (run_options words) _ a e in
    let f = bind_some (files_at o.0.2) _ a o.2 in
    let g = bind_some (arguments f.0.1) _ a f.2 in
    let options = run_options-is words o.0.2 o.0.0 o.0.1 o.1 in
    let files = files_at-is o.0.2 f.0.0 f.0.1 f.1 in
    retold (ap (λ (x : Words). codes "run" ∷ x) (options.parts ∙ ap (λ (x : Words). options.options ++ x) files.1)) (some-is _ a g.2) (run options.are files.0 (arguments-is f.0.1 g.0 g.1))

crun-is : (words : Words) (a : Asks) → reading.crun words ≡ Some a → IsLine (codes "crun" ∷ words) a
unfolding reading.crun
crun-is words a e =
    let o = bind_some (steps_at words) _ a e in
    let f = bind_some (file_at o.0.1) _ a o.2 in
    let g = bind_some (arguments f.0.1) _ a f.2 in
    let options = took-steps words o.0.1 o.0.0 o.1 in
    let file = file_at-is o.0.1 f.0.1 f.0.0 f.1 in
    retold (ap (λ (x : Words). codes "crun" ∷ x) (options.2 ∙ ap (λ (x : Words). options.0 ++ x) file.0)) (some-is _ a g.2) (crun options.1 file.1 (arguments-is f.0.1 g.0 g.1))

make-is : (words : Words) (a : Asks) → reading.make words ≡ Some a → IsLine (codes "make" ∷ words) a
unfolding reading.make
make-is [] a e = absurd cc
make-is (w ∷ []) a e = let m = map_some (λ n. Make n) (number 1 3000 w) a e in retold refl m.2 (make (number-is 1 3000 w m.0 m.1))
make-is (w ∷ v ∷ rest) a e = absurd cc

pub line-is : (words : Words) (a : Asks) → line words ≡ Some a → IsLine words a
unfolding line
line-is [] a e = absurd cc
line-is (w ∷ words) a e =
    let Line : List ℕ → Type 0 = λ x. IsLine (x ∷ words) a in
    branch-is (Line w) (bytes_eq w (codes "check")) _ _ a e (λ same h. subst Line (sym (same-word w (codes "check") same)) (check-is words a h)) (λ e2.
    branch-is (Line w) (bytes_eq w (codes "show")) _ _ a e2 (λ same h. subst Line (sym (same-word w (codes "show") same)) (show-is words a h)) (λ e3.
    branch-is (Line w) (bytes_eq w (codes "run")) _ _ a e3 (λ same h. subst Line (sym (same-word w (codes "run") same)) (run-is words a h)) (λ e4.
    branch-is (Line w) (bytes_eq w (codes "crun")) _ _ a e4 (λ same h. subst Line (sym (same-word w (codes "crun") same)) (crun-is words a h)) (λ e5.
    branch-is (Line w) (bytes_eq w (codes "make")) _ _ a e5 (λ same h. subst Line (sym (same-word w (codes "make") same)) (make-is words a h)) (λ h. absurd cc)))))

-- ---- what a line asks for keeps to its bounds

cells-bounds : {options : Words} {cells : ℕ} → IsCellsOption options cells → (1 ≤ cells) × (cells ≤ 67108864)
cells-bounds default_cells = (omega arith, omega arith)
cells-bounds (some_cells is) = (is.at_least, is.at_most)

steps-bound : {options : Words} {steps : ℕ} → IsStepsOption options steps → steps ≤ 1000000000000
steps-bound default_steps = omega arith
steps-bound (some_steps is) = is.at_most

run-bounds : {options : Words} {cells steps : ℕ} → AreRunOptions options cells steps → (1 ≤ cells) × (cells ≤ 67108864) × (steps ≤ 1000000000000)
run-bounds (cells_first is are) = let c = cells-bounds is in (c.0, c.1, steps-bound are)
run-bounds (steps_first is are) = let c = cells-bounds are in (c.0, c.1, steps-bound is)

arguments-bound : {tail given : Words} → AreArguments tail given → list_all is_argument given ≡ true
arguments-bound no_dashes = refl
arguments-bound (after_dashes e) = e

in-bounds : {words : Words} {asks : Asks} → IsLine words asks → IsInBounds asks
in-bounds (check are) = are
in-bounds (show_tokens e) = e
in-bounds (show_tree e) = e
in-bounds (show stage are) = are
in-bounds (show_c is are) = let c = cells-bounds is in (c.0, c.1, are)
in-bounds (run is are a) = let c = run-bounds is in (c.0, c.1, c.2, are, arguments-bound a)
in-bounds (crun is e a) = (steps-bound is, e, arguments-bound a)
in-bounds (make is) = (is.at_least, is.at_most)

-- ---- what the code gives, by the forms

pub record Given {X : Type 0} (view : X → Asks) (words : Words) (result : Option X) : Type 0 where
  pub found : IfSome result (λ x. IsLine words (view x))
  pub only : IfNone result ((asks : Asks) → ¬ IsLine words asks)
  pub within : IfSome result (λ x. IsInBounds (view x))

pub given : {X : Type 0} (view : X → Asks) (words : Words) (result : Option X) → option_map view result ≡ line words → Given view words result
given view words None e = record { found = tt; only = λ asks l. (let g = line-found l in cc); within = tt }
given view words (Some x) e = let l = line-is words (view x) (sym e) in record { found = l; only = tt; within = in-bounds l }

pub one : (words : Words) (a b : Asks) → IsLine words a → IsLine words b → a ≡ b
one words a b l m = some-is a b (sym (line-found l) ∙ line-found m)
