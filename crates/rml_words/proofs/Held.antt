-- Files and arguments, of words that the program holds.
use Rattle.std.proofs.Common.{◌≡◌, ℕ, ◌+◌, ◌<◌, ◌≤◌, Bool, true, false, cond, List, [], ◌∷◌, length, map, take, drop, Some, None, refl, sym, ap, ◌∙◌, arith}
use Rattle.std.specs.Prelude.{String, string_bytes, nat_le, codes}
use Rattle.std.specs.List.{list_all, prefix_len}
use Rattle.std.specs.Str.{bytes_eq}
use Rattle.std.proofs.lemmas.List.{take-map, drop-map, length-map}
use Rattle.std.proofs.lemmas.List.Folds.{list_all-map}
use Rattle.std.proofs.lemmas.List.Sums.{prefix_len-le-length}
use Rattle.rml_words.specs.Forms.{is_file, is_argument}
use Rattle.rml_words.specs.Reading.{only_files, files_at, arguments}
use Rattle.rml_words.specs.View.{words_of}

prefix_len-map : {X Y : Type 0} (p : Y → Bool) (f : X → Y) (xs : List X) → prefix_len p (map f xs) ≡ prefix_len (λ x. p (f x)) xs
prefix_len-map p f [] = refl
prefix_len-map p f (x ∷ xs) = ap (λ n. cond (p (f x)) (1 + n) 0) (prefix_len-map p f xs)

le-true : (a b : ℕ) → a ≤ b → nat_le a b ≡ true
le-true a b e = grind arith

le-false : (a b : ℕ) → b < a → nat_le a b ≡ false
le-false a b e = grind arith

pub all-files : {A : Type 0} (ws : List (String A)) → 1 ≤ length ws → list_all (λ w. is_file (string_bytes w)) ws ≡ true → Some (words_of ws) ≡ only_files (words_of ws)
all-files ws some all = rw (length-map ws string_bytes) (rw (list_all-map is_file string_bytes ws) (rw (le-true 1 (length ws) some) (rw all refl)))

pub no-words : {A : Type 0} (ws : List (String A)) → length ws < 1 → None ≡ only_files (words_of ws)
no-words ws few = rw (length-map ws string_bytes) (rw (le-false 1 (length ws) few) refl)

pub other-words : {A : Type 0} (ws : List (String A)) → 1 ≤ length ws → list_all (λ w. is_file (string_bytes w)) ws ≡ false → None ≡ only_files (words_of ws)
other-words ws some all = rw (length-map ws string_bytes) (rw (list_all-map is_file string_bytes ws) (rw (le-true 1 (length ws) some) (rw all refl)))

pub these-arguments : {A : Type 0} (w : String A) (ws : List (String A)) → bytes_eq (string_bytes w) (codes "--") ≡ true → list_all (λ v. is_argument (string_bytes v)) ws ≡ true → Some (words_of ws) ≡ arguments (words_of (w ∷ ws))
these-arguments w ws dashes all = rw dashes (rw (list_all-map is_argument string_bytes ws) (rw all refl))

pub long-arguments : {A : Type 0} (w : String A) (ws : List (String A)) → bytes_eq (string_bytes w) (codes "--") ≡ true → list_all (λ v. is_argument (string_bytes v)) ws ≡ false → None ≡ arguments (words_of (w ∷ ws))
long-arguments w ws dashes all = rw dashes (rw (list_all-map is_argument string_bytes ws) (rw all refl))

pub no-dashes : {A : Type 0} (w : String A) (ws : List (String A)) → bytes_eq (string_bytes w) (codes "--") ≡ false → None ≡ arguments (words_of (w ∷ ws))
no-dashes w ws dashes = rw dashes refl

pub count-within : {A : Type 0} (ws : List (String A)) (n : ℕ) → n ≡ prefix_len (λ w. is_file (string_bytes w)) ws → n ≤ length ws
count-within ws n is = let le = prefix_len-le-length (λ w. is_file (string_bytes w)) ws in omega arith

pub files-there : {A : Type 0} (ws : List (String A)) (n : ℕ) (front back : List (String A)) → n ≡ prefix_len (λ w. is_file (string_bytes w)) ws → 1 ≤ n → front ≡ take n ws → back ≡ drop n ws
    → Some (words_of front, words_of back) ≡ files_at (words_of ws)
unfolding files_at
files-there ws n front back is some f b =
    let count : prefix_len is_file (words_of ws) ≡ n = prefix_len-map is_file string_bytes ws ∙ sym is in
    rw count (rw (le-true 1 n some) (rw f (rw b (rw (take-map string_bytes n ws) (rw (drop-map) refl)))))

pub no-file : {A : Type 0} (ws : List (String A)) (n : ℕ) → n ≡ prefix_len (λ w. is_file (string_bytes w)) ws → n < 1 → None ≡ files_at (words_of ws)
unfolding files_at
no-file ws n is few =
    let count : prefix_len is_file (words_of ws) ≡ n = prefix_len-map is_file string_bytes ws ∙ sym is in
    rw count (rw (le-false 1 n few) refl)
