-- How files are read where it is told what they hold: file by file to one end, so no two ends are due.
use Rattle.std.proofs.Common.{◌≡◌, ℕ, suc, ◌+◌, ◌<◌, ◌≤◌, true, false, List, [], ◌∷◌, ◌++◌, length, Some, None, refl, sym, ap, subst, ◌∙◌, arith}
use Rattle.std.specs.Prelude.{All, IsSomeAnd, nat_lt, if◌then◌else◌}
use Rattle.std.proofs.lemmas.List.Sums.{sum_by-cons}
use Rattle.std.proofs.lemmas.Bool.{lt-ltb, le-ltb}
use Rattle.std.specs.FinMap as fin_map
use Rattle.std.specs.declared.option.Option.{Option}
use Rattle.rml_io.specs.Files.{Held}
use Rattle.rml_top.specs.Sources.{AreHeld, total, AreTexts, IsReached, IsTooLong, PassTotal}

-- an end: a file that is not held, one that is too long, one with which all are too long, or all read
pub data End : Type 0 where
  Missing : ℕ → End
  Long : ℕ → End
  Over : ℕ → End
  Read : List (List ℕ) → End

abbrev behind : List ℕ → End → End
behind text (Missing k) = Missing k
behind text (Long k) = Long k
behind text (Over k) = Over k
behind text (Read texts) = Read (text ∷ texts)

abbrev one : Option (List ℕ) → ℕ → ℕ → (ℕ → End) → End
one None bytes k rest = Missing k
one (Some text) bytes k rest = if nat_lt 1048576 (length text) then Long k else (if nat_lt 4194304 (bytes + length text) then Over k else behind text (rest (bytes + length text)))

-- the end of reading the names, of which the first has the number k, behind texts with so many bytes
abbrev pub walk : Held → ℕ → ℕ → List (List ℕ) → End
walk files bytes k [] = Read []
walk files bytes k (name ∷ names) = one (fin_map.get files name) bytes k (λ more. walk files more (suc k) names)

abbrev pub Short : List ℕ → Type 0
Short text = length text ≤ 1048576

pub head-short : (text : List ℕ) (texts : List (List ℕ)) → All Short (text ∷ texts) → Short text
head-short text texts a = a 0 [] (omega arith)

tail-short : (text : List ℕ) (texts : List (List ℕ)) → All Short (text ∷ texts) → All Short texts
tail-short text texts a = λ k d lt. let next : suc k < length (text ∷ texts) = omega (arith, lt) in a (suc k) d next

-- a file that is held and within the limits
passes : (held : Option (List ℕ)) (text : List ℕ) (bytes k : ℕ) (rest : ℕ → End) → held ≡ Some text → Short text → bytes + length text ≤ 4194304 → one held bytes k rest ≡ behind text (rest (bytes + length text))
passes held text bytes k rest e short fits =
    let a : nat_lt 1048576 (length text) ≡ false = le-ltb 1048576 (length text) short in
    let b : nat_lt 4194304 (bytes + length text) ≡ false = le-ltb 4194304 (bytes + length text) fits in
    subst (λ (h : Option (List ℕ)). one h bytes k rest ≡ behind text (rest (bytes + length text))) (sym e) (rw (a, b) refl)

too-long : (held : Option (List ℕ)) (bytes k : ℕ) (rest : ℕ → End) → IsSomeAnd held (λ text. 1048576 < length text) → one held bytes k rest ≡ Long k
too-long None bytes k rest l = absurd l
too-long (Some text) bytes k rest l = let a : nat_lt 1048576 (length text) ≡ true = lt-ltb 1048576 (length text) l in rw a refl

too-many : (held : Option (List ℕ)) (text : List ℕ) (bytes k : ℕ) (rest : ℕ → End) → held ≡ Some text → Short text → 4194304 < bytes + length text → one held bytes k rest ≡ Over k
too-many held text bytes k rest e short over =
    let a : nat_lt 1048576 (length text) ≡ false = le-ltb 1048576 (length text) short in
    let b : nat_lt 4194304 (bytes + length text) ≡ true = lt-ltb 4194304 (bytes + length text) over in
    subst (λ (h : Option (List ℕ)). one h bytes k rest ≡ Over k) (sym e) (rw (a, b) refl)

-- all are read
all-read : (files : Held) (names texts : List (List ℕ)) (bytes k : ℕ) → AreHeld (Some files) names texts → All Short texts → bytes + total texts ≤ 4194304 → walk files bytes k names ≡ Read texts
all-read files [] [] bytes k h s fits = refl
all-read files [] (t ∷ ts) bytes k h s fits = absurd h
all-read files (n ∷ ns) [] bytes k h s fits = absurd h
all-read files (n ∷ ns) (t ∷ ts) bytes k h s fits =
    let sum : total (t ∷ ts) ≡ length t + total ts = sum_by-cons length t ts in
    let here : bytes + length t ≤ 4194304 = omega (arith, sum) in
    let more : (bytes + length t) + total ts ≤ 4194304 = omega (arith, sum) in
    passes (fin_map.get files n) t bytes k (λ b. walk files b (suc k) ns) h.0 (head-short t ts s) here
    ∙ ap (λ (e : End). behind t e) (all-read files ns ts (bytes + length t) (suc k) h.1 (tail-short t ts s) more)

-- an end that is no reading of all is the same behind any text
abbrev IsStop : End → Type 0
IsStop end = (text : List ℕ) → behind text end ≡ end

stop-behind : (files : Held) (before after : List (List ℕ)) (texts : List (List ℕ)) (bytes k : ℕ) (end : End) → IsStop end → AreHeld (Some files) before texts → All Short texts → bytes + total texts ≤ 4194304
    → walk files (bytes + total texts) (k + length before) after ≡ end → walk files bytes k (before ++ after) ≡ end
stop-behind files [] after [] bytes k end stop h s fits e =
    let a : bytes + total [] ≡ bytes = omega arith in
    let b : k + length {A = List ℕ} [] ≡ k = omega arith in
    sym (ap (λ (x : ℕ). walk files x (k + length {A = List ℕ} []) after) a ∙ ap (λ (x : ℕ). walk files bytes x after) b) ∙ e
stop-behind files [] after (t ∷ ts) bytes k end stop h s fits e = absurd h
stop-behind files (n ∷ ns) after [] bytes k end stop h s fits e = absurd h
stop-behind files (n ∷ ns) after (t ∷ ts) bytes k end stop h s fits e =
    let sum : total (t ∷ ts) ≡ length t + total ts = sum_by-cons length t ts in
    let here : bytes + length t ≤ 4194304 = omega (arith, sum) in
    let more : (bytes + length t) + total ts ≤ 4194304 = omega (arith, sum) in
    let a : bytes + total (t ∷ ts) ≡ (bytes + length t) + total ts = omega (arith, sum) in
    let b : k + length (n ∷ ns) ≡ suc k + length ns = omega arith in
    let there : walk files ((bytes + length t) + total ts) (suc k + length ns) after ≡ end = sym (ap (λ (x : ℕ). walk files x (k + length (n ∷ ns)) after) a ∙ ap (λ (x : ℕ). walk files ((bytes + length t) + total ts) x after) b) ∙ e in
    passes (fin_map.get files n) t bytes k (λ b. walk files b (suc k) (ns ++ after)) h.0 (head-short t ts s) here
    ∙ ap (λ (x : End). behind t x) (stop-behind files ns after ts (bytes + length t) (suc k) end stop h.1 (tail-short t ts s) more there) ∙ stop t

-- ---- the ends that are told

pub texts-walk : (files : Held) (names texts : List (List ℕ)) → AreTexts (Some files) names texts → walk files 0 0 names ≡ Read texts
texts-walk files names texts t = all-read files names texts 0 0 t.are_held t.within.each (let h = t.within.together in omega arith)

reached-walk : (files : Held) (names : List (List ℕ)) (number : ℕ) (r : IsReached (Some files) names number) (end : End) → IsStop end → walk files (total r.texts) number (r.name ∷ r.after) ≡ end → walk files 0 0 names ≡ end
reached-walk files names number r end stop e =
    let a : 0 + total r.texts ≡ total r.texts = omega arith in
    let b : 0 + length r.before ≡ number = (let n = r.number_is in omega arith) in
    let fits : 0 + total r.texts ≤ 4194304 = (let h = r.read.within.together in omega arith) in
    let there : walk files (0 + total r.texts) (0 + length r.before) (r.name ∷ r.after) ≡ end = ap (λ (x : ℕ). walk files x (0 + length r.before) (r.name ∷ r.after)) a ∙ ap (λ (x : ℕ). walk files (total r.texts) x (r.name ∷ r.after)) b ∙ e in
    ap (λ (ns : List (List ℕ)). walk files 0 0 ns) r.names_are ∙ stop-behind files r.before (r.name ∷ r.after) r.texts 0 0 end stop r.read.are_held r.read.within.each fits there

pub long-walk : (files : Held) (names : List (List ℕ)) (number : ℕ) (r : IsReached (Some files) names number) → IsTooLong (Some files) r.name → walk files 0 0 names ≡ Long number
long-walk files names number r l = reached-walk files names number r (Long number) (λ t. refl) (too-long (fin_map.get files r.name) (total r.texts) number (λ b. walk files b (suc number) r.after) l)

pub total-walk : (files : Held) (names : List (List ℕ)) (number : ℕ) (r : IsReached (Some files) names number) → PassTotal (Some files) r.texts r.name → walk files 0 0 names ≡ Over number
total-walk files names number r p = reached-walk files names number r (Over number) (λ t. refl) (too-many (fin_map.get files r.name) p.0 (total r.texts) number (λ b. walk files b (suc number) r.after) p.1 p.2 p.3)

pub missing-walk : (files : Held) (names : List (List ℕ)) (number : ℕ) (r : IsReached (Some files) names number) → fin_map.get files r.name ≡ None → walk files 0 0 names ≡ Missing number
missing-walk files names number r e = reached-walk files names number r (Missing number) (λ t. refl) (ap (λ (held : Option (List ℕ)). one held (total r.texts) number (λ b. walk files b (suc number) r.after)) e)
