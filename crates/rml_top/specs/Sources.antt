-- The texts of a line, read file by file.
use Rattle.std.specs.Prelude.{◌≡◌, ℕ, zero, suc, ◌+◌, ◌<◌, ◌≤◌, List, [], ◌∷◌, ◌++◌, length, take, map, sum_by, All, IfSome, IsSomeAnd}
use Rattle.std.specs.FinMap as fin_map
use Rattle.std.specs.Option.{option_map}
use Rattle.std.specs.declared.option.Option.{Option}
use Rattle.std.specs.declared.option.Option.TheVariants.{Some}
use Rattle.rml_base.specs.declared.limits.TheConstants.{BYTES, TOTAL}
use Rattle.rml_io.specs.Counts.{raised, Rose}
use Rattle.rml_io.specs.Files.{Held, FilesSeen}
use Rattle.rml_stages.specs.declared.source.Source.{Source}
use Rattle.rml_top.specs.declared.sources.NotRead.{NotRead}
use Rattle.rml_top.specs.declared.sources.NotRead.TheVariants.{Fault, Bytes, Total, Memory}

-- ---- what is held

-- where it is told what the files hold, these bytes are held under the name
abbrev pub IsHeld : Option Held → List ℕ → List ℕ → Type 0
IsHeld held name bytes = IfSome held (λ files. fin_map.get files name ≡ Some bytes)

-- the texts of the names, in order
abbrev pub AreHeld : Option Held → List (List ℕ) → List (List ℕ) → Type 0
AreHeld held [] [] = Unit {0}
AreHeld held [] (text ∷ texts) = ⊥
AreHeld held (name ∷ names) [] = ⊥
AreHeld held (name ∷ names) (text ∷ texts) = IsHeld held name text × AreHeld held names texts

abbrev pub total : List (List ℕ) → ℕ
total texts = sum_by length texts

-- no text has too many bytes, nor all together
pub record AreWithin (texts : List (List ℕ)) : Type 0 where
  pub each : All (λ text. length text ≤ BYTES) texts
  pub together : total texts ≤ TOTAL

-- These are the texts of the names, within the limits.
pub record AreTexts (held : Option Held) (names texts : List (List ℕ)) : Type 0 where
  pub are_held : AreHeld held names texts
  pub within : AreWithin texts

-- The file of this number is due, behind those with these texts.
pub record IsReached (held : Option Held) (names : List (List ℕ)) (number : ℕ) : Type 0 where
  pub before : List (List ℕ)
  pub name : List ℕ
  pub after : List (List ℕ)
  pub names_are : names ≡ before ++ name ∷ after
  pub number_is : number ≡ length before
  pub texts : List (List ℕ)
  pub read : AreTexts held before texts

-- where it is told, more bytes are held under the name than a text may have
abbrev pub IsTooLong : Option Held → List ℕ → Type 0
IsTooLong held name = IfSome held (λ files. IsSomeAnd (fin_map.get files name) (λ bytes. BYTES < length bytes))

-- with that of the name, the texts have more bytes than all may have, but it has not too many itself
abbrev pub PassTotal : Option Held → List (List ℕ) → List ℕ → Type 0
PassTotal held texts name = (bytes : List ℕ) × IsHeld held name bytes × (length bytes ≤ BYTES) × (TOTAL < total texts + length bytes)

-- ---- what is counted

-- the number rose by so much, or it stands at its end
abbrev pub RoseBy : ℕ → ℕ → ℕ → Type 0
RoseBy more before now = raised before more ≤ now

-- a number that each of so many reads raised by one
abbrev pub after_reads : ℕ → ℕ → ℕ
after_reads before zero = before
after_reads before (suc n) = raised before (suc n)

-- the names read before, where they are told, and then these
abbrev pub and_names : Option (List (List ℕ)) → List (List ℕ) → Option (List (List ℕ))
and_names told names = option_map (λ asked. asked ++ names) told

-- So many of the names were read, in order, each once.
pub record HaveRead (names : List (List ℕ)) (count : ℕ) (before after : FilesSeen) : Type 0 where
  pub asked : after.asked ≡ and_names before.asked (take count names)
  pub calls : after.calls ≡ after_reads before.calls count

-- At most the names were read, in order, each once; the last reads may have had no memory to keep the name.
pub record HaveReadSome (names : List (List ℕ)) (before after : FilesSeen) : Type 0 where
  pub count : ℕ
  pub told : ℕ
  pub within : count ≤ length names
  pub fewer : told ≤ count
  pub asked : after.asked ≡ and_names before.asked (take told names)
  pub calls : after.calls ≡ after_reads before.calls count

-- ---- how reading ends

-- the sources are the texts of the names, all read
pub record AreSources (names : List (List ℕ)) (before after : FilesSeen) (sources : List Source) : Type 0 where
  pub names_are : map (λ s. s.name) sources ≡ names
  pub texts : AreTexts before.held names (map (λ s. s.bytes) sources)
  pub have_read : HaveRead names (length names) before after

-- reading stopped so
abbrev pub Stopped : List (List ℕ) → FilesSeen → FilesSeen → NotRead → Type 0
Stopped names before after (Fault k) = IsReached before.held names k × Rose before.faults after.faults × HaveRead names (k + 1) before after
Stopped names before after (Bytes k) = (r : IsReached before.held names k) × IsTooLong before.held r.name × RoseBy (BYTES + 1) before.taken after.taken × HaveRead names (k + 1) before after
Stopped names before after (Total k) = (r : IsReached before.held names k) × PassTotal before.held r.texts r.name × RoseBy (TOTAL + 1) before.taken after.taken × HaveRead names (k + 1) before after
Stopped names before after Memory = HaveReadSome names before after
